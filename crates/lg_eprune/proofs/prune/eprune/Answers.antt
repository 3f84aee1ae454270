use Rattle.std.proofs.Common.{◌≡◌, ◌<◌, [], true, false, sym, subst, ap, ◌∙◌}
use Rattle.lg_eprune.specs.Live.{AreNarrowed}
use Rattle.lg_eprune.specs.Cuts.{swept, round_loses}
use Rattle.lg_eprune.proofs.Final.{IsForward, at_first, forward, after_round, round_less, last_round}
use Rattle.lg_eprune.proofs.Sweeps.{size}
use Rattle.lg_eprune.proofs.prune.eprune.Goals as goal

pub loop-positions-init : goal.loop-positions-init
loop-positions-init c =
    subst (λ xs. IsForward c.args.positions xs) (sym (c.in_ok-kept.ensures.positions ∙ ap (swept true []) c.into_items.ensures)) (forward c.args.positions c.args.positions (at_first c.args.positions))

pub returns-then-not-is_less : goal.returns-then-not-is_less
returns-then-not-is_less c =
    let kept = c.loop-positions.kept.items in
    let loses : round_loses kept ≡ false =
    (let less = c.in_ok-positions.ensures.less in let same = c.in_ok-positions.is_less-is in let none = c.if-not-is_less.true in cc) in
    subst (λ xs. AreNarrowed c.args.positions xs) (sym (c.of.ensures ∙ c.in_ok-positions.ensures.positions)) (last_round c.args.positions kept c.loop-positions.invariant loses)

pub loop-positions-smaller : goal.loop-positions-smaller
loop-positions-smaller c =
    let kept = c.loop-positions.kept.items in
    let loses : round_loses kept ≡ true =
    (let less = c.in_ok-positions.ensures.less in let same = c.in_ok-positions.is_less-is in let some = c.if-not-is_less.false in cc) in
    subst (λ xs. size xs < size kept) (sym c.in_ok-positions.ensures.positions) (round_less c.args.positions kept loses)

pub loop-positions-preserved : goal.loop-positions-preserved
loop-positions-preserved c =
    let kept = c.loop-positions.kept.items in
    let loses : round_loses kept ≡ true =
    (let less = c.in_ok-positions.ensures.less in let same = c.in_ok-positions.is_less-is in let some = c.if-not-is_less.false in cc) in
    subst (λ xs. IsForward c.args.positions xs) (sym c.in_ok-positions.ensures.positions) (after_round c.args.positions kept c.loop-positions.invariant loses)
