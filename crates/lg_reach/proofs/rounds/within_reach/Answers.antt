use Rattle.std.proofs.Common.{◌≡◌, ◌+◌, None, arith, length, refl, subst, ◌∙◌}
use Rattle.std.proofs.lemmas.Grind.{common_steps}
use Rattle.lg_reach.specs.Rounds.{AreWalked}
use Rattle.lg_reach.proofs.Rounding.{fewer_or_all, good_among, used_or_all, walked_again}
use Rattle.lg_reach.proofs.rounds.within_reach.Goals as goal

pub loop-round-init : goal.loop-round-init
loop-round-init c =
    let first = c.in_ok-round.round in
    subst (λ ws. AreWalked (c.args.nulls + 1) ws first.kept.items None first.sites first.ways) c.in_ok-all.ensures c.in_ok-round.ensures

pub loop-round-preserved : goal.loop-round-preserved
loop-round-preserved c =
    let at = c.loop-round in
    let next = c.in_ok-round-2.round in
    let kept = at.round.kept.items in
    let many : c.len.result ≡ length kept = (let is = c.len.ensures in grind (arith, common_steps)) in
    walked_again c.count_of.result (c.args.nulls + 1) c.args.positions.now kept next.kept.items (λ some. c.count_of.ensures some ∙ many) at.round.sites next.sites at.round.ways next.ways c.in_ok-gaps.gaps c.in_ok-gaps.ensures _ refl
    at.invariant c.in_ok-round-2.ensures

pub returns-clause-fewer : goal.returns-clause-fewer
returns-clause-fewer c = fewer_or_all c.args.positions.now c.loop-round.round.kept.items c.in_ok-left.left c.in_ok-left.ensures c.loop-round.invariant.fewer

pub returns-clause-used : goal.returns-clause-used
returns-clause-used c = λ g is less.
    used_or_all g c.args.positions.now c.loop-round.round.kept.items c.in_ok-left.left c.in_ok-left.ensures (c.loop-round.invariant.used g (good_among c.args.positions.now c.args.nulls g is less) tt)
