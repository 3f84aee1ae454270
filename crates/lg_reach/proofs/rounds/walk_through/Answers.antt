use Rattle.std.proofs.Common.{rules, ◌≡◌, ◌∙◌, ◌+◌, ◌∷◌, ◌++◌, [], ap, refl, sym, subst, length, arith}
use Rattle.std.proofs.lemmas.Grind.{common_steps}
use Rattle.std.proofs.lemmas.List.{length_push}
use Rattle.std.specs.Vec.Iter.{into_iter_items}
use Rattle.lg_reach.specs.Narrowed.{AreNarrowed}
use Rattle.lg_reach.specs.declared.nearest.Stand.{Stand}
use Rattle.lg_reach.proofs.Copying.{rest_next, rest_none}
use Rattle.lg_reach.proofs.Rounding.{AreWalkedTo, stands_at, walked_all, walked_more, walked_none}
use Rattle.lg_reach.proofs.rounds.walk_through.Goals as goal

pub loop-parts-init : goal.loop-parts-init
loop-parts-init c =
    let words = c.args.positions.items in
    let none = sym c.in_ok-kept.ensures.items in
    record {
      counted = search rules;
      told = ([], c.into_iter-parts-iterator.ensures.into_iter_gives.0, ap length none);
      walked = subst (λ ks. AreWalkedTo c.args.most words ks c.args.known c.in_ok-sites.sites c.in_ok-ways.ways (length ks)) none (walked_none c.args.most words c.args.known c.in_ok-sites.sites c.in_ok-ways.ways);
    }

pub loop-parts-preserved : goal.loop-parts-preserved
loop-parts-preserved c =
    let at = c.loop-parts in
    let words = c.args.positions.items in
    let most = c.args.most in
    let known = c.args.known in
    let new = c.reach_words.new.sites in
    let after = c.reach_words.new.ways in
    let parts = c.in-Some.parts in
    let rest = into_iter_items c.next.new.self in
    let steps : into_iter_items at.parts-iterator ≡ parts ∷ rest = c.in-Some.ensures.steps.0 in
    let short = ap length steps in
    let gone = c.in-Some.ensures.steps.1 in
    let (first, all, long) = at.invariant.told in
    let so_far = length at.kept.items in
    let stand : Stand = record { position = c.len.result; words = c.len-words.result; most = most; known = known } in
    let left = c.in_ok-reach_words.field-0 in
    let here : c.len.result ≡ so_far = (let is = c.len.ensures in grind (arith, common_steps)) in
    let many : c.len-words.result ≡ length words = (let is = c.len-words.ensures in grind (arith, common_steps)) in
    let before : first ++ parts ∷ rest ≡ words = ap (λ xs. first ++ xs) (sym steps) ∙ all in
    let pushed = c.in_ok-push.ensures.items in
    let walked = walked_more most words at.kept.items known at.sites new at.ways after so_far at.invariant.walked stand here many refl refl left
    (subst (λ ws. AreNarrowed at.sites new at.ways after stand ws left) (stands_at words first rest parts so_far before long) c.in_ok-reach_words.ensures) in
    record {
      counted = omega (arith, at.invariant.counted);
      told = (
        first ++ parts ∷ [],
        rest_next first rest words parts parts refl before,
        length_push first parts ∙ ap (λ n. n + 1) long ∙ sym (ap length pushed ∙ length_push at.kept.items left),
      );
      walked = subst (λ ks. AreWalkedTo most words ks known new after (length ks)) (sym pushed)
          (subst (λ n. AreWalkedTo most words (at.kept.items ++ left ∷ []) known new after n) (sym (length_push at.kept.items left)) walked);
    }

pub returns : goal.returns
returns c =
    let at = c.loop-parts in
    let words = c.args.positions.items in
    let (first, all, long) = at.invariant.told in
    let whole : first ≡ words = rest_none first (into_iter_items at.parts-iterator) words (sym at.invariant.counted ∙ c.in-None.ensures.steps.0) all in
    walked_all c.args.most words at.kept.items c.args.known at.sites at.ways
    (subst (λ n. AreWalkedTo c.args.most words at.kept.items c.args.known at.sites at.ways n) (sym long ∙ ap length whole) at.invariant.walked)
