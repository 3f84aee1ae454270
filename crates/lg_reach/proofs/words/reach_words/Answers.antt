use Rattle.std.proofs.Common.{rules, ◌≡◌, ◌∙◌, ◌∷◌, ◌++◌, [], append-nil, ap, refl, sym, subst, length, arith}
use Rattle.std.specs.Vec.Iter.{into_iter_items}
use Rattle.lg_reach.specs.Narrowed.{AreNarrowed}
use Rattle.lg_reach.specs.Reach.{one_word}
use Rattle.lg_reach.proofs.Copying.{rest_next, rest_none}
use Rattle.lg_reach.proofs.Wording.{narrowed_none, narrowed_then}
use Rattle.lg_reach.proofs.words.reach_words.Goals as goal

pub loop-word-init : goal.loop-word-init
loop-word-init c =
    let s = c.args.sites.now in
    record {
      counted = search rules;
      told = (
        [],
        c.into_iter-word-iterator.ensures.into_iter_gives.0 ∙ c.into_items-word-items.ensures,
        subst (λ ks. AreNarrowed s s c.args.ways.now c.args.ways.now c.args.stand.now [] ks) (sym c.in_ok-kept.ensures.items) (narrowed_none s c.args.ways.now c.args.stand.now),
      );
    }

pub loop-word-preserved : goal.loop-word-preserved
loop-word-preserved c =
    let at = c.loop-word in
    let old = c.args.sites.now in
    let new = c.reach_word.new.sites in
    let after = c.reach_word.new.ways in
    let stand = c.args.stand.now in
    let word = c.in-Some.word in
    let rest = into_iter_items c.next.new.self in
    let steps : into_iter_items at.word-iterator ≡ word ∷ rest = c.in-Some.ensures.steps.0 in
    let short = ap length steps in
    let gone = c.in-Some.ensures.steps.1 in
    let (first, all, done) = at.invariant.told in
    record {
      counted = omega (arith, at.invariant.counted);
      told = (
        first ++ word ∷ [],
        rest_next first rest c.args.words word word refl (ap (λ xs. first ++ xs) (sym steps) ∙ all),
        subst (λ ks. AreNarrowed old new c.args.ways.now after stand (first ++ word ∷ []) ks) (sym c.in_ok-push.ensures.items)
            (narrowed_then old at.sites new c.args.ways.now at.ways after stand first at.kept.items (word ∷ []) (c.in-Some-2.left ∷ []) done
            (subst (λ o. AreNarrowed at.sites new at.ways after stand (word ∷ []) (one_word o)) c.in-Some-2.is c.in_ok-left.ensures)),
      );
    }

pub loop-word-preserved-in_default : goal.loop-word-preserved-in_default
loop-word-preserved-in_default c =
    let at = c.loop-word in
    let old = c.args.sites.now in
    let new = c.reach_word.new.sites in
    let after = c.reach_word.new.ways in
    let stand = c.args.stand.now in
    let word = c.in-Some.word in
    let rest = into_iter_items c.next.new.self in
    let steps : into_iter_items at.word-iterator ≡ word ∷ rest = c.in-Some.ensures.steps.0 in
    let short = ap length steps in
    let gone = c.in-Some.ensures.steps.1 in
    let (first, all, done) = at.invariant.told in
    record {
      counted = omega (arith, at.invariant.counted);
      told = (
        first ++ word ∷ [],
        rest_next first rest c.args.words word word refl (ap (λ xs. first ++ xs) (sym steps) ∙ all),
        subst (λ ks. AreNarrowed old new c.args.ways.now after stand (first ++ word ∷ []) ks) (append-nil at.kept.items)
            (narrowed_then old at.sites new c.args.ways.now at.ways after stand first at.kept.items (word ∷ []) [] done
            (subst (λ o. AreNarrowed at.sites new at.ways after stand (word ∷ []) (one_word o)) c.in_default.is c.in_ok-left.ensures)),
      );
    }

pub returns : goal.returns
returns c =
    let at = c.loop-word in
    let (first, all, done) = at.invariant.told in
    let whole : first ≡ c.args.words = rest_none first (into_iter_items at.word-iterator) c.args.words (sym at.invariant.counted ∙ c.in-None.ensures.steps.0) all in
    subst (λ ks. AreNarrowed c.args.sites.now at.sites c.args.ways.now at.ways c.args.stand.now c.args.words ks) (sym c.of.ensures)
    (subst (λ ws. AreNarrowed c.args.sites.now at.sites c.args.ways.now at.ways c.args.stand.now ws at.kept.items) whole done)
