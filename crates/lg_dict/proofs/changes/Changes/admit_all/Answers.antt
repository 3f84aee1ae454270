use Rattle.std.proofs.Common.{◌<◌, ◌∷◌, [], All, length, take, take_all, get_or, sym, subst, ◌∙◌, arith}
use Rattle.std.proofs.lemmas.Grind.{take_at_read}
use Rattle.std.proofs.lemmas.List.Elements.{All-append, All-cons, All-nil}
use Rattle.lg_dict.specs.Changed.{IsNamed}
use Rattle.lg_dict.proofs.Admitted.{same_then}
use Rattle.lg_dict.proofs.changes.Changes.admit_all.Goals as goal

-- one more word
pub loop-word-preserved : goal.loop-word-preserved
loop-word-preserved c =
    let words = c.args.words.now in
    let i = c.loop-word.word-index in
    let word = c.word-item.result in
    let here = get_or words i word in
    let new = c.admit.new.self in
    let within : i < length words = omega arith in
    record {
      laid = c.admit.ensures.laid;
      same = same_then c.args.self.now c.loop-word.self new c.loop-word.invariant.same c.admit.ensures.same;
      named = subst (All (IsNamed new)) (sym ((take_at_read words i word within).1))
          (All-append (IsNamed new) (take i words) (here ∷ []) (λ k d low. c.admit.ensures.names (get_or (take i words) k d) (c.loop-word.invariant.named k d low))
          (All-cons (IsNamed new) here [] (subst (IsNamed new) (c.bytes.ensures ∙ c.word-item.is) c.in_ok-admit.ensures.named) (All-nil (IsNamed new))));
    }

pub returns-clause-named : goal.returns-clause-named
returns-clause-named c = subst (All (IsNamed c.loop-word.self)) (take_all c.loop-word.word-index c.args.words.now c.loop-word-test.false) c.loop-word.invariant.named
