use Rattle.std.proofs.Common.{◌≡◌, ◌<◌, ◌++◌, ◌∷◌, [], All, length, get_or, IsSome, Some, refl, sym, ap, subst, ◌∙◌, arith, length-append, option_to_list, if◌then◌else◌, take_all}
use Rattle.std.specs.List.{list_any}
use Rattle.lg_dict.specs.Changed.{word_by, change_at, IsTree}
use Rattle.lg_dict.specs.Tables.{at_text, same_text}
use Rattle.lg_dict.specs.declared.changes.Change.TheVariants.{Given}
use Rattle.lg_dict.proofs.Admitted.{All-front, All-last, given_one, given_more, named_set}
use Rattle.lg_dict.proofs.changes.Changes.set_all.Goals as goal

-- one more word
pub loop-word-preserved : goal.loop-word-preserved
loop-word-preserved c =
    let words = c.args.words.now in
    let i = c.loop-word.word-index in
    let word = c.word-item.result in
    let given = c.bytes.result.now in
    let old = c.loop-word.self in
    let copy = c.in-Some.copy in
    let before = c.loop-word.copies.items in
    let left = c.pop.new.self.items in
    let within : i < length words = omega arith in
    let is : given ≡ get_or words i word = c.bytes.ensures ∙ c.word-item.is in
    let cut : before ≡ left ++ copy ∷ [] = c.pop.ensures.items ∙ ap (λ o. left ++ option_to_list o) c.in-Some.is in
    let named : IsSome (at_text old.words given) =
    c.loop-word.invariant.names given ∙ subst (λ t. IsSome (at_text c.args.self.now.words t)) (sym is) (c.requires.named i word within) in
    record {
      count = let so_far = c.loop-word.invariant.count in let counted = ap length cut in omega (arith, length-append left (copy ∷ []));
      trees = λ tree all. All-front (IsTree tree) left copy (subst (All (IsTree tree)) cut (c.loop-word.invariant.trees tree all));
      words = λ tree all dict text.
          given_more text words i word given (word_by dict text (change_at old text)) (word_by dict text (change_at (record old { words = c.set_change.new.words }) text)) (word_by dict text (change_at c.args.self.now text)) (Some tree) within is
          (given_one dict text (at_text old.words text) (at_text c.set_change.new.words text) copy tree (same_text text given) (All-last (IsTree tree) left copy (subst (All (IsTree tree)) cut (c.loop-word.invariant.trees tree all)))
          (c.set_change.ensures text))
          (c.loop-word.invariant.words tree all dict text);
      names = λ text.
          named_set text given (at_text old.words text) (at_text c.set_change.new.words text) (Given copy) (same_text text given) refl (c.set_change.ensures text) (λ same. subst (λ t. IsSome (at_text old.words t)) (sym same) named)
          ∙ c.loop-word.invariant.names text;
      stems = c.loop-word.invariant.stems;
      firsts = c.loop-word.invariant.firsts;
      macros = c.loop-word.invariant.macros;
      lengths = c.loop-word.invariant.lengths;
    }

-- all words were seen
pub returns-clause-words : goal.returns-clause-words
returns-clause-words c = λ tree all dict word.
    c.loop-word.invariant.words tree all dict word
    ∙ ap (λ names. if list_any (same_text word) names then Some tree else word_by dict word (change_at c.args.self.now word)) (take_all c.loop-word.word-index c.args.words.now c.loop-word-test.false)
