use Rattle.std.proofs.Common.{◌≡◌, List, ℕ, map, Bor, Contains, ap, sym, subst, ◌∙◌, ◌↔◌, take_all}
use Rattle.std.specs.List.{dedup}
use Rattle.std.specs.List.Sorted.{IsStrictlySortedBy}
use Rattle.std.specs.Ordering.{nat_cmp}
use Rattle.std.specs.Cmp.Lexicographic.{slice_cmp}
use Rattle.std.proofs.lemmas.List.Filters.{dedup_is}
use Rattle.lg_dict.specs.Tables.{same_text}
use Rattle.lg_dict.proofs.Words.{sorted_rise, sorted_same}
use Rattle.lg_dict.proofs.view.sorted_texts.Goals as goal

-- the texts are those that are left
pub returns-clause-rise : goal.returns-clause-rise
returns-clause-rise c =
    let texts : c.of-2.result ≡ map (λ (word : Bor (List ℕ)). word.now) (dedup (λ a b. same_text a.now b.now) c.sort_unstable.new.self.items) =
    c.of-2.ensures ∙ c.loop-word.invariant
    ∙ ap (map (λ (word : Bor (List ℕ)). word.now)) (take_all c.loop-word.word-index c.deref-word-items.result.now c.loop-word-test.false ∙ c.deref-word-items.ensures.value ∙ dedup_is _ _ _ c.dedup.ensures.filtered) in
    subst (IsStrictlySortedBy (slice_cmp nat_cmp)) (sym texts) (sorted_rise c.args.found.items c.sort_unstable.new.self.items c.sort_unstable.ensures.sorted)

pub returns-clause-same : goal.returns-clause-same
returns-clause-same c = λ text.
    let texts : c.of-2.result ≡ map (λ (word : Bor (List ℕ)). word.now) (dedup (λ a b. same_text a.now b.now) c.sort_unstable.new.self.items) =
    c.of-2.ensures ∙ c.loop-word.invariant
    ∙ ap (map (λ (word : Bor (List ℕ)). word.now)) (take_all c.loop-word.word-index c.deref-word-items.result.now c.loop-word-test.false ∙ c.deref-word-items.ensures.value ∙ dedup_is _ _ _ c.dedup.ensures.filtered) in
    subst (λ l. Contains l text ↔ Contains (map (λ (word : Bor (List ℕ)). word.now) c.args.found.items) text) (sym texts) (sorted_same c.args.found.items c.sort_unstable.new.self.items c.sort_unstable.ensures.permutation text)
