-- Totals are no greater than the linkages allow.
use Rattle.std.proofs.Common.{ℕ, ◌*◌, ◌≤◌, List, [], ◌∷◌, length, Option, None, Some, subst, sym, ◌∙◌, arith}
use Rattle.std.proofs.lemmas.List.{length-map}
use Rattle.std.proofs.lemmas.List.Elements.{All-head, All-tail}
use Rattle.std.specs.List.{All, flat_map, sum_by}
use Rattle.std.specs.Str.{bytes_eq}
use Rattle.std.proofs.lemmas.List.Sums.{count_by-le-length, sum_by-cons}
use Rattle.lg_gram.specs.Limits.{LINKAGE_POSITIONS}
use Rattle.lg_gram.specs.Linkages.{Linkage, IsLinkage}
use Rattle.lg_gram.specs.declared.disjunct.Disjunct.{Disjunct}
use Rattle.lg_usage.specs.Bounds.{UsesAreFew, TotalsAreFew}
use Rattle.lg_usage.specs.Totals.{IsGood, times, word_of, words_used, labels_used, label_text}
use Rattle.lg_usage.proofs.Agreeing.{times_each}
use Rattle.lg_usage.proofs.Pairs.{links_are_few}

one_word : (os : List (Option Disjunct)) → length (flat_map word_of os) ≤ length os
one_word [] = omega arith
one_word (None ∷ os) = let rest = one_word os in omega arith
one_word (Some d ∷ os) = let rest = one_word os in omega arith

pub uses_are_few : UsesAreFew
uses_are_few g is good text =
    let words = count_by-le-length (bytes_eq text) (words_used g) in
    let labels = count_by-le-length (bytes_eq text) (labels_used g) in
    let positions = one_word g.chosen in
    let links = length-map g.links (label_text g) in
    let few = is.few in
    let few_links = links_are_few g is good in
    (omega arith, omega arith)

-- n times as many as there are linkages
module _ (f : Linkage → List (List ℕ)) (text : List ℕ) (n : ℕ) (few : (g : Linkage) → IsLinkage g → IsGood g → times text (f g) ≤ n) where
  few_in_all : (gs : List Linkage) → All IsLinkage gs → All IsGood gs → sum_by (λ g. times text (f g)) gs ≤ n * length gs
  few_in_all [] all good = omega arith
  few_in_all (g ∷ gs) all good =
      let first = few g (All-head IsLinkage g gs all) (All-head IsGood g gs good) in
      let rest = few_in_all gs (All-tail IsLinkage g gs all) (All-tail IsGood g gs good) in
      let sum = sum_by-cons (λ (g : Linkage). times text (f g)) g gs in
      grind (arith, first, rest, sum)

pub totals_are_few : TotalsAreFew
totals_are_few gs t all good is text =
    let words = few_in_all words_used text LINKAGE_POSITIONS (λ g one h. (uses_are_few g one h text).0) gs all good in
    let labels = few_in_all labels_used text (LINKAGE_POSITIONS * LINKAGE_POSITIONS) (λ g one h. (uses_are_few g one h text).1) gs all good in (
      subst (λ n. n ≤ LINKAGE_POSITIONS * length gs) (sym (is.words.counts text ∙ times_each words_used text gs)) words,
      subst (λ n. n ≤ LINKAGE_POSITIONS * LINKAGE_POSITIONS * length gs) (sym (is.labels.counts text ∙ times_each labels_used text gs)) labels,
    )
