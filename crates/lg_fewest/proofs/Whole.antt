-- The least sum over the first linked words of the sentence.
use Rattle.std.proofs.Common.{◌≡◌, ◌↔◌, ℕ, ◌+◌, ◌<◌, ◌≤◌, ◌^◌, inl, inr, refl, sym, ◌∙◌, subst, List, [], length, Option, Some, None, IfSome, MatchOption, Contains, slice_get, arith}
use Rattle.std.proofs.lemmas.Option.{same_Some}
use Rattle.lg_gram.specs.Levels.{IsFewest}
use Rattle.lg_gram.specs.Linkages.{unlinked}
use Rattle.lg_region.specs.Fronts.{Numbering}
use Rattle.lg_region.specs.declared.alternative.Alt.{Alt}
use Rattle.lg_fewest.specs.Spans.{HasFirstSum, HasIn, HasUnlinked, IsFirstAlt, right_span, word_in}
use Rattle.lg_fewest.specs.Least.{AreLeast, IsLeast, IsWithin, Lowers, SumsDecide}
use Rattle.lg_fewest.specs.declared.span.Span.{Span}
use Rattle.lg_fewest.proofs.Lowering.{lowers_by, lowers_none, lowers_same, lowers_then, within_more}
use Rattle.lg_fewest.proofs.Cutting.{Among, among_all, among_next, contains_at}

-- a sum of one of the first words of a list
abbrev pub FirstSums : Numbering → List Alt → ℕ → ℕ → Type 0
FirstSums n alts i m = (a : Alt) × Among (λ (u v : Alt). u ≡ v) alts i a × HasFirstSum n a m

pub sums_start : (n : Numbering) (alts : List Alt) (most : Option ℕ) → Lowers (FirstSums n alts 0) most most
sums_start n alts most = lowers_none (FirstSums n alts 0) most (λ m (a, (j, x, lt, at, r), sum). omega arith)

pub sums_more : (n : Numbering) (alts : List Alt) (i next : ℕ) (a : Alt) (old mid new : Option ℕ) → next ≡ i + 1 → slice_get alts i ≡ Some a
    → Lowers (FirstSums n alts i) old mid → Lowers (HasFirstSum n a) mid new → Lowers (FirstSums n alts next) old new
sums_more n alts i next a old mid new e at l k =
    let step = among_next (λ (u v : Alt). u ≡ v) alts i next a e at in
    lowers_then (FirstSums n alts i) (HasFirstSum n a) (FirstSums n alts next) old mid new
    (λ m. (
      λ (b, among, sum). elim ((step b).0 among) [ inl before ↦ inl (b, before, sum) | inr same ↦ inr (subst (λ z. HasFirstSum n z m) (sym same) sum) ],
      λ h. elim h [ inl (b, among, sum) ↦ (b, (step b).1 (inl among), sum) | inr sum ↦ (a, (step a).1 (inr refl), sum) ],
    ))
    l k

-- the least of them and of all words
pub fewest_is : (n : Numbering) (alts : List Alt) (i words fewest : ℕ) → SumsDecide n → ((a : Alt) → Contains alts a ↔ IsFirstAlt n a) → length alts ≤ i → words ≡ length n.positions
    → Lowers (FirstSums n alts i) (Some words) (Some fewest) → IsFewest n.positions fewest
fewest_is n alts i words fewest law firsts end all l = record {
  some = (let r = (law.firsts fewest).1 (elim (l.one_of fewest refl) [
    | inl same ↦ (let e : words ≡ fewest = same_Some words fewest same in inl (sym e ∙ all))
    | inr (a, (j, x, lt, at, r), sum) ↦ inr (a, (firsts a).0 (subst (λ z. Contains alts z) r (contains_at alts j x at)), sum)
  ]) in (r.0, r.1.good, r.1.count));
  least = λ g good. elim ((law.firsts (unlinked g)).0 (g, record { good = good; count = refl })) [
    | inl e ↦ (let w = l.kept words (omega arith) in omega arith)
    | inr (a, is, sum) ↦ l.all (unlinked g) (a, among_all (λ (u v : Alt). u ≡ v) alts i a a end ((firsts a).1 is) refl, sum)
  ];
}

module _ (n : Numbering) (a : Alt) (most : Option ℕ) where
  pub first_over : IsWithin most (word_in a) → Lowers (HasFirstSum n a) most most
  first_over over = lowers_same (HasFirstSum n a) most (λ m (y, hy, e). within_more most (word_in a) m (omega arith) over)

  pub first_none : right_span a ≡ None → Lowers (HasFirstSum n a) most most
  first_none e = lowers_none (HasFirstSum n a) most (λ m (y, hy, sum). subst (λ z. HasIn n z y) e hy)

  pub first_dead : (t : Span) → right_span a ≡ Some t → IsLeast (HasUnlinked n t) None → Lowers (HasFirstSum n a) most most
  first_dead t e none = lowers_none (HasFirstSum n a) most (λ m (y, hy, sum). none y (subst (λ z. HasIn n z y) e hy))

  pub first_lowers : (new : Option ℕ) (t : Span) (y : ℕ) → right_span a ≡ Some t → IsLeast (HasUnlinked n t) (Some y) → Lowers (λ m. m ≡ word_in a + y) most new → Lowers (HasFirstSum n a) most new
  first_lowers new t y e right l =
      lowers_by (HasFirstSum n a) most new (word_in a + y) (y, subst (λ z. HasIn n z y) (sym e) right.0, refl)
      (λ m (w, hw, sum). let re = right.1 w (subst (λ z. HasIn n z w) e hw) in omega arith)
      l

-- by cases on what was found behind
pub first_by : (n : Numbering) (a : Alt) (t : Span) (found : Option ℕ) (word old new : ℕ) → word ≡ word_in a → right_span a ≡ Some t → IsLeast (HasUnlinked n t) found
    → MatchOption found (new ≡ old) (λ y. Lowers (λ m. m ≡ word + y) (Some old) (Some new)) → Lowers (HasFirstSum n a) (Some old) (Some new)
first_by n a t None word old new at e least same = subst (λ z. Lowers (HasFirstSum n a) (Some old) (Some z)) (sym same) (first_dead n a (Some old) t e least)
first_by n a t (Some y) word old new at e least l = first_lowers n a (Some old) (Some new) t y e least (subst (λ z. Lowers (λ m. m ≡ z + y) (Some old) (Some new)) at l)

-- a sum is no more than all words
pub first_few : (n : Numbering) (a : Alt) (most : ℕ) (t : Span) (found : Option ℕ) → SumsDecide n → IsFirstAlt n a → right_span a ≡ Some t → length n.positions < 2 ^ 31 → word_in a < most → most ≤ length n.positions → IsLeast (HasUnlinked n t) found → IfSome found (λ y. word_in a + y < 2 ^ 32)
first_few n a most t None law is e short less few least = tt
first_few n a most t (Some y) law is e short less few least =
    let v = law.behind t a is e in let y_few = law.few t y least.0 in let within = v.2.within in omega arith

-- the least is no more than what it began with
pub no_more : (A : ℕ → Type 0) (old new : ℕ) → Lowers A (Some old) (Some new) → new ≤ old
no_more A old new l = l.kept old (omega arith)

-- nothing is known at first
pub none_known : (n : Numbering) (entries : List (Span × Option ℕ)) → entries ≡ [] → AreLeast n entries
none_known n entries none s least has = let (k, lt, at) = subst (λ z. Contains z (s, least)) none has in absurd (omega arith)
