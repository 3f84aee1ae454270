-- Linkages that go on in their order behind others.
use Rattle.std.proofs.Common.{◌≡◌, List, [], ◌∷◌, ◌++◌, Contains, Option, Some, None, option_copied, refl, ap, sym, subst, ◌∙◌}
use Rattle.std.specs.Borrow.{Bor}
use Rattle.std.specs.Cmp.{IsTotalOrder}
use Rattle.std.specs.List.{last_or}
use Rattle.std.specs.List.Sorted.{IsStrictlySortedBy}
use Rattle.std.proofs.lemmas.List.{append-nil}
use Rattle.std.proofs.lemmas.List.Elements.{Contains-append_right}
use Rattle.std.proofs.lemmas.Option.{none-some, same_Some}
use Rattle.lg_base.proofs.Elements.{contains_here}
use Rattle.lg_gram.specs.Linkages.{Linkage, linkage_cmp}
use Rattle.lg_audit.specs.Pages.{LiesBehind}
use Rattle.lg_audit.proofs.Rising.{crossing, sorted_onward}

-- ---- the last linkage

-- no linkage, or this one at the end
abbrev EndsIn : List Linkage → Option (Bor Linkage) → Type 0
EndsIn before None = before ≡ []
EndsIn before (Some g) = (front : List Linkage) × (before ≡ front ++ g.now ∷ [])

some_last : (x : Linkage) (xs : List Linkage) → (l : Linkage) × (last_or (Some x) xs ≡ Some l) × (front : List Linkage) × (x ∷ xs ≡ front ++ l ∷ [])
some_last x [] = (x, refl, [], refl)
some_last x (y ∷ xs) = let (l, is, front, cut) = some_last y xs in (l, is, x ∷ front, ap (λ gs. x ∷ gs) cut)

ends_in : (before : List Linkage) (last : Option (Bor Linkage)) → option_copied last ≡ last_or None before → EndsIn before last
ends_in [] None is = refl
ends_in [] (Some g) is = absurd (none-some g.now (sym is))
ends_in (x ∷ xs) None is = let (l, here, front, cut) = some_last x xs in absurd (none-some l (is ∙ here))
ends_in (x ∷ xs) (Some g) is = let (l, here, front, cut) = some_last x xs in (front, cut ∙ ap (λ m. front ++ m ∷ []) (sym (same_Some g.now l (is ∙ here))))

-- ---- behind it

module _ (total : IsTotalOrder linkage_cmp) (before : List Linkage) (sorted : IsStrictlySortedBy linkage_cmp before) where
  go_behind : (last : Option (Bor Linkage)) (shown : List Linkage) → EndsIn before last → IsStrictlySortedBy linkage_cmp shown → LiesBehind last shown → IsStrictlySortedBy linkage_cmp (before ++ shown)
  go_behind None shown is up lies = subst (λ (gs : List Linkage). IsStrictlySortedBy linkage_cmp (gs ++ shown)) (sym is) up
  go_behind (Some g) [] is up lies = subst (IsStrictlySortedBy linkage_cmp) (sym (append-nil before)) sorted
  go_behind (Some g) (h ∷ hs) is up lies =
      subst (λ (gs : List Linkage). IsStrictlySortedBy linkage_cmp (gs ++ h ∷ hs)) (sym is.1)
      (sorted_onward linkage_cmp total is.0 g.now h hs (subst (IsStrictlySortedBy linkage_cmp) is.1 sorted) up lies)

  behind_so : (last : Option (Bor Linkage)) (shown : List Linkage) → EndsIn before last → IsStrictlySortedBy linkage_cmp (before ++ shown) → LiesBehind last shown
  behind_so None shown is up = tt
  behind_so (Some g) [] is up = tt
  behind_so (Some g) (h ∷ hs) is up =
      crossing linkage_cmp total before (h ∷ hs) up g.now h
      (subst (λ (gs : List Linkage). Contains gs g.now) (sym is.1) (Contains-append_right is.0 (g.now ∷ []) g.now (contains_here g.now []))) (contains_here h hs)

  pub gone_on : (last : Option (Bor Linkage)) (shown : List Linkage) → option_copied last ≡ last_or None before → IsStrictlySortedBy linkage_cmp shown → LiesBehind last shown → IsStrictlySortedBy linkage_cmp (before ++ shown)
  gone_on last shown is = go_behind last shown (ends_in before last is)

  pub lies_behind : (last : Option (Bor Linkage)) (shown : List Linkage) → option_copied last ≡ last_or None before → IsStrictlySortedBy linkage_cmp (before ++ shown) → LiesBehind last shown
  lies_behind last shown is = behind_so last shown (ends_in before last is)
