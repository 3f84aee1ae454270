-- The unlinked positions of a linkage, counted from the first position on.
use Rattle.std.proofs.Common.{◌≡◌, ℕ, suc, ◌<◌, ◌+◌, Bool, cond, List, [], ◌∷◌, length, get_or, refl, ap, subst, Option, Some, None, is_none, arith}
use Rattle.std.specs.List.{count_by}
use Rattle.std.proofs.lemmas.List.Sums.{sum_by-cons}
use Rattle.lg_gram.specs.Linkages.{Linkage}
use Rattle.lg_gram.specs.declared.disjunct.Disjunct.{Disjunct}
use Rattle.lg_region.specs.Parts.{null_at, nulls_from}

count_cons : {X : Type 0} (p : X → Bool) (x : X) (xs : List X) → count_by p (x ∷ xs) ≡ cond (p x) 1 0 + count_by p xs
count_cons p x xs = sum_by-cons (λ z. cond (p z) 1 0) x xs

-- all unlinked positions
null_is : (o : Option Disjunct) → null_at o ≡ cond (is_none o) 1 0
null_is None = refl
null_is (Some d) = refl

nulls_count_from : (g : Linkage) (s : ℕ) (os : List (Option Disjunct)) → ((i : ℕ) → i < length os → get_or g.chosen (s + i) None ≡ get_or os i None) → nulls_from g s (length os) ≡ count_by is_none os
nulls_count_from g s [] h = refl
nulls_count_from g s (o ∷ os) h =
    let z : s + 0 ≡ s = omega arith in
    let e : get_or g.chosen s None ≡ o = subst (λ i. get_or g.chosen i None ≡ o) z (h 0 (omega arith)) in
    let r = nulls_count_from g (suc s) os (λ i l. let t : s + suc i ≡ suc s + i = omega arith in subst (λ j. get_or g.chosen j None ≡ get_or os i None) t (h (suc i) (omega arith))) in
    rw (count_cons is_none o os) (omega (arith, ap null_at e, null_is o, r))

pub nulls_count : (g : Linkage) → nulls_from g 0 (length g.chosen) ≡ count_by is_none g.chosen
nulls_count g = nulls_count_from g 0 g.chosen (λ i l. let t : 0 + i ≡ i = omega arith in ap (λ j. get_or g.chosen j None) t)
