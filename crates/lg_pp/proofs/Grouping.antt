-- Links with the same flags in the rows of domains lie in the same domains.
use Rattle.std.proofs.Common.{◌≡◌, ℕ, ◌<◌, ◌≤◌, Bool, true, false, List, [], length, get_or, Some, ◌↔◌, ◌⊎◌, inl, inr, refl, sym, ◌∙◌, subst, ap, All, arith}
use Rattle.std.specs.Prelude.{IsTrue}
use Rattle.std.proofs.lemmas.Option.{slice_get-get_or, slice_get_within}
use Rattle.lg_gram.specs.Linkages.{Linkage}
use Rattle.lg_gram.specs.declared.linkage.Link.{Link}
use Rattle.lg_knowread.specs.declared.knowledge.Knowledge.{Knowledge}
use Rattle.lg_pp.specs.Domains.{AreGroups, AreTogether, IsNumber, SameGroup}
use Rattle.lg_pp.specs.Judging.{AreWithin}
use Rattle.lg_pp.specs.Reach.{AreRows, Collects, IsRow}
use Rattle.lg_pp.specs.Steps.{AreAlike, AreClasses, AreLeasts}
use Rattle.lg_pp.proofs.Good.{no_link}
use Rattle.lg_pp.proofs.Leasts.{classes_all, classes_exactly, classes_in_order, classes_rise, classes_some, least_below}
use Rattle.lg_pp.proofs.Zipped.{zip_at, zip_length}

same_truth : (a b : Bool) → IsTrue a ↔ IsTrue b → a ≡ b
same_truth true true h = refl
same_truth true false h = sym (h.0 refl)
same_truth false true h = h.1 refl
same_truth false false h = refl

pub alike_itself : (rows : List (List Bool)) (n : ℕ) → AreAlike rows n n
alike_itself rows n k d less = refl

pub alike_turned : (rows : List (List Bool)) (m n : ℕ) → AreAlike rows m n → AreAlike rows n m
alike_turned rows m n alike k d less = sym (alike k d less)

pub alike_through : (rows : List (List Bool)) (k m n : ℕ) → AreAlike rows k m → AreAlike rows m n → AreAlike rows k n
alike_through rows k m n one other i d less = one i d less ∙ other i d less

-- no least number is above the number itself
pub alike_within : (rows : List (List Bool)) (count : ℕ) (leasts : List ℕ) → AreLeasts (AreAlike rows) count leasts → AreWithin count leasts
alike_within rows count leasts are = record {
  enough = are.same_length;
  below = least_below (AreAlike rows) count leasts are (alike_itself rows) (alike_turned rows) (alike_through rows);
}

module _ (know : Knowledge) (g : Linkage) (rows : List (List Bool)) (are : AreRows know g rows) where
  row_at : (s : ℕ) (start : Link) (d : List Bool) → IsNumber g s start → IsRow know g start (get_or rows s d)
  row_at s start d at = zip_at (IsRow know g) g.links rows s start d are at

  pub rows_count : length rows ≡ length g.links
  rows_count = zip_length (IsRow know g) g.links rows are

  pub rows_whole : All (λ row. (row ≡ []) ⊎ (length row ≡ length g.links)) rows
  rows_whole s d less = (row_at s (get_or g.links s no_link) d (slice_get-get_or g.links s no_link (let same = rows_count in omega arith))).whole

  pub rows_long : (links : List Link) → links ≡ g.links → All (λ row. (row ≡ []) ⊎ (length links ≤ length row)) rows
  rows_long links e s d less = elim (rows_whole s d less) [ inl none ↦ inl none | inr same ↦ inr (let h : length links ≡ length g.links = ap length e in omega arith) ]

  pub rows_short : (links : List Link) → links ≡ g.links → All (λ row. length row ≤ length links) rows
  rows_short links e s d less = elim (rows_whole s d less) [
    | inl none ↦ rw none (omega arith)
    | inr same ↦ let h : length links ≡ length g.links = ap length e in omega arith
  ]

  module _ (m n : ℕ) (k l : Link) (at_m : IsNumber g m k) (at_n : IsNumber g n l) where
    flag_at : (s : ℕ) (start : Link) (d : List Bool) → IsNumber g s start → (i : ℕ) (e : Link) → IsNumber g i e → IsTrue (get_or (get_or rows s d) i false) ↔ Collects know g start e
    flag_at s start d at i e at_i = (row_at s start d at).exactly i e at_i

    collects_along : AreAlike rows m n → (s : ℕ) (start : Link) → IsNumber g s start → Collects know g start k ↔ Collects know g start l
    collects_along alike s start at =
        let same = alike s [] (let within = slice_get_within g.links s start at in let count = rows_count in omega arith) in
        let in_m = flag_at s start [] at m k at_m in
        let in_n = flag_at s start [] at n l at_n in
        (λ h. in_n.0 (sym same ∙ in_m.1 h), λ h. in_m.0 (same ∙ in_n.1 h))

    grouped_from : AreAlike rows m n → SameGroup know g k l
    grouped_from alike kind start begins =
        let has = begins.4.1.0 in
        let at : IsNumber g has.0 start = slice_get-get_or g.links has.0 start has.1 ∙ ap Some has.2 in
        let same = collects_along alike has.0 start at in
        (λ in_k. (same.0 ((kind, begins), in_k)).1, λ in_l. (same.1 ((kind, begins), in_l)).1)

    alike_from : SameGroup know g k l → AreAlike rows m n
    alike_from same s d less =
        let start = get_or g.links s no_link in
        let at : IsNumber g s start = slice_get-get_or g.links s no_link (let count = rows_count in omega arith) in
        let in_m = flag_at s start d at m k at_m in
        let in_n = flag_at s start d at n l at_n in
        same_truth (get_or (get_or rows s d) m false) (get_or (get_or rows s d) n false)
        (λ t. let h = in_m.0 t in in_n.1 (h.0, (same h.0.0 start h.0.1).0 h.1), λ t. let h = in_n.0 t in in_m.1 (h.0, (same h.0.0 start h.0.1).1 h.1))

    pub alike_grouped : AreAlike rows m n ↔ SameGroup know g k l
    alike_grouped = (grouped_from, alike_from)

  -- so are links whose numbers are these
  together_alike : (m n : ℕ) → AreTogether know g m n → (m < length g.links) × (n < length g.links) × AreAlike rows m n
  together_alike m n h = (slice_get_within g.links m h.0 h.2, slice_get_within g.links n h.1 h.3, alike_from m n h.0 h.1 h.2 h.3 h.4)

  alike_together : (m n : ℕ) → (m < length g.links) × (n < length g.links) × AreAlike rows m n → AreTogether know g m n
  alike_together m n h =
      let k = get_or g.links m no_link in
      let l = get_or g.links n no_link in
      let at_m = slice_get-get_or g.links m no_link h.0 in
      let at_n = slice_get-get_or g.links n no_link h.1 in
      (k, l, at_m, at_n, grouped_from m n k l at_m at_n h.2)

  pub groups_from_classes : (leasts : List ℕ) → AreLeasts (AreAlike rows) (length g.links) leasts → (classes : List (List ℕ)) → AreClasses leasts (length leasts) classes → AreGroups know g classes
  groups_from_classes leasts least classes have =
      let R = AreAlike rows in
      let count = length g.links in
      let itself = alike_itself rows in
      let turned = alike_turned rows in
      let through = alike_through rows in
      let of : AreClasses leasts count classes = subst (λ n. AreClasses leasts n classes) least.same_length have in
      record {
        some = classes_some R count leasts least itself turned through classes of;
        each = classes_rise R count leasts least itself turned through classes of;
        rise = classes_in_order R count leasts least itself turned through classes of;
        all = classes_all R count leasts least itself turned through classes of;
        exactly = λ class at m n has.
            let same = classes_exactly R count leasts least itself turned through classes of class at m n has in
            (λ h. alike_together m n (same.0 h), λ h. same.1 (together_alike m n h));
      }
