-- The entries of a map: each is found at its key, and no two have one key.
use Rattle.std.proofs.Common.{◌≡◌, ℕ, Bool, true, false, cond, ◌&&◌, List, [], ◌∷◌, ◌++◌, map, Option, Some, None, IfSome, refl, ap, sym, subst, ◌∙◌}
use Rattle.std.specs.Prelude.{T}
use Rattle.std.specs.Cmp.{tied_itself}
use Rattle.std.specs.Cmp.Lexicographic.{slice_cmp, nat_list_cmp_total, same_text as text_same}
use Rattle.std.specs.FinMap.{get, entries, entries_sorted, get-entries, from_entries, get-from_entries, same_map, slice_cmp-IsAntisymmetric, nat_cmp-IsAntisymmetric}
use Rattle.std.specs.FinMap.Entries.{find, is_sorted, below_all}
use Rattle.std.specs.List.{find as find_first, AllByRecursion}
use Rattle.std.specs.Map.{lookup}
use Rattle.std.specs.Ordering.{nat_cmp, is_eq, is_lt, ordering_reverse}
use Rattle.std.specs.declared.cmp.Ordering.{Ordering}
use Rattle.std.specs.declared.cmp.Ordering.TheVariants.{Less, Equal, Greater}
use Rattle.std.proofs.lemmas.Bool.{false_from_ne_true, cond-false}
use Rattle.lg_dict.specs.Dictionary.{TextMap}
use Rattle.lg_dictread.specs.Definitions.{Lines, line_in, same_text}

abbrev by_bytes : List ℕ → List ℕ → Ordering
by_bytes = slice_cmp nat_cmp

parts : (a b : Bool) → T (a && b) → T a × T b
parts true b p = (tt, p)
parts false b p = absurd p

less : (r : Ordering) → T (is_lt r) → r ≡ Less
less Less p = refl
less Equal p = absurd p
less Greater p = absurd p

-- a map of its own entries
pub own_entries : {X : Type 0} (m : TextMap X) → from_entries (entries m) ≡ m
own_entries m = same_map nat_list_cmp_total (slice_cmp-IsAntisymmetric nat_cmp-IsAntisymmetric) (from_entries (entries m)) m (λ q. get-from_entries nat_list_cmp_total (entries m) q ∙ sym (get-entries m q))

greater : (x y : List ℕ) → by_bytes x y ≡ Less → by_bytes y x ≡ Greater
greater x y e = nat_list_cmp_total.antisymm y x ∙ ap ordering_reverse e

other_text : (x y : List ℕ) → by_bytes x y ≡ Less → same_text y x ≡ false
other_text x y e = false_from_ne_true (same_text y x) (λ same.
    let alike : y ≡ x = text_same y x (sym same) in
    let tied : by_bytes x y ≡ Equal = subst (λ (z : List ℕ). by_bytes x z ≡ Equal) (sym alike) (tied_itself nat_list_cmp_total x) in
    cc)

none_by : (passes : Bool) (d : List ℕ × ℕ) (old more : Option ℕ) → (old ≡ None → more ≡ None) → cond passes (Some d.1) old ≡ None → cond passes (Some d.1) more ≡ None
none_by true d old more then_none none = absurd cc
none_by false d old more then_none none = then_none none

none_more : (test : List ℕ → Bool) (ls : Lines) (d : List ℕ × ℕ) → test d.0 ≡ false → lookup test ls ≡ None → lookup test (ls ++ d ∷ []) ≡ None
none_more test [] d fails none = cond-false (test d.0) (Some d.1) None fails
none_more test (l ∷ ls) d fails none = none_by (test l.0) l (lookup test ls) (lookup test (ls ++ d ∷ [])) (none_more test ls d fails) none

none_passes : (p : List ℕ → Bool) (b : Bool) (k : List ℕ) (o : Option (List ℕ)) → cond b (Some k) o ≡ None → (b ≡ false) × (o ≡ None)
none_passes p true k o e = absurd cc
none_passes p false k o e = (refl, e)

module _ {X : Type 0} where
  found_later : (e : List ℕ × X) (fs es : List (List ℕ × X)) → T (below_all by_bytes e.0 es) → AllByRecursion (λ f. find by_bytes f.0 fs ≡ Some f.1) es → AllByRecursion (λ f. find by_bytes f.0 (e ∷ fs) ≡ Some f.1) es
  found_later e fs [] low all = tt
  found_later e fs (f ∷ es) low all =
      let low_parts = parts (is_lt (by_bytes e.0 f.0)) (below_all by_bytes e.0 es) low in
      let other = greater e.0 f.0 (less (by_bytes e.0 f.0) low_parts.0) in
      (ap (λ (r : Ordering). cond (is_eq r) (Some e.1) (find by_bytes f.0 fs)) other ∙ all.0, found_later e fs es low_parts.1 all.1)

  found_all : (es : List (List ℕ × X)) → T (is_sorted by_bytes es) → AllByRecursion (λ e. find by_bytes e.0 es ≡ Some e.1) es
  found_all [] rise = tt
  found_all (e ∷ es) rise =
      let rise_parts = parts (below_all by_bytes e.0 es) (is_sorted by_bytes es) rise in
      (ap (λ (r : Ordering). cond (is_eq r) (Some e.1) (find by_bytes e.0 es)) (tied_itself nat_list_cmp_total e.0), found_later e es es rise_parts.0 (found_all es rise_parts.1))

  if_some : (P : X → Type 0) (o : Option X) (v : X) → o ≡ Some v → IfSome o P → P v
  if_some P o v is h = subst (λ (o : Option X). IfSome o P) is h

  of_all : (P : List ℕ → X → Type 0) (m : TextMap X) → ((k : List ℕ) → IfSome (get m k) (P k)) → (es : List (List ℕ × X)) → AllByRecursion (λ e. find by_bytes e.0 (entries m) ≡ Some e.1) es → AllByRecursion (λ e. P e.0 e.1) es
  of_all P m holds [] all = tt
  of_all P m holds (e ∷ es) all = (if_some (P e.0) (get m e.0) e.1 (get-entries m e.0 ∙ all.0) (holds e.0), of_all P m holds es all.1)

  -- what holds of what is found holds of each entry
  pub of_entries : (P : List ℕ → X → Type 0) (m : TextMap X) → ((k : List ℕ) → IfSome (get m k) (P k)) → AllByRecursion (λ e. P e.0 e.1) (entries m)
  of_entries P m holds = of_all P m holds (entries m) (found_all (entries m) (entries_sorted m))

  -- none of the entries has a name that was defined before
  abbrev pub AllNew : Lines → List (List ℕ × X) → Type 0
  AllNew lines es = AllByRecursion (λ e. line_in lines e.0 ≡ None) es

  pub new_at_first : (es : List (List ℕ × X)) → AllNew [] es
  new_at_first [] = tt
  new_at_first (e ∷ es) = (refl, new_at_first es)

  pub new_after : (lines : Lines) (k : List ℕ) (line : ℕ) (es : List (List ℕ × X)) → T (below_all by_bytes k es) → AllNew lines es → AllNew (lines ++ (k, line) ∷ []) es
  new_after lines k line [] low all = tt
  new_after lines k line (f ∷ es) low all =
      let low_parts = parts (is_lt (by_bytes k f.0)) (below_all by_bytes k es) low in
      (none_more (same_text f.0) lines (k, line) (other_text k f.0 (less (by_bytes k f.0) low_parts.0)) all.0, new_after lines k line es low_parts.1 all.1)

  pub rises_after : (e : List ℕ × X) (es : List (List ℕ × X)) → T (is_sorted by_bytes (e ∷ es)) → T (below_all by_bytes e.0 es) × T (is_sorted by_bytes es)
  rises_after e es rise = parts (below_all by_bytes e.0 es) (is_sorted by_bytes es) rise

  pub none_of : (p : List ℕ → Bool) (es : List (List ℕ × X)) → find_first p (map (λ e. e.0) es) ≡ None → AllByRecursion (λ e. p e.0 ≡ false) es
  none_of p [] e = tt
  none_of p (d ∷ es) e = let both = none_passes p (p d.0) d.0 (find_first p (map (λ e. e.0) es)) e in (both.0, none_of p es both.1)
