-- What stands in the cells of tables.
use Rattle.std.proofs.Common.{◌≡◌, ℕ, ◌<◌, List, [], ◌∷◌, ◌++◌, length, map, get_or, set, refl, sym, ap, ◌∙◌, subst, Some, ◌⊎◌, inl, inr, Contains, arith}
use Rattle.std.specs.Global.{Vec}
use Rattle.std.specs.List.{slice_get, All, Any}
use Rattle.std.specs.Option.{option_map}
use Rattle.std.proofs.lemmas.Bool.{cases_eq}
use Rattle.std.proofs.lemmas.Option.{same_Some, slice_get_within, slice_get_read, slice_get-map, get_or_from_slice_get}
use Rattle.std.proofs.lemmas.List.{map-set}
use Rattle.std.proofs.lemmas.Grind.{elements}
use Rattle.std.proofs.lemmas.List.Elements.{All-map, Contains-append_left, Contains-push, Contains-push_cases}
use Rattle.lg_member.specs.Cells.{Table, Stands, IsEmpty, AddsTo, Adds, cell_at}

-- one site more in a cell
pub adds_none : {S : Type 0} (wider : S → S → Type 0) (s : S) (old : List S) → Any (λ w. wider w s) old → AddsTo wider s old old
adds_none wider s old (k, w, l, e, is) = record { kept = λ x c. c; only = λ x c. inl c; held = (w, (k, l, e), is) }

pub adds_one : {S : Type 0} (wider : S → S → Type 0) → ((s : S) → wider s s) → (s : S) (old new : List S) → new ≡ old ++ s ∷ [] → AddsTo wider s old new
adds_one wider itself s old new e = record {
  kept = λ x c. subst (λ z. Contains z x) (sym e) (Contains-append_left old (s ∷ []) x c);
  only = λ x c. Contains-push_cases old s x (subst (λ z. Contains z x) e c);
  held = (s, subst (λ z. Contains z s) (sym e) (Contains-push old s), itself s);
}

abbrev pub tabled : {S : Type 0} → ℕ → List (List S) → Table S
tabled n cells = record { words = n; cells = cells }

abbrev pub items_of : {S : Type 0} → Vec S → List S
items_of v = v.items

-- no cell has a site
pub empty_table : {S : Type 0} (n : ℕ) (cells : List (Vec S)) → All (λ b. b.items ≡ []) cells → IsEmpty (tabled n (map items_of cells))
empty_table n cells none i class s h =
    let k = cell_at n i class in
    let T = map items_of cells in
    let e : h.0 ≡ [] = sym (get_or_from_slice_get T k h.0 h.0 h.1) ∙ All-map (λ b. b ≡ []) items_of cells none k h.0 (slice_get_within T k h.0 h.1) in
    let l = (subst (λ z. Contains z s) e h.2).1 in
    omega arith

-- where a cell grows, what stands in a cell is what stood there, or what is new
stands_kept : {S : Type 0} (n : ℕ) (T : List (List S)) (k : ℕ) (b b' : List S) → slice_get T k ≡ Some b → ((x : S) → Contains b x → Contains b' x) → (j c : ℕ) (x : S) → Stands (tabled n T) j c x → Stands (tabled n (set T k b')) j c x
stands_kept n T k b b' e kept j c x h =
    let q = cell_at n j c in
    elim (cases_eq k q) [
      | inl f ↦ (
        b',
        (let l = slice_get_within T k b e in let t : slice_get (set T k b') q ≡ Some b' = grind (arith, elements) in t),
        kept x (subst (λ z. Contains z x) (same_Some h.0 b (sym h.1 ∙ subst (λ z. slice_get T z ≡ Some b) f e)) h.2),
      )
      | inr o ↦ (let t : slice_get (set T k b') q ≡ slice_get T q = grind (arith, elements) in (h.0, t ∙ h.1, h.2))
    ]

stands_only : {S : Type 0} (n : ℕ) (T : List (List S)) (k : ℕ) (b b' : List S) (s : S) → slice_get T k ≡ Some b → ((x : S) → Contains b' x → Contains b x ⊎ (s ≡ x)) → (j c : ℕ) (x : S) → Stands (tabled n (set T k b')) j c x
    → Stands (tabled n T) j c x ⊎ (s ≡ x)
stands_only n T k b b' s e only j c x h =
    let q = cell_at n j c in
    elim (cases_eq k q) [
      | inl f ↦ (let l = slice_get_within T k b e in
          let t : slice_get (set T k b') q ≡ Some b' = grind (arith, elements) in
          elim (only x (subst (λ z. Contains z x) (same_Some h.0 b' (sym h.1 ∙ t)) h.2)) [ inl o ↦ inl (b, subst (λ z. slice_get T z ≡ Some b) f e, o) | inr r ↦ inr r ])
      | inr o ↦ (let t : slice_get (set T k b') q ≡ slice_get T q = grind (arith, elements) in inl (h.0, sym t ∙ h.1, h.2))
    ]

adds_in : {S : Type 0} (wider : S → S → Type 0) (n i class : ℕ) (s : S) (T : List (List S)) (k : ℕ) (b b' : List S) → k ≡ cell_at n i class → slice_get T k ≡ Some b → AddsTo wider s b b'
    → Adds wider i class s (tabled n T) (tabled n (set T k b'))
adds_in wider n i class s T k b b' ek e add =
    let q = cell_at n i class in
    let l = slice_get_within T k b e in
    let new : slice_get (set T k b') q ≡ Some b' = grind (arith, elements) in
    record {
      kept = stands_kept n T k b b' e add.kept;
      only = stands_only n T k b b' s e add.only;
      held = (add.held.0, (b', new, add.held.1), add.held.2);
    }

-- a site more in its cell of a table
pub adds_site : {S : Type 0} (wider : S → S → Type 0) (n i class : ℕ) (s : S) (cells : List (Vec S)) (k : ℕ) (v w : Vec S) → k ≡ cell_at n i class → k < length cells → v ≡ get_or cells k v → AddsTo wider s v.items w.items
    → Adds wider i class s (tabled n (map items_of cells)) (tabled n (map items_of (set cells k w)))
adds_site wider n i class s cells k v w ek h ev add =
    let at : slice_get (map items_of cells) k ≡ Some v.items = slice_get-map items_of cells k ∙ ap (option_map items_of) (slice_get_read cells (length cells) k v refl h ev) in
    subst (λ z. Adds wider i class s (tabled n (map items_of cells)) (tabled n z)) (sym (map-set items_of cells k w)) (adds_in wider n i class s (map items_of cells) k v.items w.items ek at add)
