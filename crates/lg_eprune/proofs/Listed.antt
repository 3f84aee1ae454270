-- The table of what was seen.
use Rattle.std.proofs.Common.{◌≡◌, ℕ, ◌<◌, ◌↔◌, ◌⊎◌, inl, inr, refl, sym, ap, ◌∙◌, subst, Bool, true, false, ◌||◌, Some, List, [], ◌∷◌, ◌++◌, length, map, get_or, set, Contains}
use mathlib.Core.Logic.{⊎_elim}
use Rattle.std.specs.Bool.{beq}
use Rattle.std.specs.Global.{Vec}
use Rattle.std.specs.List.{All, list_any, slice_get}
use Rattle.std.specs.Option.{option_map}
use Rattle.std.proofs.lemmas.Bool.{cases_eq, cases_lt}
use Rattle.std.proofs.lemmas.List.{map-set, get_or-set_same, get_or-set_other, get_or_past}
use Rattle.std.proofs.lemmas.List.Elements.{All-map, Contains-append_left, Contains-append_right, Contains-append_cases, Contains-push, Contains-push_cases}
use Rattle.std.proofs.lemmas.List.Folds.{Any-from_list_any, list_any_at}
use Rattle.std.proofs.lemmas.Option.{slice_get_within, slice_get_read, slice_get-map, get_or_from_slice_get}
use Rattle.lg_gram.specs.Connectors.{Connector}
use Rattle.lg_eprune.specs.Cuts.{do_join, stays, class_of, listed_at, is_met, Adds, IsSeen, Lists}
use Rattle.lg_base.proofs.Elements.{contains_cases, contains_here, contains_none}
use Rattle.lg_eprune.proofs.Matches.{join_caps}

bool_same : (a b : Bool) → (a ≡ true → b ≡ true) → (b ≡ true → a ≡ true) → a ≡ b
bool_same true b to from = sym (to refl)
bool_same false true to from = from refl
bool_same false false to from = refl

met_same : (right : Bool) (table : List (List Connector)) (seen : List Connector) → IsSeen table seen → (c : Connector) → is_met right table c ≡ stays right seen c
unfolding stays
met_same right table seen is c = ap (λ b. beq c.right right || b)
    (bool_same (list_any (λ d. do_join d c) (listed_at table c.caps)) (list_any (λ d. do_join d c) seen)
    (λ h. (
    let (k, d, within, at, joins) = Any-from_list_any (λ d. do_join d c) (listed_at table c.caps) h in
    let (j, low, read) = ((is c.caps d).0 (k, within, at)).0 in
    list_any_at (λ d. do_join d c) seen j d low (ap (λ x. do_join x c) read ∙ joins)))
    (λ h. (
    let (k, d, within, at, joins) = Any-from_list_any (λ d. do_join d c) seen h in
    let (j, low, read) = (is c.caps d).1 ((k, within, at), ap class_of (join_caps d c joins)) in
    list_any_at (λ d. do_join d c) (listed_at table c.caps) j d low (ap (λ x. do_join x c) read ∙ joins))))

-- what a table refuses
pub tests_same : (right : Bool) (table : List (List Connector)) (seen : List Connector) → IsSeen table seen → is_met right table ≡ stays right seen
tests_same right table seen is = λ i c. met_same right table seen is c i

pub more_seen : (old new : List (List Connector)) (seen more : List Connector) → IsSeen old seen → Lists old more new → IsSeen new (seen ++ more)
more_seen old new seen more is lists caps d = (
  λ h. ⊎_elim
      (λ before. (let (m, same) = (is caps d).0 before in (Contains-append_left seen more d m, same)))
      (λ added. (Contains-append_right seen more d added.0, added.1))
      ((lists.tells caps d).0 h),
  λ p. (lists.tells caps d).1 (⊎_elim (λ m. inl ((is caps d).1 (m, p.1))) (λ m. inr (m, p.1)) (Contains-append_cases seen more d p.0)),
)

-- steps of a list of connectors
pub lists_none : (table : List (List Connector)) → Lists table [] table
lists_none table = record { tells = λ caps d. (λ h. inl h, λ h. ⊎_elim (λ m. m) (λ m. absurd (contains_none d m.0)) h) }

pub lists_more : (old middle new : List (List Connector)) (first second : List Connector) → Lists old first middle → Lists middle second new → Lists old (first ++ second) new
lists_more old middle new first second one two = record {
  tells = λ caps d. (
    λ h. ⊎_elim
        (λ before. ⊎_elim (λ m. inl m) (λ m. inr (Contains-append_left first second d m.0, m.1)) ((one.tells caps d).0 before))
        (λ m. inr (Contains-append_right first second d m.0, m.1))
        ((two.tells caps d).0 h),
    λ h. (two.tells caps d).1 (⊎_elim
        (λ m. inl ((one.tells caps d).1 (inl m)))
        (λ m. ⊎_elim (λ f. inl ((one.tells caps d).1 (inr (f, m.1)))) (λ s. inr (s, m.1)) (Contains-append_cases first second d m.0))
        h),
  );
}

-- one more connector in its class
added_at : (old : List (List Connector)) (k : ℕ) (row added : List Connector) (c : Connector) → k ≡ class_of c.caps → k < length old → row ≡ get_or old k []
    → Adds row c added → (caps : List ℕ) (d : Connector) → Contains (listed_at (set old k added) caps) d ↔ (Contains (listed_at old caps) d ⊎ (Contains (c ∷ []) d × (class_of d.caps ≡ class_of caps)))
added_at old k row added c named within is adds caps d =
    elim (cases_eq (class_of caps) k) [
      | inl same ↦ (
          let now : listed_at (set old k added) caps ≡ added = ap (λ i. get_or (set old k added) i []) same ∙ get_or-set_same old k added [] within in
          let was : listed_at old caps ≡ row = ap (λ i. get_or old i []) same ∙ sym is in (
            λ m. ⊎_elim (λ before. inl (subst (λ xs. Contains xs d) (sym was) before)) (λ e. inr (only e, ap (λ x. class_of x.caps) (sym e) ∙ sym named ∙ sym same))
                ((adds d).0 (subst (λ xs. Contains xs d) now m)),
            λ m. subst (λ xs. Contains xs d) (sym now)
                ((adds d).1 (⊎_elim (λ before. inl (subst (λ xs. Contains xs d) was before)) (λ p. inr (only_one p.0)) m)),
          ))
      | inr other ↦ (
          let now : listed_at (set old k added) caps ≡ listed_at old caps = get_or-set_other old k (class_of caps) added [] other in (
            λ m. inl (subst (λ xs. Contains xs d) now m),
            λ m. ⊎_elim (λ before. subst (λ xs. Contains xs d) (sym now) before)
                (λ p. absurd (other (sym p.1 ∙ ap (λ x. class_of x.caps) (sym (only_one p.0)) ∙ sym named)))
                m,
          ))
    ]
  where
    only : c ≡ d → Contains (c ∷ []) d
    only e = subst (λ x. Contains (c ∷ []) x) e (contains_here c [])

    only_one : Contains (c ∷ []) d → c ≡ d
    only_one m = ⊎_elim (λ e. e) (λ later. absurd (contains_none d later)) (contains_cases c [] d m)

lists_added : (old : List (List Connector)) (k : ℕ) (row added : List Connector) (c : Connector) → k ≡ class_of c.caps → k < length old → row ≡ get_or old k []
    → Adds row c added → Lists old (c ∷ []) (set old k added)
lists_added old k row added c named within is adds = record { tells = added_at old k row added c named within is adds }

abbrev items_of : Vec Connector → List Connector
items_of row = row.items

-- a connector more in its row
pub listed_added : (rows : List (Vec Connector)) (k : ℕ) (row added : Vec Connector) (c : Connector) → k ≡ class_of c.caps → k < length rows → row ≡ get_or rows k row
    → Adds row.items c added.items → Lists (map items_of rows) (c ∷ []) (map items_of (set rows k added))
listed_added rows k row added c named within is adds =
    let at : slice_get (map items_of rows) k ≡ Some row.items = slice_get-map items_of rows k ∙ ap (option_map items_of) (slice_get_read rows (length rows) k row refl within is) in
    let read : row.items ≡ get_or (map items_of rows) k [] = sym (get_or_from_slice_get (map items_of rows) k row.items [] at) in
    subst (λ z. Lists (map items_of rows) (c ∷ []) z) (sym (map-set items_of rows k added))
    (lists_added (map items_of rows) k row.items added.items c named (slice_get_within (map items_of rows) k row.items at) read adds)

-- a row that has it already, and one that got it
pub adds_none : (old : List Connector) (c : Connector) → Contains old c → Adds old c old
adds_none old c m d = (λ h. inl h, λ h. ⊎_elim (λ before. before) (λ e. subst (λ x. Contains old x) e m) h)

pub adds_one : (old new : List Connector) (c : Connector) → new ≡ old ++ c ∷ [] → Adds old c new
adds_one old new c is d = (
  λ h. Contains-push_cases old c d (subst (λ xs. Contains xs d) is h),
  λ h. subst (λ xs. Contains xs d) (sym is) (⊎_elim (λ before. Contains-append_left old (c ∷ []) d before) (λ e. subst (λ x. Contains (old ++ c ∷ []) x) e (Contains-push old c)) h),
)

-- at first nothing was seen
pub nothing_seen : (rows : List (Vec Connector)) → All (λ row. row.items ≡ []) rows → IsSeen (map items_of rows) []
nothing_seen rows none caps d = (λ m. absurd (contains_none d (subst (λ xs. Contains xs d) empty m)), λ m. absurd (contains_none d m.0))
  where
    empty : listed_at (map items_of rows) caps ≡ []
    empty =
        elim (cases_lt (class_of caps) (length (map items_of rows))) [
          | inl within ↦ All-map (λ row. row ≡ []) items_of rows none (class_of caps) [] within
          | inr past ↦ get_or_past (map items_of rows) (class_of caps) [] past
        ]
