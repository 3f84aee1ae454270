-- The front parts of the lists of a problem, each once, and their numbers.
use Rattle.std.specs.Prelude.{◌≡◌, ◌↔◌, ℕ, zero, suc, ◌<◌, List, [], ◌++◌, length, take, map, Some, slice_get, slice_index_or}
use Rattle.std.specs.List.{Contains, flat_map, range_with_len}
use Rattle.lg_gram.specs.Connectors.{Connector}
use Rattle.lg_gram.specs.declared.disjunct.Disjunct.{Disjunct}

-- the front parts of a list but the empty one, shorter ones first
abbrev pub fronts : List Connector → List (List Connector)
fronts cs = map (λ n. take n cs) (range_with_len 1 (length cs))

-- of a disjunct: those of its left list, and then those of its right list
abbrev pub fronts_of : Disjunct → List (List Connector)
fronts_of d = fronts d.left ++ fronts d.right

abbrev pub all_fronts : List (List Disjunct) → List (List Connector)
all_fronts positions = flat_map (flat_map fronts_of) positions

-- no value stands at two places
abbrev pub AreOnce : {A : Type 0} → List A → Type 0
AreOnce {A} xs = (i j : ℕ) (x : A) → slice_get xs i ≡ Some x → slice_get xs j ≡ Some x → i ≡ j

-- the values of a list in the order in which they are first met, each once
pub record AreFirstMet {A : Type 0} (all met : List A) : Type 0 where
  pub same : (x : A) → Contains met x ↔ Contains all x
  pub once : AreOnce met
  pub first : (i j q : ℕ) (x y : A) → i < j → slice_get met i ≡ Some x → slice_get met j ≡ Some y → slice_get all q ≡ Some y → (p : ℕ) × (p < q) × (slice_get all p ≡ Some x)

-- the lists of the numbers 1, 2, ..: the front parts of all lists of the problem, in the order of its positions and disjuncts
abbrev pub AreListsOf : List (List Disjunct) → List (List Connector) → Type 0
AreListsOf positions lists = AreFirstMet (all_fronts positions) lists

-- the list of a number: the empty one for 0
abbrev pub list_of : List (List Connector) → ℕ → List Connector
list_of lists zero = []
list_of lists (suc n) = slice_index_or lists n []

-- a problem, and the lists of the numbers
pub record Numbering : Type 0 where
  pub positions : List (List Disjunct)
  pub lists : List (List Connector)
