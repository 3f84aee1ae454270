-- Ranks of leaves, and the order of choices by them.
use Rattle.std.specs.Prelude.{◌≡◌, ◌<◌, ℕ, true, false, List, [], Some, length, map, take, drop, get_or, slice_get, ◌-◌, nat_le, ◌&&◌, if◌then◌else◌}
use Rattle.std.specs.Borrow.{Bor}
use Rattle.std.specs.List.{All, dedup}
use Rattle.std.specs.List.Sorted.{IsSorted, IsPermutation, IsPartitionPoint}
use Rattle.std.specs.Ordering.{nat_cmp, int_cmp, is_lt, on, then_cmp, eq_by_cmp}
use Rattle.std.specs.declared.cmp.Ordering.{Ordering}
use Rattle.std.specs.Cmp.Lexicographic.{slice_cmp}
use Rattle.lg_gram.specs.Connectors.{Connector, connector_cmp}
use Rattle.lg_disj.specs.declared.arena.Row.{Row}
use Rattle.lg_disj.specs.declared.numbers.Numbered.{Numbered}
use Rattle.lg_disj.specs.Places.{Places}

module _ {A : Type 0} (cmp : A → A → Ordering) where
  -- numbers, one for each element, that compare as the elements do
  pub record AreRanksBy (xs : List A) (ranks : List ℕ) : Type 0 where
    pub many : length ranks ≡ length xs
    pub order : (i j : ℕ) (d : A) → i < length xs → j < length xs → nat_cmp (get_or ranks i 0) (get_or ranks j 0) ≡ cmp (get_or xs i d) (get_or xs j d)

  -- as many of the sorted elements come before this one
  abbrev pub IsRankBy : List A → A → ℕ → Type 0
  IsRankBy sorted x r = IsPartitionPoint (λ other. is_lt (cmp other x) ≡ true) (λ other. is_lt (cmp other x) ≡ false) sorted r

abbrev pub AreRanks : List Connector → List ℕ → Type 0
AreRanks = AreRanksBy connector_cmp

abbrev pub IsRankIn : List Connector → Connector → ℕ → Type 0
IsRankIn = IsRankBy connector_cmp

-- the elements from one place up to another, and none where these do not lie within
abbrev pub part_or : ℕ → ℕ → List ℕ → List ℕ
part_or from to xs = if nat_le from to && nat_le to (length xs) then take (to - from) (drop from xs) else []

-- the ranks of the lists of a row
abbrev pub key_in : List ℕ → Row → Places
key_in ranked row = record { left = part_or row.from row.middle ranked; right = part_or row.middle row.end ranked; cost = row.cost }

-- by the ranks to the left, and then by those to the right
abbrev pub ranks_cmp : Places → Places → Ordering
ranks_cmp = then_cmp (on (λ p. p.left) (slice_cmp nat_cmp)) (on (λ p. p.right) (slice_cmp nat_cmp))

-- by the ranks, and then by cost
abbrev pub places_cmp : Places → Places → Ordering
places_cmp = then_cmp ranks_cmp (on (λ p. p.cost) int_cmp)

-- of the rows in order the first of each run that has the same ranks
pub record IsKept (ranked : List ℕ) (rows kept : List Row) : Type 0 where
  pub sorted : List Row
  pub moved : IsPermutation rows sorted
  pub order : IsSorted (on (key_in ranked) places_cmp) sorted
  pub is : kept ≡ dedup (eq_by_cmp (on (key_in ranked) ranks_cmp)) sorted

-- lent lists in their order
abbrev pub lent_cmp : Bor (List ℕ) → Bor (List ℕ) → Ordering
lent_cmp = on (λ f. f.now) (slice_cmp nat_cmp)

-- the list stands at this place
pub record StandsAt (lists : List (Bor (List ℕ))) (list : List ℕ) (place : ℕ) : Type 0 where
  pub lent : Bor (List ℕ)
  pub there : slice_get lists place ≡ Some lent
  pub same : lent.now ≡ list

-- what stands at a place stays there
abbrev pub Keeps : List (Bor (List ℕ)) → List (Bor (List ℕ)) → Type 0
Keeps old new = (n : ℕ) (f : Bor (List ℕ)) → slice_get old n ≡ Some f → slice_get new n ≡ Some f

-- a list came to the others, or was there, and now stands at this place
pub record Comes (old new : List (Bor (List ℕ))) (list : List ℕ) (place : ℕ) : Type 0 where
  pub kept : Keeps old new
  pub stands : StandsAt new list place

-- the places of a row's two lists
pub record HasPlaces (ranked : List ℕ) (lists : List (Bor (List ℕ))) (k : Numbered) : Type 0 where
  pub left : StandsAt lists (key_in ranked k.row).left k.left
  pub right : StandsAt lists (key_in ranked k.row).right k.right

-- the rows with the places of their lists
pub record HavePlaces (ranked : List ℕ) (lists : List (Bor (List ℕ))) (rows : List Row) (numbered : List Numbered) : Type 0 where
  pub same : map (λ k. k.row) numbered ≡ rows
  pub places : All (HasPlaces ranked lists) numbered

-- the same with ranks for places
abbrev pub renumbered : List ℕ → Numbered → Numbered
renumbered ranks k = record k { left = get_or ranks k.left 0; right = get_or ranks k.right 0 }

-- the rows with the ranks of their lists among lists that these are among
pub record AreNumbered (ranked : List ℕ) (rows : List Row) (numbered : List Numbered) : Type 0 where
  pub lists : List (Bor (List ℕ))
  pub ranks : List ℕ
  pub are : AreRanksBy lent_cmp lists ranks
  pub placed : List Numbered
  pub places : HavePlaces ranked lists rows placed
  pub is : numbered ≡ map (renumbered ranks) placed

-- by the number to the left, and then by that to the right
abbrev pub lists_numbers_cmp : Numbered → Numbered → Ordering
lists_numbers_cmp = then_cmp (on (λ k. k.left) nat_cmp) (on (λ k. k.right) nat_cmp)

-- by the numbers, and then by cost
abbrev pub numbers_cmp : Numbered → Numbered → Ordering
numbers_cmp = then_cmp lists_numbers_cmp (on (λ k. k.row.cost) int_cmp)
