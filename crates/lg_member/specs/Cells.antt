-- Tables of sites: for each position a row, and in it a cell for each class of capital letters.
use Rattle.std.specs.Prelude.{◌≡◌, ℕ, ◌+◌, ◌*◌, ◌%◌, min, List, fold, Some, slice_get, ◌⊎◌}
use Rattle.std.specs.List.{Contains}

-- the class of some capital letters
abbrev pub class_of : List ℕ → ℕ
class_of caps = fold (λ n c. (n * 31 + c) % 64) 0 caps

-- A table for n positions has a cell for each position and class, and one more row for positions past the last.
abbrev pub cell_count : ℕ → ℕ
cell_count n = (n + 1) * 64

abbrev pub cell_at : ℕ → ℕ → ℕ → ℕ
cell_at n i class = min i n * 64 + class

-- the sites of each cell, for so many words
pub record Table (S : Type 0) : Type 0 where
  pub words : ℕ
  pub cells : List (List S)

-- the site stands in the cell of a position and a class
abbrev pub Stands : {S : Type 0} → Table S → ℕ → ℕ → S → Type 0
Stands {S} table i class s = (cell : List S) × (slice_get table.cells (cell_at table.words i class) ≡ Some cell) × Contains cell s

abbrev pub IsEmpty : {S : Type 0} → Table S → Type 0
IsEmpty {S} table = (i class : ℕ) (s : S) → Stands table i class s → ⊥

-- a cell keeps its sites, gets no other than this one, and has one that is as wide
pub record AddsTo {S : Type 0} (wider : S → S → Type 0) (s : S) (old new : List S) : Type 0 where
  pub kept : (x : S) → Contains old x → Contains new x
  pub only : (x : S) → Contains new x → Contains old x ⊎ (s ≡ x)
  pub held : (wide : S) × Contains new wide × wider wide s

-- a table keeps its sites, gets no other than this one, and has one that is as wide in the cell of a position and a class
pub record Adds {S : Type 0} (wider : S → S → Type 0) (i class : ℕ) (s : S) (old new : Table S) : Type 0 where
  pub kept : (j c : ℕ) (x : S) → Stands old j c x → Stands new j c x
  pub only : (j c : ℕ) (x : S) → Stands new j c x → Stands old j c x ⊎ (s ≡ x)
  pub held : (wide : S) × Stands new i class wide × wider wide s
