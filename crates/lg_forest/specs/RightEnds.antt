-- Numbers of the right ends of regions, by a row of them for each word.
use Rattle.std.specs.Prelude.{◌≡◌, ℕ, suc, ◌<◌, List, [], length, map, Some, slice_get, slice_index_or}
use Rattle.std.specs.Global.{Vec}
use Rattle.lg_forest.specs.declared.right_ends.RightEnd.{RightEnd}

abbrev pub rows_in : List (Vec ℕ) → List (List ℕ)
rows_in rows = map (λ r. r.items) rows

-- what stands there, or 0
abbrev pub entry : List (List ℕ) → ℕ → ℕ → ℕ
entry rows word list = slice_index_or (slice_index_or rows word []) list 0

-- there is room for it
abbrev pub IsEntry : List (List ℕ) → ℕ → ℕ → Type 0
IsEntry rows word list = (word < length rows) × (list < length (slice_index_or rows word []))

-- each end has its place in its row, and each row no others
pub record AreRightEnds (ends : List RightEnd) (rows : List (List ℕ)) : Type 0 where
  pub there : (n : ℕ) (e : RightEnd) → slice_get ends n ≡ Some e → entry rows e.word e.list ≡ suc n
  pub back : (word list n : ℕ) → entry rows word list ≡ suc n → slice_get ends n ≡ Some (record { word = word; list = list })
