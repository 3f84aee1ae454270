-- The values of a forest: each node has ways, and each way has two parts, which are lower nodes or nothing.
use Rattle.std.specs.Prelude.{◌≡◌, ℕ, ◌<◌, List, [], length, Option, Some, None, slice_get, slice_index_or, pos}
use Rattle.lg_rank.specs.Merges.{Setting, Laws}
use Rattle.lg_rank.specs.Values.{Value, value_cmp, combine, IsSmall, IsSmallWay}
use Rattle.lg_rank.specs.declared.part.Way.{Way}

-- A value of a part. Where there is no node it is z, in which nothing is linked.
pub data Has (z : Value) (forest : List (List Way)) : Option ℕ → Value → Type 0 where
  nothing : (o : Option ℕ) (v : Value) → o ≡ None → v ≡ z → Has z forest o v
  made : (o : Option ℕ) (v : Value) (k p : ℕ) (w : Way) (x y : Value) → o ≡ Some k → slice_get (slice_index_or forest k []) p ≡ Some w → Has z forest w.left x → Has z forest w.right y → v ≡ combine w x y → Has z forest o v

abbrev pub no_way : Way
no_way = record { word = 0; choice = 0; cost = pos 0; span = 0; near = None; far = None; left = None; right = None }

abbrev pub ways_of : List (List Way) → ℕ → List Way
ways_of forest k = slice_index_or forest k []

abbrev pub way_at : List (List Way) → ℕ → ℕ → Way
way_at forest k p = slice_index_or (ways_of forest k) p no_way

abbrev pub setting : Value → List (List Way) → ℕ → Setting
setting z forest k = record {
  V = Value;
  cmp = value_cmp;
  HasL = λ p. Has z forest (way_at forest k p).left;
  HasR = λ p. Has z forest (way_at forest k p).right;
  combine = λ p. combine (way_at forest k p);
}

-- Parts are lower nodes, no number passes the end of its type, and the values of each node follow the order of their parts, each
-- made in one way.
pub record IsForest (z : Value) (forest : List (List Way)) : Type 0 where
  pub left_below : (k p j : ℕ) → p < length (ways_of forest k) → (way_at forest k p).left ≡ Some j → j < k
  pub right_below : (k p j : ℕ) → p < length (ways_of forest k) → (way_at forest k p).right ≡ Some j → j < k
  pub small : (o : Option ℕ) (v : Value) → Has z forest o v → IsSmall (length z.choices) v
  pub small_ways : (k p : ℕ) → p < length (ways_of forest k) → IsSmallWay (length z.choices) (way_at forest k p)
  pub laws : (k : ℕ) → Laws (setting z forest k) (length (ways_of forest k))
