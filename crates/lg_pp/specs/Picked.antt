-- Flags of labels, where equal labels are looked at once.
use Rattle.std.specs.Prelude.{◌≡◌, ◌↔◌, ℕ, ◌<◌, ◌≤◌, List, length, Bool, IsTrue, slice_get, slice_index}
use Rattle.std.specs.List.{AllZip}
use Rattle.lg_gram.specs.Names.{Name}

-- for each label a place that is not after it, with an equal label
pub record AreFirsts (labels : List Name) (firsts : List ℕ) : Type 0 where
  pub enough : length firsts ≡ length labels
  pub within : (n : ℕ) → n < length labels → slice_index firsts n ≤ n
  pub equal : (n : ℕ) → n < length labels → slice_get labels (slice_index firsts n) ≡ slice_get labels n

-- one flag for each label, set exactly where this holds of the label
abbrev pub ArePicked : (Name → Type 0) → List Name → List Bool → Type 0
ArePicked P labels flags = AllZip (λ label flag. IsTrue flag ↔ P label) labels flags
