-- Sets of keys: rows of sixty-four places each, and a bit for each place, which is 1 where its key is there.
use Rattle.std.specs.Prelude.{◌≡◌, ◌≢◌, ◌⊎◌, ℕ, zero, suc, ◌<◌, ◌==◌, List, [], ◌∷◌, map, if◌then◌else◌}
use Rattle.std.specs.List.{Contains, flat_map}
use Rattle.lg_base.specs.Bits.{bit_at}

-- each key has a row and a place in it, and each row and place below sixty-four have a key; it can be told whether two rows are the same
pub record AreRows {K R : Type 0} (row : K → R) (place : K → ℕ) (at : R → ℕ → K) : Type 0 where
  pub key_back : (k : K) → at (row k) (place k) ≡ k
  pub row_back : (r : R) (n : ℕ) → n < 64 → row (at r n) ≡ r
  pub place_back : (r : R) (n : ℕ) → n < 64 → place (at r n) ≡ n
  pub within : (k : K) → place k < 64
  pub same : (r s : R) → (r ≡ s) ⊎ (r ≢ s)

-- the places below an end whose bit is 1, from the last one down
abbrev pub places : ℕ → ℕ → List ℕ
places bits zero = []
places bits (suc end) = if bit_at bits end == 1 then end ∷ places bits end else places bits end

abbrev pub keys_of_row : {K R : Type 0} → (R → ℕ → K) → R × ℕ → List K
keys_of_row at r = map (at r.0) (places r.1 64)

-- the keys of all rows
abbrev pub all_keys : {K R : Type 0} → (R → ℕ → K) → List (R × ℕ) → List K
all_keys at rows = flat_map (keys_of_row at) rows

-- all of them are small
abbrev pub AreAll : {K : Type 0} → (K → Type 0) → List K → Type 0
AreAll {K} small keys = (k : K) → Contains keys k → small k
