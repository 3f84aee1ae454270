-- Tables that find a key by buckets: each bucket tells the last of its keys, and each key the one of its bucket before it.
use Rattle.std.specs.Prelude.{◌≡◌, ◌≢◌, ◌⊎◌, bit_or, ℕ, suc, ◌%◌, ◌^◌, ◌<◌, ◌≤◌, List, length, map, Some, slice_get, slice_index}
use Rattle.std.specs.List.{Contains}
use Rattle.lg_region.specs.Fronts.{AreOnce}
use Rattle.lg_forest.specs.declared.slots.Slot.{Slot}

abbrev pub keys_in : {K V : Type 0} → List (Slot K V) → List K
keys_in slots = map (λ s. s.key) slots

abbrev pub nexts_in : {K V : Type 0} → List (Slot K V) → List ℕ
nexts_in slots = map (λ s. s.next) slots

abbrev pub pairs_in : {K V : Type 0} → List (Slot K V) → List (K × V)
pairs_in slots = map (λ s. (s.key, s.value)) slots

-- Of the keys before `end`, the last one of a bucket is the one before `from`, or there is none and `from` is 0.
pub record IsLast {K : Type 0} (spread : K → ℕ) (count : ℕ) (keys : List K) (end bucket from : ℕ) : Type 0 where
  pub within : from ≤ end
  pub others : (n : ℕ) (k : K) → from ≤ n → n < end → slice_get keys n ≡ Some k → spread k % count ≢ bucket
  pub same : (n : ℕ) (k : K) → from ≡ suc n → slice_get keys n ≡ Some k → spread k % count ≡ bucket

-- each bucket tells the last of its keys before `end`, and each of these keys the one of its bucket before it
pub record AreLinked {K : Type 0} (spread : K → ℕ) (keys : List K) (heads nexts : List ℕ) (end : ℕ) : Type 0 where
  pub head : (b : ℕ) → b < length heads → IsLast spread (length heads) keys end b (slice_index heads b)
  pub next : (n : ℕ) (k : K) → n < end → slice_get keys n ≡ Some k → IsLast spread (length heads) keys n (spread k % length heads) (slice_index nexts n)

abbrev pub IsPowerOfTwo : ℕ → Type 0
IsPowerOfTwo n = (k : ℕ) × (n ≡ 2 ^ k)

-- keys, each once, that are linked, with room for them
pub record AreSlots {K V : Type 0} (spread : K → ℕ) (slots : List (Slot K V)) (heads : List ℕ) : Type 0 where
  pub linked : AreLinked spread (keys_in slots) heads (nexts_in slots) (length slots)
  pub room : length slots ≤ length heads
  pub power : length heads ≢ 0 → IsPowerOfTwo (length heads)
  pub few : length heads < 2 ^ 32
  pub once : AreOnce (keys_in slots)

-- the slot of this number has the key
abbrev pub IsAt : {K V : Type 0} → List (Slot K V) → K → ℕ → Type 0
IsAt {K} {V} slots key at = (s : Slot K V) × (slice_get slots at ≡ Some s) × (s.key ≡ key)

-- the bits of a key: 0 where it is not there
pub record HasBits {K : Type 0} (pairs : List (K × ℕ)) (key : K) (bits : ℕ) : Type 0 where
  pub only : (b : ℕ) → Contains pairs (key, b) → b ≡ bits
  pub there : bits ≢ 0 → Contains pairs (key, bits)

-- one bit more of a key, and the same of the others
pub record SetsBit {K : Type 0} (old : List (K × ℕ)) (key : K) (place : ℕ) (new : List (K × ℕ)) : Type 0 where
  pub bits : ℕ
  pub had : HasBits old key bits
  pub there : Contains new (key, bit_or bits (2 ^ place))
  pub put : (k : K) (b : ℕ) → Contains new (k, b) → Contains old (k, b) ⊎ ((k ≡ key) × (b ≡ bit_or bits (2 ^ place)))
  pub kept : (k : K) (b : ℕ) → k ≢ key → Contains old (k, b) → Contains new (k, b)
