-- Kinds of last connectors, and which of them match.
use Rattle.std.specs.Prelude.{◌≡◌, ◌↔◌, ℕ, ◌+◌, ◌*◌, ◌/◌, ◌%◌, ◌^◌, ◌<◌, ◌≤◌, ◌⊎◌, List, length, map, set, bit_or, Some, slice_get, slice_index}
use Rattle.lg_base.specs.Bits.{bit_at}
use Rattle.lg_gram.specs.Connectors.{Connector, Match}
use Rattle.lg_region.specs.Chains.{class_of_caps}
use Rattle.lg_region.specs.declared.matching.Matching.{Matching}

-- connectors of two kinds match, one of the first at a left word and one of the second at a right word
pub record MatchAt (kinds : List Connector) (near far : ℕ) : Type 0 where
  pub first : Connector
  pub second : Connector
  pub is_first : slice_get kinds near ≡ Some first
  pub is_second : slice_get kinds far ≡ Some second
  pub matched : Match first second

-- each row has sixteen words of sixty-four bits; this is the word where the bit of two kinds stands
abbrev pub word_of : ℕ → ℕ → ℕ
word_of near far = near * 16 + far / 64

-- the bit of two kinds is 1
abbrev pub has_bit : List ℕ → ℕ → ℕ → Type 0
has_bit bits near far = bit_at (slice_index bits (word_of near far)) (far % 64) ≡ 1

-- the bit of two kinds becomes 1
abbrev pub with_bit : ℕ → ℕ → List ℕ → List ℕ
with_bit near far bits = set bits (word_of near far) (bit_or (slice_index bits (word_of near far)) (2 ^ (far % 64)))

-- the bit of two kinds is 1 where they match
pub record IsTable (kinds : List Connector) (bits : List ℕ) : Type 0 where
  pub few : length kinds ≤ 1024
  pub words : length bits ≡ length kinds * 16
  pub right : (near far : ℕ) → far < length kinds → has_bit bits near far ↔ MatchAt kinds near far

-- there is no table, or it is right
abbrev pub IsMatching : Matching → Type 0
IsMatching m = (length m.bits.items ≡ 0) ⊎ IsTable m.kinds.items m.bits.items

abbrev pub classes_of_kinds : List Connector → List ℕ
classes_of_kinds kinds = map (λ c. class_of_caps c.caps) kinds

-- the rows before this one are filled, and this one up to a kind
pub record AreFilled (kinds : List Connector) (near far : ℕ) (bits : List ℕ) : Type 0 where
  pub words : length bits ≡ length kinds * 16
  pub sound : (a b : ℕ) → b < length kinds → has_bit bits a b → MatchAt kinds a b
  pub rows : (a b : ℕ) → a < near → MatchAt kinds a b → has_bit bits a b
  pub row : (b : ℕ) → b < far → MatchAt kinds near b → has_bit bits near b

-- the bit of two kinds is set where they match, and no other changes
pub record AreTried (kinds : List Connector) (near far : ℕ) (old new : List ℕ) : Type 0 where
  pub level : length new ≡ length old
  pub kept : (a b : ℕ) → has_bit old a b → has_bit new a b
  pub back : (a b : ℕ) → b < 1024 → has_bit new a b → has_bit old a b ⊎ MatchAt kinds a b
  pub there : MatchAt kinds near far → has_bit new near far
