-- The least number of unlinked words.
use Rattle.std.specs.Prelude.{◌≡◌, ◌↔◌, ℕ, suc, ◌-◌, ◌<◌, ◌≤◌, List, length, Option, None, Some, ◌⊎◌}
use Rattle.std.specs.List.{Contains}
use Rattle.lg_gram.specs.Linkages.{Linkage}
use Rattle.lg_region.specs.Parts.{UnderWhole}
use Rattle.lg_region.specs.Fronts.{Numbering}
use Rattle.lg_region.specs.Keys.{IsValidKey}
use Rattle.lg_region.specs.Openings.{IsGapOf}
use Rattle.lg_region.specs.declared.alternative.Alt.{Alt}
use Rattle.lg_region.specs.declared.group.Gap.{Gap}
use Rattle.lg_fewest.specs.Spans.{HasFirstSum, HasSum, HasUnlinked, IsAltIn, IsFirstAlt, key_of, left_span, right_span}
use Rattle.lg_fewest.specs.declared.span.Span.{Span}

-- the least number that has a property, or none where no number has it
abbrev pub IsLeast : (ℕ → Type 0) → Option ℕ → Type 0
IsLeast Has None = (m : ℕ) → Has m → ⊥
IsLeast Has (Some least) = Has least × ((m : ℕ) → Has m → least ≤ m)

-- each span stands with its least number
abbrev pub AreLeast : Numbering → List (Span × Option ℕ) → Type 0
AreLeast n entries = (s : Span) (least : Option ℕ) → Contains entries (s, least) → IsLeast (HasUnlinked n s) least

-- there is a number, and it is no more than this one
abbrev pub IsWithin : Option ℕ → ℕ → Type 0
IsWithin None m = ⊥
IsWithin (Some least) m = least ≤ m

-- the least of an old number, if there is one, and of those that have a property
pub record Lowers (Has : ℕ → Type 0) (old new : Option ℕ) : Type 0 where
  pub kept : (m : ℕ) → IsWithin old m → IsWithin new m
  pub all : (m : ℕ) → Has m → IsWithin new m
  pub one_of : (m : ℕ) → new ≡ Some m → (old ≡ Some m) ⊎ Has m

-- the span may be asked for, and is narrower than another
abbrev pub IsNarrower : Numbering → Span → Span → Type 0
IsNarrower n s t = IsValidKey n.positions n.lists (key_of t) × (t.right - t.left < s.right - s.left)

-- A span without a gap has two empty lists, and between these all words are unlinked. Else the numbers of a span's unlinked words are the
-- sums over its cuts. Those of the sentence are the sums over its first linked words, and the number of all words.
pub record SumsDecide (n : Numbering) : Type 0 where
  pub few : (s : Span) (m : ℕ) → HasUnlinked n s m → m ≤ s.right - suc s.left
  pub bare : (s : Span) → IsValidKey n.positions n.lists (key_of s) → ((gap : Gap) → IsGapOf n (key_of s) gap → ⊥) → (s.llist ≡ 0) × (s.rlist ≡ 0)
  pub unlinked : (s : Span) → IsValidKey n.positions n.lists (key_of s) → (s.llist ≡ 0) × (s.rlist ≡ 0) → (m : ℕ) → HasUnlinked n s m ↔ (m ≡ s.right - suc s.left)
  pub cut : (s : Span) → IsValidKey n.positions n.lists (key_of s) → ((s.llist ≡ 0) × (s.rlist ≡ 0) → ⊥) → (m : ℕ) → HasUnlinked n s m → (a : Alt) × IsAltIn n s a × HasSum n a m
  pub joined : (s : Span) → IsValidKey n.positions n.lists (key_of s) → (a : Alt) (m : ℕ) → IsAltIn n s a → HasSum n a m → HasUnlinked n s m
  pub left : (s t : Span) (a : Alt) → IsValidKey n.positions n.lists (key_of s) → IsAltIn n s a → left_span a ≡ Some t → IsNarrower n s t
  pub right : (s t : Span) (a : Alt) → IsValidKey n.positions n.lists (key_of s) → IsAltIn n s a → right_span a ≡ Some t → IsNarrower n s t
  pub firsts : (m : ℕ) → ((g : Linkage) × UnderWhole n.positions m g) ↔ ((m ≡ length n.positions) ⊎ ((a : Alt) × IsFirstAlt n a × HasFirstSum n a m))
  pub behind : (t : Span) (a : Alt) → IsFirstAlt n a → right_span a ≡ Some t → IsValidKey n.positions n.lists (key_of t)
