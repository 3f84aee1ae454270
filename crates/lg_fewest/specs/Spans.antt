-- Regions whatever they leave unlinked, and how many words linkages under them leave unlinked.
use Rattle.std.specs.Prelude.{◌≡◌, ℕ, ◌+◌, ◌-◌, length, Option, None, Some}
use Rattle.lg_region.specs.Parts.{Region}
use Rattle.lg_region.specs.Laws.{HasLinkage}
use Rattle.lg_region.specs.Fronts.{Numbering}
use Rattle.lg_region.specs.Groups.{StandsIn}
use Rattle.lg_region.specs.Keys.{IsAltOfRegion, IsAltOfWhole, region_of_numbers}
use Rattle.lg_region.specs.Openings.{BeginsSo}
use Rattle.lg_region.specs.declared.key.Key.{Key}
use Rattle.lg_region.specs.declared.key.Key.TheVariants.{Region as Between}
use Rattle.lg_region.specs.declared.alternative.Alt.{Alt}
use Rattle.lg_region.specs.declared.alternative.Alt.TheVariants.{AllNull, Split as At}
use Rattle.lg_region.specs.declared.group.Gap.{Gap}
use Rattle.lg_region.specs.declared.group.Group.{Group}
use Rattle.lg_region.specs.declared.opening.Beginning.{Beginning}
use Rattle.lg_fewest.specs.declared.span.Span.{Span}

-- the key of a span with no unlinked word
abbrev pub key_of : Span → Key
key_of s = Between s.left s.right s.llist s.rlist 0

-- the region of a span with so many unlinked words
abbrev pub region_at : Numbering → Span → ℕ → Region
region_at n s nulls = region_of_numbers n.lists s.left s.right s.llist s.rlist nulls

-- some linkage of the span leaves so many words unlinked
abbrev pub HasUnlinked : Numbering → Span → ℕ → Type 0
HasUnlinked n s nulls = HasLinkage n.positions (region_at n s nulls)

-- a cut of the span: an alternative of its region with no unlinked word
abbrev pub IsAltIn : Numbering → Span → Alt → Type 0
IsAltIn n s a = IsAltOfRegion n.positions n.lists (region_at n s 0) a

-- the span of a key, if it is that of a region
abbrev pub span_in : Option Key → Option Span
span_in (Some (Between left right llist rlist nulls)) = Some (record { left = left; right = right; llist = llist; rlist = rlist })
span_in _ = None

-- the spans to the left and to the right of an alternative's word
abbrev pub left_span : Alt → Option Span
left_span AllNull = None
left_span (At word number to_left to_right lkey rkey) = span_in lkey

abbrev pub right_span : Alt → Option Span
right_span AllNull = None
right_span (At word number to_left to_right lkey rkey) = span_in rkey

-- the span is there, and has a linkage with so many
abbrev pub HasIn : Numbering → Option Span → ℕ → Type 0
HasIn n None nulls = ⊥
HasIn n (Some s) nulls = HasUnlinked n s nulls

-- linkages of the two spans of an alternative leave so many words unlinked together
abbrev pub HasSum : Numbering → Alt → ℕ → Type 0
HasSum n a sum = (x : ℕ) × (y : ℕ) × HasIn n (left_span a) x × HasIn n (right_span a) y × (x + y ≡ sum)

-- and it is a cut of the span that has P
abbrev pub IsCutSum : Numbering → Span → (Alt → Type 0) → ℕ → Type 0
IsCutSum n s P sum = (a : Alt) × IsAltIn n s a × P a × HasSum n a sum

-- it cuts at this word
abbrev pub StandsAt : ℕ → Alt → Type 0
StandsAt word AllNull = ⊥
StandsAt word (At w number to_left to_right lkey rkey) = w ≡ word

-- it stands in the group and begins so
abbrev pub IsEnding : Gap → Group → Beginning → Alt → Type 0
IsEnding gap g b a = StandsIn g.word g.from g.to a × BeginsSo gap g b a

-- a first linked word of the sentence: an alternative with as many unlinked words as there can be then
abbrev pub IsFirstAlt : Numbering → Alt → Type 0
IsFirstAlt n a = IsAltOfWhole n.positions n.lists (length n.positions - 1) a

abbrev pub word_in : Alt → ℕ
word_in AllNull = 0
word_in (At word number to_left to_right lkey rkey) = word

-- the words before its word and those that a linkage behind it leaves unlinked are so many
abbrev pub HasFirstSum : Numbering → Alt → ℕ → Type 0
HasFirstSum n a sum = (y : ℕ) × HasIn n (right_span a) y × (word_in a + y ≡ sum)

-- what lies to the left of the cuts that begin so
abbrev pub span_before : Gap → Group → Beginning → Span
span_before gap g b = record { left = gap.left; right = g.word; llist = b.way.near; rlist = b.way.far }
