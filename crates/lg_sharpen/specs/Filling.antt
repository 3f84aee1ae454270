-- Gaps: the words under the nearest link of a word, to one side of it. They link among themselves and with that link's other end alone, or are unlinked.
use Rattle.std.specs.Prelude.{◌≡◌, ℕ, ◌+◌, ◌-◌, ◌<◌, ◌≤◌, Bool, true, false, cond, ltb, min, List, [], ◌∷◌, length, map, slice_index_or}
use Rattle.std.specs.Global.{Vec}
use Rattle.std.specs.List.{Contains, count_by, range_with_len}
use Rattle.lg_member.specs.declared.member.Member.{Member}
use Rattle.lg_sharpen.specs.declared.gaps.Way.{Way}
use Rattle.lg_sharpen.specs.declared.site.Site.{Site}

abbrev pub rows_in : {A : Type 0} → List (Vec A) → List (List A)
rows_in {A} rows = map (λ v. v.items) rows

abbrev pub flag_at : List (List Bool) → ℕ → ℕ → Bool
flag_at rows i d = slice_index_or (slice_index_or rows i []) d true

-- What contracts see of gaps: to the right and to the left for each position a flag for each length.
pub record Gaps : Type 0 where
  pub right : List (List Bool)
  pub left : List (List Bool)

-- the nearest link of position i, to the right, or to the left, may be this long
abbrev pub MaySpan : Bool → Gaps → ℕ → ℕ → Type 0
MaySpan right gaps i d = flag_at (cond right gaps.right gaps.left) i d ≡ true

-- how long each link of a list is at least
abbrev pub need_of : List Site → ℕ
need_of [] = 0
need_of (s ∷ ss) = s.span.from

abbrev pub need_at : List (List Site) → ℕ → ℕ
need_at lists k = need_of (slice_index_or lists k [])

-- how far to the right a word's links go at least, where none goes to the left of a position
abbrev pub least_at : List (List ℕ) → ℕ → ℕ → ℕ
least_at rows w a = slice_index_or (slice_index_or rows w []) a 0

-- numbers are no greater than they were, and the first ones no greater than an end
pub record IsLowered (count end : ℕ) (old new : List ℕ) : Type 0 where
  pub lower : (a : ℕ) → slice_index_or new a 0 ≤ slice_index_or old a 0
  pub noted : (a : ℕ) → a < count → slice_index_or new a 0 ≤ end

-- a way to link position i is noted, by the least lengths of its links to the left and to the right
pub record Notes (i left right : ℕ) (old new : List (List ℕ)) : Type 0 where
  pub lower : (w a : ℕ) → least_at new w a ≤ least_at old w a
  pub noted : (a : ℕ) → a ≤ i - left → least_at new i a ≤ i + right

-- the same of one way
abbrev pub IsNoted : Way → List (List ℕ) → Type 0
IsNoted w rows = (a : ℕ) → a ≤ w.position - w.left → least_at rows w.position a ≤ w.position + w.right

-- the ways to link that members have are noted
abbrev pub AreLeast : List (List Site) → List (List Site) → List Member → List (List ℕ) → Type 0
AreLeast lefts rights members rows = (m : Member) → Contains members m → (a : ℕ) → a ≤ m.position - need_at lefts m.left → least_at rows m.position a ≤ m.position + need_at rights m.right

-- The words under a link of position i, of this length, to the right, or to the left: the first of them, and the first and the last position that they link
-- with where no link of i is nearer.
abbrev pub under : Bool → ℕ → ℕ → ℕ
under right i d = cond right i (i - d) + 1

abbrev pub first_of : Bool → ℕ → ℕ → ℕ
first_of right i d = cond right (i + 1) (i - d)

abbrev pub last_of : Bool → ℕ → ℕ → ℕ
last_of right i d = cond right (i + d) (i - 1)

-- how many of so many words, from one on, have no way to link from one position to another
abbrev pub stuck_in : List (List ℕ) → ℕ → ℕ → ℕ → ℕ → ℕ
stuck_in rows first last word count = count_by (λ end. ltb last end) (map (λ w. least_at rows w first) (range_with_len word count))

abbrev pub stuck_under : Bool → List (List ℕ) → ℕ → ℕ → ℕ
stuck_under right rows i d = stuck_in rows (first_of right i d) (last_of right i d) (under right i d) (d - 1)

-- how many of so many words, from one on, have no way to link at all, where there are n words
abbrev pub void_in : List (List ℕ) → ℕ → ℕ → ℕ → ℕ
void_in rows n word count = stuck_in rows 0 n word count

-- the same of all words but those under a link; the word behind these
abbrev pub behind_under : Bool → ℕ → ℕ → ℕ
behind_under right i d = under right i d + (d - 1)

abbrev pub void_beside : Bool → List (List ℕ) → ℕ → ℕ → ℕ → ℕ
void_beside right rows n i d = void_in rows n 0 (min (under right i d) n) + void_in rows n (behind_under right i d) (n - behind_under right i d)

-- how many of n words have no way to link where the nearest link of position i has this length
abbrev pub left_over : Bool → List (List ℕ) → ℕ → ℕ → ℕ → ℕ
left_over right rows n i d = stuck_under right rows i d + void_beside right rows n i d

-- for each number of words, from none to n, how many of the first ones have no way to link at all
pub record AreVoids (n : ℕ) (rows : List (List ℕ)) (voids : List ℕ) : Type 0 where
  pub long : length voids ≡ n + 1
  pub each : (w : ℕ) → w ≤ n → slice_index_or voids w 0 ≡ void_in rows n 0 w

-- the word of a side with so many words before it, and how many of the first m words of that side are stuck under a link of this length
abbrev pub word_beside : Bool → ℕ → ℕ → ℕ
word_beside right i m = cond right (i + m + 1) (i - m - 1)

abbrev pub stuck_near : Bool → List (List ℕ) → ℕ → ℕ → ℕ → ℕ
stuck_near right rows i d m = stuck_in rows (first_of right i d) (last_of right i d) (cond right (i + 1) (i - m)) m

-- for each length no more words are counted than are stuck under such a link
abbrev pub AreStuck : Bool → List (List ℕ) → ℕ → List ℕ → Type 0
AreStuck right rows i counts = (d : ℕ) → slice_index_or counts d 0 ≤ stuck_under right rows i d

-- the same of the first m words of the side
pub record AreStuckTo (right : Bool) (rows : List (List ℕ)) (i m : ℕ) (counts : List ℕ) : Type 0 where
  pub below : (d : ℕ) → d < length counts → d ≤ m → slice_index_or counts d 0 ≤ stuck_near right rows i d (d - 1)
  pub above : (d : ℕ) → d < length counts → m < d → slice_index_or counts d 0 ≤ stuck_near right rows i d m

-- a word more is counted
pub record CountsWord (right : Bool) (rows : List (List ℕ)) (i m : ℕ) (old new : List ℕ) : Type 0 where
  pub same_length : length new ≡ length old
  pub counted : AreStuckTo right rows i m old → AreStuckTo right rows i (m + 1) new

-- what flags refuse leaves too many words unlinked
abbrev pub IsSpanRow : Bool → ℕ → ℕ → List (List ℕ) → ℕ → List Bool → Type 0
IsSpanRow right n most rows i flags = (d : ℕ) → slice_index_or flags d true ≡ false → most ≤ left_over right rows n i d

abbrev pub AreSpans : Bool → ℕ → ℕ → List (List ℕ) → List (List Bool) → Type 0
AreSpans right n most rows flags = (i d : ℕ) → flag_at flags i d ≡ false → most ≤ left_over right rows n i d

-- gaps are shut only where that many of n words have no way to link
pub record Shuts (n most : ℕ) (rows : List (List ℕ)) (gaps : Gaps) : Type 0 where
  pub right : AreSpans true n most rows gaps.right
  pub left : AreSpans false n most rows gaps.left

-- the same by the ways to link that members have
pub record AreGaps (n most : ℕ) (lefts rights : List (List Site)) (members : List Member) (gaps : Gaps) : Type 0 where
  pub rows : List (List ℕ)
  pub least : AreLeast lefts rights members rows
  pub shuts : Shuts n most rows gaps
