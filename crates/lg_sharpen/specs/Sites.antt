-- Sites: connectors of lists with the distances of their partners, and tables of sites.
use Rattle.std.specs.Prelude.{◌≡◌, ℕ, ◌+◌, ◌-◌, ◌<◌, ◌≤◌, Bool, true, false, not, cond, List, length, map, Some, slice_get}
use Rattle.std.specs.Global.{Vec}
use Rattle.std.specs.List.{All}
use Rattle.lg_gram.specs.Connectors.{Connector, Match}
use Rattle.lg_gram.specs.Linkages.{link_length}
use Rattle.lg_gram.specs.declared.linkage.Link.{Link}
use Rattle.lg_member.specs.Cells.{Table, Stands, class_of}
use Rattle.lg_member.specs.declared.side.Side.{Side}
use Rattle.lg_sharpen.specs.Filling.{Gaps, MaySpan}
use Rattle.lg_sharpen.specs.declared.site.Site.{Site}
use Rattle.lg_sharpen.specs.declared.table.Column.{Column}

-- the position at this end of a link, and the place there: the end of the list to the right, or to the left
abbrev pub own : Bool → Link → ℕ
own right l = cond right l.left l.right

abbrev pub place_on : Bool → Link → ℕ
place_on right l = cond right l.lplace l.rplace

-- the position that lies this far to the right, or to the left
abbrev pub across : Bool → ℕ → ℕ → ℕ
across right i d = cond right (i + d) (i - d)

-- two connectors match, the first of a list to the right, or to the left
abbrev pub MatchOn : Bool → Connector → Connector → Type 0
MatchOn right a b = cond right (Match a b) (Match b a)

-- where a connector stands behind the site, its links go farther than the links of the other's position that lead away from it
abbrev pub StaysUnder : Site → Site → ℕ → Type 0
StaysUnder s other d = s.later ≡ true → d + other.need < s.behind

-- A site, of a list to the right, or to the left, and one that lies this far away can be linked, where the other may, or may not, have its nearest link over
-- this distance.
pub record MeetsOver (right lone : Bool) (d : ℕ) (s other : Site) : Type 0 where
  pub from : other.span.from ≤ d
  pub end : d < other.span.end
  pub nearest : other.nearest ≡ true → lone ≡ true
  pub later : s.later ≡ true → other.later ≡ true → ⊥
  pub before : s.before + other.before ≤ d
  pub behind : StaysUnder s other d
  pub beyond : StaysUnder other s d
  pub match_at : MatchOn right s.connector other.connector

-- A link of this length from position i to the right, or to the left, may be the nearest of its other end. Where it is the nearest of both it is no longer than
-- the most.
pub record MayBeLone (right : Bool) (most : ℕ) (gaps : Gaps) (i d : ℕ) (nearest : Bool) : Type 0 where
  pub span : MaySpan (not right) gaps (across right i d) d
  pub short : nearest ≡ true → d ≤ most

-- the same, and it may be the nearest of both where it is to be
pub record IsPartner (right : Bool) (most : ℕ) (gaps : Gaps) (i d : ℕ) (s other : Site) : Type 0 where
  pub from : other.span.from ≤ d
  pub end : d < other.span.end
  pub own : s.nearest ≡ true → MaySpan right gaps i d
  pub lone : other.nearest ≡ true → MayBeLone right most gaps i d s.nearest
  pub later : s.later ≡ true → other.later ≡ true → ⊥
  pub before : s.before + other.before ≤ d
  pub behind : StaysUnder s other d
  pub beyond : StaysUnder other s d
  pub match_at : MatchOn right s.connector other.connector

-- what can be linked to the second can be linked to the first
pub record IsWider (wide s : Site) : Type 0 where
  pub from : wide.span.from ≤ s.span.from
  pub end : s.span.end ≤ wide.span.end
  pub nearest : wide.nearest ≡ true → s.nearest ≡ true
  pub later : wide.later ≡ true → s.later ≡ true
  pub before : wide.before ≤ s.before
  pub behind : s.behind ≤ wide.behind
  pub need : wide.need ≤ s.need
  pub connector : wide.connector ≡ s.connector

-- more than the length of each link that a position of n can have, to the right, or to the left
abbrev pub IsReach : Bool → ℕ → ℕ → ℕ → Type 0
IsReach right n i r = (l : Link) → l.left < l.right → l.right < n → own right l ≡ i → link_length l < r

-- the site of a place of a list allows all distances below this one
pub record IsStarted (cs : List Connector) (end p : ℕ) (s : Site) : Type 0 where
  pub connector : slice_get cs p ≡ Some s.connector
  pub from : s.span.from ≤ 1
  pub end_is : end ≤ s.span.end
  pub nearest : s.nearest ≡ true → (p ≡ 0) × (s.connector.multi ≡ false)
  pub later : s.later ≡ true → p + 1 < length cs
  pub before : s.before ≡ 0
  pub behind : end ≤ s.behind
  pub need : s.need ≡ 0

pub record AreStarted (cs : List Connector) (end : ℕ) (sites : List Site) : Type 0 where
  pub same_length : length sites ≡ length cs
  pub each : (p : ℕ) (s : Site) → slice_get sites p ≡ Some s → IsStarted cs end p s

-- each list has a site for each connector, which allows all distances
pub record AreStartedAll (right : Bool) (n : ℕ) (sides : List Side) (lists : List (List Site)) : Type 0 where
  pub same_length : length lists ≡ length sides
  pub each : (k : ℕ) (side : Side) → slice_get sides k ≡ Some side → (end : ℕ) × IsReach right n side.position end × (sites : List Site) × (slice_get lists k ≡ Some sites) × AreStarted side.list.now end sites

-- the column is that of the site's capital letters
pub record IsColumnOf (s : Site) (column : Column) : Type 0 where
  pub class : column.class ≡ class_of s.connector.caps
  pub small : column.class < 64

-- a table has the site, of this position, in the cell of the position and its capital letters
abbrev pub Holds : Table Site → ℕ → Site → Type 0
Holds table i s = Stands table i (class_of s.connector.caps) s

-- a table has a site that is as wide
abbrev pub IsHeld : Table Site → ℕ → Site → Type 0
IsHeld table i s = (wide : Site) × Holds table i wide × IsWider wide s

-- a table keeps its sites, and has the first ones of a list of position i
pub record AddsSites (i : ℕ) (sites : List Site) (places : ℕ) (old new : Table Site) : Type 0 where
  pub kept : (j : ℕ) (x : Site) → Holds old j x → Holds new j x
  pub each : (p : ℕ) (s : Site) → p < places → slice_get sites p ≡ Some s → IsHeld new i s

-- a distance is left
abbrev pub IsOpen : Site → Type 0
IsOpen s = s.span.from < s.span.end

-- the same of a whole list, where each of its sites has a distance left
pub record AddsOpen (i : ℕ) (sites : List Site) (old new : Table Site) : Type 0 where
  pub kept : (j : ℕ) (x : Site) → Holds old j x → Holds new j x
  pub each : All IsOpen sites → (p : ℕ) (s : Site) → slice_get sites p ≡ Some s → IsHeld new i s

-- the table has the sites of the lists in use that have a distance left for each of their sites
abbrev pub IsTableOf : List Side → List Bool → List (List Site) → Table Site → Type 0
IsTableOf sides used lists table = (k : ℕ) (side : Side) (sites : List Site) (p : ℕ) (s : Site) → slice_get sides k ≡ Some side → slice_get used k ≡ Some true
    → slice_get lists k ≡ Some sites → All IsOpen sites → slice_get sites p ≡ Some s → IsHeld table side.position s

-- the table has a partner of a site of position i over this distance
abbrev pub HasPartner : Bool → ℕ → Gaps → ℕ → Table Site → Site → ℕ → Type 0
HasPartner right most gaps i table s d = (other : Site) × Holds table (across right i d) other × IsPartner right most gaps i d s other

-- no partner is nearer than this, and none is as far as this
abbrev pub IsFrom : Bool → ℕ → Gaps → ℕ → Table Site → Site → ℕ → Type 0
IsFrom right most gaps i table s r = (d : ℕ) → d < s.span.end → s.span.from ≤ d → HasPartner right most gaps i table s d → r ≤ d

abbrev pub IsBelow : Bool → ℕ → Gaps → ℕ → Table Site → Site → ℕ → Type 0
IsBelow right most gaps i table s r = (d : ℕ) → d < s.span.end → s.span.from ≤ d → HasPartner right most gaps i table s d → d < r

-- no more than any distance from here on that is more than another, and more than any distance below an end that is less than another
abbrev pub IsAfter : ℕ → ℕ → ℕ → Type 0
IsAfter from before r = (d : ℕ) → from ≤ d → before < d → r ≤ d

abbrev pub IsAhead : ℕ → ℕ → ℕ → Type 0
IsAhead end behind r = (d : ℕ) → d < end → d + 1 < behind → d < r

-- no more than the distances of a place, which are more than one of the place before
abbrev pub IsFromOf : List Site → ℕ → ℕ → Type 0
IsFromOf sites p r = (d : ℕ) (s : Site) → slice_get sites p ≡ Some s → s.span.from ≤ d → ((q : ℕ) (t : Site) → q + 1 ≡ p → slice_get sites q ≡ Some t → t.span.from < d) → r ≤ d

-- more than the distances of a place, which are less than one of the next place
abbrev pub IsEndOf : List Site → ℕ → ℕ → Type 0
IsEndOf sites p r = (d : ℕ) (s : Site) → slice_get sites p ≡ Some s → d < s.span.end → ((t : Site) → slice_get sites (p + 1) ≡ Some t → d + 1 < t.span.end) → d < r

-- no more than the distances of the place before, and 0 where there is none
pub record IsBeforeOf (sites : List Site) (p r : ℕ) : Type 0 where
  pub first : p ≡ 0 → r ≡ 0
  pub other : (q : ℕ) (t : Site) → q + 1 ≡ p → slice_get sites q ≡ Some t → r ≤ t.span.from

-- no less than the ends of the next place, and than what was known where there is none
pub record IsBehindOf (sites : List Site) (p r : ℕ) : Type 0 where
  pub last : (s : Site) → slice_get sites p ≡ Some s → length sites ≤ p + 1 → s.behind ≤ r
  pub other : (t : Site) → slice_get sites (p + 1) ≡ Some t → t.span.end ≤ r

abbrev pub items_in : List (Vec Site) → List (List Site)
items_in lists = map (λ v. v.items) lists
