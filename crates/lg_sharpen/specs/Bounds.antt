-- What holds of each linkage that keeps the rules and has few unlinked words.
use Rattle.std.specs.Prelude.{◌≡◌, ℕ, ◌<◌, ◌≤◌, ◌⊎◌, Bool, true, false, not, cond, List, length, Some, slice_get, slice_index_or}
use Rattle.std.specs.List.{All, Contains}
use Rattle.lg_gram.specs.Connectors.{Connector}
use Rattle.lg_gram.specs.Linkages.{Linkage, unlinked, link_length}
use Rattle.lg_gram.specs.Problems.{IsProblem}
use Rattle.lg_gram.specs.Rules.{Rules, IsConnected, IsLinked, HasLink, rights_of, lefts_of, chosen_at}
use Rattle.lg_gram.specs.Walks.{LinkFrom}
use Rattle.lg_gram.specs.declared.disjunct.Disjunct.{Disjunct}
use Rattle.lg_gram.specs.declared.linkage.Link.{Link}
use Rattle.lg_member.specs.Cells.{Table}
use Rattle.lg_member.specs.Members.{formed, AreLeft, AreMembers, Have, side_on}
use Rattle.lg_sharpen.specs.Filling.{Gaps, MaySpan}
use Rattle.lg_sharpen.specs.Sites.{own, place_on, Holds, IsOpen}
use Rattle.lg_member.specs.declared.side.Side.{Side}
use Rattle.lg_sharpen.specs.declared.site.Site.{Site}
use Rattle.lg_member.specs.declared.member.Member.{Member}

-- what stands to the right, or to the left, of a position
abbrev pub list_at : Bool → Linkage → ℕ → List Connector
list_at right g i = cond right (rights_of g i) (lefts_of g i)

-- the linkage keeps the rules, and has fewer unlinked words than this
pub record Fits (most : ℕ) (g : Linkage) : Type 0 where
  pub rules : Rules (rights_of g) (lefts_of g) (HasLink g)
  pub connected : IsConnected (IsLinked g) (LinkFrom (HasLink g))
  pub few : unlinked g < most

-- no link of the position at this end, on the same side of it, is nearer
abbrev pub IsNearest : Linkage → Bool → Link → Type 0
IsNearest g right l = (e : Link) → HasLink g e → own right e ≡ own right l → link_length l ≤ link_length e

-- the position at this end has, on the same side of it, a farther link, which is shorter than this; a nearer one, which is no shorter than this
abbrev pub HasFarther : Linkage → Bool → ℕ → Link → Type 0
HasFarther g right n l = (e : Link) × HasLink g e × (own right e ≡ own right l) × (link_length l < link_length e) × (link_length e < n)

abbrev pub HasNearer : Linkage → Bool → ℕ → Link → Type 0
HasNearer g right n l = (e : Link) × HasLink g e × (own right e ≡ own right l) × (n ≤ link_length e) × (link_length e < link_length l)

-- position i has, on the other side, a link that is no shorter than this
abbrev pub HasAway : Linkage → Bool → ℕ → ℕ → Type 0
HasAway g right n i = (e : Link) × HasLink g e × (own (not right) e ≡ i) × (n ≤ link_length e)

-- the same where it is not 0
abbrev pub Needs : Linkage → Bool → ℕ → ℕ → Type 0
Needs g right n i = (n ≡ 0) ⊎ HasAway g right n i

-- nearest links span no gap that is shut
abbrev pub AllowsGaps : Linkage → Gaps → Type 0
AllowsGaps g gaps = (right : Bool) (l : Link) → HasLink g l → IsNearest g right l → MaySpan right gaps (own right l) (link_length l)

-- the site is that of the link's end to the right, or to the left, and its distances have the link's length
pub record Allows (g : Linkage) (right : Bool) (l : Link) (s : Site) : Type 0 where
  pub connector : slice_get (list_at right g (own right l)) (place_on right l) ≡ Some s.connector
  pub from : s.span.from ≤ link_length l
  pub end : link_length l < s.span.end
  pub nearest : s.nearest ≡ true → IsNearest g right l
  pub later : s.later ≡ true → HasFarther g right s.behind l
  pub before : (s.before ≡ 0) ⊎ HasNearer g right s.before l
  pub need : Needs g right s.need (own right l)

-- the sites are those of the list of position i, and allow all its links
pub record Covers (g : Linkage) (right : Bool) (i : ℕ) (sites : List Site) : Type 0 where
  pub same_length : length sites ≡ length (list_at right g i)
  pub each : (l : Link) → HasLink g l → own right l ≡ i → (s : Site) × (slice_get sites (place_on right l) ≡ Some s) × Allows g right l s

-- the same of the list of sites of a number
abbrev pub CoversAt : Linkage → Bool → ℕ → List (List Site) → ℕ → Type 0
CoversAt g right i lists k = (sites : List Site) × (slice_get lists k ≡ Some sites) × Covers g right i sites

-- a table has a site for each link's end to the right, or to the left
abbrev pub AllowsAll : Linkage → Bool → Table Site → Type 0
AllowsAll g right table = (l : Link) → HasLink g l → (s : Site) × Holds table (own right l) s × Allows g right l s

-- the site allows all links of the place that the sites allow
abbrev pub IsNarrowed : Bool → ℕ → Gaps → ℕ → Table Site → List Site → ℕ → Site → Type 0
IsNarrowed right most gaps i table sites p r =
    (g : Linkage) → Fits most g → AllowsGaps g gaps → AllowsAll g (not right) table → Covers g right i sites → (l : Link) → HasLink g l → own right l ≡ i → place_on right l ≡ p → Allows g right l r

-- sites that allow all links still do
abbrev pub Narrows : Bool → ℕ → Gaps → ℕ → Table Site → List Site → List Site → Type 0
Narrows right most gaps i table old new = (g : Linkage) → Fits most g → AllowsGaps g gaps → AllowsAll g (not right) table → Covers g right i old → Covers g right i new

pub record NarrowsAll (right : Bool) (most : ℕ) (gaps : Gaps) (sides : List Side) (table : Table Site) (old new : List (List Site)) : Type 0 where
  pub long : length new ≡ length old
  pub each : (g : Linkage) → Fits most g → AllowsGaps g gaps → AllowsAll g (not right) table → (k : ℕ) (side : Side) → slice_get sides k ≡ Some side → CoversAt g right side.position old k → CoversAt g right side.position new k

-- sites have this need, and allow all links that they did where the position has it
abbrev pub SetsNeed : ℕ → List Site → List Site → Type 0
SetsNeed n old new = (g : Linkage) (right : Bool) (i : ℕ) → Needs g right n i → Covers g right i old → Covers g right i new

-- the same of the lists of sites, by their numbers
pub record SetsNeeds (needs : List ℕ) (old new : List (List Site)) : Type 0 where
  pub long : length new ≡ length old
  pub each : (g : Linkage) (right : Bool) (i k : ℕ) → Needs g right (slice_index_or needs k 0) i → CoversAt g right i old k → CoversAt g right i new k

pub record AreOpen (lists : List (List Site)) (flags : List Bool) : Type 0 where
  pub each : (k : ℕ) (sites : List Site) → slice_get lists k ≡ Some sites → All IsOpen sites → slice_get flags k ≡ Some true

-- what the linkage uses is a member
abbrev pub AreChosen : Linkage → List Member → Type 0
AreChosen g members = (i : ℕ) (d : Disjunct) → chosen_at g i ≡ Some d → Have members i d

-- the lists, to the right, or to the left, of the members that the linkage uses have sites that allow all links
abbrev pub CoversAll : Linkage → Bool → List (List Site) → List Member → Type 0
CoversAll g right lists members = (m : Member) → Contains members m → chosen_at g m.position ≡ Some (formed m.form) → CoversAt g right m.position lists (side_on right m)

pub record Stands (g : Linkage) (left_lists right_lists : List (List Site)) (members : List Member) : Type 0 where
  pub chosen : AreChosen g members
  pub left : CoversAll g false left_lists members
  pub right : CoversAll g true right_lists members

-- some members go, and what stood for a linkage of n words with few unlinked ones still does
pub record KeepsStanding (n most : ℕ) (old_left old_right : List (List Site)) (old : List Member) (new_left new_right : List (List Site)) (new : List Member) : Type 0 where
  pub left : AreLeft old new
  pub long_left : length new_left ≡ length old_left
  pub long_right : length new_right ≡ length old_right
  pub stands : (g : Linkage) → Fits most g → length g.chosen ≡ n → Stands g old_left old_right old → Stands g new_left new_right new

-- what stood for a linkage with few unlinked words still does, with the same members
pub record KeepsNeeds (old_left old_right : List (List Site)) (members : List Member) (new_left new_right : List (List Site)) : Type 0 where
  pub long_left : length new_left ≡ length old_left
  pub long_right : length new_right ≡ length old_right
  pub stands : (most : ℕ) (g : Linkage) → Fits most g → Stands g old_left old_right members → Stands g new_left new_right members

-- some members go that no linkage of n words with few unlinked ones uses
pub record KeepsChosen (n most : ℕ) (old new : List Member) : Type 0 where
  pub left : AreLeft old new
  pub chosen : (g : Linkage) → Fits most g → length g.chosen ≡ n → AreChosen g old → AreChosen g new

-- the members are those of a problem of n words
pub record AreMembersOf (positions : List (List Disjunct)) (n : ℕ) (lefts rights : List Side) (members : List Member) : Type 0 where
  pub is_problem : IsProblem positions
  pub long : n ≡ length positions
  pub all : AreMembers positions lefts rights members
