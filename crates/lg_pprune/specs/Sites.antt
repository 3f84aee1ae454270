-- Sites: connectors with the positions where their links may end, and tables of sites.
use Rattle.std.specs.Prelude.{◌≡◌, ◌↔◌, ℕ, ◌+◌, ◌-◌, ◌<◌, ◌≤◌, Bool, true, cond, List, length, Some, slice_get, ◌⊎◌}
use Rattle.lg_gram.specs.Connectors.{Connector, Match}
use Rattle.lg_member.specs.Cells.{Table, Stands, class_of}
use Rattle.lg_member.specs.declared.side.Side.{Side}
use Rattle.lg_pprune.specs.declared.site.Site.{Site}

-- Among n positions, the site of the connector at place p of a list of position i: a list to the right, or to the left. Its link
-- ends from the first position that the connectors before it leave up to the last one that those behind it leave.
pub record IsSiteOf (right : Bool) (n i : ℕ) (cs : List Connector) (p : ℕ) (s : Site) : Type 0 where
  pub connector : slice_get cs p ≡ Some s.connector
  pub position : s.position ≡ i
  pub from : s.from ≡ cond right (i + p + 1) (length cs - (p + 1))
  pub end : s.end ≡ cond right ((n + p + 1) - length cs) (i - p)

-- the first site, of a list to the right, and the second, of a list to the left, can be linked
pub record Meets (a b : Site) : Type 0 where
  pub from_left : a.from ≤ b.position
  pub to_left : b.position < a.end
  pub from_right : b.from ≤ a.position
  pub to_right : a.position < b.end
  pub match_at : Match a.connector b.connector

-- the same where the first is of a list to the right, or to the left
abbrev pub MeetsOn : Bool → Site → Site → Type 0
MeetsOn right a b = cond right (Meets a b) (Meets b a)

-- what can be linked to the second can be linked to the first
pub record IsWider (wide s : Site) : Type 0 where
  pub connector : wide.connector ≡ s.connector
  pub position : wide.position ≡ s.position
  pub from : wide.from ≤ s.from
  pub end : s.end ≤ wide.end

-- a table has the site in the cell of its position and its capital letters
abbrev pub Holds : Table Site → Site → Type 0
Holds table s = Stands table s.position (class_of s.connector.caps) s

-- a table has a site that is as wide
abbrev pub IsHeld : Table Site → Site → Type 0
IsHeld table s = (wide : Site) × Holds table wide × IsWider wide s

-- a site of a side of that number that is used
pub record IsUsed (right : Bool) (n : ℕ) (sides : List Side) (used : List Bool) (k : ℕ) (s : Site) : Type 0 where
  pub side : Side
  pub at : slice_get sides k ≡ Some side
  pub on : slice_get used k ≡ Some true
  pub place : ℕ
  pub within : place < length side.list.now
  pub is : IsSiteOf right n side.position side.list.now place s

-- the table has sites of the sides that are used, and no others, and for each of these one that is as wide
pub record IsTableOf (right : Bool) (n : ℕ) (sides : List Side) (used : List Bool) (table : Table Site) : Type 0 where
  pub only : (s : Site) → Holds table s → (k : ℕ) × IsUsed right n sides used k s
  pub held : (s : Site) (k : ℕ) → IsUsed right n sides used k s → IsHeld table s

-- a site meets one of the table
abbrev pub HasPartner : Bool → Table Site → Site → Type 0
HasPartner right table s = (other : Site) × Holds table other × MeetsOn right s other

-- the same, one of this position
pub record MeetsAt (right : Bool) (i : ℕ) (s other : Site) : Type 0 where
  pub position : other.position ≡ i
  pub meets : MeetsOn right s other

-- each site of the list meets one of the table
abbrev pub IsServed : Bool → ℕ → Table Site → ℕ → List Connector → Type 0
IsServed right n table i cs = (p : ℕ) (s : Site) → IsSiteOf right n i cs p s → HasPartner right table s

-- of the sides that are used, those that are served
pub record AreServed (right : Bool) (n : ℕ) (table : Table Site) (sides : List Side) (used good : List Bool) : Type 0 where
  pub each : (k : ℕ) (s : Side) → slice_get sides k ≡ Some s → slice_get used k ≡ Some true → (slice_get good k ≡ Some true) ↔ IsServed right n table s.position s.list.now

-- a table keeps its sites, gets none but those of the first places of a list, and has for each of these one that is as wide
pub record AddsSites (right : Bool) (n i : ℕ) (cs : List Connector) (places : ℕ) (old new : Table Site) : Type 0 where
  pub kept : (x : Site) → Holds old x → Holds new x
  pub only : (x : Site) → Holds new x → Holds old x ⊎ ((p : ℕ) × (p < places) × IsSiteOf right n i cs p x)
  pub held : (p : ℕ) (s : Site) → p < places → IsSiteOf right n i cs p s → IsHeld new s
