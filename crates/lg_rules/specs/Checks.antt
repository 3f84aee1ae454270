-- What the checker tests of one link, of two links, and of a side.
use Rattle.std.specs.Prelude.{◌≡◌, ℕ, ◌<◌, ◌≤◌, Bool, ◌==◌, ◌&&◌, List, Some, slice_get, MatchBool}
use Rattle.lg_gram.specs.Connectors.{Connector}
use Rattle.lg_gram.specs.Linkages.{Linkage, link_length}
use Rattle.lg_gram.specs.Rules.{HasLink, Serves}
use Rattle.lg_gram.specs.declared.linkage.Link.{Link}
use Rattle.lg_rules.specs.Places.{side_of}
use Rattle.lg_rules.specs.Verdicts.{end_of, place_of}

-- link n is one of these
abbrev pub IsSuch : (Link → Type 0) → List Link → ℕ → Type 0
IsSuch Such links n = (l : Link) × (slice_get links n ≡ Some l) × Such l

-- whether the link stands at this place of this side
abbrev pub is_at : Bool → ℕ → ℕ → Link → Bool
is_at right i p l = (end_of right l == i) && (place_of right l == p)

-- how many links a connector may have: one, or at least one where it is multi
abbrev pub IsCount : Bool → ℕ → Type 0
IsCount multi n = MatchBool multi (1 ≤ n) (n ≡ 1)

-- each connector of this side of a position has its links
abbrev pub AreServed : Linkage → ℕ → Bool → Type 0
AreServed g i right = (p : ℕ) (c : Connector) → slice_get (side_of g right i) p ≡ Some c → Serves (HasLink g) (end_of right) (place_of right) i p c

-- the second link begins inside the first and ends outside
abbrev pub Crosses : Link → Link → Type 0
Crosses k l = (k.left < l.left) × (l.left < k.right) × (k.right < l.right)

-- the two links join the same two positions
abbrev pub IsTwin : Link → Link → Type 0
IsTwin k l = (k.left ≡ l.left) × (k.right ≡ l.right)

-- the second link has the same position as its side, a later place there, and is not longer
abbrev pub IsOutdone : Bool → Link → Link → Type 0
IsOutdone right k l = (end_of right l ≡ end_of right k) × (place_of right k < place_of right l) × (link_length l ≤ link_length k)
