-- What a reader sees in the diagram of a good linkage.
use Rattle.std.specs.Prelude.{◌≡◌, ◌⊎◌, ℕ, ◌+◌, ◌<◌, ◌≤◌, List, length, map, Contains}
use Rattle.lg_gram.specs.Linkages.{Linkage}
use Rattle.lg_gram.specs.declared.linkage.Link.{Link}
use Rattle.lg_gram.specs.declared.listing.Token.{Token}
use Rattle.lg_text.specs.Diagrams.{Drawn, cells, starts_of, drawn_of, character_at, shows_at}
use Rattle.lg_text.specs.Texts.{IsPrintable}

-- a plus sign or a bar
abbrev pub IsEnd : ℕ → Type 0
IsEnd c = (c ≡ 43) ⊎ (c ≡ 124)

-- A link is seen: on the line of its height it has a plus sign at each of its ends, and between them its whole label with a dash or more on
-- each side, and nothing else. On each lower line a bar or a plus sign stands at both ends, so that no other link is drawn over it.
pub record IsSeen (links : List Drawn) (d : Drawn) : Type 0 where
  pub apart : d.from + length d.label + 2 < d.to
  pub from_end : character_at links d.height d.from ≡ 43
  pub to_end : character_at links d.height d.to ≡ 43
  pub between : (c : ℕ) → d.from < c → c < d.to → character_at links d.height c ≡ shows_at c d
  pub from_below : (h : ℕ) → 1 ≤ h → h < d.height → IsEnd (character_at links h d.from)
  pub to_below : (h : ℕ) → 1 ≤ h → h < d.height → IsEnd (character_at links h d.to)

-- each link of a good linkage is seen in its diagram
abbrev pub DiagramsShowLinks : Type 0
DiagramsShowLinks =
    (tokens : List Token) (g : Linkage) → IsPrintable tokens g → (starts : List ℕ) → starts ≡ starts_of (cells tokens g) g (length (cells tokens g))
    → (l : Link) → Contains g.links l → IsSeen (map (drawn_of g starts) g.links) (drawn_of g starts l)
