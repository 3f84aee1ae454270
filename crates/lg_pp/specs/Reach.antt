-- How domains are found: flags, one for each link.
use Rattle.std.specs.Prelude.{◌≡◌, ◌↔◌, ◌⊎◌, ℕ, ◌<◌, List, [], length, Bool, false, IsTrue, slice_index, slice_index_or}
use Rattle.std.specs.List.{AllZip, Any, Contains}
use Rattle.lg_gram.specs.Linkages.{Linkage}
use Rattle.lg_gram.specs.Names.{Name}
use Rattle.lg_gram.specs.declared.linkage.Link.{Link}
use Rattle.lg_knowread.specs.declared.knowledge.Knowledge.{Knowledge}
use Rattle.lg_knowread.specs.declared.knowledge.Start.{Start}
use Rattle.lg_pp.specs.Domains.{Begins, InDomain, IsNumber, IsOffRoot, Reaches}
use Rattle.lg_pp.specs.Labels.{Matches, MatchesOne}

-- a link with this label starts a domain of this kind
abbrev pub StartsKind : List Start → ℕ → Name → Type 0
StartsKind starts kind label = Any (λ start. (start.kind ≡ kind) × Matches start.pattern label) starts

-- it starts a domain of some kind
abbrev pub StartsOne : List Start → Name → Type 0
StartsOne starts label = Any (λ start. Matches start.pattern label) starts

-- one flag for each link, true exactly where this holds of the link
abbrev pub AreFlags : (Link → Type 0) → List Link → List Bool → Type 0
AreFlags P links flags = AllZip (λ l flag. IsTrue flag ↔ P l) links flags

-- the flags of the links that a knowledge ignores
abbrev pub Ignores : Knowledge → Linkage → List Bool → Type 0
Ignores know g flags = AreFlags (MatchesOne know.ignored g) g.links flags

-- the links that are not ignored and do not touch the root, and no others
abbrev pub AreOffRoot : Knowledge → Linkage → ℕ → List Link → Type 0
AreOffRoot know g root links = (l : Link) → Contains links l ↔ IsOffRoot know g root l

-- a word has the label of the start link's right word exactly where it is reached
abbrev pub TellReach : Knowledge → Linkage → Link → List ℕ → Type 0
TellReach know g start islands =
    (i : ℕ) → i < length islands → (slice_index islands i ≡ slice_index islands start.right) ↔ Reaches know g start i

-- by the labels of words: the start link itself, or a link that is not ignored and has an end that is reached
abbrev pub IsCollected : Bool → Link → List ℕ → Link → Type 0
IsCollected ignored start islands l =
    let home = slice_index islands start.right in
    (l ≡ start) ⊎ (((slice_index islands l.left ≡ home) ⊎ (slice_index islands l.right ≡ home)) × (IsTrue ignored → ⊥))

-- a link that starts a domain of some kind
abbrev pub IsStart : Knowledge → Linkage → Link → Type 0
IsStart know g l = (kind : ℕ) × Begins know g kind l

-- a link starts a domain of some kind, and another lies in that domain
abbrev pub Collects : Knowledge → Linkage → Link → Link → Type 0
Collects know g start l = IsStart know g start × InDomain know g start l

-- which links lie in the domain that a link starts; no flags where it starts none
pub record IsRow (know : Knowledge) (g : Linkage) (start : Link) (row : List Bool) : Type 0 where
  pub whole : (row ≡ []) ⊎ (length row ≡ length g.links)
  pub exactly : (n : ℕ) (l : Link) → IsNumber g n l → IsTrue (slice_index_or row n false) ↔ Collects know g start l

-- for each link its row
abbrev pub AreRows : Knowledge → Linkage → List (List Bool) → Type 0
AreRows know g rows = AllZip (IsRow know g) g.links rows
