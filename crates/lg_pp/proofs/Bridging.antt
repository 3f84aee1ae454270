-- Links whose ends no walk over the other links joins.
use Rattle.std.proofs.Common.{◌≡◌, ◌≢◌, ℕ, ◌<◌, ◌≤◌, List, length, get_or, take, ◌↔◌, All, Contains, arith}
use Rattle.std.specs.Prelude.{slice_index}
use Rattle.std.proofs.lemmas.List.{take_all}
use Rattle.std.proofs.lemmas.List.Elements.{Contains-get_or}
use Rattle.lg_gram.specs.Linkages.{Linkage}
use Rattle.lg_gram.specs.Rules.{HasLink}
use Rattle.lg_gram.specs.Walks.{LinkFrom}
use Rattle.lg_gram.specs.declared.linkage.Link.{Link}
use Rattle.lg_walks.specs.Islands.{IsWithin, AreIslands}
use Rattle.lg_pp.specs.Judging.{IsBridge}
use Rattle.lg_pp.specs.Labels.{IsGood}
use Rattle.lg_pp.proofs.Good.{ends_within}
use Rattle.lg_pp.proofs.Kept.{AreKept}
use Rattle.lg_pp.proofs.Walking.{walk_along}

-- the links of a linkage but one
abbrev pub AreOthers : Linkage → Link → List Link → Type 0
AreOthers g link others = (l : Link) → Contains others l ↔ (HasLink g l × (l ≢ link))

pub others_all : (g : Linkage) (link : Link) (n : ℕ) (links kept : List Link) → links ≡ g.links → length links ≤ n → AreKept (λ m. m ≢ link) (take n links) kept → AreOthers g link kept
others_all g link n links kept e past are = let whole = take_all n links past in rw (← e, ← whole) are

pub others_within : (g : Linkage) (link : Link) (n : ℕ) (others : List Link) → IsGood g → length g.chosen ≤ n → AreOthers g link others → All (IsWithin n) others
others_within g link n others good few are k d less =
    let h = ends_within g good (get_or others k d) ((are (get_or others k d)).0 (Contains-get_or others k d less)).0 in
    (omega arith, omega arith)

-- the islands of the others tell whether a link is a bridge
pub bridge_tell : (g : Linkage) (link : Link) (others : List Link) (islands : List ℕ) → AreOthers g link others → AreIslands others islands → link.left < length islands → link.right < length islands →
    (slice_index islands link.left ≢ slice_index islands link.right) ↔ IsBridge g link
bridge_tell g link others islands are tell left right =
    let E = LinkFrom (Contains others) in
    let F = LinkFrom (λ m. HasLink g m × (m ≢ link)) in
    let same = tell link.left link.right left right in (
      λ apart walk. apart (same.1 (walk_along F E (λ a b e. (e.0, (are e.0).1 e.1, e.2, e.3)) link.left link.right walk)),
      λ bridge e. bridge (walk_along E F (λ a b e. (e.0, (are e.0).0 e.1, e.2, e.3)) link.left link.right (same.0 e)),
    )
