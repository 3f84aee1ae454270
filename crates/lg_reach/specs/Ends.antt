-- Where the links of a linkage end, and the tables of sites that know of them.
use Rattle.std.specs.Prelude.{◌≡◌, ℕ, ◌≤◌, Bool, true, false, not, ◌&&◌, cond, List, length, Option, None, Some, slice_get}
use Rattle.std.specs.Borrow.{Bor}
use Rattle.std.specs.List.{Contains}
use Rattle.lg_eprune.specs.Live.{WordTree, AreOf}
use Rattle.lg_gram.specs.Connectors.{Connector}
use Rattle.lg_gram.specs.Disjuncts.{choice_of}
use Rattle.lg_gram.specs.Linkages.{Linkage, link_length}
use Rattle.lg_gram.specs.Measures.{Choice, choices_of}
use Rattle.lg_gram.specs.Rules.{Good, HasLink, chosen_at}
use Rattle.lg_gram.specs.declared.disjunct.Disjunct.{Disjunct}
use Rattle.lg_gram.specs.declared.linkage.Link.{Link}
use Rattle.lg_member.specs.Cells.{Stands, class_of}
use Rattle.lg_sharpen.specs.Bounds as few
use Rattle.lg_sharpen.specs.Bounds.{AllowsGaps, list_at}
use Rattle.lg_sharpen.specs.Filling.{least_at}
use Rattle.lg_sharpen.specs.Sites.{own, place_on}
use Rattle.lg_reach.specs.declared.known.Known.{Known}
use Rattle.lg_reach.specs.declared.nearest.Stand.{Stand}
use Rattle.lg_reach.specs.declared.site.Site.{Site}
use Rattle.lg_reach.specs.declared.site.Sites.{Sites}

-- a link joins this connector of position i, and is n long
pub record Ends (g : Linkage) (i : ℕ) (c : Connector) (n : ℕ) : Type 0 where
  pub link : Link
  pub has : HasLink g link
  pub at : own c.right link ≡ i
  pub connector : slice_get (list_at c.right g i) (place_on c.right link) ≡ Some c
  pub long : link_length link ≡ n

-- no link of position i, on this side, is shorter
abbrev pub AreNoShorter : Linkage → Bool → ℕ → ℕ → Type 0
AreNoShorter g right i n = (e : Link) → HasLink g e → own right e ≡ i → n ≤ link_length e

-- a link ends so, and where nothing comes before the connector on its side, it is the nearest there
pub record EndsSo (g : Linkage) (i : ℕ) (first : Bool) (c : Connector) (n : ℕ) : Type 0 where
  pub ends : Ends g i c n
  pub nearest : first ≡ true → AreNoShorter g c.right i n

-- A site of this connector stands at position i, and its links may be n long. Only if this is so it is one of a connector with one link, the nearest.
pub record HasSite (sites : Sites) (i : ℕ) (c : Connector) (n : ℕ) (lone : Bool) : Type 0 where
  pub site : Site
  pub here : Stands (cond c.right sites.rights sites.lefts) i (class_of c.caps) site
  pub connector : site.connector ≡ c
  pub near : site.least ≤ n
  pub only_if : site.lone ≡ true → lone ≡ true

-- a connector is alone where it comes first on its side and has one link
abbrev pub alone : Bool → Connector → Bool
alone first c = first && not c.multi

-- a site serves links of this length, and only the nearest if it is one of such
pub record Serves (sites : Sites) (g : Linkage) (i : ℕ) (c : Connector) (n : ℕ) : Type 0 where
  pub lone : Bool
  pub site : HasSite sites i c n lone
  pub one : lone ≡ true → c.multi ≡ false
  pub nearest : lone ≡ true → AreNoShorter g c.right i n

-- each link of position i is known there
abbrev pub KnowsAt : Sites → Linkage → ℕ → Type 0
KnowsAt sites g i = (c : Connector) (n : ℕ) → Ends g i c n → Serves sites g i c n

-- each link of the linkage is known at both its ends
abbrev pub Knows : Sites → Linkage → Type 0
Knows sites g = (i : ℕ) → KnowsAt sites g i

-- each link is known, and no nearest one spans a gap that is shut
pub record IsKnown (known : Known) (g : Linkage) : Type 0 where
  pub sites : Knows known.sites g
  pub gaps : AllowsGaps g known.gaps

-- nothing is known yet, or the linkage is
abbrev pub AreKnown : Option (Bor Known) → Linkage → Type 0
AreKnown None g = Unit {0}
AreKnown (Some known) g = IsKnown known.now g

-- a stand among the words of this linkage, which has few unlinked words, at which it is known, or nothing is yet
pub record Suits (g : Linkage) (s : Stand) : Type 0 where
  pub fits : few.Fits s.most g
  pub words : length g.chosen ≡ s.words
  pub known : AreKnown s.known g

-- a length is found, and it is no more than this one
abbrev pub IsNear : ℕ → Option ℕ → Type 0
IsNear n None = ⊥
IsNear n (Some m) = m ≤ n

-- no site is forgotten
abbrev pub Keeps : Sites → Sites → Type 0
Keeps old new = (i : ℕ) (c : Connector) (n : ℕ) (lone : Bool) → HasSite old i c n lone → HasSite new i c n lone

-- no way to link is forgotten
abbrev pub KeepsWays : List (List ℕ) → List (List ℕ) → Type 0
KeepsWays old new = (w a : ℕ) → least_at new w a ≤ least_at old w a

-- a good linkage of these words
pub record IsLinkageOf (words : List (List WordTree)) (g : Linkage) : Type 0 where
  pub positions : List (List Disjunct)
  pub of : AreOf words positions
  pub same_length : length positions ≡ length words
  pub good : Good positions g

-- these words of position i have what the linkage uses there
abbrev pub HaveChosen : Linkage → ℕ → List WordTree → Type 0
HaveChosen g i words = (d : Disjunct) → chosen_at g i ≡ Some d → (w : WordTree) × Contains words w × Contains (choices_of w.tree) (choice_of d)

-- a choice that the linkage uses at position i
abbrev pub Uses : Linkage → ℕ → Choice → Type 0
Uses g i choice = (d : Disjunct) × (chosen_at g i ≡ Some d) × (choice_of d ≡ choice)
