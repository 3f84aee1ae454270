-- How the first broken rule is found: facts of a linkage's links, by their numbers.
use Rattle.std.specs.Prelude.{◌≡◌, ◌≢◌, ◌↔◌, ◌⊎◌, ℕ, ◌<◌, ◌≤◌, Bool, false, List, [], length, Option, Some, slice_get, slice_index, slice_index_or, IsTrue, MatchOption, MatchBool, if◌then◌else◌}
use Rattle.std.specs.List.{Any, Contains}
use Rattle.lg_gram.specs.Linkages.{Linkage}
use Rattle.lg_gram.specs.Names.{Name}
use Rattle.lg_gram.specs.Rules.{HasLink}
use Rattle.lg_gram.specs.Walks.{Walk, LinkFrom}
use Rattle.lg_gram.specs.declared.linkage.Link.{Link}
use Rattle.lg_knowread.specs.declared.knowledge.Knowledge.{Knowledge}
use Rattle.lg_knowread.specs.declared.knowledge.Pattern.{Pattern}
use Rattle.lg_knowread.specs.declared.knowledge.Rule.{Rule}
use Rattle.lg_knowread.specs.declared.knowledge.Rule.TheVariants.{Forbid, Demand, Bounded, Cycle}
use Rattle.lg_pp.specs.Breaks.{FailsAt}
use Rattle.lg_pp.specs.Domains.{IsNumber}
use Rattle.lg_pp.specs.Labels.{AreLabels, FitsOne}
use Rattle.lg_pp.specs.Reach.{AreRows}
use Rattle.lg_pp.specs.Steps.{AreAlike, AreLeasts}
use Rattle.lg_pp.specs.declared.rules.facts.Facts.{Facts}
use Rattle.lg_pp.specs.declared.rules.found.Found.{Found}

-- the first number below count of which P holds, or none
abbrev pub IsFirst : (ℕ → Type 0) → ℕ → Option ℕ → Type 0
IsFirst P count first = MatchOption first ((n : ℕ) → n < count → P n → ⊥) (λ n. (n < count) × P n × ((k : ℕ) → k < n → P k → ⊥))

-- the rule fails at the link of this number
abbrev pub FailsAtNumber : Knowledge → Linkage → Rule → ℕ → Type 0
FailsAtNumber know g rule n = (l : Link) × IsNumber g n l × FailsAt know g rule l

-- P holds of the label of this number
abbrev pub IsLabelled : (Name → Type 0) → List Name → ℕ → Type 0
IsLabelled P labels n = (label : Name) × (slice_get labels n ≡ Some label) × P label

-- the two ends of the link are joined by no walk over the other links
abbrev pub IsBridge : Linkage → Link → Type 0
IsBridge g l = Walk (LinkFrom (λ m. HasLink g m × (m ≢ l))) l.left l.right → ⊥

abbrev pub IsGrouped : Rule → Type 0
IsGrouped (Forbid grouped trigger others) = IsTrue grouped
IsGrouped (Demand grouped trigger others) = IsTrue grouped
IsGrouped (Bounded kind) = ⊥
IsGrouped (Cycle pattern) = ⊥

-- a rule that asks which links lie in the domains
abbrev pub IsOfDomains : Rule → Type 0
IsOfDomains (Forbid grouped trigger others) = IsTrue grouped
IsOfDomains (Demand grouped trigger others) = IsTrue grouped
IsOfDomains (Bounded kind) = Unit {0}
IsOfDomains (Cycle pattern) = ⊥

-- each number below count is given one that is not above it
pub record AreWithin (count : ℕ) (groups : List ℕ) : Type 0 where
  pub enough : length groups ≡ count
  pub below : (n : ℕ) → n < count → slice_index groups n ≤ n

-- The labels; the rows of domains, where some rule asks for them; and the least link of each link's group, where some rule is grouped.
pub record AreFacts (know : Knowledge) (g : Linkage) (facts : Facts) : Type 0 where
  pub labels : AreLabels g facts.labels
  pub rows : Any IsOfDomains know.rules → AreRows know g facts.rows.items
  pub within : AreWithin (length g.links) facts.groups.items
  pub groups : Any IsGrouped know.rules → AreLeasts (AreAlike facts.rows.items) (length g.links) facts.groups.items

-- where links of one class are looked at together: the least link of the group, or one class for all
abbrev pub class_of : Bool → List ℕ → ℕ → ℕ
class_of grouped groups n = if grouped then slice_index groups n else 0

-- one of the patterns matches the label of a link of class c
abbrev pub HasOther : Bool → List ℕ → List Pattern → List Name → ℕ → Type 0
HasOther grouped groups patterns labels c = (m : ℕ) × (class_of grouped groups m ≡ c) × IsLabelled (FitsOne patterns) labels m

-- a flag for each class, which says whether the flag of a link of that class is set
abbrev pub AreHits : Bool → List ℕ → List Bool → List Bool → Type 0
AreHits grouped groups met hits = (c : ℕ) → IsTrue (slice_index_or hits c false) ↔ ((m : ℕ) × (class_of grouped groups m ≡ c) × IsTrue (slice_index_or met m false))

-- the class of link number n has such a link, or has none, as it is asked
abbrev pub MeetsOther : Bool → List ℕ → List Pattern → List Name → Bool → ℕ → Type 0
MeetsOther grouped groups patterns labels asked n =
    let others = HasOther grouped groups patterns labels (class_of grouped groups n) in MatchBool asked others (others → ⊥)

-- one of the links whose flag is set has an end before the root
abbrev pub HasEndBefore : List Link → List Bool → ℕ → Type 0
HasEndBefore links row root =
    (m : ℕ) × (l : Link) × (slice_get links m ≡ Some l) × IsTrue (slice_index_or row m false) × ((l.left < root) ⊎ (l.right < root))

-- so it is in the row of link number n, with the left word of that link as the root
abbrev pub Overruns : List Link → List (List Bool) → ℕ → Type 0
Overruns links rows n = (l : Link) × (slice_get links n ≡ Some l) × HasEndBefore links (slice_index_or rows n []) l.left

-- a rule of the knowledge bounds this kind
abbrev pub HasBound : Knowledge → ℕ → Type 0
HasBound know kind = Contains know.rules (Bounded kind)

-- a rule that bounds this kind fails at the link of this number
abbrev pub FailsBound : Knowledge → Linkage → ℕ → ℕ → Type 0
FailsBound know g kind = FailsAtNumber know g (Bounded kind)

-- the link of this number is a bridge
abbrev pub IsBridgeAt : Linkage → ℕ → Type 0
IsBridgeAt g n = (l : Link) × IsNumber g n l × IsBridge g l

-- kinds whose flags are set are bounded
abbrev pub AreBoundsKept : Knowledge → Linkage → List Bool → Type 0
AreBoundsKept know g kept = (kind : ℕ) → IsTrue (slice_index_or kept kind false) → (n : ℕ) → FailsBound know g kind n → ⊥

-- links whose flags are set are no bridges
abbrev pub AreCycled : Linkage → List Bool → Type 0
AreCycled g cycled = (n : ℕ) → IsTrue (slice_index_or cycled n false) → IsBridgeAt g n → ⊥

-- what is known of kinds and of links
pub record AreFound (know : Knowledge) (g : Linkage) (found : Found) : Type 0 where
  pub bounded : AreBoundsKept know g found.bounded
  pub enough : length found.cycled.items ≡ length g.links
  pub cycled : AreCycled g found.cycled.items

-- no flag is set, and each link has one
pub record IsNothing (g : Linkage) (found : Found) : Type 0 where
  pub bounded : (kind : ℕ) → IsTrue (slice_index_or found.bounded kind false) → ⊥
  pub enough : length found.cycled.items ≡ length g.links
  pub cycled : (n : ℕ) → IsTrue (slice_index_or found.cycled.items n false) → ⊥
