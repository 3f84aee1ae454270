-- Domains and groups of links, after link-parser's post-processing.
use Rattle.std.specs.Prelude.{◌≡◌, ◌≢◌, ◌↔◌, ℕ, ◌<◌, List, [], length, Some, slice_get, slice_index, ◌⊎◌}
use Rattle.std.specs.List.{All, Any, Contains}
use Rattle.std.specs.List.Sorted.{IsStrictlySortedBy}
use Rattle.std.specs.Ordering.{nat_cmp, on, then_cmp}
use Rattle.std.specs.declared.cmp.Ordering.{Ordering}
use Rattle.lg_gram.specs.Linkages.{Linkage}
use Rattle.lg_gram.specs.Rules.{HasLink}
use Rattle.lg_gram.specs.Walks.{Walk, LinkFrom}
use Rattle.lg_gram.specs.declared.linkage.Link.{Link}
use Rattle.lg_knowread.specs.declared.knowledge.Knowledge.{Knowledge}
use Rattle.lg_pp.specs.Labels.{HasMatch, MatchesOne}
use Rattle.lg_pp.specs.declared.domain.Domain.{Domain}

-- a link of the linkage that is not ignored
abbrev pub IsFollowed : Knowledge → Linkage → Link → Type 0
IsFollowed know g l = HasLink g l × (MatchesOne know.ignored g l → ⊥)

-- A link of the linkage that starts a domain of this kind. The root of the domain is its left word.
abbrev pub Begins : Knowledge → Linkage → ℕ → Link → Type 0
Begins know g kind l = Any (λ start. (start.kind ≡ kind) × HasMatch start.pattern g l) know.starts

-- a link that is followed and does not touch the root
abbrev pub IsOffRoot : Knowledge → Linkage → ℕ → Link → Type 0
IsOffRoot know g root l = IsFollowed know g l × (l.left ≢ root) × (l.right ≢ root)

-- A walk from the right word of the start link comes to this word, over links that are not ignored and without visiting the root.
abbrev pub Reaches : Knowledge → Linkage → Link → ℕ → Type 0
Reaches know g start i = Walk (LinkFrom (IsOffRoot know g start.left)) start.right i

-- the domain that a link starts: the link itself, and the links that are not ignored and have an end that is reached
abbrev pub InDomain : Knowledge → Linkage → Link → Link → Type 0
InDomain know g start l = (l ≡ start) ⊎ (IsFollowed know g l × (Reaches know g start l.left ⊎ Reaches know g start l.right))

-- two links lie in the same domains
abbrev pub SameGroup : Knowledge → Linkage → Link → Link → Type 0
SameGroup know g k l = (kind : ℕ) (start : Link) → Begins know g kind start → InDomain know g start k ↔ InDomain know g start l

-- link number n of the linkage, from 0, is this one
abbrev pub IsNumber : Linkage → ℕ → Link → Type 0
IsNumber g n l = slice_get g.links n ≡ Some l

-- a domain by numbers: its start link begins a domain of its kind, and its links are exactly those of that domain, in order
pub record IsDomain (know : Knowledge) (g : Linkage) (d : Domain) : Type 0 where
  pub start : Link
  pub number : IsNumber g d.start start
  pub begins : Begins know g d.kind start
  pub rise : IsStrictlySortedBy nat_cmp d.links
  pub exactly : (n : ℕ) → Contains d.links n ↔ ((l : Link) × IsNumber g n l × InDomain know g start l)

-- by the start link and then by the kind
abbrev pub domain_cmp : Domain → Domain → Ordering
domain_cmp = then_cmp (on (λ d. d.start) nat_cmp) (on (λ d. d.kind) nat_cmp)

-- all domains of a linkage, in order, each once
pub record AreDomains (know : Knowledge) (g : Linkage) (domains : List Domain) : Type 0 where
  pub each : All (IsDomain know g) domains
  pub rise : IsStrictlySortedBy domain_cmp domains
  pub all : (kind n : ℕ) (l : Link) → IsNumber g n l → Begins know g kind l → Any (λ d. (d.start ≡ n) × (d.kind ≡ kind)) domains

-- the links whose numbers are these lie in one group
abbrev pub AreTogether : Knowledge → Linkage → ℕ → ℕ → Type 0
AreTogether know g m n = (k : Link) × (l : Link) × IsNumber g m k × IsNumber g n l × SameGroup know g k l

-- All groups of a linkage by the numbers of their links, in the order of their least links. Each link lies in one of them.
pub record AreGroups (know : Knowledge) (g : Linkage) (groups : List (List ℕ)) : Type 0 where
  pub some : All (λ group. group ≢ []) groups
  pub each : All (IsStrictlySortedBy nat_cmp) groups
  pub rise : IsStrictlySortedBy (on (λ group. slice_index group 0) nat_cmp) groups
  pub all : (n : ℕ) → n < length g.links → Any (λ group. Contains group n) groups
  pub exactly : (group : List ℕ) → Contains groups group → (m n : ℕ) → Contains group m → Contains group n ↔ AreTogether know g m n
