-- Where rules fail.
use Rattle.std.specs.Prelude.{◌≡◌, ◌≢◌, ℕ, ◌<◌, ◌-◌, true, Bool, Some, Option, slice_get, ◌⊎◌, MatchOption}
use Rattle.std.specs.List.{All}
use Rattle.std.specs.declared.cmp.Ordering.TheVariants.{Less}
use Rattle.lg_gram.specs.Linkages.{Linkage, pair_cmp}
use Rattle.lg_gram.specs.Rules.{HasLink}
use Rattle.lg_gram.specs.Walks.{Walk, LinkFrom}
use Rattle.lg_gram.specs.declared.linkage.Link.{Link}
use Rattle.lg_gram.specs.declared.listing.Violation.{Violation}
use Rattle.lg_knowread.specs.declared.knowledge.Knowledge.{Knowledge}
use Rattle.lg_knowread.specs.declared.knowledge.Rule.{Rule}
use Rattle.lg_knowread.specs.declared.knowledge.Rule.TheVariants.{Forbid, Demand, Bounded, Cycle}
use Rattle.lg_pp.specs.Labels.{HasMatch, MatchesOne}
use Rattle.lg_pp.specs.Domains.{Begins, InDomain, SameGroup}

-- a link that a rule looks at where a link l has triggered it: of the same group, where the rule is grouped
abbrev pub IsTested : Knowledge → Linkage → Bool → Link → Link → Type 0
IsTested know g grouped l m = HasLink g m × (grouped ≡ true → SameGroup know g l m)

-- the rule fails at this link
abbrev pub FailsAt : Knowledge → Linkage → Rule → Link → Type 0
FailsAt know g (Forbid grouped trigger others) l = HasMatch trigger g l × ((m : Link) × IsTested know g grouped l m × MatchesOne others g m)
FailsAt know g (Demand grouped trigger others) l = HasMatch trigger g l × ((m : Link) → IsTested know g grouped l m → MatchesOne others g m → ⊥)
FailsAt know g (Bounded kind) l = Begins know g kind l × ((m : Link) × InDomain know g l m × ((m.left < l.left) ⊎ (m.right < l.left)))
FailsAt know g (Cycle pattern) l = HasMatch pattern g l × (Walk (LinkFrom (λ m. HasLink g m × (m ≢ l))) l.left l.right → ⊥)

-- it fails at no link
abbrev pub Holds : Knowledge → Linkage → Rule → Type 0
Holds know g rule = (l : Link) → FailsAt know g rule l → ⊥

-- the rule of this number, from 1
abbrev pub IsRule : Knowledge → ℕ → Rule → Type 0
IsRule know number rule = (0 < number) × (slice_get know.rules (number - 1) ≡ Some rule)

-- the first rule that does not hold, and the least link, by left and then right, at which it fails
pub record IsBroken (know : Knowledge) (g : Linkage) (v : Violation) : Type 0 where
  pub rule : Rule
  pub number : IsRule know v.rule rule
  pub first : (n : ℕ) (earlier : Rule) → n < v.rule → IsRule know n earlier → Holds know g earlier
  pub link : Link
  pub fails : FailsAt know g rule link
  pub left : link.left ≡ v.left
  pub right : link.right ≡ v.right
  pub least : (l : Link) → FailsAt know g rule l → pair_cmp l link ≢ Less

-- every rule holds, or the first broken one is named
abbrev pub Judges : Knowledge → Linkage → Option Violation → Type 0
Judges know g answer = MatchOption answer (All (Holds know g) know.rules) (IsBroken know g)
