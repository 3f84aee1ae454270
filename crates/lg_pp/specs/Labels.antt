-- The patterns that match labels of links.
use Rattle.std.specs.Prelude.{◌≡◌, ℕ, List, [], ◌∷◌, Some, slice_get, ◌⊎◌}
use Rattle.std.specs.List.{AllZip, Any}
use Rattle.lg_gram.specs.Names.{Name, STAR}
use Rattle.lg_gram.specs.Linkages.{Linkage}
use Rattle.lg_gram.specs.Labels.{label_at}
use Rattle.lg_gram.specs.Rules.{Good, HasLink}
use Rattle.lg_gram.specs.declared.disjunct.Disjunct.{Disjunct}
use Rattle.lg_gram.specs.declared.linkage.Link.{Link}
use Rattle.lg_knowread.specs.declared.knowledge.Pattern.{Pattern}

-- a good linkage of some problem
pub record IsGood (g : Linkage) : Type 0 where
  pub positions : List (List Disjunct)
  pub good : Good positions g

-- the labels of a linkage's links, in their order
abbrev pub AreLabels : Linkage → List Name → Type 0
AreLabels g labels = AllZip (λ l label. label_at g l ≡ Some label) g.links labels

-- After link-parser: the capital letters are equal, and at each place of the pattern stands a star, or a letter that the
-- label has there. Past a label's end, and where it has a star, it has no letter.
pub record Matches (pattern : Pattern) (label : Name) : Type 0 where
  pub capitals : pattern.caps ≡ label.caps
  pub letters : (k x : ℕ) → slice_get pattern.subs k ≡ Some x → (x ≡ STAR) ⊎ (slice_get label.subs k ≡ Some x)

-- one of the patterns matches the label
abbrev pub FitsOne : List Pattern → Name → Type 0
FitsOne patterns label = Any (λ pattern. Matches pattern label) patterns

-- the link's label matches one of the patterns
abbrev pub MatchesOne : List Pattern → Linkage → Link → Type 0
MatchesOne patterns g l = (label : Name) × (label_at g l ≡ Some label) × FitsOne patterns label

-- a link of the linkage whose label matches
abbrev pub HasMatch : Pattern → Linkage → Link → Type 0
HasMatch pattern g l = HasLink g l × MatchesOne (pattern ∷ []) g l
