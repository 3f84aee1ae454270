-- What holds of the links of a good linkage, and of their labels.
use Rattle.std.proofs.Common.{◌≡◌, ℕ, ◌<◌, ◌≤◌, List, [], ◌∷◌, length, get_or, Some, None, ◌↔◌, inl, inr, refl, ap, subst, arith}
use Rattle.std.specs.Prelude.{slice_get}
use Rattle.std.proofs.lemmas.Bool.{cases_lt}
use Rattle.std.proofs.lemmas.List.{get_or_past}
use Rattle.std.proofs.lemmas.List.Elements.{Contains-get_or, All-contains, All-cons, All-nil}
use Rattle.std.proofs.lemmas.Option.{slice_get-get_or}
use Rattle.lg_gram.specs.Linkages.{Linkage}
use Rattle.lg_gram.specs.Names.{Name}
use Rattle.lg_gram.specs.Connectors.{Connector}
use Rattle.lg_gram.specs.Rules.{Joins, HasLink, rights_of, lefts_of, right_list, left_list}
use Rattle.lg_gram.specs.declared.linkage.Link.{Link}
use Rattle.lg_knowread.specs.declared.knowledge.Knowledge.{Knowledge}
use Rattle.lg_knowread.specs.declared.knowledge.Pattern.{Pattern}
use Rattle.lg_pp.proofs.Zipped.{zip_length, zip_at}
use Rattle.lg_gram.specs.Labels.{label_at}
use Rattle.lg_pp.specs.Labels.{IsGood, AreLabels, FitsOne, Matches, MatchesOne, HasMatch}
use Rattle.lg_pp.specs.Domains.{Begins}
use Rattle.lg_pp.specs.Reach.{StartsKind, StartsOne}

-- any link, where a list has none
abbrev pub no_link : Link
no_link = record { left = 0; lplace = 0; right = 0; rplace = 0 }

pub link_joins : (g : Linkage) → IsGood g → (l : Link) → HasLink g l → Joins (rights_of g) (lefts_of g) l
link_joins g good l has = good.good.rules.matched.joins l has

pub has_at : (g : Linkage) (links : List Link) (i : ℕ) → links ≡ g.links → i < length links → HasLink g (get_or links i no_link)
has_at g links i e less = rw (← e) (Contains-get_or links i no_link less)

pub joins_at : (g : Linkage) → IsGood g → (links : List Link) → links ≡ g.links → (i : ℕ) → i < length links → Joins (rights_of g) (lefts_of g) (get_or links i no_link)
joins_at g good links e i less = link_joins g good (get_or links i no_link) (has_at g links i e less)

right_chosen : (g : Linkage) (i p : ℕ) (c : Connector) → slice_get (rights_of g i) p ≡ Some c → length g.chosen ≤ i → ⊥
right_chosen g i p c here past =
    let e = get_or_past g.chosen i None past in
    let h : slice_get (right_list None) p ≡ Some c = subst (λ o. slice_get (right_list o) p ≡ Some c) e here in
    cc

left_chosen : (g : Linkage) (i p : ℕ) (c : Connector) → slice_get (lefts_of g i) p ≡ Some c → length g.chosen ≤ i → ⊥
left_chosen g i p c here past =
    let e = get_or_past g.chosen i None past in
    let h : slice_get (left_list None) p ≡ Some c = subst (λ o. slice_get (left_list o) p ≡ Some c) e here in
    cc

-- both ends of a link are positions
pub ends_within : (g : Linkage) → IsGood g → (l : Link) → HasLink g l → (l.left < length g.chosen) × (l.right < length g.chosen)
ends_within g good l has =
    let j = link_joins g good l has in (
      elim (cases_lt l.left (length g.chosen)) [ inl less ↦ less | inr past ↦ absurd (right_chosen g l.left l.lplace j.0 j.2 past) ],
      elim (cases_lt l.right (length g.chosen)) [ inl less ↦ less | inr past ↦ absurd (left_chosen g l.right l.rplace j.1 j.3 past) ],
    )

-- what is said of a link's label is said of the link
pub matches_by_label : (patterns : List Pattern) (g : Linkage) (l : Link) (label : Name) → label_at g l ≡ Some label → FitsOne patterns label ↔ MatchesOne patterns g l
matches_by_label patterns g l label e = (
  λ fits. (label, e, fits),
  λ matches. let same : matches.0 ≡ label = cc in subst (FitsOne patterns) same matches.2,
)

-- one pattern alone
fits_alone : (pattern : Pattern) (label : Name) → FitsOne (pattern ∷ []) label ↔ Matches pattern label
fits_alone pattern label =
    let P : Pattern → Type 0 = λ p. Matches p label → Matches pattern label in (
      λ fits. All-contains P (pattern ∷ []) fits.1 (All-cons P pattern [] (λ h. h) (All-nil P)) (fits.0, fits.2, fits.3) fits.4,
      λ h. (0, pattern, omega arith, refl, h),
    )

pub has_match_by_label : (pattern : Pattern) (g : Linkage) (l : Link) (label : Name) → HasLink g l → label_at g l ≡ Some label → Matches pattern label ↔ HasMatch pattern g l
has_match_by_label pattern g l label has e = (
  λ fits. (has, (label, e, (fits_alone pattern label).1 fits)),
  λ matches. (fits_alone pattern label).0 ((matches_by_label (pattern ∷ []) g l label e).1 matches.1),
)

-- what the link's label says of the domains that it starts
pub begins_by_label : (know : Knowledge) (g : Linkage) (l : Link) (label : Name) (kind : ℕ) → HasLink g l → label_at g l ≡ Some label → StartsKind know.starts kind label ↔ Begins know g kind l
begins_by_label know g l label kind has e = (
  λ h. (h.0, h.1, h.2, h.3, (h.4.0, (has_match_by_label h.1.pattern g l label has e).0 h.4.1)),
  λ h. (h.0, h.1, h.2, h.3, (h.4.0, (has_match_by_label h.1.pattern g l label has e).1 h.4.1)),
)

pub starts_by_label : (know : Knowledge) (g : Linkage) (l : Link) (label : Name) → HasLink g l → label_at g l ≡ Some label → StartsOne know.starts label ↔ ((kind : ℕ) × Begins know g kind l)
starts_by_label know g l label has e = (
  λ h. (h.1.kind, (h.0, h.1, h.2, h.3, (refl, (has_match_by_label h.1.pattern g l label has e).0 h.4))),
  λ h. (h.1.0, h.1.1, h.1.2, h.1.3, (has_match_by_label h.1.1.pattern g l label has e).1 h.1.4.1),
)

-- each link has its label
pub labels_enough : (g : Linkage) (labels : List Name) (links : List Link) (i : ℕ) → AreLabels g labels → links ≡ g.links → i < length links → i < length labels
labels_enough g labels links i are e less =
    let same = zip_length (λ l label. label_at g l ≡ Some label) g.links labels are in
    let h : length links ≡ length g.links = ap length e in
    omega arith

pub label_read : (g : Linkage) (labels : List Name) (links : List Link) (i : ℕ) → AreLabels g labels → links ≡ g.links → i < length links → (label : Name) → label ≡ get_or labels i label → label_at g (get_or links i no_link) ≡ Some label
label_read g labels links i are e less label is =
    let h = zip_at (λ l label. label_at g l ≡ Some label) g.links labels i (get_or links i no_link) label are (rw (← e) (slice_get-get_or links i no_link less)) in
    cc
