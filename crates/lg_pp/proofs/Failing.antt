-- What the facts of a linkage's links say of rules.
use Rattle.std.proofs.Common.{◌≡◌, ℕ, ◌<◌, Bool, true, false, List, [], length, get_or, Some, ◌↔◌, ◌⊎◌, inl, inr, refl, sym, ◌∙◌, ap, subst, Contains, arith}
use Rattle.std.specs.Prelude.{Any, IsTrue}
use Rattle.std.proofs.lemmas.Option.{slice_get-get_or, slice_get_within, get_or_from_slice_get}
use Rattle.lg_gram.specs.Linkages.{Linkage}
use Rattle.lg_gram.specs.Names.{Name}
use Rattle.lg_gram.specs.Rules.{HasLink}
use Rattle.lg_gram.specs.declared.linkage.Link.{Link}
use Rattle.lg_knowread.specs.declared.knowledge.Knowledge.{Knowledge}
use Rattle.lg_knowread.specs.declared.knowledge.Pattern.{Pattern}
use Rattle.lg_knowread.specs.declared.knowledge.Rule.{Rule}
use Rattle.lg_knowread.specs.declared.knowledge.Rule.TheVariants.{Forbid, Demand, Bounded, Cycle}
use Rattle.lg_pp.specs.Breaks.{IsTested}
use Rattle.lg_pp.specs.Domains.{Begins, InDomain, IsNumber, SameGroup}
use Rattle.lg_pp.specs.Judging.{AreFacts, FailsAtNumber, HasOther, IsBridge, IsBridgeAt, IsGrouped, IsLabelled, IsOfDomains, MeetsOther, Overruns, class_of}
use Rattle.lg_gram.specs.Labels.{label_at}
use Rattle.lg_pp.specs.Labels.{FitsOne, HasMatch, Matches, MatchesOne}
use Rattle.lg_pp.specs.Reach.{AreRows, Collects, IsRow, StartsKind}
use Rattle.lg_pp.specs.Steps.{AreAlike}
use Rattle.lg_pp.specs.declared.rules.facts.Facts.{Facts}
use Rattle.lg_pp.proofs.Good.{no_link, begins_by_label, has_match_by_label, matches_by_label}
use Rattle.lg_pp.proofs.Grouping.{alike_grouped, alike_itself, alike_turned, alike_through}
use Rattle.lg_pp.proofs.Leasts.{leasts_tell}
use Rattle.lg_pp.proofs.Picking.{any_name}
use Rattle.lg_pp.proofs.Zipped.{zip_at, zip_length}

-- a grouped rule asks for domains
asks_by_group : (rule : Rule) → IsGrouped rule → IsOfDomains rule
asks_by_group (Forbid grouped trigger others) h = h
asks_by_group (Demand grouped trigger others) h = h
asks_by_group (Bounded kind) h = tt
asks_by_group (Cycle pattern) h = h

any_by_group : (rules : List Rule) → Any IsGrouped rules → Any IsOfDomains rules
any_by_group rules h = (h.0, h.1, h.2, h.3, asks_by_group h.1 h.4)

-- a rule of the list that is such
any_rule : (P : Rule → Type 0) (rules : List Rule) (rule : Rule) → Contains rules rule → P rule → Any P rules
any_rule P rules rule has here = (has.0, rule, has.1, has.2, here)

pub number_of : (g : Linkage) (l : Link) → HasLink g l → (n : ℕ) × IsNumber g n l
number_of g l has = (has.0, slice_get-get_or g.links has.0 l has.1 ∙ ap Some has.2)

pub has_number : (g : Linkage) (n : ℕ) (l : Link) → IsNumber g n l → HasLink g l
has_number g n l at = (n, slice_get_within g.links n l at, get_or_from_slice_get g.links n l l at)

pub same_number : (g : Linkage) (n : ℕ) (k l : Link) → IsNumber g n k → IsNumber g n l → k ≡ l
same_number g n k l one other = let e : Some k ≡ Some l = sym one ∙ other in cc

module _ (know : Knowledge) (g : Linkage) (facts : Facts) (are : AreFacts know g facts) where
  abbrev labels : List Name
  labels = facts.labels

  abbrev groups : List ℕ
  groups = facts.groups.items

  pub labels_count : length labels ≡ length g.links
  labels_count = zip_length (λ l label. label_at g l ≡ Some label) g.links labels are.labels

  -- the label of a number is that of the link of this number
  label_of_number : (n : ℕ) (l : Link) → IsNumber g n l → label_at g l ≡ Some (get_or labels n any_name)
  label_of_number n l at = zip_at (λ l label. label_at g l ≡ Some label) g.links labels n l any_name are.labels at

  module _ (P : Name → Type 0) (Q : Link → Type 0) (same : (l : Link) (label : Name) → HasLink g l → label_at g l ≡ Some label → P label ↔ Q l) (n : ℕ) where
    labelled_to : IsLabelled P labels n → (l : Link) × IsNumber g n l × Q l
    labelled_to h =
        let within = slice_get_within labels n h.0 h.1 in
        let at = slice_get-get_or g.links n no_link (let e = labels_count in omega arith) in
        let l = get_or g.links n no_link in
        let e = label_of_number n l at ∙ ap Some (get_or_from_slice_get labels n h.0 any_name h.1) in
        (l, at, (same l h.0 (has_number g n l at) e).0 h.2)

    labelled_from : (l : Link) → IsNumber g n l → Q l → IsLabelled P labels n
    labelled_from l at q =
        let within = slice_get_within g.links n l at in
        let label = get_or labels n any_name in
        (label, slice_get-get_or labels n any_name (let e = labels_count in omega arith), (same l label (has_number g n l at) (label_of_number n l at)).1 q)

  matched_to : (pattern : Pattern) (n : ℕ) → IsLabelled (Matches pattern) labels n → (l : Link) × IsNumber g n l × HasMatch pattern g l
  matched_to pattern = labelled_to (Matches pattern) (HasMatch pattern g) (has_match_by_label pattern g)

  matched_from : (pattern : Pattern) (n : ℕ) (l : Link) → IsNumber g n l → HasMatch pattern g l → IsLabelled (Matches pattern) labels n
  matched_from pattern = labelled_from (Matches pattern) (HasMatch pattern g) (has_match_by_label pattern g)

  -- cycles
  pub fails_cycle : (pattern : Pattern) (n : ℕ) → (IsLabelled (Matches pattern) labels n × IsBridgeAt g n) ↔ FailsAtNumber know g (Cycle pattern) n
  fails_cycle pattern n = (
    λ h. let m = matched_to pattern n h.0 in (m.0, m.1, (m.2, subst (IsBridge g) (same_number g n h.1.0 m.0 h.1.1 m.1) h.1.2)),
    λ f. (matched_from pattern n f.0 f.1 f.2.0, (f.0, f.1, f.2.1)),
  )

  -- bounds of domains
  pub bounded_rows : (kind : ℕ) → Contains know.rules (Bounded kind) → AreRows know g facts.rows.items
  bounded_rows kind known = are.rows (any_rule IsOfDomains know.rules (Bounded kind) known tt)

  collects_at : AreRows know g facts.rows.items → (n m : ℕ) (start l : Link) → IsNumber g n start → IsNumber g m l → IsTrue (get_or (get_or facts.rows.items n []) m false) ↔ Collects know g start l
  collects_at rows n m start l at_n at_m = (zip_at (IsRow know g) g.links facts.rows.items n start [] rows at_n).exactly m l at_m

  in_domain_has : (start l : Link) → HasLink g start → InDomain know g start l → HasLink g l
  in_domain_has start l has inside = elim inside [ inl same ↦ subst (HasLink g) (sym same) has | inr by ↦ by.0.0 ]

  pub fails_bounded : (kind : ℕ) → Contains know.rules (Bounded kind) → (n : ℕ) → (IsLabelled (StartsKind know.starts kind) labels n × Overruns g.links facts.rows.items n) ↔ FailsAtNumber know g (Bounded kind) n
  fails_bounded kind known n = (to, from) where
    begins : (l : Link) (label : Name) → HasLink g l → label_at g l ≡ Some label → StartsKind know.starts kind label ↔ Begins know g kind l
    begins l label = begins_by_label know g l label kind

    to : IsLabelled (StartsKind know.starts kind) labels n × Overruns g.links facts.rows.items n → FailsAtNumber know g (Bounded kind) n
    to h =
        let s = labelled_to (StartsKind know.starts kind) (Begins know g kind) begins n h.0 in
        let over = h.1 in
        let same = same_number g n over.0 s.0 over.1 s.1 in
        let far = over.2 in
        let in_row = (collects_at (bounded_rows kind known) n far.0 over.0 far.1 over.1 far.2).0 far.3 in
        (s.0, s.1, (s.2, (far.1, subst (λ z. InDomain know g z far.1) same in_row.1, subst (λ z. (far.1.left < z.left) ⊎ (far.1.right < z.left)) same far.4)))

    from : FailsAtNumber know g (Bounded kind) n → IsLabelled (StartsKind know.starts kind) labels n × Overruns g.links facts.rows.items n
    from f =
        let start = f.0 in
        let at = f.1 in
        let far = f.2.1 in
        let m = number_of g far.0 (in_domain_has start far.0 (has_number g n start at) far.1) in
        let set = (collects_at (bounded_rows kind known) n m.0 start far.0 at m.1).1 ((kind, f.2.0), far.1) in
        (labelled_from (StartsKind know.starts kind) (Begins know g kind) begins n start at f.2.0, (start, at, (m.0, far.0, m.1, set, far.2)))

  -- groups: two links are of one class exactly where they are looked at together
  class_tells : (grouped : Bool) → (grouped ≡ true → Any IsGrouped know.rules) → (m n : ℕ) (k l : Link) → IsNumber g m k → IsNumber g n l → (class_of grouped groups m ≡ class_of grouped groups n) ↔ (grouped ≡ true → SameGroup know g l k)
  class_tells false some m n k l at_m at_n = (λ e t. absurd (let no : false ≡ true = t in cc), λ same. refl)
  class_tells true some m n k l at_m at_n =
      let rows = facts.rows.items in
      let tell = leasts_tell (AreAlike rows) (length g.links) groups (are.groups (some refl)) (alike_itself rows) (alike_turned rows) (alike_through rows) n m (slice_get_within g.links n l at_n) (slice_get_within g.links m k at_m) in
      let same = alike_grouped know g rows (are.rows (any_by_group know.rules (some refl))) n m l k at_n at_m in
      (λ e t. same.0 (tell.0 (sym e)), λ h. sym (tell.1 (same.1 (h refl))))

  tested_by_class : (grouped : Bool) → (grouped ≡ true → Any IsGrouped know.rules) → (others : List Pattern) (n : ℕ) (l : Link) → IsNumber g n l → HasOther grouped groups others labels (class_of grouped groups n) ↔ ((m : Link) × IsTested know g grouped l m × MatchesOne others g m)
  tested_by_class grouped some others n l at = (
    λ h.
        let m = labelled_to (FitsOne others) (MatchesOne others g) (λ k label has. matches_by_label others g k label) h.0 h.2 in
        (m.0, (has_number g h.0 m.0 m.1, (class_tells grouped some h.0 n m.0 l m.1 at).0 h.1), m.2),
    λ h.
        let m = number_of g h.0 h.1.0 in
        (m.0, (class_tells grouped some m.0 n h.0 l m.1 at).1 h.1.1, labelled_from (FitsOne others) (MatchesOne others g) (λ k label has. matches_by_label others g k label) m.0 h.0 m.1 h.2),
  )

  pub fails_forbid : (grouped : Bool) (trigger : Pattern) (others : List Pattern) → Contains know.rules (Forbid grouped trigger others) → (n : ℕ) →
      (IsLabelled (Matches trigger) labels n × MeetsOther grouped groups others labels true n) ↔ FailsAtNumber know g (Forbid grouped trigger others) n
  fails_forbid grouped trigger others known n =
      let some : grouped ≡ true → Any IsGrouped know.rules = λ t. any_rule IsGrouped know.rules (Forbid grouped trigger others) known t in (
        λ h. let m = matched_to trigger n h.0 in (m.0, m.1, (m.2, (tested_by_class grouped some others n m.0 m.1).0 h.1)),
        λ f. (matched_from trigger n f.0 f.1 f.2.0, (tested_by_class grouped some others n f.0 f.1).1 f.2.1),
      )

  pub fails_demand : (grouped : Bool) (trigger : Pattern) (others : List Pattern) → Contains know.rules (Demand grouped trigger others) → (n : ℕ) →
      (IsLabelled (Matches trigger) labels n × MeetsOther grouped groups others labels false n) ↔ FailsAtNumber know g (Demand grouped trigger others) n
  fails_demand grouped trigger others known n =
      let some : grouped ≡ true → Any IsGrouped know.rules = λ t. any_rule IsGrouped know.rules (Demand grouped trigger others) known t in (
        λ h. let m = matched_to trigger n h.0 in (m.0, m.1, (m.2, λ other tested matches. h.1 ((tested_by_class grouped some others n m.0 m.1).1 (other, tested, matches)))),
        λ f. (matched_from trigger n f.0 f.1 f.2.0, λ has. let t = (tested_by_class grouped some others n f.0 f.1).0 has in f.2.1 t.0 t.1 t.2),
      )
