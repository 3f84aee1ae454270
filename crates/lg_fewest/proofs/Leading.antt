-- A span with a list has a gap: the class of its list leads to the disjuncts that can cut it.
use Rattle.std.proofs.Common.{◌≡◌, ◌≢◌, ℕ, zero, suc, ◌+◌, ◌-◌, ◌*◌, ◌%◌, ◌<◌, refl, sym, ap, ◌∙◌, List, [], ◌∷◌, fold, length, Option, Some, None, IsSome, slice_get, arith}
use Rattle.lg_gram.specs.Connectors.{Connector}
use Rattle.lg_region.specs.Chains.{class_of_caps, class_at, class_of}
use Rattle.lg_region.specs.Cuts.{IsCutAt}
use Rattle.lg_region.specs.Fronts.{Numbering, list_of}
use Rattle.lg_region.specs.Groups.{Leads, left_lead, right_lead}
use Rattle.lg_region.specs.Keys.{IsValidKey}
use Rattle.lg_region.specs.Laws.{NumbersTellListsApart}
use Rattle.lg_region.specs.Openings.{IsGapOf}
use Rattle.lg_region.specs.declared.group.Gap.{Gap}
use Rattle.lg_region.specs.declared.group.Lead.{Lead}
use Rattle.lg_region.specs.declared.key.Joint.{Joint}
use Rattle.lg_fewest.specs.Spans.{key_of, region_at}
use Rattle.lg_fewest.specs.declared.span.Span.{Span}

-- ---- classes

class_small_from : (start : ℕ) (caps : List ℕ) → start < 256 → fold (λ n c. (n * 31 + c) % 256) start caps < 256
class_small_from start [] small = small
class_small_from start (c ∷ caps) small = class_small_from ((start * 31 + c) % 256) caps (omega arith)

class_small : (o : Option Connector) → class_at o < 256
class_small None = omega arith
class_small (Some c) = class_small_from 0 c.caps (omega arith)

class_at_end : (cs : List Connector) (p : ℕ) (c : Connector) → suc p ≡ length cs → slice_get cs p ≡ Some c → class_of cs ≡ class_of_caps c.caps
class_at_end cs p c last at =
    let place : length cs - 1 ≡ p = omega arith in
    ap class_at (ap (slice_get cs) place ∙ at)

-- lists that are joined have one class
joined_class : (j : Option Joint) (near far near' far' : List Connector) → IsCutAt j near far near' far' → IsSome j → class_of near ≡ class_of far
joined_class None near far near' far' is some = absurd cc
joined_class (Some j) near far near' far' (goes, comes, (a, b, at, bt, match)) some =
    class_at_end near j.near a goes.0 at ∙ ap class_of_caps match.capitals ∙ sym (class_at_end far j.far b comes.0 bt)

module _ (n : Numbering) (numbers : NumbersTellListsApart n.positions n.lists) (s : Span) (v : IsValidKey n.positions n.lists (key_of s)) where
  abbrev gap_by : Lead → Gap
  gap_by lead = record { left = s.left; right = s.right; llist = s.llist; rlist = s.rlist; nulls = 0; lead = lead }

  left_leads : s.llist ≢ 0 → Leads (left_lead n s.llist) n.positions (region_at n s 0)
  left_leads some c is = sym (joined_class c.to_left _ _ _ _ is.at_left (is.by_llist (λ e. some (numbers.lists_apart s.llist 0 v.0 (omega arith) e))))

  right_leads : s.llist ≡ 0 → Leads (right_lead n s.rlist) n.positions (region_at n s 0)
  right_leads none c is = joined_class c.to_right _ _ _ _ is.at_right (is.by_rlist (ap (list_of n.lists) none))

  by_left : s.llist ≢ 0 → (gap : Gap) × IsGapOf n (key_of s) gap
  by_left some = (
    gap_by (left_lead n s.llist),
    record {
      key_is = refl;
      known = record { llist = v.0; rlist = v.1; small = class_small (slice_get (list_of n.lists s.llist) (length (list_of n.lists s.llist) - 1)); led = left_leads some };
      ends = v.2.ends;
      within = v.2.within;
      some = λ (l, r). some l;
      few = v.2.few;
      lead = λ h. refl;
      rlead = λ none. absurd (some none);
    },
  )

  by_right : s.llist ≡ 0 → (s.rlist ≢ 0) → (gap : Gap) × IsGapOf n (key_of s) gap
  by_right none some = (
    gap_by (right_lead n s.rlist),
    record {
      key_is = refl;
      known = record { llist = v.0; rlist = v.1; small = class_small (slice_get (list_of n.lists s.rlist) (length (list_of n.lists s.rlist) - 1)); led = right_leads none };
      ends = v.2.ends;
      within = v.2.within;
      some = λ (l, r). some r;
      few = v.2.few;
      lead = λ h. absurd (h none);
      rlead = λ none'. refl;
    },
  )

  -- where there is no gap, both lists are empty
  pub no_lists : ((gap : Gap) → IsGapOf n (key_of s) gap → ⊥) → (s.llist ≡ 0) × (s.rlist ≡ 0)
  no_lists none = left s.llist refl
    where
      right : s.llist ≡ 0 → (r : ℕ) → s.rlist ≡ r → (s.llist ≡ 0) × (s.rlist ≡ 0)
      right l zero e = (l, e)
      right l (suc r) e = absurd (let g = by_right l (λ z. let no : ⊥ = omega arith in no) in none g.0 g.1)

      left : (l : ℕ) → s.llist ≡ l → (s.llist ≡ 0) × (s.rlist ≡ 0)
      left zero e = right e s.rlist refl
      left (suc l) e = absurd (let g = by_left (λ z. let no : ⊥ = omega arith in no) in none g.0 g.1)
