-- From the first link at which each rule fails to the first broken rule.
use Rattle.std.proofs.Common.{◌≡◌, ◌≢◌, ℕ, ◌+◌, ◌-◌, ◌<◌, ◌≤◌, length, get_or, Some, None, inl, inr, sym, subst, All, arith, Less}
use Rattle.std.specs.Prelude.{slice_get}
use Rattle.std.proofs.lemmas.Bool.{cases_lt}
use Rattle.std.proofs.lemmas.Bool.Decides.{nat_tests}
use Rattle.std.proofs.lemmas.Map.Keys.{Less-from_sorted}
use Rattle.std.proofs.lemmas.Option.{slice_get-get_or, slice_get_within, get_or_from_slice_get}
use Rattle.lg_gram.specs.Linkages.{Linkage, link_cmp, pair_cmp}
use Rattle.lg_gram.specs.Rules.{HasLink}
use Rattle.lg_gram.specs.declared.linkage.Link.{Link}
use Rattle.lg_gram.specs.declared.listing.Violation.{Violation}
use Rattle.lg_knowread.specs.declared.knowledge.Knowledge.{Knowledge}
use Rattle.lg_knowread.specs.declared.knowledge.Rule.{Rule}
use Rattle.lg_knowread.specs.declared.knowledge.Rule.TheVariants.{Forbid, Demand, Bounded, Cycle}
use Rattle.lg_pp.specs.Breaks.{FailsAt, Holds, IsBroken}
use Rattle.lg_pp.specs.Domains.{IsNumber}
use Rattle.lg_pp.specs.Judging.{FailsAtNumber, IsFirst}
use Rattle.lg_pp.specs.Labels.{IsGood}
use Rattle.lg_pp.proofs.Failing.{number_of, same_number}

-- a rule fails at links of the linkage alone
fails_has : (know : Knowledge) (g : Linkage) (rule : Rule) (l : Link) → FailsAt know g rule l → HasLink g l
fails_has know g (Forbid grouped trigger others) l fails = fails.0.0
fails_has know g (Demand grouped trigger others) l fails = fails.0.0
fails_has know g (Bounded kind) l fails = fails.0.4.1.0
fails_has know g (Cycle pattern) l fails = fails.0.0

pub holds_from_none : (know : Knowledge) (g : Linkage) (rule : Rule) → IsFirst (FailsAtNumber know g rule) (length g.links) None → Holds know g rule
holds_from_none know g rule none l fails =
    let at = number_of g l (fails_has know g rule l fails) in
    none at.0 (slice_get_within g.links at.0 l at.1) (l, at.1, fails)

not_earlier : (k l : Link) → link_cmp k l ≡ Less → pair_cmp l k ≢ Less
not_earlier k l less e = grind (arith, nat_tests)

not_itself : (l : Link) → pair_cmp l l ≢ Less
not_itself l e = grind (arith, nat_tests)

-- the first of the links at which a rule fails is the least
least_link : (know : Knowledge) (g : Linkage) → IsGood g → (rule : Rule) (n : ℕ) (link : Link) → IsNumber g n link → ((k : ℕ) → k < n → FailsAtNumber know g rule k → ⊥) → (l : Link) → FailsAt know g rule l → pair_cmp l link ≢ Less
least_link know g good rule n link at earlier l fails =
    let there = number_of g l (fails_has know g rule l fails) in
    let m = there.0 in
    elim (cases_lt m n) [
      | inl less ↦ absurd (earlier m less (l, there.1, fails))
      | inr rest ↦ elim (cases_lt n m) [
        | inl more ↦
            let less = Less-from_sorted link_cmp g.links n m link good.good.belongs.set more (slice_get_within g.links m l there.1) in
            let here = get_or_from_slice_get g.links n link link at in
            let later = get_or_from_slice_get g.links m l link there.1 in
            not_earlier link l (rw (here, later) at less)
        | inr same ↦
            let e : m ≡ n = omega (arith, rest, same) in
            let one : l ≡ link = same_number g n l link (subst (λ i. IsNumber g i l) e there.1) at in
            subst (λ z. pair_cmp z link ≢ Less) (sym one) (not_itself link)
      ]
    ]

-- the rules before this one hold
abbrev pub HoldBefore : Knowledge → Linkage → ℕ → Type 0
HoldBefore know g n = (k : ℕ) (rule : Rule) → k < n → slice_get know.rules k ≡ Some rule → Holds know g rule

pub broken_at : (know : Knowledge) (g : Linkage) → IsGood g → (n : ℕ) (rule : Rule) → slice_get know.rules n ≡ Some rule → HoldBefore know g n → (k : ℕ) → IsFirst (FailsAtNumber know g rule) (length g.links) (Some k) →
    (link : Link) → IsNumber g k link → (v : Violation) → v.rule ≡ n + 1 → v.left ≡ link.left → v.right ≡ link.right → IsBroken know g v
broken_at know g good n rule at before k first link number v is left right =
    let here = first.1 in
    let same = same_number g k here.0 link here.1 number in
    record {
      rule = rule;
      number = (omega arith, let e : v.rule - 1 ≡ n = omega arith in rw e at);
      first = λ m earlier less is_rule. before (m - 1) earlier (let h = is_rule.0 in omega arith) is_rule.1;
      link = link;
      fails = subst (FailsAt know g rule) same here.2;
      left = sym left;
      right = sym right;
      least = least_link know g good rule k link number first.2;
    }

pub all_hold : (know : Knowledge) (g : Linkage) (n : ℕ) → length know.rules ≤ n → HoldBefore know g n → All (Holds know g) know.rules
all_hold know g n past before i d less = before i (get_or know.rules i d) (omega arith) (slice_get-get_or know.rules i d less)
