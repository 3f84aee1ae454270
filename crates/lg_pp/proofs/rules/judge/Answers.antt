use Rattle.std.proofs.Common.{◌≡◌, ℕ, ◌+◌, ◌<◌, ap, List, length, get_or, Some, refl, subst, arith}
use Rattle.std.specs.Prelude.{slice_get}
use Rattle.std.proofs.lemmas.Option.{slice_get_read, slice_get-get_or, same_Some}
use borrow.Author.Count.{below_more}
use Rattle.lg_gram.specs.Linkages.{Linkage}
use Rattle.lg_knowread.specs.declared.knowledge.Knowledge.{Knowledge}
use Rattle.lg_knowread.specs.declared.knowledge.Rule.{Rule}
use Rattle.lg_pp.specs.Breaks.{Holds}
use Rattle.lg_pp.specs.Domains.{IsNumber}
use Rattle.lg_pp.proofs.Breaking.{HoldBefore, holds_from_none, broken_at, all_hold}
use Rattle.lg_pp.proofs.Good.{no_link}
use Rattle.lg_pp.proofs.rules.judge.Goals as goal

rule_at : (rules items : List Rule) (n : ℕ) (rule : Rule) → items ≡ rules → n < length items → rule ≡ get_or items n rule → slice_get rules n ≡ Some rule
rule_at rules items n rule e less is = rw (← e) (slice_get_read items (length items) n rule refl less is)

-- one more rule that holds
hold_more : (know : Knowledge) (g : Linkage) (n : ℕ) (rule : Rule) → slice_get know.rules n ≡ Some rule → HoldBefore know g n → Holds know g rule → HoldBefore know g (n + 1)
hold_more know g n rule at before here k other less there =
    below_more (λ k. (other : Rule) → slice_get know.rules k ≡ Some other → Holds know g other) n (λ k less other there. before k other less there)
    (λ other there. subst (Holds know g) (let e : Some rule ≡ Some other = cc in same_Some rule other e) here) k less other there

-- nothing is known at first
pub loop-n-init : goal.loop-n-init
loop-n-init c =
    let none = c.in_ok-found.ensures in
    record {
      hold = λ k rule less at. absurd (omega (arith, less));
      found = record { bounded = λ kind is. absurd (none.bounded kind is); enough = none.enough; cycled = λ n is. absurd (none.cycled n is) };
    }

pub returns-in-Some : goal.returns-in-Some
returns-in-Some c =
    let know = c.args.know.now in
    let g = c.args.g.now in
    let rule = c.rule-item.result in
    let k = c.in-Some.k in
    let at = rule_at know.rules c.items-rule-items.result.now c.loop-n.n rule c.items-rule-items.ensures c.loop-n-test.true c.rule-item.is in
    let first = rw c.in-Some.is at c.in_ok-first.ensures.first in
    let number : IsNumber g k (get_or c.links.result.now k no_link) = rw c.links.ensures.value (slice_get-get_or g.links k no_link first.0) in
    broken_at know g c.requires.good c.loop-n.n rule at c.loop-n.invariant.hold k first (get_or c.links.result.now k no_link) number _ refl refl refl

pub loop-n-preserved : goal.loop-n-preserved
loop-n-preserved c =
    let know = c.args.know.now in
    let g = c.args.g.now in
    let rule = c.rule-item.result in
    let at = rule_at know.rules c.items-rule-items.result.now c.loop-n.n rule c.items-rule-items.ensures c.loop-n-test.true c.rule-item.is in
    record {
      hold = hold_more know g c.loop-n.n rule at c.loop-n.invariant.hold (holds_from_none know g rule (rw c.in_default.is at c.in_ok-first.ensures.first));
      found = c.in_ok-first.ensures.found;
    }

pub returns : goal.returns
returns c =
    all_hold c.args.know.now c.args.g.now c.loop-n.n (let e = ap length c.items-rule-items.ensures in omega arith) c.loop-n.invariant.hold
