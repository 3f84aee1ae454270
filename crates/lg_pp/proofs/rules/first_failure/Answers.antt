use Rattle.std.proofs.Common.{ℕ, true, false, length, get_or, IsTrue, arith}
use Rattle.std.proofs.lemmas.Result.{IfOk-weaker}
use Rattle.lg_knowread.specs.declared.knowledge.Rule.TheVariants.{Forbid, Demand, Cycle}
use Rattle.lg_pp.specs.Judging.{FailsAtNumber, IsBridgeAt, IsFirst, IsLabelled, MeetsOther}
use Rattle.lg_pp.specs.Labels.{Matches}
use Rattle.lg_pp.proofs.Failing.{labels_count, fails_forbid, fails_demand, fails_cycle}
use Rattle.lg_pp.proofs.Firsts.{first_along, first_moved}
use Rattle.lg_pp.proofs.Picking.{picked_count, picked_read}
use Rattle.lg_pp.proofs.rules.first_failure.Goals as goal

-- there are as many labels and flags as links
pub first_trigger-requires : goal.first_trigger-requires
first_trigger-requires c =
    let count = labels_count c.args.know.now c.args.g.now c.args.facts.now c.requires.facts in
    record { groups = rw count c.requires.facts.within }

pub first_trigger-requires-in-Demand : goal.first_trigger-requires-in-Demand
first_trigger-requires-in-Demand c =
    let count = labels_count c.args.know.now c.args.g.now c.args.facts.now c.requires.facts in
    record { groups = rw count c.requires.facts.within }

pub first_of_kind-requires-clause-known : goal.first_of_kind-requires-clause-known
first_of_kind-requires-clause-known c = rw c.in-Bounded.is at c.requires.known

pub first_bridge-requires-clause-matching : goal.first_bridge-requires-clause-matching
first_bridge-requires-clause-matching c =
    let count = labels_count c.args.know.now c.args.g.now c.args.facts.now c.requires.facts in
    let flags = picked_count (Matches c.in-Cycle.pattern) c.args.facts.now.labels c.in_ok-matching-in-Cycle.matching c.in_ok-matching-in-Cycle.ensures in
    rw c.items.ensures (omega arith)

pub returns-in-Forbid-clause-first : goal.returns-in-Forbid-clause-first
returns-in-Forbid-clause-first c =
    let know = c.args.know.now in
    let g = c.args.g.now in
    let facts = c.args.facts.now in
    let labels = facts.labels in
    let groups = facts.groups.items in
    let grouped = c.in-Forbid.grouped in
    let trigger = c.in-Forbid.trigger in
    let others = c.in-Forbid.others in
    let P : ℕ → Type 0 = λ n. IsLabelled (Matches trigger) labels n × MeetsOther grouped groups others labels true n in
    let Q : ℕ → Type 0 = FailsAtNumber know g (Forbid grouped trigger others) in
    let known = rw c.in-Forbid.is at c.requires.known in
    rw c.in-Forbid.is
    (IfOk-weaker c.first_trigger.result (IsFirst P (length labels)) (IsFirst Q (length g.links))
    (λ first. first_moved P Q (length labels) (length g.links) first (labels_count know g facts c.requires.facts) (fails_forbid know g facts c.requires.facts grouped trigger others known))
    c.first_trigger.ensures)

pub returns-in-Demand-clause-first : goal.returns-in-Demand-clause-first
returns-in-Demand-clause-first c =
    let know = c.args.know.now in
    let g = c.args.g.now in
    let facts = c.args.facts.now in
    let labels = facts.labels in
    let groups = facts.groups.items in
    let grouped = c.in-Demand.grouped in
    let trigger = c.in-Demand.trigger in
    let others = c.in-Demand.others in
    let P : ℕ → Type 0 = λ n. IsLabelled (Matches trigger) labels n × MeetsOther grouped groups others labels false n in
    let Q : ℕ → Type 0 = FailsAtNumber know g (Demand grouped trigger others) in
    let known = rw c.in-Demand.is at c.requires.known in
    rw c.in-Demand.is
    (IfOk-weaker c.first_trigger-in-Demand.result (IsFirst P (length labels)) (IsFirst Q (length g.links))
    (λ first. first_moved P Q (length labels) (length g.links) first (labels_count know g facts c.requires.facts) (fails_demand know g facts c.requires.facts grouped trigger others known))
    c.first_trigger-in-Demand.ensures)

pub returns-in-Bounded-clause-first : goal.returns-in-Bounded-clause-first
returns-in-Bounded-clause-first c = rw c.in-Bounded.is c.first_of_kind.ensures.first

pub returns-in_ok-matching-in-Cycle-clause-first : goal.returns-in_ok-matching-in-Cycle-clause-first
returns-in_ok-matching-in-Cycle-clause-first c =
    let know = c.args.know.now in
    let g = c.args.g.now in
    let facts = c.args.facts.now in
    let pattern = c.in-Cycle.pattern in
    let matching = c.in_ok-matching-in-Cycle.matching in
    let P : ℕ → Type 0 = λ n. IsTrue (get_or matching n false) × IsBridgeAt g n in
    let Q : ℕ → Type 0 = FailsAtNumber know g (Cycle pattern) in
    let read = picked_read (Matches pattern) facts.labels matching c.in_ok-matching-in-Cycle.ensures in
    let says = fails_cycle know g facts c.requires.facts pattern in
    rw c.in-Cycle.is
    (IfOk-weaker c.first_bridge.result (IsFirst P (length g.links)) (IsFirst Q (length g.links))
    (λ first. first_along P Q (length g.links) first (λ n less. (λ h. (says n).0 ((read n).0 h.0, h.1), λ f. let h = (says n).1 f in ((read n).1 h.0, h.1))))
    (rw c.items.ensures at c.first_bridge.ensures.first))
