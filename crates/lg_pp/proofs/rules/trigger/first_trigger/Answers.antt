use Rattle.std.proofs.Common.{◌≡◌, false, length, get_or, IsTrue, arith}
use Rattle.lg_pp.specs.Judging.{IsLabelled, MeetsOther, class_of}
use Rattle.lg_pp.specs.Labels.{FitsOne, Matches}
use Rattle.lg_pp.proofs.Firsts.{first_moved, meets_by_hits}
use Rattle.lg_pp.proofs.Picking.{picked_count, picked_read}
use Rattle.lg_pp.proofs.rules.trigger.first_trigger.Goals as goal

pub hits-requires : goal.hits-requires
hits-requires c =
    let flags = picked_count (FitsOne c.args.others.now) c.args.facts.now.labels c.in_ok-met.met c.in_ok-met.ensures in
    record { groups = rw (c.items.ensures, c.as_slice-groups.ensures.value, flags) c.requires.groups }

pub first_of_class-requires-clause-groups : goal.first_of_class-requires-clause-groups
first_of_class-requires-clause-groups c =
    let flags = picked_count (Matches c.args.trigger.now) c.args.facts.now.labels c.in_ok-triggers.triggers c.in_ok-triggers.ensures in
    rw (c.items-2.ensures, c.as_slice-groups.ensures.value, flags) c.requires.groups

pub first_of_class-requires-clause-hits : goal.first_of_class-requires-clause-hits
first_of_class-requires-clause-hits c =
    let met = picked_count (FitsOne c.args.others.now) c.args.facts.now.labels c.in_ok-met.met c.in_ok-met.ensures in
    let triggers = picked_count (Matches c.args.trigger.now) c.args.facts.now.labels c.in_ok-triggers.triggers c.in_ok-triggers.ensures in
    let enough = rw c.items.ensures at c.in_ok-hits.ensures.enough in
    rw (c.items-2.ensures, c.deref.ensures.value) (omega arith)

-- the flags of links and of classes say what the links and the classes have
pub returns : goal.returns
returns c =
    let labels = c.args.facts.now.labels in
    let groups = c.args.facts.now.groups.items in
    let triggers = c.in_ok-triggers.triggers in
    let met = c.in_ok-met.met in
    let hits = c.in_ok-hits.hits.items in
    let class = class_of c.args.grouped groups in
    let meets = meets_by_hits c.args.grouped groups c.args.others.now labels met hits c.in_ok-met.ensures (rw (c.as_slice-groups.ensures.value, c.items.ensures) at c.in_ok-hits.ensures.exactly) c.args.asked in
    let read = picked_read (Matches c.args.trigger.now) labels triggers c.in_ok-triggers.ensures in
    first_moved
    (λ n. IsTrue (get_or triggers n false) × (get_or hits (class n) false ≡ c.args.asked))
    (λ n. IsLabelled (Matches c.args.trigger.now) labels n × MeetsOther c.args.grouped groups c.args.others.now labels c.args.asked n)
    (length triggers) (length labels) c.first_of_class.result (picked_count (Matches c.args.trigger.now) labels triggers c.in_ok-triggers.ensures)
    (λ n. (λ h. ((read n).0 h.0, (meets n).0 h.1), λ h. ((read n).1 h.0, (meets n).1 h.1)))
    (rw (c.as_slice-groups.ensures.value, c.items-2.ensures, c.deref.ensures.value) at c.first_of_class.ensures)
