use Rattle.std.proofs.Common.{◌∙◌, ℕ, Bool, false, List, length, get_or, Option, IsTrue, arith}
use Rattle.lg_gram.specs.Linkages.{Linkage}
use Rattle.lg_knowread.specs.declared.knowledge.Knowledge.{Knowledge}
use Rattle.lg_pp.specs.Judging.{AreFacts, FailsBound, HasBound, IsFirst, Overruns}
use Rattle.lg_pp.specs.Picked.{ArePicked}
use Rattle.lg_pp.specs.Reach.{StartsKind}
use Rattle.lg_pp.specs.declared.rules.facts.Facts.{Facts}
use Rattle.lg_pp.proofs.Failing.{bounded_rows, fails_bounded, labels_count}
use Rattle.lg_pp.proofs.Finding.{bounds_more, none_fails}
use Rattle.lg_pp.proofs.Firsts.{first_moved}
use Rattle.lg_pp.proofs.Grouping.{rows_count, rows_short}
use Rattle.lg_pp.proofs.Picking.{picked_count, picked_read}
use Rattle.lg_pp.proofs.rules.bounded.first_of_kind.Goals as goal

-- the kind was noted
pub returns-then-kept-kind-clause-first : goal.returns-then-kept-kind-clause-first
returns-then-kept-kind-clause-first c = λ n less. c.requires.kept c.args.kind c.if-kept-kind.true n

-- there are as many labels, rows and flags as links
pub first_overrun-first-requires-clause-links : goal.first_overrun-first-requires-clause-links
first_overrun-first-requires-clause-links c =
    let labels = labels_count c.args.know.now c.args.g.now c.args.facts.now c.requires.facts in
    let flags = picked_count (StartsKind c.args.know.now.starts c.args.kind) c.args.facts.now.labels c.in_ok-starts.starts c.in_ok-starts.ensures in
    rw (c.items.ensures, c.links.ensures.value) (omega arith)

pub first_overrun-first-requires-clause-rows : goal.first_overrun-first-requires-clause-rows
first_overrun-first-requires-clause-rows c =
    let labels = labels_count c.args.know.now c.args.g.now c.args.facts.now c.requires.facts in
    let flags = picked_count (StartsKind c.args.know.now.starts c.args.kind) c.args.facts.now.labels c.in_ok-starts.starts c.in_ok-starts.ensures in
    let rows = rows_count c.args.know.now c.args.g.now c.args.facts.now.rows.items (bounded_rows c.args.know.now c.args.g.now c.args.facts.now c.requires.facts c.args.kind c.requires.known) in
    rw (c.items.ensures, c.deref.ensures.value) (omega arith)

pub first_overrun-first-requires-clause-flags : goal.first_overrun-first-requires-clause-flags
first_overrun-first-requires-clause-flags c =
    let of = bounded_rows c.args.know.now c.args.g.now c.args.facts.now c.requires.facts c.args.kind c.requires.known in
    rw c.deref.ensures.value (rows_short c.args.know.now c.args.g.now c.args.facts.now.rows.items of c.links.result.now c.links.ensures.value)

-- the first start with such a domain is the first link at which the rule fails
first_fails : (know : Knowledge) (g : Linkage) (facts : Facts) → AreFacts know g facts → (kind : ℕ) → HasBound know kind → (starts : List Bool) → ArePicked (StartsKind know.starts kind) facts.labels starts → (first : Option ℕ) →
    IsFirst (λ n. IsTrue (get_or starts n false) × Overruns g.links facts.rows.items n) (length starts) first → IsFirst (FailsBound know g kind) (length g.links) first
first_fails know g facts are kind known starts picked first =
    let read = picked_read (StartsKind know.starts kind) facts.labels starts picked in
    let says = fails_bounded know g facts are kind known in
    first_moved (λ n. IsTrue (get_or starts n false) × Overruns g.links facts.rows.items n) (FailsBound know g kind) (length starts) (length g.links) first
    (picked_count (StartsKind know.starts kind) facts.labels starts picked ∙ labels_count know g facts are)
    (λ n. (λ h. (says n).0 ((read n).0 h.0, h.1), λ f. let h = (says n).1 f in ((read n).1 h.0, h.1)))

pub returns-clause-first : goal.returns-clause-first
returns-clause-first c =
    first_fails c.args.know.now c.args.g.now c.args.facts.now c.requires.facts c.args.kind c.requires.known c.in_ok-starts.starts c.in_ok-starts.ensures c.first_overrun-first.result
    (rw (c.items.ensures, c.links.ensures.value, c.deref.ensures.value) at c.first_overrun-first.ensures)

pub returns-clause-kept : goal.returns-clause-kept
returns-clause-kept c =
    let fails = first_fails c.args.know.now c.args.g.now c.args.facts.now c.requires.facts c.args.kind c.requires.known c.in_ok-starts.starts c.in_ok-starts.ensures c.first_overrun-first.result
    (rw (c.items.ensures, c.links.ensures.value, c.deref.ensures.value) at c.first_overrun-first.ensures) in
    bounds_more c.args.know.now c.args.g.now c.args.kept.now c.args.kind c.is_none.result c.requires.kept
    (none_fails c.args.know.now c.args.g.now c.args.kind c.first_overrun-first.result c.is_none.result fails c.is_none.ensures)
