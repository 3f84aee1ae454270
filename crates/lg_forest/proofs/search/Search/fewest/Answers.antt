use Rattle.std.proofs.Common.{◌≡◌, suc, ◌+◌, inl, inr, refl, sym, subst, ◌∙◌, true≢false, arith}
use Rattle.std.proofs.lemmas.Bool.{cases_lt}
use Rattle.lg_region.specs.declared.key.Key.TheVariants.{Whole}
use Rattle.lg_forest.specs.Demands.{HasLinkageUnder}
use Rattle.lg_forest.specs.Search.{Asked, IsWholeFrom}
use Rattle.lg_forest.proofs.Among.{asked_start}
use Rattle.lg_forest.proofs.Going.{goes_none, goes_then, ready_after}
use Rattle.lg_forest.proofs.Solved.{asked_whole, all_unlinked, fewest_is}
use Rattle.lg_forest.proofs.search.Search.fewest.Goals as goal

pub loop-nulls-init : goal.loop-nulls-init
loop-nulls-init g c = record {
  goes = goes_none c.requires.ready (asked_start c.args.lists.now (IsWholeFrom 0 0) c.args.self.now.table c.requires.ready.table (λ k (m, le, lt, e). omega arith));
  none = λ m lt has. omega arith;
}

pub visit-requires-clause-ready : goal.visit-requires-clause-ready
visit-requires-clause-ready g c = let last = c.requires.last in ready_after c.requires.ready c.loop-nulls.invariant.goes (omega arith)

pub visit-requires-2-clause-ready : goal.visit-requires-2-clause-ready
visit-requires-2-clause-ready g c = let last = c.requires.last in ready_after c.requires.ready c.loop-nulls.invariant.goes (omega arith)

pub returns-then-branch-clause-fewest : goal.returns-then-branch-clause-fewest
returns-then-branch-clause-fewest g c = fewest_is c.args.lists.now c.loop-nulls.nulls (c.in_ok-visit.ensures.found.0 c.if-branch.true) c.loop-nulls.invariant.none

pub returns-then-branch-clause-goes : goal.returns-then-branch-clause-goes
returns-then-branch-clause-goes g c =
    goes_then c.loop-nulls.invariant.goes c.in_ok-visit.ensures.goes
    (asked_whole c.args.lists.now 0 c.loop-nulls.nulls (suc c.loop-nulls.nulls) c.args.self.now.table c.loop-nulls.self.table c.visit.new.self.table (omega arith) refl c.loop-nulls.invariant.goes.asked c.in_ok-visit.ensures.goes.asked)

pub loop-nulls-preserved : goal.loop-nulls-preserved
loop-nulls-preserved g c = record {
  goes = goes_then c.loop-nulls.invariant.goes c.in_ok-visit.ensures.goes
      (asked_whole c.args.lists.now 0 c.loop-nulls.nulls (c.loop-nulls.nulls + 1) c.args.self.now.table c.loop-nulls.self.table c.visit.new.self.table (omega arith) (omega arith) c.loop-nulls.invariant.goes.asked c.in_ok-visit.ensures.goes.asked);
  none = λ m lt has. elim (cases_lt m c.loop-nulls.nulls) [
    | inl less ↦ c.loop-nulls.invariant.none m less has
    | inr more ↦ (let e : m ≡ c.loop-nulls.nulls = omega arith in
        true≢false (sym (c.in_ok-visit.ensures.found.1 (subst (λ z. HasLinkageUnder c.args.lists.now.positions c.args.lists.now.lists (Whole z)) e has)) ∙ c.if-branch.false))
  ];
}

pub returns-clause-fewest : goal.returns-clause-fewest
returns-clause-fewest g c =
    fewest_is c.args.lists.now c.args.last
    (subst (λ z. HasLinkageUnder c.args.lists.now.positions c.args.lists.now.lists (Whole z)) (sym c.requires.last) (all_unlinked c.args.lists.now c.requires.ready.decided))
    (λ m lt has. c.loop-nulls.invariant.none m (omega arith) has)

pub returns-clause-goes : goal.returns-clause-goes
returns-clause-goes g c =
    let e : c.loop-nulls.nulls ≡ c.args.last = omega arith in
    goes_then c.loop-nulls.invariant.goes c.in_ok-visit-2.ensures.goes
    (asked_whole c.args.lists.now 0 c.args.last (suc c.args.last) c.args.self.now.table c.loop-nulls.self.table c.visit-2.new.self.table (omega arith) refl
    (subst (λ z. Asked c.args.lists.now (IsWholeFrom 0 z) c.args.self.now.table c.loop-nulls.self.table) e c.loop-nulls.invariant.goes.asked) c.in_ok-visit-2.ensures.goes.asked)
