use Rattle.std.proofs.Common.{List, map, ◌∙◌, sym, subst, Bor, Vec, Global, Contains}
use Rattle.std.specs.List.{AllZip}
use Rattle.lg_gram.specs.Connectors.{Connector}
use Rattle.lg_region.specs.Fronts.{AreListsOf}
use Rattle.lg_region.specs.Numbered.{AreEndsOf, AreFirstsOf, AreSidesOf}
use Rattle.lg_region.specs.Chains.{IsByClass}
use Rattle.lg_region.specs.declared.numbering.Sides.{Sides}
use Rattle.lg_region.specs.declared.chains.Side.TheVariants.{Left, Right}
use Rattle.lg_region.proofs.Ends.{all_short}
use Rattle.lg_region.proofs.lists.Lists.of.Goals as goal

abbrev now : Bor (List Connector) → List Connector
now f = f.now

pub ends_of-requires-clause-short : goal.ends_of-requires-clause-short
ends_of-requires-clause-short c = λ cs has.
    let positions = c.positions-positions.ensures in
    let lists = map now c.numbered.new.fronts.items in
    let is = subst (λ z. AreListsOf z lists) positions.value c.in_ok-sides.ensures.lists.first_met in
    all_short c.args.problem.now cs positions.limits ((is.same cs).0 (subst (λ z. Contains (map now z) cs) c.deref.ensures.value has))

pub by_class-requires-clause-sides : goal.by_class-requires-clause-sides
by_class-requires-clause-sides c =
    let lists = map now c.numbered.new.fronts.items in
    let kinds = c.ends_of.new.kinds.keys in
    let positions = c.positions-positions.result.now in
    let ends = subst (λ z. AreEndsOf (map now z) kinds c.in_ok-ends.ends.items) c.deref.ensures.value c.in_ok-ends.ensures.ends in (
      lists,
      kinds,
      subst (λ z. AreEndsOf lists kinds z) (sym c.deref-2.ensures.value) ends,
      subst (λ z. AreSidesOf lists positions (map (λ (v : Vec Sides Global). v.items) z)) (sym c.deref-3.ensures.value) c.in_ok-sides.ensures.sides,
    )

pub by_class-requires-2-clause-sides : goal.by_class-requires-2-clause-sides
by_class-requires-2-clause-sides c =
    let lists = map now c.numbered.new.fronts.items in
    let kinds = c.ends_of.new.kinds.keys in
    let positions = c.positions-positions.result.now in
    let ends = subst (λ z. AreEndsOf (map now z) kinds c.in_ok-ends.ends.items) c.deref.ensures.value c.in_ok-ends.ensures.ends in (
      lists,
      kinds,
      subst (λ z. AreEndsOf lists kinds z) (sym c.deref-4.ensures.value) ends,
      subst (λ z. AreSidesOf lists positions (map (λ (v : Vec Sides Global). v.items) z)) (sym c.deref-5.ensures.value) c.in_ok-sides.ensures.sides,
    )

pub invariant_of-result : goal.invariant_of-result
invariant_of-result c =
    let lists = map now c.numbered.new.fronts.items in
    let n = c.in_ok-sides.ensures.lists in
    let e = c.positions-positions.ensures.value in
    let kinds = sym (c.in_ok-matching.ensures.kinds ∙ c.as_slice.ensures.keys) in
    record {
      problem = c.positions-positions.ensures.limits;
      lists = subst (λ z. AreListsOf z lists) e n.first_met;
      ends = subst (λ z. AreEndsOf lists z c.in_ok-ends.ends.items) kinds (subst (λ z. AreEndsOf (map now z) c.ends_of.new.kinds.keys c.in_ok-ends.ends.items) c.deref.ensures.value c.in_ok-ends.ensures.ends);
      matching = c.in_ok-matching.ensures.table;
      firsts = subst (λ z. AreFirstsOf lists z c.ends_of.new.firsts.items) kinds (subst (λ z. AreFirstsOf (map now z) c.ends_of.new.kinds.keys c.ends_of.new.firsts.items) c.deref.ensures.value c.in_ok-ends.ensures.firsts);
      sides = subst (λ z. AreSidesOf lists z (map (λ v. v.items) c.in_ok-sides.sides.items)) e c.in_ok-sides.ensures.sides;
      lefts = subst (λ z. AllZip (IsByClass Left) z c.in_ok-lefts.lefts.items) e c.in_ok-lefts.ensures;
      rights = subst (λ z. AllZip (IsByClass Right) z c.in_ok-rights.rights.items) e c.in_ok-rights.ensures;
    }
