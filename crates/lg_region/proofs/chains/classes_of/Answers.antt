use Rattle.std.proofs.Common.{◌≡◌, ap, ◌∙◌, subst, arith}
use Rattle.std.proofs.lemmas.List.{take_all}
use Rattle.lg_region.specs.Chains.{class_of, classes_on}
use Rattle.lg_region.specs.Fronts.{list_of}
use Rattle.lg_region.specs.Numbered.{HasSides}
use Rattle.lg_region.specs.declared.numbering.Sides.{Sides}
use Rattle.lg_region.proofs.Chaining.{class_by, classes_more, number_known, with_sides}
use Rattle.lg_region.proofs.Elements.{zip_length}
use Rattle.lg_region.proofs.chains.classes_of.Goals as goal

abbrev no_sides : Sides
no_sides = record { left = 0; right = 0 }

pub class_in-requires : goal.class_in-requires
class_in-requires c =
    let lists = c.requires.0 in
    let ends = c.requires.2.same_length in
    let has = with_sides lists c.args.disjuncts.now c.args.row.now c.loop-sides.sides-index no_sides c.requires.3 c.loop-sides-test.true in
    let known = number_known lists c.args.side has.0 _ has.2 in
    let is = c.number.ensures in
    omega arith

pub loop-sides-preserved : goal.loop-sides-preserved
loop-sides-preserved c =
    let lists = c.requires.0 in
    let ds = c.args.disjuncts.now in
    let i = c.loop-sides.sides-index in
    let has = with_sides lists ds c.args.row.now i no_sides c.requires.3 c.loop-sides-test.true in
    let class = c.class_in.ensures lists c.requires.1 c.requires.2 in
    let is = subst (λ z. c.class_in.result ≡ class_of (list_of lists z)) c.number.ensures class in
    classes_more c.args.side ds c.loop-sides.classes.items c.push.new.self.items i c.class_in.result has.0 has.1 (class_by lists c.args.side has.0 _ c.class_in.result has.2 is) c.loop-sides.invariant c.in_ok-push.ensures.items

pub returns : goal.returns
returns c =
    let ds = c.args.disjuncts.now in
    let i = c.loop-sides.sides-index in
    let past = c.loop-sides-test.false in
    let z = zip_length (HasSides c.requires.0) ds c.args.row.now c.requires.3 in
    c.loop-sides.invariant ∙ ap (classes_on c.args.side) (take_all i ds (omega arith))
