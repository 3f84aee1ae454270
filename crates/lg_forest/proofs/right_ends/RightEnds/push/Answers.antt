use Rattle.std.proofs.Common.{◌≡◌, suc, length, sym, ap, ◌∙◌, subst, Contains, arith}
use Rattle.std.specs.List.{slice_get}
use Rattle.lg_forest.specs.RightEnds.{AreRightEnds, rows_in}
use Rattle.lg_forest.proofs.RightEnds.{at_seam, ends_as, ends_pushed}
use Rattle.lg_forest.proofs.right_ends.RightEnds.push.Goals as goal

pub invariant_of-self-2 : goal.invariant_of-self-2
invariant_of-self-2 c =
    let ends = c.self.inside.ends.items in
    let old = rows_in c.self.inside.numbers.items in
    let room = rows_in c.make_room.new.numbers.items in
    let new = rows_in c.set_entry.new.numbers.items in
    let place = c.len-place.ensures in
    let ok = c.self.inside.ends.ok.0 in
    let few = c.if-place-ge-MOST_ENDS.false in
    subst (λ z. AreRightEnds z new) (sym c.in_ok-push.ensures.items)
    (ends_pushed ends room new c.args.end _ (ends_as ends old room c.make_room.ensures.same c.self.invariant) (λ has. c.requires (subst (λ z. Contains z c.args.end) c.self.view_is has)) (omega arith) c.set_entry.ensures.there c.set_entry.ensures.others)

pub returns-clause-place : goal.returns-clause-place
returns-clause-place c =
    let ends = c.self.inside.ends.items in
    let place = c.len-place.ensures in
    let ok = c.self.inside.ends.ok.0 in
    let last : c.len-place.result ≡ length ends = omega arith in
    ap (λ z. slice_get z c.len-place.result) c.in_ok-push.ensures.items ∙ at_seam ends c.args.end c.len-place.result last
