use Rattle.std.proofs.Common.{◌+◌, get_or, subst, sym, ap, ◌∙◌, arith}
use Rattle.lg_text.specs.Painted.{no_link}
use Rattle.lg_text.proofs.Heights.{height_is, AreRaised, raised_one, raised_other}
use Rattle.lg_text.proofs.drawing.heights.raise.Goals as goal
use Rattle.lg_text.proofs.drawing.heights.raise.Goals.{then-length_of-length, else-length_of-length}

pub overflow_add-heights : goal.overflow_add-heights
overflow_add-heights c =
    let low = c.highest_inside.ensures.low in
    let fits = c.length_of.type_inv in
    let is = c.length_of.ensures in
    omega arith

-- the height of a link of this length is set
pub loop-i-preserved : goal.loop-i-preserved
loop-i-preserved c =
    let links = c.args.links.now in
    let link = get_or links c.loop-i.i no_link in
    elim c.if-length_of-length.branch [
      | then-length_of-length w ↦
          subst (AreRaised links c.args.length (c.loop-i.i + 1)) (sym w.heights-is)
          (raised_one links c.args.length c.loop-i.i c.loop-i.heights c.loop-i-test.true c.loop-i.invariant _ (sym c.length_of.ensures ∙ w.if-length_of-length.true)
          (ap (λ h. h + 1) w.highest_inside.ensures.value ∙ sym (height_is links c.requires.forward link (c.requires.forward c.loop-i.i no_link c.loop-i-test.true))))
      | else-length_of-length w ↦
          subst (AreRaised links c.args.length (c.loop-i.i + 1)) (sym w.heights-is)
          (raised_other links c.args.length c.loop-i.i c.loop-i.heights c.loop-i-test.true c.loop-i.invariant (λ same. let is = c.length_of.ensures in let apart = w.if-length_of-length.false in omega arith))
    ]
