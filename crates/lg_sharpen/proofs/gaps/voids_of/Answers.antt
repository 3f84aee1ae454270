use Rattle.std.proofs.Common.{◌≡◌, ◌+◌, ◌∙◌, Bool, false, cond, sym, ap, arith}
use Rattle.lg_sharpen.specs.Filling.{rows_in}
use Rattle.lg_sharpen.proofs.Voids.{voids_more}
use Rattle.lg_sharpen.proofs.gaps.voids_of.Goals as goal
use Rattle.lg_sharpen.proofs.gaps.voids_of.Goals.{then-is_stuck, else-is_stuck}

pub loop-word-preserved : goal.loop-word-preserved
loop-word-preserved c =
    let at = c.loop-word in
    let sum : c.if-is_stuck.count ≡ at.count + cond c.is_stuck.result 1 0 = elim c.if-is_stuck.branch [
      | then-is_stuck w ↦ w.count-is ∙ ap (λ (b : Bool). at.count + cond b 1 0) (sym w.if-is_stuck.true)
      | else-is_stuck w ↦ (let none : at.count ≡ at.count + cond false 1 0 = omega arith in w.count-is ∙ none ∙ ap (λ (b : Bool). at.count + cond b 1 0) (sym w.if-is_stuck.false))
    ] in
    voids_more c.args.words (rows_in c.args.least.now) at.word at.count c.if-is_stuck.count at.voids.items c.push-in-loop-word.new.self.items c.is_stuck.result c.is_stuck.ensures sum c.in_ok-push-2.ensures.items at.invariant
