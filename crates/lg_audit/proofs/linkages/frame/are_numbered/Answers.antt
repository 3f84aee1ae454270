use Rattle.std.proofs.Common.{sym, ◌∙◌, true≢false, refl, arith}
use Rattle.std.proofs.lemmas.Bool.{false≢true}
use Rattle.lg_audit.proofs.Framed.{from_more, from_all, not_from}
use Rattle.lg_audit.proofs.linkages.frame.are_numbered.Goals as goal

pub loop-i-init : goal.loop-i-init
loop-i-init c = λ k less. absurd (omega (arith, less))

pub loop-i-preserved : goal.loop-i-preserved
loop-i-preserved c =
    from_more c.args.from c.args.items.now c.loop-i.i c.index-items-i.result c.loop-i-test.true c.index-items-i.is c.loop-i.invariant (c.has_number.ensures.0 c.if-not-has_number.false)

pub returns-then-not-has_number : goal.returns-then-not-has_number
returns-then-not-has_number c = (
  λ h. absurd (false≢true h),
  λ same. absurd (not_from c.args.from c.args.items.now c.loop-i.i c.index-items-i.result c.loop-i-test.true c.index-items-i.is
      (λ is. true≢false (sym (c.has_number.ensures.1 is) ∙ c.if-not-has_number.true)) same),
)

pub returns : goal.returns
returns c = (λ h. from_all c.args.from c.args.items.now c.loop-i.i (omega arith) c.loop-i.invariant, λ h. refl)
