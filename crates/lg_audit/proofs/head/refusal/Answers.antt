use Rattle.std.proofs.Common.{◌≡◌, sym, ◌∙◌, ap, subst, drop, List, ℕ, true≢false}
use Rattle.lg_audit.specs.Documents.{IsCause}
use Rattle.lg_audit.proofs.Causes.{refusal_cut}
use Rattle.lg_audit.proofs.head.refusal.Goals as goal

pub returns-in_default-number_of : goal.returns-in_default-number_of
returns-in_default-number_of c = λ v cause fits form is.
    let cut = c.in-Some-cut_at.ensures in
    c.in_default-number_of.ensures.value v fits (refusal_cut c.args.told.now _ _ _ cause v c.in-Some.ensures cut.0 cut.1 fits is).0

pub returns-in_default-behind : goal.returns-in_default-behind
returns-in_default-behind c = λ v cause fits form is.
    let cut = c.in-Some-cut_at.ensures in
    c.in_default-behind.ensures cause (refusal_cut c.args.told.now _ _ _ cause v c.in-Some.ensures cut.0 cut.1 fits is).1

pub returns-then-not-is_cause : goal.returns-then-not-is_cause
returns-then-not-is_cause c = λ v cause fits form is.
    let cut = c.in-Some-cut_at.ensures in
    let rest = (refusal_cut c.args.told.now _ _ _ cause v c.in-Some.ensures cut.0 cut.1 fits is).1 in
    let same : cause ≡ c.in-Some-behind.cause.now = ap (λ (l : List ℕ). drop 1 l) (sym rest ∙ c.in-Some-behind.ensures) in
    true≢false (sym (c.is_cause.ensures.1 (subst IsCause same form)) ∙ c.if-not-is_cause.true)
