use Rattle.std.proofs.Common.{sym, ap, ◌∙◌, subst, true≢false, List}
use Rattle.std.proofs.lemmas.Bool.{false≢true}
use Rattle.lg_gram.specs.Rules.{Good}
use Rattle.lg_gram.specs.declared.disjunct.Disjunct.{Disjunct}
use Rattle.lg_audit.specs.Pages.{problem_of}
use Rattle.lg_audit.proofs.Alone.{good_is_of}
use Rattle.lg_audit.proofs.linkages.linkage.is_good.Goals as goal

pub returns-then-not-belongs : goal.returns-then-not-belongs
returns-then-not-belongs c = (
  λ h. absurd (false≢true h),
  λ good. absurd (true≢false (sym (c.belongs.ensures.1 (good_is_of _ c.args.g.now (subst (λ (ps : List (List Disjunct)). Good ps c.args.g.now) (ap problem_of (sym c.chosen.ensures.value) ∙ sym c.in_ok-problem.ensures) good))) ∙ c.if-not-belongs.true)),
)
