use Rattle.std.proofs.Common.{sym, ◌∙◌, true≢false}
use Rattle.std.proofs.lemmas.Bool.{false≢true}
use Rattle.lg_gram.specs.Linkages.{linkage_cmp}
use Rattle.lg_audit.proofs.GoingOn.{gone_on, lies_behind}
use Rattle.lg_audit.proofs.Rising.{sorted_behind}
use Rattle.lg_audit.proofs.linkages.rising.go_on.Goals as goal

pub returns-then-not-is_rising : goal.returns-then-not-is_rising
returns-then-not-is_rising c = λ before sorted is. (
  λ h. absurd (false≢true h),
  λ up. absurd (true≢false (sym (c.is_rising.ensures.1 (sorted_behind linkage_cmp c.linkages_are_ordered.ensures.total before c.args.shown.now up)) ∙ c.if-not-is_rising.true)),
)

pub returns : goal.returns
returns c = λ before sorted is. (
  λ h. gone_on c.linkages_are_ordered.ensures.total before sorted _ c.args.shown.now is (c.is_rising.ensures.0 c.if-not-is_rising.false) (c.lies_behind.ensures.0 h),
  λ up. c.lies_behind.ensures.1 (lies_behind c.linkages_are_ordered.ensures.total before sorted _ c.args.shown.now is up),
)
