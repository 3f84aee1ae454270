use Rattle.std.proofs.Common.{sym, subst, ◌∙◌, true≢false, refl}
use Rattle.std.specs.List.{All}
use Rattle.std.proofs.lemmas.Bool.{false≢true}
use Rattle.std.proofs.lemmas.List.{take_all}
use Rattle.std.proofs.lemmas.List.Elements.{recursion_from_All}
use Rattle.lg_audit.proofs.ShownLinkages.{IsLabelled, labels_are, not_labels, link_in}
use Rattle.lg_audit.proofs.linkages.linkage.has_labels.Goals as goal

pub has_label-requires : goal.has_label-requires
has_label-requires c =
    c.requires.matched.joins c.one-item.result.link (link_in c.args.g.now c.args.shown.now c.requires.same c.loop-one.one-index c.one-item.result c.loop-one-test.true c.one-item.is)

pub returns-then-not-has_label : goal.returns-then-not-has_label
returns-then-not-has_label c = (
  λ h. absurd (false≢true h),
  λ same. absurd (not_labels c.args.g.now c.args.shown.now c.requires.same c.loop-one.one-index c.one-item.result c.loop-one-test.true c.one-item.is
      (λ is. true≢false (sym (c.has_label.ensures.1 is) ∙ c.if-not-has_label.true)) same),
)

pub returns : goal.returns
returns c = (
  λ h. labels_are c.args.g.now c.args.shown.now c.requires.same
      (recursion_from_All (IsLabelled c.args.g.now) c.args.shown.now (subst (All (IsLabelled c.args.g.now)) (take_all c.loop-one.one-index c.args.shown.now c.loop-one-test.false) c.loop-one.invariant)),
  λ h. refl,
)
