use Rattle.std.proofs.Common.{List, sym, subst, ◌∙◌, true≢false, refl}
use Rattle.std.specs.List.{All}
use Rattle.std.proofs.lemmas.Bool.{false≢true}
use Rattle.std.proofs.lemmas.List.{take_all}
use Rattle.lg_audit.specs.Replies.{IsNamed}
use Rattle.lg_audit.specs.Views.{item_of}
use Rattle.lg_audit.specs.declared.shown.ShownItem.{ShownItem as Item}
use Rattle.lg_audit.proofs.Framed.{all_named, not_named}
use Rattle.lg_audit.proofs.Taken.{all_more}
use Rattle.lg_audit.proofs.linkages.frame.are_named.Goals as goal

pub loop-item-preserved : goal.loop-item-preserved
loop-item-preserved c =
    all_more (λ (x : Item). IsNamed c.args.know.now c.args.tokens.now (item_of x)) c.args.items.now c.loop-item.item-index c.item-item.result c.loop-item-test.true c.item-item.is c.loop-item.invariant
    (c.is_named.ensures.0 c.if-not-is_named.false)

pub returns-then-not-is_named : goal.returns-then-not-is_named
returns-then-not-is_named c = (
  λ h. absurd (false≢true h),
  λ all. absurd (not_named c.args.know.now c.args.tokens.now c.args.items.now c.loop-item.item-index c.item-item.result c.loop-item-test.true c.item-item.is
      (λ is. true≢false (sym (c.is_named.ensures.1 is) ∙ c.if-not-is_named.true)) all),
)

pub returns : goal.returns
returns c = (
  λ h. all_named c.args.know.now c.args.tokens.now c.args.items.now
      (subst (λ (xs : List Item). All (λ (x : Item). IsNamed c.args.know.now c.args.tokens.now (item_of x)) xs) (take_all c.loop-item.item-index c.args.items.now c.loop-item-test.false) c.loop-item.invariant),
  λ h. refl,
)
