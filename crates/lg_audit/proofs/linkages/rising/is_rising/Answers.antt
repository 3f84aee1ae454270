use Rattle.std.proofs.Common.{◌≡◌, ◌-◌, sym, ap, ◌∙◌, arith, refl, not, ◌==◌, Less}
use Rattle.std.specs.Ordering.{ordering_index}
use Rattle.std.proofs.lemmas.Bool.{false≢true}
use Rattle.std.proofs.lemmas.List.{get_or_default}
use Rattle.std.proofs.lemmas.Map.Keys.{Less-from_sorted}
use Rattle.lg_gram.specs.Linkages.{linkage_cmp}
use Rattle.lg_gram.proofs.Lists.{adjacent_more, less_from_index, rising_from}
use Rattle.lg_audit.proofs.linkages.rising.is_rising.Goals as goal

pub returns-then-ne : goal.returns-then-ne
returns-then-ne c = (
  λ h. absurd (false≢true h),
  λ sorted.
      let first = c.index-shown-i.result in
      let less = Less-from_sorted linkage_cmp c.args.shown.now (c.loop-i.i - 1) c.loop-i.i first sorted (omega arith) (omega arith) in
      let second = c.index-shown-i-in-loop-i.is ∙ get_or_default c.args.shown.now c.loop-i.i c.index-shown-i-in-loop-i.result first (omega arith) in
      let answered : c.compare.result ≡ Less = c.compare.ensures ∙ (λ j. linkage_cmp (c.index-shown-i.is j) (second j)) ∙ less in
      sym (sym c.if-ne.true ∙ c.ne.ensures ∙ ap (λ o. not (ordering_index o == 0)) answered),
)

pub loop-i-preserved : goal.loop-i-preserved
loop-i-preserved c =
    let first = c.index-shown-i.result in
    let second = c.index-shown-i-in-loop-i.is ∙ get_or_default c.args.shown.now c.loop-i.i c.index-shown-i-in-loop-i.result first (omega arith) in
    adjacent_more linkage_cmp c.args.shown.now c.loop-i.i first (omega arith) (omega arith) c.loop-i.invariant
    (sym (λ j. linkage_cmp (c.index-shown-i.is j) (second j)) ∙ sym c.compare.ensures ∙ less_from_index c.compare.result (sym c.ne.ensures ∙ c.if-ne.false))

pub returns : goal.returns
returns c = (λ h. rising_from c.linkages_are_ordered.ensures.total c.args.shown.now (λ k d less. c.loop-i.invariant k d (omega arith)), λ h. refl)
