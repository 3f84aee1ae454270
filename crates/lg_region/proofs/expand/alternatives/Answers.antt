use Rattle.std.proofs.Common.{◌∙◌, IfOk, subst, sym}
use Rattle.lg_region.specs.Keys.{IsAltOf, IsValidKey}
use Rattle.lg_region.specs.Openings.{IsGapOf}
use Rattle.lg_region.specs.Ways.{AreExactly}
use Rattle.lg_region.specs.declared.group.Gap.{Gap}
use Rattle.lg_region.specs.declared.key.Key.TheVariants.{Region as Between}
use Rattle.lg_region.proofs.Expanding.{no_gap}
use Rattle.lg_region.proofs.expand.alternatives.Goals as goal

pub returns-in-Region : goal.returns-in-Region
returns-in-Region c =
    let n = c.args.lists.now in let r = c.in-Region in
    let valid = subst (IsValidKey n.positions n.lists) r.is c.requires in
    let z = no_gap n r.left r.right r.llist r.rlist r.nulls c.are_numbered.ensures valid (subst (λ k. (gap : Gap) → IsGapOf n k gap → ⊥) r.is c.in_default.ensures.none) in
    subst (λ k. IfOk c.of_empty_gap.result (λ items. AreExactly items.items (IsAltOf n.positions n.lists k))) (sym (r.is ∙ (λ i. Between r.left r.right (z.0 i) (z.1 i) r.nulls))) (c.of_empty_gap.ensures n.positions n.lists)
