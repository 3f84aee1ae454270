use Rattle.std.proofs.Common.{Some, take, slice_get, ap, sym, subst, ◌∙◌}
use Rattle.std.specs.List.{list_all, slice_split}
use Rattle.lg_dict.specs.Compounds.{is_underscore, is_filled}
use Rattle.lg_dict.proofs.Compounds.{HasNone, compound_first-at, compound_first-unfilled, compound_first-whole}
use Rattle.lg_dict.proofs.compound.compound_first.Goals as goal
use Rattle.lg_dict.proofs.compound.compound_first.Goals.{in_default-via-in-Some+else-are_filled, in_default-via-in_default}

pub returns-in-Some : goal.returns-in-Some
returns-in-Some c =
    let stem = c.stem-stem.ensures in
    let at = c.in-Some.at in
    ap (λ l. Some (take at l)) stem
    ∙ sym (compound_first-at c.args.word.now at (ap (λ l. slice_get l at) (sym stem) ∙ c.in-Some.ensures.0) (subst (λ l. HasNone (take at l)) stem c.in-Some.ensures.1)
    (ap (λ l. list_all is_filled (slice_split is_underscore l)) (sym stem) ∙ sym c.are_filled.ensures ∙ c.if-are_filled.true))

-- a piece is empty, or no underscore stands there
pub returns-in_default : goal.returns-in_default
returns-in_default c =
    let stem = c.stem-stem.ensures in
    elim c.in_default.branch [
      | in_default-via-in-Some+else-are_filled w ↦
          sym (compound_first-unfilled c.args.word.now (ap (λ l. list_all is_filled (slice_split is_underscore l)) (sym stem) ∙ sym w.are_filled.ensures ∙ w.if-are_filled.false))
      | in_default-via-in_default w ↦ sym (compound_first-whole c.args.word.now (subst HasNone stem w.in_default.ensures))
    ]
