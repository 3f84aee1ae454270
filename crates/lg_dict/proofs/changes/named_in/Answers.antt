use Rattle.std.proofs.Common.{◌≡◌, None, Some, IfSome, ap, sym, subst, ◌∙◌}
use Rattle.std.specs.FinMap.{get}
use Rattle.std.specs.Option.{option_map, option_copied}
use Rattle.lg_dict.specs.Changed.{named_by, KeepsToLevel}
use Rattle.lg_dict.specs.Tables.{at_text}
use Rattle.lg_dict.proofs.Changed.{over, get-macro}
use Rattle.lg_dict.proofs.changes.named_in.Goals as goal

pub returns-in-Some-clause-found : goal.returns-in-Some-clause-found
returns-in-Some-clause-found c =
    let dict = c.args.base.now in
    let changes = c.args.changes.now in
    let is : at_text changes.macros c.args.name.now ≡ Some c.in-Some.found.now = sym c.get.ensures.value ∙ ap option_copied c.in-Some.is in
    sym (get-macro dict changes c.args.name.now ∙ ap (λ o. over (option_map (λ m. Some (named_by m)) o) (get dict.macros c.args.name.now)) is)

pub returns-in-Some-clause-level : goal.returns-in-Some-clause-level
returns-in-Some-clause-level c =
    let is : at_text c.args.changes.now.macros c.args.name.now ≡ Some c.in-Some.found.now = sym c.get.ensures.value ∙ ap option_copied c.in-Some.is in
    let kept : KeepsToLevel c.in-Some.found.now = subst (λ o. IfSome o KeepsToLevel) is (c.requires.macros c.args.name.now) in
    kept.level_fits

pub returns-in-None-clause-found : goal.returns-in-None-clause-found
returns-in-None-clause-found c =
    let dict = c.args.base.now in
    let changes = c.args.changes.now in
    let is : at_text changes.macros c.args.name.now ≡ None = sym c.get.ensures.value ∙ ap option_copied c.in-None.is in
    c.named.ensures.found ∙ sym (get-macro dict changes c.args.name.now ∙ ap (λ o. over (option_map (λ m. Some (named_by m)) o) (get dict.macros c.args.name.now)) is)
