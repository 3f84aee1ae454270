use Rattle.std.proofs.Common.{◌≡◌, ◌∙◌, sym, subst, []}
use Rattle.lg_rules.specs.Steps.{IsCompletion}
use Rattle.lg_rules.proofs.Adding.{adds_none, adds_one}
use Rattle.lg_rules.specs.Places.{linkage_of}
use Rattle.lg_rules.proofs.Completing.{completion_ends, completion_sound, completion_here}
use Rattle.lg_rules.proofs.list.completing.keep.Goals as goal

pub returns-in_ok-push : goal.returns-in_ok-push
returns-in_ok-push c =
    let chosen = c.args.chosen.now in
    let links = c.args.links.now in
    let linkage = c.in_ok-linkage.linkage in
    let is : linkage ≡ linkage_of chosen links = c.in_ok-linkage.ensures in
    let sound = rw c.items.ensures at (c.is_sound.ensures.0 c.if-is_sound.true) in
    rw c.in_ok-push.ensures.items
    (adds_one (IsCompletion chosen links []) c.args.out.now.items linkage (subst (IsCompletion chosen links []) (sym is) (completion_here chosen links sound))
    (λ g q. is ∙ completion_ends chosen links g q))

pub returns-else-is_sound : goal.returns-else-is_sound
returns-else-is_sound c =
    adds_none (IsCompletion c.args.chosen.now c.args.links.now []) c.args.out.now.items
    (λ g q. let t = c.is_sound.ensures.1 (rw c.items.ensures (completion_sound c.args.chosen.now c.args.links.now g q)) in cc)
