use Rattle.std.proofs.Common.{◌≡◌, true}
use Rattle.lg_rules.specs.Steps.{IsSoundWith}
use Rattle.lg_rules.proofs.Adding.{adds_none}
use Rattle.lg_rules.proofs.Pruned.{sound_reached}
use Rattle.lg_rules.proofs.Choosing.{sound_completed}
use Rattle.lg_rules.proofs.list.completing.add_sound.Goals as goal

pub returns : goal.returns
returns c =
    let links = c.in_ok-links.links.items in
    let are = rw c.items.ensures at c.in_ok-links.ensures.are in
    let every = rw c.items.ensures at c.in_ok-links.ensures.every in
    sound_completed c.links_are_ordered.ensures.total c.args.chosen.now links are every c.args.out.now.items c.complete.new.out.items
    (rw (c.deref-2.ensures.value, c.new-taken.ensures.items) at c.in_ok-complete.ensures.added)

pub returns-then-not-all_reached : goal.returns-then-not-all_reached
returns-then-not-all_reached c =
    let every = rw c.items.ensures at c.in_ok-links.ensures.every in
    adds_none (IsSoundWith c.args.chosen.now) c.args.out.now.items
    (λ g q. let t : c.all_reached.result ≡ true = c.all_reached.ensures.1 (rw (c.items-2.ensures, c.deref.ensures.value) (sound_reached c.args.chosen.now c.in_ok-links.links.items every g q)) in cc)
