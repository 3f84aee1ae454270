use Rattle.std.proofs.Common.{◌↔◌, ◌≡◌, true, subst}
use Rattle.std.specs.List.{All}
use Rattle.lg_sharpen.specs.Sites.{IsOpen, items_in}
use Rattle.lg_sharpen.proofs.Tables.{list_in}
use Rattle.lg_sharpen.proofs.Standing.{open_more}
use Rattle.lg_sharpen.proofs.rounds.which_open.Goals as goal

pub loop-index-preserved : goal.loop-index-preserved
loop-index-preserved c =
    open_more (items_in c.args.lists.now) c.loop-index.index c.loop-index.flags.items c.push.new.self.items c.index-lists-index.result.items c.are_open-flag.result c.in_ok-push.ensures.items
    (list_in c.args.lists.now c.loop-index.index c.index-lists-index.result c.loop-index-test.true c.index-lists-index.is)
    (subst (λ z. (c.are_open-flag.result ≡ true) ↔ All IsOpen z) c.deref.ensures.value c.are_open-flag.ensures) c.loop-index.invariant
