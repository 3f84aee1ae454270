use Rattle.std.proofs.Common.{◌==◌, get_or, refl, sym, subst}
use Rattle.lg_region.specs.Openings.{AreBeginnings}
use Rattle.lg_region.proofs.Once.{adds_at}
use Rattle.lg_region.proofs.Opened.{Begun, begins_all, begins_apart, ends_added, ends_from, no_beginning, some_begins}
use Rattle.lg_region.proofs.expand.push_level.Goals as goal

pub push_ended-requires : goal.push_ended-requires
push_ended-requires c =
    let n = c.args.lists.now in let gap = c.args.gap.now in let g = c.args.group.now in let bs = c.deref-begin-items.result.now in let i = c.loop-begin.begin-index in
    let are = subst (AreBeginnings n gap g c.args.nulls) (sym c.deref-begin-items.ensures.value) c.in_ok-begins.ensures in
    (ends_from n gap g (gap.llist == 0) c.requires.group refl c.are_numbered.ensures c.requires.gap.llist c.requires.gap.led (get_or bs i no_beginning) (some_begins n gap g c.args.nulls bs are i c.loop-begin-test.true)).few

pub loop-begin-preserved : goal.loop-begin-preserved
loop-begin-preserved c =
    let n = c.args.lists.now in let gap = c.args.gap.now in let g = c.args.group.now in let bs = c.deref-begin-items.result.now in let i = c.loop-begin.begin-index in
    let are = subst (AreBeginnings n gap g c.args.nulls) (sym c.deref-begin-items.ensures.value) c.in_ok-begins.ensures in
    adds_at (Begun n gap g) bs no_beginning i c.args.out.now.items c.loop-begin.out.items c.push_ended.new.out.items (begins_apart n gap g c.args.nulls bs are) c.loop-begin-test.true c.loop-begin.invariant
    (ends_added n gap g (gap.llist == 0) c.requires.group refl c.are_numbered.ensures c.requires.gap.llist c.requires.gap.led (get_or bs i no_beginning) c.args.rights.now c.loop-begin.out.items c.push_ended.new.out.items
    (some_begins n gap g c.args.nulls bs are i c.loop-begin-test.true) c.requires.rights c.in_ok-push_ended.ensures.added)

pub returns : goal.returns
returns c =
    let n = c.args.lists.now in let gap = c.args.gap.now in let g = c.args.group.now in let bs = c.deref-begin-items.result.now in
    let are = subst (AreBeginnings n gap g c.args.nulls) (sym c.deref-begin-items.ensures.value) c.in_ok-begins.ensures in
    begins_all n gap g c.args.nulls bs are c.loop-begin.begin-index c.args.out.now.items c.loop-begin.out.items c.loop-begin-test.false c.loop-begin.invariant
