use Rattle.std.proofs.Common.{◌+◌, ◌<◌, length, sym, subst, arith, ap, ◌∙◌, Some, refl, false}
use Rattle.std.proofs.lemmas.Option.{slice_get_read, slice_get-get_or}
use Rattle.lg_member.specs.declared.side.Side.{Side}
use Rattle.lg_sharpen.specs.Sites.{AddsOpen, items_in}
use Rattle.lg_sharpen.proofs.Tables.{TableSoFar, table_none, table_used, table_unused, table_all, list_in}
use Rattle.lg_sharpen.proofs.table.fill.Goals as goal
use Rattle.lg_sharpen.proofs.table.fill.Goals.{then-used-index+in_ok-push_open, else-used-index}

pub loop-index-init : goal.loop-index-init
loop-index-init c = table_none c.args.sides.now c.args.used.now (items_in c.args.lists.now) c.args.table.now

pub loop-index-preserved : goal.loop-index-preserved
loop-index-preserved c =
    let h = c.loop-index-test.true in
    let e = c.requires.same_length in
    let e' = c.requires.long in
    let l : c.loop-index.index < length c.args.used.now = omega arith in
    let l' : c.loop-index.index < length c.args.lists.now = omega arith in
    elim c.if-used-index.branch [
      | then-used-index+in_ok-push_open w ↦ subst (λ z. TableSoFar c.args.sides.now c.args.used.now (items_in c.args.lists.now) (c.loop-index.index + 1) z) (sym w.table-is)
          (table_used c.args.sides.now c.args.used.now (items_in c.args.lists.now) c.loop-index.index c.loop-index.table w.push_open.new.table w.index-sides-index.result w.index-lists-index.result.items
          (slice_get_read c.args.sides.now (length c.args.sides.now) c.loop-index.index w.index-sides-index.result refl h w.index-sides-index.is) (list_in c.args.lists.now c.loop-index.index w.index-lists-index.result l' w.index-lists-index.is) c.loop-index.invariant
          (subst (λ z. AddsOpen w.index-sides-index.result.position z c.loop-index.table w.push_open.new.table) w.deref.ensures.value
          (subst (λ (z : Side). AddsOpen z.position w.deref.result.now c.loop-index.table w.push_open.new.table) (sym w.index-sides-index.is) w.in_ok-push_open.ensures)))
      | else-used-index w ↦ subst (λ z. TableSoFar c.args.sides.now c.args.used.now (items_in c.args.lists.now) (c.loop-index.index + 1) z) (sym w.table-is)
          (table_unused c.args.sides.now c.args.used.now (items_in c.args.lists.now) c.loop-index.index c.loop-index.table (slice_get-get_or c.args.used.now c.loop-index.index false l ∙ ap (λ z. Some z) w.if-used-index.false) c.loop-index.invariant)
    ]

pub returns : goal.returns
returns c = table_all c.args.sides.now c.args.used.now (items_in c.args.lists.now) c.loop-index.index c.loop-index.table c.loop-index-test.false c.loop-index.invariant
