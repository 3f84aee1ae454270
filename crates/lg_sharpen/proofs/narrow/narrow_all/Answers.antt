use Rattle.std.proofs.Common.{◌<◌, length, get_or, sym, subst, arith, refl}
use Rattle.std.proofs.lemmas.List.{length-map, map-set}
use Rattle.std.specs.Global.{Vec}
use Rattle.std.proofs.lemmas.Option.{slice_get_read}
use Rattle.lg_sharpen.specs.Sites.{items_in}
use Rattle.lg_member.specs.declared.side.Side.{Side}
use Rattle.lg_sharpen.specs.declared.site.Site.{Site}
use Rattle.lg_sharpen.specs.Bounds.{Narrows, NarrowsAll}
use Rattle.lg_sharpen.proofs.Tables.{items_of, list_in}
use Rattle.lg_sharpen.proofs.Narrowing.{narrows_none, narrows_more}
use Rattle.lg_sharpen.proofs.narrow.narrow_all.Goals as goal
use Rattle.lg_sharpen.proofs.narrow.narrow_all.Goals.{then-used-index, else-used-index}

pub loop-index-init : goal.loop-index-init
loop-index-init c = narrows_none c.args.right c.args.most c.args.gaps.now c.args.sides.now c.args.table.now (items_in c.args.lists.now)

pub loop-index-preserved : goal.loop-index-preserved
loop-index-preserved c =
    let h = c.loop-index-test.true in
    let e = c.requires.long in
    let long = c.loop-index.invariant.long in
    let a = length-map c.loop-index.lists items_of in
    let b = length-map c.args.lists.now items_of in
    let l : c.loop-index.index < length c.loop-index.lists = omega arith in
    elim c.if-used-index.branch [
      | then-used-index w ↦ subst (λ z. NarrowsAll c.args.right c.args.most c.args.gaps.now c.args.sides.now c.args.table.now (items_in c.args.lists.now) (items_in z)) (sym w.lists-is)
          (subst (λ z. NarrowsAll c.args.right c.args.most c.args.gaps.now c.args.sides.now c.args.table.now (items_in c.args.lists.now) z) (sym (map-set items_of c.loop-index.lists c.loop-index.index w.narrow.new.sites))
          (narrows_more c.args.right c.args.most c.args.gaps.now c.args.sides.now c.args.table.now (items_in c.args.lists.now) (items_in c.loop-index.lists) c.loop-index.index w.index-sides-index.result w.index-lists-index.result.items w.narrow.new.sites.items
          (slice_get_read c.args.sides.now (length c.args.sides.now) c.loop-index.index w.index-sides-index.result refl h w.index-sides-index.is) (list_in c.loop-index.lists c.loop-index.index w.index-lists-index.result l w.index-lists-index.is)
          (subst (λ (z : Vec Site). Narrows c.args.right c.args.most c.args.gaps.now w.index-sides-index.result.position c.args.table.now z.items w.narrow.new.sites.items) (sym w.index-lists-index.is)
          (subst (λ (z : Side). Narrows c.args.right c.args.most c.args.gaps.now z.position c.args.table.now (get_or c.loop-index.lists c.loop-index.index w.index-lists-index.result).items w.narrow.new.sites.items) (sym w.index-sides-index.is) w.narrow.ensures))
          c.loop-index.invariant))
      | else-used-index w ↦ subst (λ z. NarrowsAll c.args.right c.args.most c.args.gaps.now c.args.sides.now c.args.table.now (items_in c.args.lists.now) (items_in z)) (sym w.lists-is) c.loop-index.invariant
    ]

pub returns : goal.returns
returns c = c.loop-index.invariant
