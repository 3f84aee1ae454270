use Rattle.std.proofs.Common.{◌<◌, length, get_or, sym, subst, arith}
use Rattle.std.proofs.lemmas.List.{length-map, map-set}
use Rattle.std.specs.Global.{Vec}
use Rattle.lg_sharpen.specs.Sites.{items_in}
use Rattle.lg_sharpen.specs.Bounds.{SetsNeed, SetsNeeds}
use Rattle.lg_sharpen.specs.declared.site.Site.{Site}
use Rattle.lg_sharpen.proofs.Tables.{items_of, list_in}
use Rattle.lg_sharpen.proofs.Away.{sets_more}
use Rattle.lg_sharpen.proofs.needs.set_needs.Goals as goal

pub loop-index-preserved : goal.loop-index-preserved
loop-index-preserved c =
    let h = c.loop-index-test.true in
    let long = c.loop-index.invariant.long in
    let a = length-map c.loop-index.lists items_of in
    let b = length-map c.args.lists.now items_of in
    let l : c.loop-index.index < length c.loop-index.lists = omega arith in
    subst (λ z. SetsNeeds c.args.needs.now (items_in c.args.lists.now) z) (sym (map-set items_of c.loop-index.lists c.loop-index.index c.set_need.new.sites))
    (sets_more c.args.needs.now (items_in c.args.lists.now) (items_in c.loop-index.lists) c.loop-index.index c.index-lists-index.result.items c.set_need.new.sites.items
    (list_in c.loop-index.lists c.loop-index.index c.index-lists-index.result l c.index-lists-index.is)
    (subst (λ (z : Vec Site). SetsNeed (get_or c.args.needs.now c.loop-index.index 0) z.items c.set_need.new.sites.items) (sym c.index-lists-index.is)
    (subst (λ z. SetsNeed z (get_or c.loop-index.lists c.loop-index.index c.index-lists-index.result).items c.set_need.new.sites.items) c.need_at.ensures c.set_need.ensures)) c.loop-index.invariant)

pub returns : goal.returns
returns c = c.loop-index.invariant
