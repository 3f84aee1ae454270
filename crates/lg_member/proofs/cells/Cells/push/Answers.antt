use Rattle.std.proofs.Common.{◌≡◌, ◌<◌, length, map, set, Result, Err, Ok, OnErr, ◌∙◌, ap, subst, arith}
use Rattle.std.proofs.Math.Seq.{map-set_same}
use Rattle.lg_member.specs.Cells.{Adds, cell_at, class_of}
use Rattle.lg_member.proofs.Celling.{adds_site, tabled, items_of}
use Rattle.lg_member.proofs.cells.Cells.push.Goals as goal

-- a cell that is as it was leaves the table so
pub returns-in_err-push_site-clause-unchanged : goal.returns-in_err-push_site-clause-unchanged
returns-in_err-push_site-clause-unchanged g c =
    let n = c.self.inside.words in
    let cells = c.self.inside.cells.items in
    let k = c.cell_of-number.result in
    let same : map items_of (set cells k c.push_site.new.cell) ≡ map items_of cells =
    map-set_same items_of cells k c.push_site.new.cell c.index_mut.result.now (c.in_err-push_site.ensures.unchanged ∙ ap items_of c.index_mut.ensures.value) in
    on_err c.from_residual.result (ap (tabled n) same ∙ c.self.view_is)
  where
    on_err : {A E P : Type 0} (r : Result A E) → P → OnErr r P
    on_err (Ok a) h = tt
    on_err (Err e) h = h

pub returns-clause-added : goal.returns-clause-added
returns-clause-added g c =
    let n = c.self.inside.words in
    let cells = c.self.inside.cells.items in
    let k = c.cell_of-number.result in
    let small : k < length cells = (let a = c.cell_of-number.ensures.small in let b = c.self.invariant in omega arith) in
    subst (λ z. Adds g.S.Wide.wider c.args.position (class_of c.args.caps.now) c.args.site.now z (tabled n (map items_of (set cells k c.push_site.new.cell)))) c.self.view_is
    (adds_site g.S.Wide.wider n c.args.position (class_of c.args.caps.now) c.args.site.now cells k c.index_mut.result.now c.push_site.new.cell
    (c.cell_of-number.ensures.value ∙ ap (λ z. cell_at n c.args.position z) c.class_of.ensures.value) small c.index_mut.ensures.value c.in_ok-push_site.ensures.added)
