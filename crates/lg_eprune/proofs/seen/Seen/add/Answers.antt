use Rattle.std.proofs.Common.{◌∷◌, [], ◌≡◌, ◌<◌, length, map, set, ap, ◌∙◌, subst, arith}
use Rattle.lg_eprune.specs.Cuts.{class_of, Lists}
use Rattle.lg_eprune.proofs.Listed.{listed_added}
use Rattle.lg_eprune.proofs.seen.Seen.add.Goals as goal

pub returns : goal.returns
returns c =
    let rows = c.self.inside.rows.items in
    let k = c.class_of-class.result in
    let small : k < length rows = (let a = c.class_of-class.ensures.small in let b = c.self.invariant in omega arith) in
    subst (λ z. Lists z (c.args.connector.now ∷ []) (map (λ row. row.items) (set rows k c.add_to.new.row))) c.self.view_is
    (listed_added rows k c.index_mut.result.now c.add_to.new.row c.args.connector.now (c.class_of-class.ensures.value ∙ ap class_of c.caps.ensures.value) small c.index_mut.ensures.value c.in_ok-add_to.ensures)
