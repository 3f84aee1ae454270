use Rattle.std.proofs.Common.{◌≡◌, ◌-◌, IfOk, get_or, sym, ap, subst, ◌∙◌, arith}
use Rattle.lg_text.specs.Diagrams.{cell, cells}
use Rattle.lg_text.proofs.Columns.{cell_at, next_start_is}
use Rattle.lg_text.proofs.drawing.columns.next_start.Goals as goal

-- behind the cell of the position before it
pub returns : goal.returns
returns c =
    let tokens = c.args.tokens.now in
    let g = c.args.g.now in
    let token = c.index-tokens-before.result in
    let choice = c.index-chosen-before.result in
    let text = sym ((λ t. cell (c.index-tokens-before.is t, (c.index-chosen-before.is ∙ ap (λ cs. get_or cs (c.args.position - 1) choice) c.chosen.ensures.value) t))
    ∙ sym (cell_at tokens g.chosen c.requires.same_length (c.args.position - 1) token choice (omega arith))) in
    let own = c.in_ok-cell.ensures in
    let behind = c.in_ok-behind.ensures in
    let least = c.in_ok-least.ensures in
    subst (λ n. IfOk c.room_for.result (λ start. start ≡ n))
    (next_start_is (cells tokens g) g c.args.starts.now c.args.position c.in_ok-least.least (cell (token, choice)) (omega arith) (sym text) (omega arith))
    c.room_for.ensures
