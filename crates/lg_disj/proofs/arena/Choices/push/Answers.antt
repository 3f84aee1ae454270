use Rattle.std.proofs.Common.{◌++◌, map, ap, ◌∙◌, arith, length, append_assoc}
use Rattle.lg_disj.specs.Places.{row_in}
use Rattle.lg_disj.proofs.Rows.{pushed}
use Rattle.lg_disj.proofs.arena.Choices.push.Goals as goal

pub returns-clause-exact : goal.returns-clause-exact
returns-clause-exact c =
    let ps = c.args.self.now.places.items in
    let l = c.args.left.now ++ c.args.next_left.now in
    let r = c.args.right.now ++ c.args.next_right.now in
    let left = c.in_ok-add-2.ensures ∙ ap (λ xs. xs ++ c.args.next_left.now) c.in_ok-add.ensures
    ∙ append_assoc ps c.args.left.now c.args.next_left.now in
    let all = c.in_ok-add-4.ensures ∙ ap (λ xs. xs ++ c.args.next_right.now) c.in_ok-add-3.ensures
    ∙ append_assoc _ c.args.right.now c.args.next_right.now ∙ ap (λ xs. xs ++ r) left in
    ap (map (row_in c.add-4.new.places.items)) c.in_ok-push.ensures.items
    ∙ pushed ps l r c.add-4.new.places.items c.args.self.now.rows.items _ c.requires all
    (omega arith) (omega (arith, ap length left)) (omega arith)
