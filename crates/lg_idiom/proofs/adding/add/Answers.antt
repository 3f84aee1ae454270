use Rattle.std.proofs.Common.{◌+◌, ◌<◌, ◌≤◌, ◌++◌, ◌∷◌, [], ap, sym, ◌∙◌, arith}
use Rattle.lg_idiom.proofs.Rows.{row_added}
use Rattle.lg_idiom.proofs.adding.add.Goals as goal

pub loop-position-preserved : goal.loop-position-preserved
loop-position-preserved c =
    let at = c.loop-position in
    let chain = c.args.chain.now in
    let v = c.index-positions-position.result in
    let from : chain.start ≤ at.position = (let a = at.auto.position in let b = c.start-position.ensures in omega (arith, a, b)) in
    let ends : at.position < chain.start + chain.count = (let a = c.loop-position-test.true in let b = c.end-position-end.ensures in omega (arith, a, b)) in
    let pushed = c.in_ok-push.ensures.items ∙ ap (λ z. z.items ++ c.in_ok-word.word ∷ []) (sym c.index-positions-position.is) in
    row_added chain at.position c.args.positions.now at.positions v c.push.new.self c.in_ok-word.word from ends c.requires c.index-positions-position.is pushed c.in_ok-word.ensures at.invariant
