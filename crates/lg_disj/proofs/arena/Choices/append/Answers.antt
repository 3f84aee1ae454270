use Rattle.std.proofs.Common.{◌≡◌, ◌++◌, map, take, ap, ◌∙◌, arith}
use Rattle.std.proofs.lemmas.List.{take_all}
use Rattle.lg_disj.proofs.Rows.{behind, appended, appended_lie}
use Rattle.lg_disj.proofs.arena.Choices.append.Goals as goal

pub returns-clause-exact : goal.returns-clause-exact
returns-clause-exact c =
    let rows = c.args.others.now.rows.items in
    let whole : take c.loop-row.row-index rows ≡ rows = take_all c.loop-row.row-index rows (omega (arith, c.loop-row-test.false)) in
    appended c.args.self.now.places.items c.args.others.now.places.items c.loop-row.self.places.items c.args.self.now.rows.items rows c.loop-row.self.rows.items c.len-start.result
    c.requires.arena c.loop-row.invariant.0 (omega arith) (c.loop-row.invariant.1 ∙ ap (λ xs. c.args.self.now.rows.items ++ map (behind c.len-start.result) xs) whole)

pub returns-clause-within : goal.returns-clause-within
returns-clause-within c =
    let rows = c.args.others.now.rows.items in
    let whole : take c.loop-row.row-index rows ≡ rows = take_all c.loop-row.row-index rows (omega (arith, c.loop-row-test.false)) in
    appended_lie c.args.self.now.places.items c.args.others.now.places.items c.loop-row.self.places.items c.args.self.now.rows.items rows c.loop-row.self.rows.items c.len-start.result
    c.requires.arena c.requires.others c.loop-row.invariant.0 (omega arith) (c.loop-row.invariant.1 ∙ ap (λ xs. c.args.self.now.rows.items ++ map (behind c.len-start.result) xs) whole)
