use Rattle.std.proofs.Common.{◌+◌, get_or, [], cond, sym, subst, arith}
use Rattle.lg_disj.specs.Outlines.{lists_on}
use Rattle.lg_member.specs.Members.{IsSideAt}
use Rattle.lg_member.proofs.Outlining.{line_side, line_within}
use Rattle.lg_member.proofs.outlines.number_of.Goals as goal

pub overflow_add-result : goal.overflow_add-result
overflow_add-result c =
    let within = line_within c.args._position c.args._outline.now c.args.line.now c.args.right c.args.first c.args._sides.now c.requires.line c.requires.sides in
    let number = c.side.ensures in
    omega arith

pub returns-clause-within : goal.returns-clause-within
returns-clause-within c =
    let within = line_within c.args._position c.args._outline.now c.args.line.now c.args.right c.args.first c.args._sides.now c.requires.line c.requires.sides in
    let number = c.side.ensures in
    omega arith

pub returns-clause-side : goal.returns-clause-side
returns-clause-side c =
    let list = get_or (lists_on c.args.right c.args._outline.now) (cond c.args.right c.args.line.now.right c.args.line.now.left) [] in
    subst (λ k. IsSideAt c.args._sides.now (c.args.first + k) c.args._position list) (sym c.side.ensures)
    (line_side c.args._position c.args._outline.now c.args.line.now c.args.right c.args.first c.args._sides.now c.requires.line c.requires.sides)
