use Rattle.std.proofs.Common.{arith}
use Rattle.lg_answer.proofs.Searching.{begins_sharper, none_at, none_by_blanks}
use Rattle.lg_answer.proofs.search.level_of.Goals as goal

pub returns-then-not-has_few : goal.returns-then-not-has_few
returns-then-not-has_few g c = λ positions least keeps.
    none_at positions c.args.sharp c.in_ok-forest.forest c.args.nulls least keeps c.in_ok-forest.ensures.forest c.in_ok-forest.ensures.unused
    (λ few. let t = c.has_few.ensures.1 few in let f = c.if-not-has_few.true in absurd cc)

pub returns : goal.returns
returns g c = λ positions least keeps.
    begins_sharper positions c.args.sharp c.in_ok-forest.forest c.args.nulls c.in_ok-ranked.ranked least keeps (c.args.nulls, c.in_ok-forest.ensures.forest)
    (c.has_few.ensures.0 c.if-not-has_few.false) c.in_ok-ranked.ensures

-- more positions have no disjunct than words may stay unlinked
pub returns-then-blanks_of-nulls : goal.returns-then-blanks_of-nulls
returns-then-blanks_of-nulls g c = λ positions least keeps.
    none_by_blanks positions c.args.sharp c.args.nulls least keeps
    (let count = c.blanks_of.ensures.value in let over = c.if-blanks_of-nulls.true in omega (arith, count, over))
