use Rattle.std.proofs.Common.{arith}
use borrow.Author.Tests.{ltb-true}
use Rattle.lg_token.proofs.Hyphens.{others_at, searched_between, not_apart}
use Rattle.lg_token.proofs.special.is_hyphenated.Goals as goal

pub returns-then-first-last : goal.returns-then-first-last
returns-then-first-last c =
    let text = c.args.text.now in
    let others = others_at text c.in-Some.first c.in-Some-last_other.last c.in-Some.ensures c.in-Some-last_other.ensures in
    searched_between text c.in-Some.first c.in-Some-last_other.last others c.contains.result c.if-first-last.true c.contains.ensures.cases

pub returns-else-first-last : goal.returns-else-first-last
returns-else-first-last c =
    let text = c.args.text.now in
    let others = others_at text c.in-Some.first c.in-Some-last_other.last c.in-Some.ensures c.in-Some-last_other.ensures in
    let close = c.if-first-last.false in (
      λ t. absurd (let apart = ltb-true c.in-Some.first c.in-Some-last_other.last t in omega arith),
      λ h. absurd (not_apart text c.in-Some.first c.in-Some-last_other.last others close h),
    )
