use Rattle.std.proofs.Common.{◌≤◌, All, ap, arith, length, map, subst, sym, ◌∙◌}
use Rattle.std.specs.List.{AllZip, sum_by}
use Rattle.std.specs.List.Sorted.{IsStrictlySortedBy}
use Rattle.lg_disj.specs.Outlines.{all_in}
use Rattle.lg_gram.specs.Limits.{DISJUNCTS, POSITIONS}
use Rattle.lg_answer.specs.Steps.{AreMade, word_cmp}
use Rattle.lg_answer.proofs.Within.{near_problem, within_made}
use Rattle.lg_answer.proofs.wide.within.Goals as goal

pub in_outline-requires : goal.in_outline-requires
in_outline-requires c = subst (All (IsStrictlySortedBy word_cmp)) (c.items-else-items-gt-POSITIONS.ensures ∙ sym c.items-2.ensures) (c.all_rise.ensures c.if-not-all_rise.false)

pub returns : goal.returns
returns c =
    let near = c.in_ok-near.near in
    let outlines = c.in_ok-outlines.outlines.items in
    let few : length near ≤ POSITIONS = let same = ap length c.items.ensures in omega (arith, same, c.if-items-gt-POSITIONS.false) in
    let made = subst (λ ws. AllZip AreMade ws (map all_in outlines)) c.items-2.ensures c.in_ok-outlines.ensures in
    let limits = near_problem near (map all_in outlines) few made (subst (λ os. sum_by length (map all_in os) ≤ DISJUNCTS) c.deref.ensures.value (c.are_few.ensures c.if-not-are_few.false)) in
    within_made c.args.words.now near c.args.nulls c.in_ok-near.ensures.fewer c.in_ok-near.ensures.used (map all_in outlines) made limits
