use Rattle.std.proofs.Common.{refl}
use Rattle.lg_member.proofs.Outlining.{lines_more, line_member, line_at}
use Rattle.lg_member.proofs.outlines.push_lines.Goals as goal

pub number_of-first-requires-clause-line : goal.number_of-first-requires-clause-line
number_of-first-requires-clause-line c =
    line_at c.args.outline.now c.lines-line-items.result.now c.loop-line.line-index c.line-item.result c.lines-line-items.ensures.value c.loop-line-test.true c.line-item.is c.lines-line-items.ensures.within

pub number_of-second-requires-clause-line : goal.number_of-second-requires-clause-line
number_of-second-requires-clause-line c =
    line_at c.args.outline.now c.lines-line-items.result.now c.loop-line.line-index c.line-item.result c.lines-line-items.ensures.value c.loop-line-test.true c.line-item.is c.lines-line-items.ensures.within

pub loop-line-preserved : goal.loop-line-preserved
loop-line-preserved c =
    lines_more c.args.position c.args.outline.now c.lines-line-items.result.now c.loop-line.line-index c.line-item.result c.args.lefts.now c.args.rights.now c.args.members.now.items c.loop-line.members.items
    c.push.new.self.items _ c.loop-line-test.true c.line-item.is c.in_ok-push.ensures.items
    (line_member c.args.position c.args.outline.now c.line-item.result c.args.lefts.now c.args.rights.now c.index-lefts-first.result c.index-rights-second.result _
    c.number_of-first.ensures.side c.number_of-second.ensures.side refl c.word.ensures refl refl refl)
    c.loop-line.invariant
