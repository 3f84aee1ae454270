use Rattle.lg_script.proofs.Commanded.{nothing, something}
use Rattle.lg_script.proofs.LineParts.{blank_line, comment_line, line_is}
use Rattle.lg_script.proofs.read.read_line.Goals as goal
use Rattle.lg_script.proofs.read.read_line.Goals.{then-is_empty-via-then-is_empty, then-is_empty-via-else-is_empty+then-body-eq37}

pub returns-then-is_empty : goal.returns-then-is_empty
returns-then-is_empty c =
    let body = c.skip_blanks-body.result.now in (
      c.body_of.result.now,
      c.body_of.ensures,
      (elim c.then-is_empty.branch [
        | then-is_empty-via-then-is_empty w ↦ blank_line _ body c.skip_blanks-body.ensures.skips (nothing body c.is_empty.result c.is_empty.ensures w.if-is_empty.true)
        | then-is_empty-via-else-is_empty+then-body-eq37 w ↦ comment_line _ body c.skip_blanks-body.ensures.skips (something body c.is_empty.result c.is_empty.ensures w.if-is_empty.false) w.if-body-eq37.true
      ]),
    )

pub returns : goal.returns
returns c =
    let body = c.skip_blanks-body.result.now in
    let some = something body c.is_empty.result c.is_empty.ensures c.if-is_empty.false in
    record {
      body = c.body_of.result.now;
      word = c.first_word.result.0.now;
      rest = c.trim.result.now;
      says = c.body_of.ensures;
      command = line_is _ body _ _ _ c.skip_blanks-body.ensures.skips c.skip_blanks-body.ensures.begins some c.if-body-eq37.false c.first_word.ensures.split c.first_word.ensures.inner c.first_word.ensures.ends c.trim.ensures;
      is = c.in_ok-command_of.ensures;
    }
