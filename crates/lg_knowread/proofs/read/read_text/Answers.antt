use Rattle.std.proofs.Common.{◌∙◌, arith}
use Rattle.lg_lex.specs.Found.{lexeme_of}
use Rattle.lg_knowread.proofs.Turns.{run_turn, one_more_rule}
use Rattle.lg_knowread.proofs.read.read_text.Goals as goal

-- one token more is read
pub loop-found-preserved : goal.loop-found-preserved
loop-found-preserved c =
    let found = c.in-Some.found in
    record {
      spot = c.in-Some.ensures.end;
      same = c.loop-found.invariant.same ∙ run_turn found.token found.start.at c.loop-found.reading c.in-Ok.next _ _ c.in-Some.ensures.next c.in-Ok.ensures;
      few = omega (arith, c.in-Some.ensures.later, one_more_rule c.loop-found.reading c.in-Ok.next (lexeme_of found.token) c.in-Ok.ensures);
    }
