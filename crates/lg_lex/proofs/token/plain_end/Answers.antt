use Rattle.std.proofs.Common.{rules, arith, sym, ◌∙◌}
use Rattle.lg_lex.proofs.Loops.{plain_more}
use Rattle.lg_lex.proofs.token.plain_end.Goals as goal

-- the byte is one more of the token
pub loop-at-preserved : goal.loop-at-preserved
loop-at-preserved c = record {
  in_range = omega arith;
  after = omega arith;
  same = c.loop-at.invariant.same ∙ plain_more c.args.marks c.args.text.now c.args.start c.loop-at.at (omega arith) (omega arith) (sym c.class_of.ensures ∙ search (rules, c.if-eq.ensures));
}
