use Rattle.std.proofs.Common.{arith, sym, ◌∙◌}
use Rattle.lg_lex.proofs.Loops.{run_more}
use Rattle.lg_lex.proofs.run.run_end.Goals as goal

-- the byte is one more of the run
pub loop-at-preserved : goal.loop-at-preserved
loop-at-preserved c = record {
  in_range = omega arith;
  after = omega arith;
  same = c.loop-at.invariant.same ∙ run_more c.args.separators c.args.text.now c.args.start c.loop-at.at (omega arith) (omega arith) (sym c.contains.ensures ∙ c.if-not-contains.true);
}
