use Rattle.std.proofs.Common.{arith, ◌∙◌}
use Rattle.lg_lex.proofs.Loops.{quote_more}
use Rattle.lg_lex.proofs.token.closing_quote.Goals as goal

-- the byte is one more of what stands in the quotes
pub loop-at-preserved : goal.loop-at-preserved
loop-at-preserved c = record {
  in_range = omega arith;
  after = omega arith;
  same = c.loop-at.invariant.same ∙ quote_more c.args.marks c.args.text.now _ c.args.start c.loop-at.at (omega arith) (omega arith)
      (λ e. c.in_default.not-Quote (c.class_of.ensures ∙ e)) (λ e. c.in_default.not-LineEnd (c.class_of.ensures ∙ e));
}
