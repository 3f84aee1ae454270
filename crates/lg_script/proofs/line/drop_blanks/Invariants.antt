use Rattle.std.proofs.Common.{◌≤◌, length, drop}
use Rattle.lg_lex.specs.declared.run.Separators.TheVariants.{Blanks}
use Rattle.lg_lex.specs.Runs.{AreSeparators}
use Rattle.lg_script.proofs.line.drop_blanks.Given as goal

abbrev pub invariant-loop-end : goal.invariant-loop-end
invariant-loop-end l = record {
  in_range : l.end ≤ length l.bytes;
  behind : AreSeparators Blanks (drop l.end l.bytes);
}

abbrev pub decreases-loop-end : goal.decreases-loop-end
decreases-loop-end l = l.end
