use Rattle.std.proofs.Common.{◌-◌, ◌≤◌, length, map}
use Rattle.lg_lex.specs.declared.run.Separators.TheVariants.{WhiteSpace}
use Rattle.lg_lex.specs.Runs.{runs_from}
use Rattle.lg_dictread.specs.Definitions.{on_line}
use Rattle.lg_dictread.specs.Tables.{text_entries}
use Rattle.lg_dictread.proofs.Adding.{Remains}
use Rattle.lg_dictread.proofs.define.define_words.Given as goal

-- the words that are left lead to all of them
abbrev pub invariant-loop-run : goal.invariant-loop-run
invariant-loop-run l = record {
  in_range : l.at ≤ length l.text;
  remains : Remains (text_entries l.fn.table) (text_entries l.table) l.fn.names.items l.names.items
      (on_line l.line (map (λ r. r.0) (runs_from WhiteSpace l.text 0))) (on_line l.line (map (λ r. r.0) (runs_from WhiteSpace l.text l.at)));
}

abbrev pub decreases-loop-run : goal.decreases-loop-run
decreases-loop-run l = length l.text - l.at
