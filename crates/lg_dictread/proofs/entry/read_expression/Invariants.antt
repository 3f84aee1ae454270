use Rattle.std.proofs.Common.{◌≡◌, ◌-◌, length}
use Rattle.lg_lex.specs.declared.marks.Marks.TheVariants.{Dictionary}
use Rattle.lg_lex.specs.Lexing.{tokens_from}
use Rattle.lg_lex.specs.Tokens.{Token}
use Rattle.lg_lex.specs.Spots.{IsSpot}
use Rattle.lg_expr.specs.Automaton.{start, run}
use Rattle.lg_expr.specs.View.{state_of}
use Rattle.lg_dictread.specs.Entries.{part}
use Rattle.lg_dictread.proofs.entry.read_expression.Given as goal

-- what is left leads from the state to the same answer
abbrev pub invariant-loop-found : goal.invariant-loop-found
invariant-loop-found g l = record {
  spot : IsSpot l.text l.spot;
  same : run Token part (record { known = g.M.Macros.known l.macros; limit = l.limit }) start (tokens_from Dictionary l.text l.fn.from.at)
      ≡ run Token part (record { known = g.M.Macros.known l.macros; limit = l.limit }) (state_of l.state) (tokens_from Dictionary l.text l.spot.at);
}

abbrev pub decreases-loop-found : goal.decreases-loop-found
decreases-loop-found g l = length l.text - l.spot.at
