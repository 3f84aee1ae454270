use Rattle.std.proofs.Common.{◌≡◌, ◌-◌, ◌≤◌, length}
use Rattle.lg_lex.specs.declared.marks.Marks.TheVariants.{Knowledge}
use Rattle.lg_lex.specs.Lexing.{tokens_from}
use Rattle.lg_lex.specs.Spots.{IsSpot}
use Rattle.lg_knowread.specs.Automaton.{run, answer_of}
use Rattle.lg_knowread.proofs.read.read_text.Given as goal

-- what is left leads on to the same answer, and each rule has taken a token
abbrev pub invariant-loop-found : goal.invariant-loop-found
invariant-loop-found l = record {
  spot : IsSpot l.text l.spot;
  same : answer_of (tokens_from Knowledge l.text 0) ≡ run l.reading (tokens_from Knowledge l.text l.spot.at);
  few : length l.reading.knowledge.rules ≤ l.spot.at;
}

abbrev pub decreases-loop-found : goal.decreases-loop-found
decreases-loop-found l = length l.text - l.spot.at
