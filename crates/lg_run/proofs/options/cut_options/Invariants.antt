use Rattle.std.proofs.Common.{◌≡◌, ◌++◌, ◌↔◌, map, string_bytes, length, ℕ, List}
use Rattle.lg_run.specs.Settings.{IsCut, named}
use Rattle.lg_run.proofs.OptionWords.{CutOn}
use Rattle.lg_run.proofs.options.cut_options.Given as goal

-- the words are cut where the rest is, behind the options so far
abbrev pub invariant-loop-rest : goal.invariant-loop-rest
invariant-loop-rest l = record {
  whole : map string_bytes l.words ≡ map string_bytes l.done ++ map string_bytes l.rest;
  cut : (behind : List (List ℕ)) → ((front : List (List ℕ)) × IsCut (named l.known) (map string_bytes l.words) front behind) ↔ CutOn l.known (map string_bytes l.done) (map string_bytes l.rest) behind;
}

abbrev pub decreases-loop-rest : goal.decreases-loop-rest
decreases-loop-rest l = length l.rest
