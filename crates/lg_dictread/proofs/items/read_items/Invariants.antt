use Rattle.std.proofs.Common.{◌≡◌, ◌-◌, ℕ, List, [], length}
use Rattle.lg_gram.specs.declared.entry.Item.{Item}
use Rattle.lg_lex.specs.declared.marks.Marks.TheVariants.{Dictionary}
use Rattle.lg_lex.specs.Lexing.{tokens_from}
use Rattle.lg_lex.specs.Spots.{IsSpot}
use Rattle.lg_dictread.specs.Scanning.{scan}
use Rattle.lg_dictread.specs.View.{KeepsItems}
use Rattle.lg_dictread.proofs.items.read_items.Given as goal

-- the items so far, which the scan goes on with
abbrev pub invariant-loop-found : goal.invariant-loop-found
invariant-loop-found l = record {
  spot : IsSpot l.text l.spot;
  so_far : (is : List (Item × ℕ)) × KeepsItems l.text is l.items.items l.lines.items
      × (scan [] (tokens_from Dictionary l.text l.fn.from.at) ≡ scan is (tokens_from Dictionary l.text l.spot.at));
}

abbrev pub decreases-loop-found : goal.decreases-loop-found
decreases-loop-found l = length l.text - l.spot.at
