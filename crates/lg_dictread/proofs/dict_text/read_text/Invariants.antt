use Rattle.std.proofs.Common.{◌≡◌, ◌≤◌, length, map}
use Rattle.lg_lex.specs.declared.marks.Marks.TheVariants.{Dictionary}
use Rattle.lg_lex.specs.Lexing.{tokens_from}
use Rattle.lg_lex.specs.Spots.{IsSpot}
use Rattle.lg_dictread.specs.DictTexts.{entry_meaning}
use Rattle.lg_dictread.specs.Reading.{earlier_of, IsKept, ListsAll, AreUtf8}
use Rattle.lg_dictread.proofs.TextsTold.{Leads}
use Rattle.lg_dictread.proofs.dict_text.read_text.Given as goal

-- the tokens that are left lead to the answer of the text
abbrev pub invariant-loop-alloc : goal.invariant-loop-alloc
invariant-loop-alloc g l = record {
  spot : IsSpot l.text l.spot;
  utf8 : AreUtf8 (tokens_from Dictionary l.text l.spot.at);
  kept : IsKept l.earlier;
  listed : ListsAll l.earlier;
  unchanged : g.F.Files.contents l.files ≡ g.F.Files.contents l.fn.files;
  later : g.F.Files.faults l.fn.files ≤ g.F.Files.faults l.files;
  leads : Leads (g.F.Files.contents l.fn.files) l.text (g.F.Files.asked l.fn.files) (tokens_from Dictionary l.text 0) (g.F.Files.asked l.files) (earlier_of l.earlier) (map entry_meaning l.earlier.entries.items)
      (tokens_from Dictionary l.text l.spot.at);
}

abbrev pub decreases-loop-alloc : goal.decreases-loop-alloc
decreases-loop-alloc g l = length (tokens_from Dictionary l.text l.spot.at)
