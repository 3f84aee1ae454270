use Rattle.std.proofs.Common.{◌≤◌, All, length, take}
use Rattle.lg_dict.proofs.tables.longest_of.Given as goal

abbrev pub invariant-loop-word : goal.invariant-loop-word
invariant-loop-word l = record {
  above : l.start ≤ l.longest;
  bounds : All (λ word. length word ≤ l.longest) (take l.word-index l.words);
}
