use Rattle.std.proofs.Common.{◌≡◌, ◌+◌, ℕ, List, All, length, take, is_some}
use Rattle.lg_gram.specs.Trees.{Tree}
use Rattle.lg_dict.specs.Changed.{IsTree, HasGiven}
use Rattle.lg_dict.specs.Tables.{at_text}
use Rattle.lg_dict.proofs.changes.Changes.set_all.Given as goal

abbrev pub invariant-loop-word : goal.invariant-loop-word
invariant-loop-word l = record {
  count : length l.copies.items + l.word-index ≡ length l.words;
  trees : (tree : Tree) → All (IsTree tree) l.initial.copies.items → All (IsTree tree) l.copies.items;
  words : HasGiven l.initial.copies.items (take l.word-index l.words) l.initial.self l.self;
  names : (text : List ℕ) → is_some (at_text l.self.words text) ≡ is_some (at_text l.initial.self.words text);
  stems : l.self.stems ≡ l.initial.self.stems;
  firsts : l.self.firsts ≡ l.initial.self.firsts;
  macros : l.self.macros ≡ l.initial.self.macros;
  lengths : l.self.lengths ≡ l.initial.self.lengths;
}
