use Rattle.std.proofs.Common.{◌≡◌, ◌++◌, List, length}
use Rattle.std.specs.Vec.Iter.{into_iter_items, into_iter_len}
use Rattle.lg_gram.specs.declared.entry.Entry.{Entry}
use Rattle.lg_dict.proofs.Gathered.{HasGathered}
use Rattle.lg_dict.proofs.tables.gather.Given as goal

abbrev pub invariant-loop-entry : goal.invariant-loop-entry
invariant-loop-entry l = record {
  counted : into_iter_len l.entry-iterator ≡ length (into_iter_items l.entry-iterator);
  gathered : (done : List Entry) × (l.fn.entries.items ≡ done ++ into_iter_items l.entry-iterator) × HasGathered l.fn.entries.items done l.formulas.items l.words l.macros;
}
