use Rattle.std.proofs.Common.{◌≡◌, ◌++◌, length}
use Rattle.std.specs.Vec.Iter.{into_iter_items, into_iter_len}
use Rattle.lg_reach.proofs.formulas.words_left.Given as goal

abbrev pub invariant-loop-part : goal.invariant-loop-part
invariant-loop-part l = record {
  counted : into_iter_len l.part-iterator ≡ length (into_iter_items l.part-iterator);
  told : l.words.items ++ into_iter_items l.part-iterator ≡ l.fn.parts;
}
