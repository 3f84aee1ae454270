use Rattle.std.proofs.Common.{◌≡◌, ◌++◌, length}
use Rattle.std.specs.Vec.Iter.{into_iter_items, into_iter_len}
use Rattle.lg_reach.proofs.formulas.formulas_left.Given as goal

abbrev pub invariant-loop-parts : goal.invariant-loop-parts
invariant-loop-parts l = record {
  counted : into_iter_len l.parts-iterator ≡ length (into_iter_items l.parts-iterator);
  told : l.all.items ++ into_iter_items l.parts-iterator ≡ l.fn.left.items;
}
