use Rattle.std.proofs.Common.{◌≡◌, ◌++◌, length}
use Rattle.std.specs.Iterator.Adapters.{zip_first, zip_second}
use Rattle.std.specs.Vec.Iter.{into_iter_items, into_iter_len}
use Rattle.lg_answer.specs.Steps.{behind}
use Rattle.lg_answer.proofs.exprs.both.Given as goal

-- what is left gives the rest
abbrev pub invariant-loop-own : goal.invariant-loop-own
invariant-loop-own l = record {
  counted : into_iter_len (zip_first l.own-iterator) ≡ length (into_iter_items (zip_first l.own-iterator));
  counted_too : into_iter_len (zip_second l.own-iterator) ≡ length (into_iter_items (zip_second l.own-iterator));
  rest : l.all.items ++ behind (into_iter_items (zip_first l.own-iterator)) (into_iter_items (zip_second l.own-iterator)) ≡ behind l.fn.words l.fn.added;
}
