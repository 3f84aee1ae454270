use Rattle.std.proofs.Common.{◌≡◌, ◌++◌, ◌||◌, length}
use Rattle.std.specs.Vec.Iter.{into_iter_items, into_iter_len}
use Rattle.lg_eprune.specs.Cuts.{is_met, cut_words, do_lose}
use Rattle.lg_eprune.proofs.cut.cut_words.Given as goal

abbrev pub invariant-loop-word : goal.invariant-loop-word
invariant-loop-word l = record {
  counted : into_iter_len l.word-iterator ≡ length (into_iter_items l.word-iterator);
  told : l.kept.items ++ cut_words (is_met l.right l.seen) (into_iter_items l.word-iterator) ≡ cut_words (is_met l.right l.seen) l.fn.words;
  lost : (l.is_less || do_lose (is_met l.right l.seen) (into_iter_items l.word-iterator)) ≡ do_lose (is_met l.right l.seen) l.fn.words;
}
