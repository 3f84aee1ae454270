use Rattle.std.proofs.Common.{◌≡◌, ◌++◌, List, length}
use Rattle.std.specs.Vec.Iter.{into_iter_items, into_iter_len}
use Rattle.lg_eprune.specs.Live.{WordTree}
use Rattle.lg_reach.specs.Narrowed.{AreNarrowed}
use Rattle.lg_reach.proofs.words.reach_words.Given as goal

abbrev pub invariant-loop-word : goal.invariant-loop-word
invariant-loop-word l = record {
  counted : into_iter_len l.word-iterator ≡ length (into_iter_items l.word-iterator);
  told : (first : List WordTree) × (first ++ into_iter_items l.word-iterator ≡ l.fn.words) × AreNarrowed l.fn.sites l.sites l.fn.ways l.ways l.stand first l.kept.items;
}
