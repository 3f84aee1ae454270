use Rattle.std.proofs.Common.{List, drop}
use Rattle.lg_gram.specs.Connectors.{Connector}
use Rattle.lg_eprune.specs.Cuts.{word_leaves, Lists}
use Rattle.lg_eprune.proofs.seen.see_words.Given as goal

abbrev pub invariant-loop-word : goal.invariant-loop-word
invariant-loop-word l = (last : List (List Connector)) → Lists l.seen (word_leaves l.right (drop l.word-index l.words)) last → Lists l.fn.seen (word_leaves l.right l.words) last
