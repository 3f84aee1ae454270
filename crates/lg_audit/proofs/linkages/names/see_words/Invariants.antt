use Rattle.std.proofs.Common.{take}
use Rattle.lg_audit.specs.Pages.{HasNamedWords}
use Rattle.lg_audit.proofs.linkages.names.see_words.Given as goal

abbrev pub invariant-loop-word : goal.invariant-loop-word
invariant-loop-word l = HasNamedWords l.view (take l.word-index l.words)
