use Rattle.std.proofs.Common.{◌≡◌, take}
use Rattle.lg_gram.specs.Linkages.{Linkage}
use Rattle.lg_forest.specs.Drafts.{IsDraftOf}
use Rattle.lg_forest.proofs.linkages.chosen_of.Given as goal

abbrev pub invariant-loop-word : goal.invariant-loop-word
invariant-loop-word l = (g : Linkage) → IsDraftOf l.positions l.draft g → l.chosen.items ≡ take l.word g.chosen
