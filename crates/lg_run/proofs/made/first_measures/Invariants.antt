use Rattle.std.proofs.Common.{◌≡◌, drop}
use Rattle.lg_gram.specs.Linkages.{unlinked, total_length}
use Rattle.lg_run.specs.MadeRuns.{first_of}
use Rattle.lg_run.proofs.made.first_measures.Given as goal

-- none so far passes
abbrev pub invariant-loop-item : goal.invariant-loop-item
invariant-loop-item l = record {
  free : first_of unlinked l.items ≡ first_of unlinked (drop l.item-index l.items);
  long : first_of total_length l.items ≡ first_of total_length (drop l.item-index l.items);
}
