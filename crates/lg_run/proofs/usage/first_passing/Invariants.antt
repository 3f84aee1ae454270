use Rattle.std.proofs.Common.{◌≡◌, drop}
use Rattle.lg_run.specs.Documents.{first_passing}
use Rattle.lg_run.proofs.usage.first_passing.Given as goal

-- none so far passes
abbrev pub invariant-loop-item : goal.invariant-loop-item
invariant-loop-item l = first_passing l.items ≡ first_passing (drop l.item-index l.items)
