use Rattle.std.specs.Prelude.{◌≡◌, slice_index}
use Rattle.lg_pp.specs.Steps.{AreThose}
use Rattle.lg_pp.proofs.group.members.Given as goal

-- the members so far
abbrev pub invariant-loop-n : goal.invariant-loop-n
invariant-loop-n l = AreThose (λ n. slice_index l.leasts n ≡ l.head) l.n l.numbers.items
