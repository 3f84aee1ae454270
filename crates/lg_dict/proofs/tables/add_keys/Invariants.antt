use Rattle.std.proofs.Common.{◌≡◌, ◌++◌, map}
use Rattle.lg_dict.proofs.tables.add_keys.Given as goal

abbrev pub invariant-loop-key : goal.invariant-loop-key
invariant-loop-key g l = map (λ key. key.now) l.found.items ≡ map (λ key. key.now) l.initial.found.items ++ map (λ key. key.now.items) l.yielded
