use Rattle.std.proofs.Common.{◌≡◌, ◌++◌, ◌-◌, replicate}
use Rattle.lg_export.proofs.text.write_repeated.Given as goal

-- the bytes that are left give the rest
abbrev pub invariant-loop : goal.invariant-loop
invariant-loop l = l.out.items ++ replicate (l.count - l.counter) l.byte ≡ l.fn.out.items ++ replicate l.count l.byte
