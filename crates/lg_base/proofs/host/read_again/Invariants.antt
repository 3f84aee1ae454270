use Rattle.std.specs.Io.KnownBytes.{Keeps}
use Rattle.lg_base.proofs.host.read_again.Given as goal

-- an interrupted read took nothing
abbrev pub invariant-loop : goal.invariant-loop
invariant-loop g l = Keeps (g.S.Read.remaining l.fn.source) (g.S.Read.remaining l.source)
