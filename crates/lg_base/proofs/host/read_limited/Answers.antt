use Rattle.std.proofs.Common.{◌++◌, take, arith, length-append}
use Rattle.std.proofs.lemmas.List.{length-take}
use Rattle.std.proofs.KnownBytes.{Consumes-trans}
use Rattle.lg_base.proofs.host.read_limited.Goals as goal

-- what was taken before and the last piece are one byte more than the limit
pub returns-then-count-left-clause-stops : goal.returns-then-count-left-clause-stops
returns-then-count-left-clause-stops g c = λ _. record {
  taken = c.loop-bytes.bytes.items ++ take c.in_ok-count.count c.read_some.new.buffer;
  gone = Consumes-trans _ _ _ _ _ c.loop-bytes.invariant.taken c.in_ok-count.ensures.bytes.0;
  counted = omega (arith, length-append c.loop-bytes.bytes.items (take c.in_ok-count.count c.read_some.new.buffer), c.in_ok-count.ensures.bound, c.loop-bytes.bytes.ok, length-take c.min-want.result c.loop-bytes.chunk);
}
