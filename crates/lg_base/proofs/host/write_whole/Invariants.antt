use Rattle.std.proofs.Common.{◌≡◌, ◌≤◌, ◌-◌, length, take}
use Rattle.std.specs.Io.KnownBytes.{Appends}
use Rattle.lg_base.proofs.host.write_whole.Given as goal

-- the first bytes are written
abbrev pub invariant-loop-done : goal.invariant-loop-done
invariant-loop-done g l = record {
  written : Appends (g.W.Write.contents l.fn.sink.writer) (g.W.Write.contents l.sink.writer) (take l.done l.bytes);
  within : l.done ≤ length l.bytes;
  faults : l.sink.faults ≡ l.fn.sink.faults;
}

abbrev pub decreases-loop-done : goal.decreases-loop-done
decreases-loop-done g l = length l.bytes - l.done
