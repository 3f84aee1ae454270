use Rattle.std.proofs.Common.{◌≡◌, ◌+◌, vec_len}
use Rattle.std.specs.Io.KnownBytes.{Consumes}
use Rattle.lg_base.proofs.host.read_limited.Given as goal

-- what was taken lies in `bytes`, and `left` more bytes may come
abbrev pub invariant-loop-bytes : goal.invariant-loop-bytes
invariant-loop-bytes g l = record {
  taken : Consumes (g.S.Read.remaining l.fn.file.source) (g.S.Read.remaining l.file.source) l.bytes.items;
  room : vec_len l.bytes + l.left ≡ l.limit;
  faults : l.file.faults ≡ l.fn.file.faults;
}

abbrev pub decreases-loop-bytes : goal.decreases-loop-bytes
decreases-loop-bytes g l = l.left
