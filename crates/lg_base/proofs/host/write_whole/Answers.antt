use Rattle.std.proofs.Common.{sym, subst, ◌∙◌}
use Rattle.std.specs.Io.KnownBytes.{Appends}
use Rattle.std.proofs.KnownBytes.{Appends-trans}
use Rattle.lg_base.proofs.Pieces.{front_grows, front_within}
use Rattle.lg_base.proofs.host.write_whole.Goals as goal

-- the part that was written now follows what was written before
pub loop-done-preserved : goal.loop-done-preserved
loop-done-preserved g c = record {
  written = subst (Appends _ _) (sym (front_grows c.loop-done.done c.in_ok-taken.taken c.args.bytes.now))
      (Appends-trans _ _ _ _ _ c.loop-done.invariant.written c.in_ok-taken.ensures.bytes);
  within = front_within _ _ _ c.loop-done.invariant.within c.in_ok-taken.ensures.taken.1;
  faults = c.in_ok-taken.ensures.counted ∙ c.loop-done.invariant.faults;
}
