use Rattle.std.proofs.Common.{◌≡◌, length, take}
use Rattle.lg_walks.proofs.Labels.{TellSoFar}
use Rattle.lg_walks.proofs.islands.label_islands.Given as goal

-- the labels tell what walks over the links so far join
abbrev pub invariant-loop-link : goal.invariant-loop-link
invariant-loop-link l = record {
  enough : length l.labels ≡ length l.initial.labels;
  tell : TellSoFar (take l.link-index l.links) l.labels;
}
