use Rattle.std.proofs.Common.{All, take}
use Rattle.lg_dict.specs.Changed.{HasSame, IsLaid, IsNamed}
use Rattle.lg_dict.proofs.changes.Changes.admit_all.Given as goal

abbrev pub invariant-loop-word : goal.invariant-loop-word
invariant-loop-word l = record {
  laid : IsLaid l.self;
  same : HasSame l.initial.self l.self;
  named : All (IsNamed l.self) (take l.word-index l.words);
}
