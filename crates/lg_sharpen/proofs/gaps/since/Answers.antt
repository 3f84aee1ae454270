use Rattle.std.proofs.Common.{length, ◌-◌, refl}
use Rattle.lg_sharpen.proofs.Voids.{void_since}
use Rattle.lg_sharpen.proofs.gaps.since.Goals as goal

pub returns-then-word-voids : goal.returns-then-word-voids
returns-then-word-voids c = λ rows n are.
    void_since n rows c.args.voids.now c.args.word (length c.args.voids.now - 1) c.saturating_sub.result c.if-word-voids.true refl c.saturating_sub.ensures are
