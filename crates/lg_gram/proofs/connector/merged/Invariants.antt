use Rattle.std.proofs.Common.{◌≡◌, ℕ, ◌<◌, length, get_or}
use Rattle.lg_gram.specs.Names.{STAR}
use Rattle.lg_gram.specs.Connectors.{either}
use Rattle.lg_gram.proofs.connector.merged.Given as goal

abbrev pub invariant-loop-place : goal.invariant-loop-place
invariant-loop-place l = (length l.letters ≡ 16) × ((k : ℕ) → k < l.place → get_or l.letters k STAR ≡ either (get_or l.xs k STAR) (get_or l.ys k STAR))
