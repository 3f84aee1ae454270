use Rattle.std.proofs.Common.{◌≡◌, ℕ, ◌<◌, Some}
use Rattle.std.specs.Prelude.{slice_get}
use Rattle.std.specs.List.{count_by}
use Rattle.lg_gram.specs.Connectors.{Connector}
use Rattle.lg_rules.specs.Places.{linkage_of, side_of}
use Rattle.lg_rules.specs.Checks.{IsCount, is_at}
use Rattle.lg_rules.proofs.checker.satisfaction.first_of_side.Given as goal

-- the connectors so far have as many links as they may
abbrev pub invariant-loop-place : goal.invariant-loop-place
invariant-loop-place l = (p : ℕ) (c : Connector) → p < l.place → slice_get (side_of (linkage_of l.chosen l.links) l.right l.position) p ≡ Some c → IsCount c.multi (count_by (is_at l.right l.position p) l.links)
