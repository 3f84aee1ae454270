use Rattle.std.proofs.Common.{◌≡◌, ℕ, ◌<◌, Some}
use Rattle.std.specs.Prelude.{slice_get}
use Rattle.lg_gram.specs.Rules.{Joins, rights_of, lefts_of}
use Rattle.lg_gram.specs.declared.linkage.Link.{Link}
use Rattle.lg_rules.specs.Places.{linkage_of}
use Rattle.lg_rules.proofs.checker.matching.first_unmatched.Given as goal

-- the links so far join connectors that match
abbrev pub invariant-loop-n : goal.invariant-loop-n
invariant-loop-n l = let g = linkage_of l.chosen l.links in (k : ℕ) (link : Link) → k < l.n → slice_get l.links k ≡ Some link → Joins (rights_of g) (lefts_of g) link
