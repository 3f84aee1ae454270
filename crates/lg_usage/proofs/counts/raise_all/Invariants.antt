use Rattle.std.proofs.Common.{◌≡◌, ℕ, ◌+◌, List, IsSome}
use Rattle.lg_usage.specs.Stored.{number, HasPlace}
use Rattle.lg_usage.proofs.Tallies.{found}
use Rattle.lg_usage.proofs.Places.{sum_at}
use Rattle.lg_usage.proofs.counts.raise_all.Given as goal

-- the texts that are left have places, and what is left gives the rest
abbrev pub invariant-loop-text : goal.invariant-loop-text
invariant-loop-text l =
    ((text : List ℕ) → IsSome (found text l.text-iterator) → HasPlace l.counts text) ×
    ((text : List ℕ) → number l.counts text + sum_at text l.text-iterator ≡ number l.initial.counts text + number l.others text)
