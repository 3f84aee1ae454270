use Rattle.lg_usage.specs.Stored.{OnlyMakesRoom}
use Rattle.lg_usage.proofs.Places.{ArePlaced}
use Rattle.lg_usage.proofs.counts.make_places.Given as goal

-- no number changed, and each text has a place that is not left
abbrev pub invariant-loop-text : goal.invariant-loop-text
invariant-loop-text l = OnlyMakesRoom l.initial.counts l.counts × ArePlaced l.others.entries l.counts l.text-iterator
