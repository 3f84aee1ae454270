use Rattle.std.proofs.Common.{◌≡◌, ◌↔◌, ℕ, ◌<◌, length}
use Rattle.std.specs.Prelude.{slice_index_or, IsTrue, false}
use Rattle.lg_pp.specs.Judging.{class_of}
use Rattle.lg_pp.proofs.rules.trigger.hits.Given as goal

-- the classes of the links so far whose flag is set
abbrev pub invariant-loop-n : goal.invariant-loop-n
invariant-loop-n l = record {
  enough : length l.hits.items ≡ length l.met;
  exactly : (c : ℕ) → IsTrue (slice_index_or l.hits.items c false) ↔ ((m : ℕ) × (m < l.n) × (class_of l.grouped l.groups m ≡ c) × IsTrue (slice_index_or l.met m false));
}
