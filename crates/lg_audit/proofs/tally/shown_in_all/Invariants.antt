use Rattle.std.proofs.Common.{◌≡◌, ◌+◌, drop}
use Rattle.std.specs.List.{sum_by}
use Rattle.lg_audit.specs.Answers.{replies_of}
use Rattle.lg_audit.specs.Audits.{shown_by}
use Rattle.lg_audit.proofs.tally.shown_in_all.Given as goal

-- the count so far, and what is left
abbrev pub invariant-loop-answers : goal.invariant-loop-answers
invariant-loop-answers l = record { sum : l.count + sum_by (sum_by shown_by) (replies_of (drop l.answers-index l.replies)) ≡ sum_by (sum_by shown_by) (replies_of l.replies) }
