use Rattle.std.proofs.Common.{◌≡◌, ◌+◌, map, drop}
use Rattle.std.specs.List.{sum_by}
use Rattle.lg_audit.specs.Answers.{reply_of}
use Rattle.lg_audit.specs.Audits.{shown_by}
use Rattle.lg_audit.proofs.tally.shown_in.Given as goal

-- the count so far, and what is left
abbrev pub invariant-loop-reply : goal.invariant-loop-reply
invariant-loop-reply l = record { sum : l.count + sum_by shown_by (map reply_of (drop l.reply-index l.replies)) ≡ sum_by shown_by (map reply_of l.replies) }
