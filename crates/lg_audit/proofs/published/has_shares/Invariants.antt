use Rattle.std.proofs.Common.{map}
use Rattle.lg_audit.specs.Answers.{replies_of}
use Rattle.lg_audit.specs.Replies.{outline}
use Rattle.lg_audit.specs.Shares.{HasShares}
use Rattle.lg_audit.proofs.published.has_shares.Given as goal

-- the sessions so far
abbrev pub invariant-loop-index : goal.invariant-loop-index
invariant-loop-index l = record { so_far : HasShares l.journal (map (map outline) (replies_of l.replies)) l.index }
