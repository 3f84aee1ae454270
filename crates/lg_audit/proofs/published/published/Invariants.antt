use Rattle.std.proofs.Common.{◌≡◌, ◌+◌, ◌++◌, map, drop}
use Rattle.lg_script.specs.Histories.{published_by}
use Rattle.lg_audit.specs.Answers.{reply_of}
use Rattle.lg_audit.specs.Replies.{outline}
use Rattle.lg_audit.proofs.Sharing.{places_from}
use Rattle.lg_audit.proofs.published.published.Given as goal

-- the places so far, and those of the answers that are left
abbrev pub invariant-loop-index : goal.invariant-loop-index
invariant-loop-index l = record {
  all : l.places.items ++ places_from l.session (l.index + 1) (map outline (map reply_of (drop l.index l.replies))) ≡ published_by l.session (map outline (map reply_of l.replies));
}
