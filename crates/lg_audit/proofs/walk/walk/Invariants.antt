use Rattle.std.proofs.Common.{map}
use Rattle.lg_script.specs.Commands.{command_view}
use Rattle.lg_audit.specs.Answers.{reply_of}
use Rattle.lg_audit.specs.Grounds.{basis_in}
use Rattle.lg_audit.specs.Walks.{IsWalked}
use Rattle.lg_audit.proofs.walk.walk.Given as goal

-- the answers so far
abbrev pub invariant-loop-index : goal.invariant-loop-index
invariant-loop-index l = IsWalked (basis_in l.basis) l.session (map command_view l.commands) (map reply_of l.replies) l.index l.edits l.lists l.walked
