use Rattle.std.proofs.Common.{◌+◌, map, drop}
use Rattle.lg_script.specs.Commands.{command_view}
use Rattle.lg_audit.specs.Answers.{reply_of, IsReplyTo, command_lines}
use Rattle.lg_audit.proofs.Chains.{IsChain}
use Rattle.lg_audit.proofs.session.read_session.Given as goal

-- the answers so far, and what is left
abbrev pub invariant-loop-index : goal.invariant-loop-index
invariant-loop-index l = record {
  chain : IsChain IsReplyTo (command_lines l.session) (map command_view l.commands) l.text (l.index + 1) (map command_view (drop l.index l.commands)) (map reply_of l.replies.items) l.left;
}
