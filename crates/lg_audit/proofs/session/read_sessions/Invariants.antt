use Rattle.std.proofs.Common.{◌+◌, drop}
use Rattle.lg_script.specs.Commands.{script_views}
use Rattle.lg_audit.specs.Answers.{replies_of, AreRepliesTo, script_lines}
use Rattle.lg_audit.proofs.Chains.{IsChain}
use Rattle.lg_audit.proofs.session.read_sessions.Given as goal

-- the sessions so far, and what is left
abbrev pub invariant-loop-index : goal.invariant-loop-index
invariant-loop-index l = record {
  chain : IsChain AreRepliesTo script_lines (script_views l.scripts) l.text (l.index + 1) (script_views (drop l.index l.scripts)) (replies_of l.sessions.items) l.left;
}
