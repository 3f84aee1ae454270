use Rattle.std.proofs.Common.{◌≡◌, take}
use Rattle.lg_check_sessions.proofs.session.copied.Given as goal

-- the tokens so far are copied
abbrev pub invariant-loop-token : goal.invariant-loop-token
invariant-loop-token l = l.items.items ≡ take l.token-index l.tokens
