use Rattle.std.proofs.Common.{◌≡◌, take}
use Rattle.lg_check_sessions.proofs.session.copied_token.Given as goal

-- the words so far are copied
abbrev pub invariant-loop-word : goal.invariant-loop-word
invariant-loop-word l = l.words.items ≡ take l.word-index l.token.words
