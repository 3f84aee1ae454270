use Rattle.std.proofs.Common.{◌≡◌, min, take}
use Rattle.std.specs.List.{sum_by}
use Rattle.lg_token.specs.Bounds.{CHOICES_COUNTED, token_choices}
use Rattle.lg_token.proofs.bound.all_choices.Given as goal

-- the choices of the tokens so far
abbrev pub invariant-loop-token : goal.invariant-loop-token
invariant-loop-token l = l.sum ≡ min (sum_by (token_choices l.view) (take l.token-index l.tokens)) CHOICES_COUNTED
