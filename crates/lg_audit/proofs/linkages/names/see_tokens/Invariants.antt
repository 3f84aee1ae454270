use Rattle.std.proofs.Common.{take}
use Rattle.std.specs.List.{All}
use Rattle.lg_gram.specs.declared.listing.Token.{Token}
use Rattle.lg_audit.specs.Pages.{HasNamedWords}
use Rattle.lg_audit.proofs.linkages.names.see_tokens.Given as goal

abbrev pub invariant-loop-token : goal.invariant-loop-token
invariant-loop-token l = All (λ (t : Token). HasNamedWords l.view t.words) (take l.token-index l.tokens)
