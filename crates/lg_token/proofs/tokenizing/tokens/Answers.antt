use Rattle.lg_token.proofs.tokenizing.tokens.Goals as goal

pub returns : goal.returns
returns c = c.in_ok-places.ensures _ (rw c.deref.ensures.value at c.in_ok-tokens.ensures)
