use Rattle.std.proofs.Common.{take}
use Rattle.lg_token.specs.Places.{AreAt}
use Rattle.lg_token.specs.Steps.{AreLists}
use Rattle.lg_token.proofs.place.tokens_at.Given as goal

abbrev pub invariant-loop-place : goal.invariant-loop-place
invariant-loop-place l = record {
  made : AreAt l.view (take l.place-index l.places) l.tokens.items;
  lists : AreLists l.view l.lists.items;
}
