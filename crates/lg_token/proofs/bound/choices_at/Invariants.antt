use Rattle.std.proofs.Common.{take}
use Rattle.lg_token.specs.Places.{HaveChoices}
use Rattle.lg_token.specs.Steps.{AreLists}
use Rattle.lg_token.proofs.bound.choices_at.Given as goal

-- the choices at the places so far
abbrev pub invariant-loop-place : goal.invariant-loop-place
invariant-loop-place l = record {
  counted : HaveChoices l.view (take l.place-index l.places) l.sum;
  lists : AreLists l.view l.lists.items;
}
