-- Where nothing starts in a region no alternative of it goes on, and all that it asks for is in the table.
use Rattle.std.proofs.Common.{inl, inr, [], List, arith}
use Rattle.lg_region.specs.Alike.{BeginsWith, RegionsBeginAlike, end_of}
use Rattle.lg_region.specs.Fronts.{AreListsOf, Numbering}
use Rattle.lg_region.specs.Openings.{IsKeyOfGap, LeavesLeft}
use Rattle.lg_region.specs.declared.key.Key.{Key}
use Rattle.lg_region.specs.declared.alternative.Alt.{Alt}
use Rattle.lg_region.specs.declared.group.Gap.{Gap}
use Rattle.lg_region.specs.declared.opening.Origin.{Origin}
use Rattle.lg_forest.specs.Halves.{AsksAmong}
use Rattle.lg_forest.specs.Opened.{AsksLeft, IsAltWith, IsAny, IsLiveLeft, IsOpening, StartsSo}
use Rattle.lg_forest.specs.Search.{Asked, IsTable}
use Rattle.lg_forest.specs.Shut.{IsShut}
use Rattle.lg_forest.specs.declared.openings.Opening.{Opening}
use Rattle.lg_forest.proofs.Among.{among_none}
use Rattle.lg_forest.proofs.Asked.{asked_as}
use Rattle.lg_forest.proofs.Once.{contains_none}
use Rattle.lg_forest.proofs.Opening.{none_starts, opening_some, words_all, words_first}
use Rattle.lg_forest.proofs.Starting.{SoFar, opening_asked}

module _ (n : Numbering) (are : AreListsOf n.positions n.lists) (law : RegionsBeginAlike) (origin : Origin) (key : Key) (gap : Gap) (is : IsKeyOfGap key gap) (b : BeginsWith n origin gap)
    (o : Opening) (es : List (Key × List Alt)) (shut : IsShut (end_of gap origin.nulls) o) (opened : IsOpening n es origin o) where
  -- no left key of its alternatives has a linkage
  pub shut_live : (a : Alt) → IsAltWith n key origin.nulls a → IsLiveLeft n a → ⊥
  shut_live a alt live =
      let (s, has, so) = opening_some n are law origin key gap is b o es shut.done opened a alt live in
      none_starts n are law origin key gap is b s (opened.level s has) (shut.none s has) a alt.0 so

  pub shut_asked : IsTable n es → Asked n (AsksAmong n key (LeavesLeft origin.nulls)) es es
  shut_asked table =
      opening_asked n key origin.nulls gap [] 0 (omega arith) (λ s has. absurd (contains_none s has)) (λ a alt live. absurd (shut_live a alt live)) es es
      (asked_as n (AsksLeft n key origin.nulls IsAny) (SoFar n key origin.nulls gap [] 0) es es (λ k h. inl h)
      (λ k h. elim h [ inl l ↦ l | inr (a, alt, m, q) ↦ absurd (among_none (StartsSo gap) [] a m) ])
      (words_all n are law origin key gap is b o.done shut.done es es (words_first n are law origin key gap is b o es table opened)))
