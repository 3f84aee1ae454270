use Rattle.std.proofs.Common.{subst, ◌∙◌}
use Rattle.lg_usage.specs.Stored.{HasPlace}
use Rattle.lg_usage.proofs.Places.{ArePlaced, placed_more}
use Rattle.lg_usage.proofs.counts.make_places.Goals as goal

-- one text more has a place
pub loop-text-preserved : goal.loop-text-preserved
loop-text-preserved c =
    let (room, places) = c.loop-text.invariant in
    let made = c.make_place.ensures.room in (
      record { same = λ text. made.same text ∙ room.same text; kept = λ text has. made.kept text (room.kept text has) },
      placed_more c.args.others.now.entries c.next.new.self (c.in-Some.text.now, c.in-Some.field-0-1.now) c.loop-text.counts c.make_place.new.counts made.kept
          (subst (HasPlace c.make_place.new.counts) c.as_slice.ensures.value c.in_ok-make_place.ensures.there)
          (subst (ArePlaced c.args.others.now.entries c.loop-text.counts) c.in-Some.ensures.steps places),
    )
