use Rattle.std.proofs.Common.{refl}
use Rattle.lg_token.proofs.Choices.{token_next}
use Rattle.lg_token.proofs.place.tokens_at.Goals as goal

pub loop-place-preserved : goal.loop-place-preserved
loop-place-preserved c =
    record {
      made = rw c.in_ok-push.ensures.items (token_next c.args.view.now c.args.places.now c.loop-place.place-index _ c.loop-place-test.true c.loop-place.tokens.items _ c.loop-place.invariant.made
          (record { begins = refl; ends = refl; text = c.in_ok-of.ensures; words = c.in_ok-words_at.ensures.words }));
      lists = c.in_ok-words_at.ensures.lists;
    }
