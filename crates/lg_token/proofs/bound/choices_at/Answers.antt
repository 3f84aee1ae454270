use Rattle.std.proofs.Common.{◌≡◌, ◌+◌, min, arith}
use Rattle.lg_token.specs.Bounds.{CHOICES_COUNTED}
use Rattle.lg_token.proofs.Choices.{choices_next}
use Rattle.lg_token.proofs.bound.choices_at.Goals as goal

pub loop-place-preserved : goal.loop-place-preserved
loop-place-preserved c =
    let now : c.min-sum.result ≡ min (c.loop-place.sum + c.choices_of.result) CHOICES_COUNTED = omega arith in
    record {
      counted = choices_next c.args.view.now c.args.places.now c.loop-place.place-index _ c.loop-place-test.true _ c.loop-place.sum c.choices_of.result c.min-sum.result c.loop-place.invariant.counted c.in_ok-words.ensures.words
          c.choices_of.ensures now;
      lists = c.in_ok-words.ensures.lists;
    }
