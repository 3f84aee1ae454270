use Rattle.std.proofs.Common.{◌%◌, length, refl, ap, ◌∙◌, rules}
use Rattle.lg_forest.proofs.Slotting.{are_more}
use Rattle.lg_forest.proofs.slots.push.Goals as goal

pub returns-clause-slots : goal.returns-clause-slots
returns-clause-slots g c =
    let heads = c.args.heads.now in
    let b = c.bucket_of-bucket.result in
    are_more g.K.Spread.spread c.args.slots.now.items c.push.new.self.items _ heads
    _ (length c.args.slots.now.items) b
    c.in_ok-push.ensures.items refl c.requires.slots c.requires.room c.requires.fresh
    (c.bucket_of-bucket.ensures.value ∙ ap (λ z. z % length heads) c.spread.ensures) c.bucket_of-bucket.ensures.within refl
    (search rules)
