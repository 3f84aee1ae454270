use Rattle.std.proofs.Common.{ap, ◌∙◌}
use Rattle.lg_usage.proofs.Seen.{totals, seen, on_err, same_seen, may_still, still_small, summed}
use Rattle.lg_usage.proofs.usage.Usage.merge.Goals as goal

-- places alone are not seen
pub returns-in_err-make_places-clause-err : goal.returns-in_err-make_places-clause-err
returns-in_err-make_places-clause-err c =
    on_err _ (ap (λ words. totals words (seen c.self.inside.labels)) (same_seen c.self.inside.words c.make_places.new.counts c.make_places.ensures.room) ∙ c.self.view_is)

pub returns-in_err-make_places-2-clause-err : goal.returns-in_err-make_places-2-clause-err
returns-in_err-make_places-2-clause-err c =
    on_err _
    (ap (λ words. totals words (seen c.make_places-2.new.counts)) (same_seen c.self.inside.words c.make_places.new.counts c.make_places.ensures.room)
    ∙ ap (λ labels. totals (seen c.self.inside.words) labels) (same_seen c.self.inside.labels c.make_places-2.new.counts c.make_places-2.ensures.room)
    ∙ c.self.view_is)

-- no sum is too great
pub raise_all-requires-clause-small : goal.raise_all-requires-clause-small
raise_all-requires-clause-small c =
    let small = may_still c.args.self.now c.args.other.now _ _ c.self.view_is c.other.view_is c.requires in
    still_small c.self.inside.words c.other.inside.words c.make_places.new.counts c.make_places.ensures.room small.words

pub raise_all-requires-2-clause-small : goal.raise_all-requires-2-clause-small
raise_all-requires-2-clause-small c =
    let small = may_still c.args.self.now c.args.other.now _ _ c.self.view_is c.other.view_is c.requires in
    still_small c.self.inside.labels c.other.inside.labels c.make_places-2.new.counts c.make_places-2.ensures.room small.labels

-- the numbers of both
pub returns-clause-ok : goal.returns-clause-ok
returns-clause-ok c = rw (← c.self.view_is, ← c.other.view_is) (record {
  words = summed c.self.inside.words c.other.inside.words c.make_places.new.counts c.raise_all.new.counts c.make_places.ensures.room c.raise_all.ensures;
  labels = summed c.self.inside.labels c.other.inside.labels c.make_places-2.new.counts c.raise_all-2.new.counts c.make_places-2.ensures.room c.raise_all-2.ensures;
})
