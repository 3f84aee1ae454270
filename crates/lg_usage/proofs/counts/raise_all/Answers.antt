use Rattle.std.proofs.Common.{◌+◌, IsSome, subst, sym, ap, ◌∙◌}
use Rattle.lg_usage.specs.Stored.{number, HasPlace}
use Rattle.lg_usage.proofs.Tallies.{found}
use Rattle.lg_usage.proofs.Places.{sum_at, sum_is, first_found}
use Rattle.lg_usage.proofs.counts.raise_all.Goals as goal

-- all is left, and the texts rise
pub loop-text-init : goal.loop-text-init
loop-text-init c =
    let start = c.into_iter-text-iterator.ensures.into_iter_gives ∙ c.iter-text-items.ensures.rest in (
      λ text has. c.requires.there text (subst (λ es. IsSome (found text es)) start has),
      λ text. ap (λ n. number c.args.counts.now text + n) (ap (sum_at text) start ∙ sum_is c.args.others.now.entries text c.iter-text-items.ensures.ordered),
    )

-- the text is the first of those that are left
pub raise-requires-clause-there : goal.raise-requires-clause-there
raise-requires-clause-there c =
    let text = c.in-Some.text.now.items in
    subst (HasPlace c.loop-text.counts) (sym c.as_slice.ensures.value)
    (c.loop-text.invariant.0 text
    (subst (λ es. IsSome (found text es)) (sym c.in-Some.ensures.steps) (first_found (c.in-Some.text.now, c.in-Some.more.now) c.next.new.self)))
