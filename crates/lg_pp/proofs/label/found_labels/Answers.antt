use Rattle.std.proofs.Common.{◌≡◌, Some}
use Rattle.lg_gram.specs.Labels.{label_at}
use Rattle.lg_pp.proofs.Good.{no_link, joins_at}
use Rattle.lg_pp.proofs.Zipped.{zip_more}
use Rattle.lg_pp.proofs.label.found_labels.Goals as goal

-- the two places of a link of a good linkage have connectors that match
pub label-requires : goal.label-requires
label-requires c =
    joins_at c.args.g.now c.requires c.links-link-items.result.now c.links-link-items.ensures.value c.loop-link.link-index c.loop-link-test.true

-- one more label
pub loop-link-preserved : goal.loop-link-preserved
loop-link-preserved c =
    rw c.in_ok-push.ensures.items
    (zip_more (λ link label. label_at c.args.g.now link ≡ Some label) c.links-link-items.result.now c.loop-link.labels.items c.loop-link.link-index no_link c.label.result
    c.loop-link-test.true c.loop-link.invariant c.label.ensures)
