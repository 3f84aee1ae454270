use Rattle.std.proofs.Common.{refl, subst}
use Rattle.lg_region.specs.Keys.{region_of_numbers, IsValidKey}
use Rattle.lg_region.proofs.opening.gap_of.Goals as goal
use Rattle.lg_region.proofs.opening.gap_of.Goals.{else-llist-eq0-via-then-llist-eq0+else-rlist-eq0, else-llist-eq0-via-else-llist-eq0}

-- what a valid key says of its ends and lists
pub returns-else-llist-eq0-clause-gap : goal.returns-else-llist-eq0-clause-gap
returns-else-llist-eq0-clause-gap c =
    let positions = c.args.lists.now.positions in
    let lists = c.args.lists.now.lists in
    let k = subst (λ z. IsValidKey positions lists z) c.in-Region.is c.requires in
    record {
      key_is = c.in-Region.is;
      known = record {
        llist = k.0;
        rlist = k.1;
        small = c.lead_of-lead.ensures.small;
        led = c.lead_of-lead.ensures.led (region_of_numbers lists c.in-Region.left c.in-Region.right c.in-Region.llist c.in-Region.rlist c.in-Region.nulls) refl refl;
      };
      ends = k.2.ends;
      within = k.2.within;
      some = λ h. elim c.else-llist-eq0.branch [ else-llist-eq0-via-then-llist-eq0+else-rlist-eq0 w ↦ w.if-rlist-eq0.false h.1 | else-llist-eq0-via-else-llist-eq0 w ↦ w.if-llist-eq0.false h.0 ];
      few = k.2.few;
      lead = c.lead_of-lead.ensures.left;
      rlead = c.lead_of-lead.ensures.right;
    }
