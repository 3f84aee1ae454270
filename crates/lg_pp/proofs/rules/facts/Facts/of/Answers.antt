use Rattle.lg_pp.proofs.rules.facts.Facts.of.Goals as goal

pub groups_if-requires : goal.groups_if-requires
groups_if-requires c = rw (c.deref.ensures.value, c.links.ensures.value) c.in_ok-rows.ensures.long

-- what is wanted is what some rule asks for
pub returns : goal.returns
returns c =
    let grouped = rw c.items-rules.ensures at c.is_any_grouped.ensures in
    let domains = rw c.items-rules.ensures at c.is_any_of_domains.ensures in
    record {
      labels = c.in_ok-labels.ensures;
      rows = λ some. c.in_ok-rows.ensures.rows (domains.1 some);
      within = rw c.links.ensures.value at c.in_ok-groups.ensures.within;
      groups = λ some. (rw (c.deref.ensures.value, c.links.ensures.value) at c.in_ok-groups.ensures.groups) (grouped.1 some);
    }
