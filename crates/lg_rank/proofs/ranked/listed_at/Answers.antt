use Rattle.std.proofs.Common.{sym, subst}
use Rattle.lg_rank.specs.Rankings.{IsListing}
use Rattle.lg_rank.specs.Values.{Value}
use Rattle.lg_rank.proofs.ranked.listed_at.Goals as goal

pub nth_linkage-requires : goal.nth_linkage-requires
nth_linkage-requires c = record {
  listing =
      let is = c.requires.listing in
      (is.0, subst (λ (z : Value). IsListing c.args.problem.now z c.args.table.now.nodes.items is.0 c.args.root) (sym c.in_ok-nothing.ensures) is.1);
}

pub returns-clause-keeps : goal.returns-clause-keeps
returns-clause-keeps c = λ nulls is.
    subst (λ (z : Value). IsListing c.args.problem.now z c.nth_linkage.new.table.nodes.items nulls c.args.root) c.in_ok-nothing.ensures
    (c.nth_linkage.ensures.keeps nulls (subst (λ (z : Value). IsListing c.args.problem.now z c.args.table.now.nodes.items nulls c.args.root) (sym c.in_ok-nothing.ensures) is))

pub returns-clause-next : goal.returns-clause-next
returns-clause-next c = λ nulls gs is front long.
    c.in_ok-found.ensures.next nulls gs (subst (λ (z : Value). IsListing c.args.problem.now z c.args.table.now.nodes.items nulls c.args.root) (sym c.in_ok-nothing.ensures) is) front long

pub returns-clause-listed : goal.returns-clause-listed
returns-clause-listed c = λ nulls level is lev.
    c.in_ok-found.ensures.listed nulls level (subst (λ (z : Value). IsListing c.args.problem.now z c.args.table.now.nodes.items nulls c.args.root) (sym c.in_ok-nothing.ensures) is) lev
