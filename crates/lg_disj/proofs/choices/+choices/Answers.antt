use Rattle.std.proofs.Common.{◌≡◌, ◌≤◌, take, sym, ap, subst, ◌∙◌, arith}
use Rattle.std.specs.List.{All}
use Rattle.lg_gram.specs.Trees.{priced, tree_of, trees_in, expr_items}
use Rattle.lg_gram.specs.Measures.{choices_of, node_count, nodes_in}
use Rattle.lg_disj.specs.Choices.{HasSmallCost}
use Rattle.lg_disj.specs.Places.{listed}
use Rattle.lg_disj.proofs.Bounded.{small_costs, small_picks}
use Rattle.lg_disj.proofs.Folds.{tree_of-Priced}
use Rattle.lg_disj.proofs.Members.{inner_nodes, inner_prices, read_nodes, read_prices, read_more, fewer_nodes, fewer_prices}
use Rattle.lg_disj.proofs.Growing.{grows_no, grows_twice, lists_no, lists_priced, any_more, fresh_stand, cheap_listed, fresh_cheap}
use Rattle.lg_disj.proofs.Picking.{none_picked, none_cheap, one_more_picked, joined_cheap}
use Rattle.lg_disj.proofs.choices.+choices.Goals as goal

pub picks_of-choices_of-requires : goal.picks_of-choices_of-requires
picks_of-choices_of-requires t c =
    let nodes : node_count (tree_of c.member-item.result) ≤ nodes_in (trees_in (expr_items c.args.members.now)) =
    read_nodes _ _ _ _ c.loop-member-test.true c.member-item.is c.items-member-items.ensures in (
      omega arith,
      (omega arith, (read_prices _ _ _ _ c.loop-member-test.true c.member-item.is c.items-member-items.ensures c.requires.prices, c.new-next.ensures.within)),
    )

pub choices_of_any-choices_of-requires : goal.choices_of_any-choices_of-requires
choices_of_any-choices_of-requires t c =
    let nodes : node_count (tree_of c.member-item.result) ≤ nodes_in (trees_in (expr_items c.args.members.now)) =
    read_nodes _ _ _ _ c.loop-member-test.true c.member-item.is c.items-member-items.ensures in (
      omega arith,
      (omega arith, (read_prices _ _ _ _ c.loop-member-test.true c.member-item.is c.items-member-items.ensures c.requires.prices, c.loop-member.invariant.arena)),
    )

pub choices_of_any-loop-member-init : goal.choices_of_any-loop-member-init
choices_of_any-loop-member-init t c = record { grows = grows_no _; lists = lists_no _ _; arena = c.requires.arena }

pub choices_of_any-loop-member-preserved : goal.choices_of_any-loop-member-preserved
choices_of_any-loop-member-preserved t c =
    let at = c.loop-member in
    let es = c.items-member-items.result.now in
    let more = read_more es at.member-index c.member-item.result c.loop-member-test.true c.member-item.is in
    record {
      grows = grows_twice _ _ _ at.invariant.grows c.in_ok-choices_of.ensures.leaves;
      lists = any_more _ _ _ _ _ es at.member-index c.member-item.result c.in_ok-choices_of.ensures.leaves at.invariant.lists c.in_ok-choices_of.ensures.exact more;
      arena = c.in_ok-choices_of.ensures.arena;
    }

pub picks_of-loop-member-init : goal.picks_of-loop-member-init
picks_of-loop-member-init t c = record {
  grows = grows_no _;
  stand = none_picked _ _ _ c.in_ok-firsts.ensures.exact c.in_ok-last.ensures.exact;
  first_arena = c.in_ok-firsts.ensures.arena;
  last_arena = c.in_ok-last.ensures.arena;
  first_costs = none_cheap _ c.in_ok-firsts.ensures.exact;
  last_costs = none_cheap _ c.in_ok-last.ensures.exact;
}

pub picks_of-loop-member-preserved : goal.picks_of-loop-member-preserved
picks_of-loop-member-preserved t c =
    let at = c.loop-member in
    let es = c.items-member-items.result.now in
    let few = rw (← c.items-member-items.ensures) at c.requires.nodes in
    let small = rw (← c.items-member-items.ensures) at c.requires.prices in
    let nodes : node_count (tree_of c.member-item.result) ≤ nodes_in (trees_in (expr_items c.args.members.now)) =
    read_nodes _ _ _ _ c.loop-member-test.true c.member-item.is c.items-member-items.ensures in
    let more = read_more es at.member-index c.member-item.result c.loop-member-test.true c.member-item.is in
    let next = fresh_stand _ _ _ _ c.new-next.ensures.exact c.in_ok-choices_of.ensures.exact in
    record {
      grows = grows_twice _ _ _ at.invariant.grows c.in_ok-choices_of.ensures.leaves;
      stand = one_more_picked _ _ (listed at.firsts) (listed at.last) _ _ es at.member-index c.member-item.result c.in_ok-choices_of.ensures.leaves at.invariant.stand next c.in_ok-firsts-2.ensures.exact more;
      first_arena = c.in_ok-firsts-2.ensures.arena;
      last_arena = c.in_ok-choices_of.ensures.arena;
      first_costs = joined_cheap _ (listed at.firsts) (listed at.last) _ (take at.member-index es) c.in_ok-firsts-2.ensures.exact at.invariant.stand
          (small_picks (trees_in (take at.member-index es)) (omega (arith, fewer_nodes es at.member-index, few)) (fewer_prices es at.member-index small));
      last_costs = cheap_listed _ _ _ next.told
          (small_costs (tree_of c.member-item.result) (omega arith) (read_prices _ _ _ _ c.loop-member-test.true c.member-item.is c.items-member-items.ensures c.requires.prices));
    }

pub choices_of-add_price-requires-clause-costs : goal.choices_of-add_price-requires-clause-costs
choices_of-add_price-requires-clause-costs t c =
    let inner = c.in-Priced.inner.value in
    let is : tree_of c.args.e.now ≡ priced (tree_of inner) c.in-Priced.price = ap tree_of c.in-Priced.is ∙ tree_of-Priced _ inner c.in-Priced.price in
    fresh_cheap _ _ _ _ _ c.len-first.ensures c.in_ok-choices_of-in-Priced.ensures.exact
    (subst (λ e. All HasSmallCost (choices_of (tree_of e))) (sym c.deref.ensures)
    (small_costs (tree_of inner) (omega (arith, inner_nodes _ _ _ is, c.requires.nodes)) (inner_prices _ _ _ is c.requires.prices)))

pub choices_of-returns-in_ok-choices_of-in-Priced-clause-exact : goal.choices_of-returns-in_ok-choices_of-in-Priced-clause-exact
choices_of-returns-in_ok-choices_of-in-Priced-clause-exact t c =
    let inner = c.in-Priced.inner.value in
    let is : tree_of c.args.e.now ≡ priced (tree_of inner) c.in-Priced.price = ap tree_of c.in-Priced.is ∙ tree_of-Priced _ inner c.in-Priced.price in
    lists_priced _ _ _ _ c.in-Priced.price _ _ inner _ is c.deref.ensures c.len-first.ensures c.in_ok-choices_of-in-Priced.ensures.exact c.add_price.ensures.exact
