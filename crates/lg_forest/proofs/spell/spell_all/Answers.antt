use Rattle.std.proofs.Common.{subst, Contains}
use Rattle.lg_gram.specs.Levels.{IsLevel}
use Rattle.lg_forest.specs.Drafts.{HaveDrafts}
use Rattle.lg_forest.proofs.Asked.{both_ok}
use Rattle.lg_forest.proofs.SameLinkage.{level_exactly, of_one_problem, is_level}
use Rattle.lg_forest.proofs.spell.spell_all.Goals as goal

pub linkages_of-requires : goal.linkages_of-requires
linkages_of-requires c = λ p h.
    let r = c.in_ok-drafts.ensures.each p (subst (λ z. Contains z p) c.as_slice.ensures.value h) in (r.0, r.1.good, r.2)

pub in_order-requires : goal.in_order-requires
in_order-requires c =
    let have = subst (λ z. HaveDrafts c.args.problem.now z c.in_ok-linkages.linkages.items) c.as_slice.ensures.value c.in_ok-linkages.ensures in
    of_one_problem c.args.problem.now c.args.forest.now.unused c.in_ok-linkages.linkages.items c.positions-positions.ensures.limits
    (level_exactly c.args.problem.now c.args.forest.now.unused c.in_ok-drafts.drafts.items c.in_ok-linkages.linkages.items c.in_ok-drafts.ensures have)

pub returns : goal.returns
returns c =
    let have = subst (λ z. HaveDrafts c.args.problem.now z c.in_ok-linkages.linkages.items) c.as_slice.ensures.value c.in_ok-linkages.ensures in
    let exactly = level_exactly c.args.problem.now c.args.forest.now.unused c.in_ok-drafts.drafts.items c.in_ok-linkages.linkages.items c.in_ok-drafts.ensures have in
    both_ok c.in_order.result _ _ (λ list. IsLevel c.args.problem.now c.args.forest.now.unused list.items)
    (λ list rise same. is_level c.args.problem.now c.args.forest.now.unused c.in_ok-linkages.linkages.items list.items exactly rise same)
    c.in_order.ensures.rise c.in_order.ensures.same
