use Rattle.std.proofs.Common.{refl, sym, subst}
use Rattle.lg_sharpen.specs.Sharp.{IsSharpened}
use Rattle.lg_sharpen.proofs.Pruned.{finished}
use Rattle.lg_sharpen.proofs.problem.left_of.Goals as goal

pub of_known-requires : goal.of_known-requires
of_known-requires c =
    (finished c.rows_are_problems.ensures c.args.nulls _ c.args.words c.requires.0 c.args.lefts.now c.args.rights.now c.args.members.items c.settle_many.new.members.items c.deref.result.now c.in_ok-rows.rows refl c.requires.1
    c.in_ok-settle_many.ensures c.deref.ensures.value c.in_ok-rows.ensures).is_problem

pub returns : goal.returns
returns c positions are =
    subst (λ z. IsSharpened positions c.args.nulls z) (sym c.of_known.ensures)
    (finished c.rows_are_problems.ensures c.args.nulls _ c.args.words positions c.args.lefts.now c.args.rights.now c.args.members.items c.settle_many.new.members.items c.deref.result.now c.in_ok-rows.rows refl are
    c.in_ok-settle_many.ensures c.deref.ensures.value c.in_ok-rows.ensures)
