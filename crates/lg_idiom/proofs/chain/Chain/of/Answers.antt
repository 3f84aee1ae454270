use Rattle.std.proofs.Common.{subst}
use Rattle.lg_gram.specs.Trees.{tree_of}
use Rattle.lg_idiom.specs.Steps.{IsLastIf}
use Rattle.lg_idiom.proofs.Keeping.{kept}
use Rattle.lg_idiom.proofs.chain.Chain.of.Goals as goal

pub invariant_of-result : goal.invariant_of-result
invariant_of-result c =
    let made = subst (IsLastIf _) c.in-Some.is c.in_ok-last.ensures in
    kept _ (tree_of c.args.formula.now) c.joint-before.result c.requires.several c.requires.within c.if-rank-gt-RANK.false c.joint-before.ensures made.0 made.1
