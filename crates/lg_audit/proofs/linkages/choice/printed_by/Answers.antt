-- What is printed so of the narrowed formula is so of the whole.
use Rattle.std.proofs.Common.{sym, subst, List, ℕ}
use Rattle.std.specs.List.{All}
use Rattle.lg_gram.specs.Disjuncts.{AreDisjuncts}
use Rattle.lg_gram.specs.Problems.{FitsProblem}
use Rattle.lg_gram.specs.Trees.{tree_of}
use Rattle.lg_gram.specs.declared.disjunct.Disjunct.{Disjunct}
use Rattle.lg_audit.proofs.PrintedDisjuncts.{answer_by}
use Rattle.lg_audit.proofs.linkages.choice.printed_by.Goals as goal

pub returns : goal.returns
returns c =
    let new = tree_of c.in_ok-narrow.narrow in
    let named = subst (λ (w : List ℕ). AreDisjuncts w new c.in_ok-disjuncts.disjuncts) c.in_ok-word.ensures c.in_ok-disjuncts.ensures.disjuncts in
    let are = subst (λ (ds : List Disjunct). AreDisjuncts c.args.word.now new ds) (sym c.items.ensures) named in
    let fit = subst (λ (ds : List Disjunct). All FitsProblem ds) (sym c.items.ensures) c.in_ok-disjuncts.ensures.fits in
    answer_by c.names_are_written.ensures c.args.word.now (tree_of c.args.formula.now) c.see_names.ensures c.args.left.now c.args.right.now c.args.cost new c.in_ok-narrow.ensures
    c.items.result.now are fit c.printed_of.result c.printed_of.ensures
