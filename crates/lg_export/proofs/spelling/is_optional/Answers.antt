use Rattle.std.proofs.Common.{◌≡◌, false, eqb, List, ap, sym, ◌∙◌, arith, length}
use Rattle.lg_gram.specs.Trees.{trees_in}
use Rattle.lg_gram.specs.declared.expr.Expr.{Expr}
use Rattle.std.proofs.lemmas.Bool.Decides.{nat_tests}
use Rattle.lg_export.specs.Spots.{is_optional}
use Rattle.lg_export.proofs.Spelled.{first_empty, not_optional}
use Rattle.lg_export.proofs.spelling.is_optional.Goals as goal

pub returns-then-items-eq2-clause-value : goal.returns-then-items-eq2-clause-value
returns-then-items-eq2-clause-value c =
    c.is_empty.ensures ∙ first_empty c.items-items.result.now c.index-items-0.result c.if-items-eq2.true c.index-items-0.is ∙ ap (λ (es : List Expr). is_optional (trees_in es)) c.items-items.ensures

pub returns-else-items-eq2-clause-value : goal.returns-else-items-eq2-clause-value
returns-else-items-eq2-clause-value c =
    let none = not_optional c.items-items.result.now c.if-items-eq2.false in
    let seen = ap (λ (es : List Expr). is_optional (trees_in es)) c.items-items.ensures in
    let no : eqb (length c.items-items.result.now) 2 ≡ false = grind (arith, nat_tests) in
    no ∙ sym none ∙ seen
