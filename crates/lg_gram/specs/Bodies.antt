-- Where the expression of a formula is held.
use Rattle.std.specs.Arc.{arc_value}
use Rattle.lg_gram.specs.declared.expr.Expr.{Expr}
use Rattle.lg_gram.specs.declared.formula.Body.{Body}
use Rattle.lg_gram.specs.declared.formula.Body.TheVariants.{Own, Shared}

abbrev pub held_in : Body → Expr
held_in (Own e) = e
held_in (Shared a) = arc_value a
