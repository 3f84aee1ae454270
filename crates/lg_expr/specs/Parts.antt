-- What the tokens of an expression are.
use Rattle.std.specs.Prelude.{ℕ, List, ℤ}
use Rattle.lg_gram.specs.Connectors.{Connector}
use Rattle.lg_expr.specs.declared.part.Operator.{Operator}
use Rattle.lg_expr.specs.declared.part.Bracket.{Bracket}

-- A token is classified without its context: one that begins as a number is a cost, or is no cost.
pub data Part : Type 0 where
  connects : Connector → Part
  -- a macro's name, with its angle brackets
  names : List ℕ → Part
  operates : Operator → Part
  opens : Bracket → Part
  closes : Bracket → Part
  -- thousandths
  number : ℤ → Part
  no_number : Part
  -- the `;` that ends the entry
  ends : Part
  -- no expression has it
  wrong : Part
