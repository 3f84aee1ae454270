-- Each digit stands at its place.
use Rattle.std.proofs.Common.{ℕ, List, ◌/◌, ◌%◌, ap, get_or, arith}
use Rattle.lg_audit.proofs.numeral.part_of.Goals as goal

pub returns-in_default-clause-value : goal.returns-in_default-clause-value
returns-in_default-clause-value c = λ n small is. c.in_default.ensures (n / 100) (omega arith) (ap (λ (t : List ℕ). get_or t 1 0) is)

pub returns-in_default-digit_of-clause-value : goal.returns-in_default-digit_of-clause-value
returns-in_default-digit_of-clause-value c = λ n small is. c.in_default-digit_of.ensures (n / 10 % 10) (omega arith) (ap (λ (t : List ℕ). get_or t 2 0) is)

pub returns-in_default-digit_of-2-clause-value : goal.returns-in_default-digit_of-2-clause-value
returns-in_default-digit_of-2-clause-value c = λ n small is. c.in_default-digit_of-2.ensures (n % 10) (omega arith) (ap (λ (t : List ℕ). get_or t 3 0) is)
