-- The sign is taken or it is not; and what is read is what the function says.
use Rattle.std.proofs.Common.{◌≡◌, pos, neg_ℤ, sym, subst, arith, rules}
use Rattle.std.proofs.lemmas.Int.{ints}
use Rattle.lg_base.specs.Costs.{ReadsCost}
use Rattle.lg_base.specs.Costs.IsCostNumber.{Plain, Negated}
use Rattle.lg_base.proofs.CostReading.{sign_taken, no_sign_taken, refused_negated, refused_plain}
use Rattle.lg_base.proofs.CostFunction.{read_cost_is}
use Rattle.lg_base.proofs.cost.parse_cost.Goals as goal

pub returns-in_err-size-in-Some-clause-reads : goal.returns-in_err-size-in-Some-clause-reads
returns-in_err-size-in-Some-clause-reads c =
    let cut = c.in-Some.ensures.cases in
    subst (ReadsCost _) (sym c.from_residual.ensures)
    (refused_negated _ _ (sign_taken _ _ cut.0 cut.1) c.in_err-size-in-Some.ensures.value)

pub returns-in_err-size-in-Some-clause-value : goal.returns-in_err-size-in-Some-clause-value
returns-in_err-size-in-Some-clause-value c = read_cost_is _ _ (returns-in_err-size-in-Some-clause-reads c)

pub returns-in_err-size-in-None-clause-reads : goal.returns-in_err-size-in-None-clause-reads
returns-in_err-size-in-None-clause-reads c =
    subst (ReadsCost _) (sym c.from_residual-in_err-size-in-None.ensures)
    (refused_plain _ (no_sign_taken _ c.in-None.ensures.cases) c.in_err-size-in-None.ensures.value)

pub returns-in_err-size-in-None-clause-value : goal.returns-in_err-size-in-None-clause-value
returns-in_err-size-in-None-clause-value c = read_cost_is _ _ (returns-in_err-size-in-None-clause-reads c)

pub returns-in_ok-size-in-Some-clause-reads : goal.returns-in_ok-size-in-Some-clause-reads
returns-in_ok-size-in-Some-clause-reads c =
    let cut = c.in-Some.ensures.cases in
    let small = c.in_ok-size-in-Some.ensures.bound in
    let of = c.of.ensures in
    let from = c.from.ensures in
    let cost : c.of.result ≡ neg_ℤ (pos c.in_ok-size-in-Some.size) = omega (arith, ints) in
    Negated _ _ (sign_taken _ _ cut.0 cut.1) c.in_ok-size-in-Some.ensures.value cost

pub returns-in_ok-size-in-Some-clause-value : goal.returns-in_ok-size-in-Some-clause-value
returns-in_ok-size-in-Some-clause-value c = read_cost_is _ _ (returns-in_ok-size-in-Some-clause-reads c)

pub returns-in_ok-size-in-None-clause-reads : goal.returns-in_ok-size-in-None-clause-reads
returns-in_ok-size-in-None-clause-reads c =
    let same : c.of-in-None.result ≡ pos c.in_ok-size-in-None.size = search rules in
    Plain _ c.in_ok-size-in-None.ensures.value same

pub returns-in_ok-size-in-None-clause-value : goal.returns-in_ok-size-in-None-clause-value
returns-in_ok-size-in-None-clause-value c = read_cost_is _ _ (returns-in_ok-size-in-None-clause-reads c)
