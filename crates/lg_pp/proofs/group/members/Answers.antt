use Rattle.std.proofs.Common.{◌≡◌, ℕ, length, get_or, subst, arith}
use Rattle.lg_pp.specs.Steps.{AreThose}
use Rattle.lg_pp.proofs.Rising.{those_none, those_push, those_skip}
use Rattle.lg_pp.proofs.group.members.Goals as goal
use Rattle.lg_pp.proofs.group.members.Goals.{then-leasts-n+in_ok-push, else-leasts-n}

pub loop-n-init : goal.loop-n-init
loop-n-init c = rw c.new-numbers.ensures.items (those_none (λ n. get_or c.args.leasts.now n 0 ≡ c.args.head))

-- one more number
pub loop-n-preserved : goal.loop-n-preserved
loop-n-preserved c =
    let P : ℕ → Type 0 = λ n. get_or c.args.leasts.now n 0 ≡ c.args.head in
    elim c.if-leasts-n.branch [
      | then-leasts-n+in_ok-push w ↦ rw (w.numbers-is, w.in_ok-push.ensures.items) (those_push P c.loop-n.n c.loop-n.numbers.items c.loop-n.invariant w.if-leasts-n.true)
      | else-leasts-n w ↦ rw w.numbers-is (those_skip P c.loop-n.n c.loop-n.numbers.items c.loop-n.invariant w.if-leasts-n.false)
    ]

-- all numbers were looked at
pub returns : goal.returns
returns c =
    let P : ℕ → Type 0 = λ n. get_or c.args.leasts.now n 0 ≡ c.args.head in
    let all : c.loop-n.n ≡ length c.args.leasts.now = omega arith in
    rw c.of.ensures (subst (λ n. AreThose P n c.loop-n.numbers.items) all c.loop-n.invariant)
