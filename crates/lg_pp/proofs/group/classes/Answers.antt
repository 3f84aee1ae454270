use Rattle.std.proofs.Common.{◌≡◌, ℕ, ◌+◌, List, [], ◌∷◌, ◌++◌, length, get_or, subst, arith}
use Rattle.lg_pp.specs.Steps.{AreClasses, AreMembers}
use Rattle.lg_pp.proofs.Rising.{those_none, those_push, those_skip}
use Rattle.lg_pp.proofs.Zipped.{zip_push}
use Rattle.lg_pp.proofs.group.classes.Goals as goal
use Rattle.lg_pp.proofs.group.classes.Goals.{then-leasts-n+in_ok-members+in_ok-push, else-leasts-n}

abbrev IsHead : List ℕ → ℕ → Type 0
IsHead leasts n = get_or leasts n 0 ≡ n

classes_none : (leasts : List ℕ) → AreClasses leasts 0 []
classes_none leasts = record { heads = []; are_heads = those_none (IsHead leasts); members = tt }

classes_push : (leasts : List ℕ) (n : ℕ) (classes : List (List ℕ)) (numbers : List ℕ) → AreClasses leasts n classes → IsHead leasts n → AreMembers leasts n numbers → AreClasses leasts (n + 1) (classes ++ numbers ∷ [])
classes_push leasts n classes numbers are here members = record {
  heads = are.heads ++ n ∷ [];
  are_heads = those_push (IsHead leasts) n are.heads are.are_heads here;
  members = zip_push (AreMembers leasts) are.heads classes n numbers are.members members;
}

classes_skip : (leasts : List ℕ) (n : ℕ) (classes : List (List ℕ)) → AreClasses leasts n classes → (IsHead leasts n → ⊥) → AreClasses leasts (n + 1) classes
classes_skip leasts n classes are not = record { heads = are.heads; are_heads = those_skip (IsHead leasts) n are.heads are.are_heads not; members = are.members }

pub loop-n-init : goal.loop-n-init
loop-n-init c = rw c.new-classes.ensures.items (classes_none c.args.leasts.now)

-- one more class, where the number is its own least number
pub loop-n-preserved : goal.loop-n-preserved
loop-n-preserved c =
    let leasts = c.args.leasts.now in
    let n = c.loop-n.n in
    let classes = c.loop-n.classes.items in
    elim c.if-leasts-n.branch [
      | then-leasts-n+in_ok-members+in_ok-push w ↦ rw (w.classes-is, w.in_ok-push.ensures.items) (classes_push leasts n classes w.in_ok-members.field-0 c.loop-n.invariant w.if-leasts-n.true w.in_ok-members.ensures)
      | else-leasts-n w ↦ rw w.classes-is (classes_skip leasts n classes c.loop-n.invariant w.if-leasts-n.false)
    ]

pub returns : goal.returns
returns c =
    let all : c.loop-n.n ≡ length c.args.leasts.now = omega arith in
    subst (λ n. AreClasses c.args.leasts.now n c.loop-n.classes.items) all c.loop-n.invariant
