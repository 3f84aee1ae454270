use Rattle.lg_audit.specs.Answers.{replies_of}
use Rattle.lg_audit.specs.Grounds.{basis_in}
use Rattle.lg_audit.specs.Walks.{AllHold}
use Rattle.lg_audit.proofs.auditing.first_wrong.Given as goal

-- the sessions so far
abbrev pub invariant-loop-index : goal.invariant-loop-index
invariant-loop-index l = record { all : AllHold (basis_in l.basis) (replies_of l.replies) l.index }
