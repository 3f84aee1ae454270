use Rattle.std.proofs.Common.{take}
use Rattle.std.specs.List.{All}
use Rattle.lg_audit.specs.Lines.{ShownLink}
use Rattle.lg_audit.proofs.ShownLinkages.{IsLabelled}
use Rattle.lg_audit.proofs.linkages.linkage.has_labels.Given as goal

-- those so far have their labels
abbrev pub invariant-loop-one : goal.invariant-loop-one
invariant-loop-one l = All (λ (s : ShownLink). IsLabelled l.g s) (take l.one-index l.shown)
