use Rattle.std.proofs.Common.{◌≡◌, Some, take}
use Rattle.std.specs.List.{AllZip}
use Rattle.lg_gram.specs.Labels.{label_at}
use Rattle.lg_pp.proofs.label.found_labels.Given as goal

-- the labels of the links so far
abbrev pub invariant-loop-link : goal.invariant-loop-link
invariant-loop-link l = AllZip (λ link label. label_at l.g link ≡ Some label) (take l.link-index l.link-items) l.labels.items
