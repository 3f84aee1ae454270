use Rattle.std.proofs.Common.{ap, ◌∙◌}
use Rattle.lg_member.specs.Cells.{class_of}
use Rattle.lg_reach.proofs.nearest.Stand.partner.Goals as goal

pub may_end-requires-clause-class : goal.may_end-requires-clause-class
may_end-requires-clause-class c = record { value = c.class_of-class.ensures.value ∙ ap class_of c.caps.ensures.value; small = c.class_of-class.ensures.small }
