use Rattle.std.proofs.Common.{◌≤◌}
use Rattle.lg_gram.specs.Linkages.{Linkage, unlinked}
use Rattle.lg_gram.specs.Rules.{Good}
use Rattle.lg_rules.proofs.list.plain_list.Given as goal

abbrev pub invariant-loop-spare : goal.invariant-loop-spare
invariant-loop-spare l = (h : Linkage) → Good l.problem h → l.spare ≤ unlinked h
