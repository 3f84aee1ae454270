use Rattle.std.proofs.Common.{ap, ◌∙◌}
use Rattle.std.specs.Map.{lookup}
use Rattle.lg_fewest.proofs.Tables.{found, span_eq}
use Rattle.lg_fewest.proofs.table.Table.get.Goals as goal

pub returns : goal.returns
returns c = found c.args.self.now c.args.span.now c.get.result (c.get.ensures.value ∙ ap (lookup (span_eq c.args.span.now)) c.self.view_is)
