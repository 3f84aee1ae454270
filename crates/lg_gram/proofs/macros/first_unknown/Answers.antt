use Rattle.std.proofs.Common.{◌∙◌}
use Rattle.lg_gram.specs.RawTrees.{raw_tree_of, macros_of}
use Rattle.lg_gram.proofs.Filled.{first_of_all}
use Rattle.lg_gram.proofs.macros.first_unknown.Goals as goal

pub returns : goal.returns
returns g c = c.break_value.ensures.value ∙ first_of_all (g.M.Macros.formulas c.args.macros.now) (macros_of (raw_tree_of c.args.raw.now)) c.unknown_from.result c.unknown_from.ensures
