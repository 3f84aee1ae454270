use Rattle.std.proofs.Common.{sym, ◌∙◌}
use Rattle.lg_dict.proofs.Missing.{none_seen}
use Rattle.lg_dict.proofs.view.View.has_length.Goals as goal

pub returns-else-has_length : goal.returns-else-has_length
returns-else-has_length c = λ missing.
    none_seen c.self.inside.base.now c.args.self.now c.self.inside.changes c.self.invariant.laid c.self.view_is c.args.length (c.has_length.ensures c.if-has_length.false) (sym c.has.ensures ∙ missing)
