use Rattle.std.proofs.Common.{subst, sym, ◌∙◌}
use Rattle.lg_rank.specs.Values.{value_of}
use Rattle.lg_rank.specs.Tables.{IsWayOf}
use Rattle.lg_rank.proofs.Reading.{way_read}
use Rattle.lg_rank.proofs.node.way_of.Goals as goal

pub returns : goal.returns
returns c = subst (λ w. IsWayOf c.args.nodes.now c.args.k c.args.p w) (sym (c.full.ensures ∙ c.index.ensures)) (way_read (value_of c.args.nothing.now) c.args.nodes.now c.args.k c.args.p _ _ c.requires.forest c.requires.within c.requires.p_in)
