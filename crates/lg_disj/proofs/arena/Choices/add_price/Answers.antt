use Rattle.std.proofs.Common.{map, sym, ap, subst, ◌∙◌, arith}
use Rattle.std.specs.List.{All}
use Rattle.lg_disj.specs.Places.{row_in, LiesIn}
use Rattle.lg_disj.proofs.Rows.{raised_rows, raised_exact, raised_lie, raised_costs, none_after}
use Rattle.lg_disj.proofs.arena.Choices.add_price.Goals as goal

pub raise-requires : goal.raise-requires
raise-requires c =
    raised_costs c.args.self.now.places.items c.args.price c.args.self.now.rows.items c.deref_mut.result.now c.args.first c.deref_mut.ensures.value c.requires.price c.requires.costs

pub returns-clause-exact : goal.returns-clause-exact
returns-clause-exact c =
    ap (map (row_in c.args.self.now.places.items))
    (raised_rows c.args.price c.args.self.now.rows.items c.deref_mut.result.now c.raise.new.rows _ _ c.args.first _ c.deref_mut.ensures.value c.raise.ensures (none_after c.args.first c.deref_mut.result.now) (omega arith))
    ∙ raised_exact c.args.self.now.places.items c.args.price c.args.self.now.rows.items c.args.first

pub returns-clause-within : goal.returns-clause-within
returns-clause-within c = λ arena.
    subst (All (LiesIn c.args.self.now.places.items))
    (sym (raised_rows c.args.price c.args.self.now.rows.items c.deref_mut.result.now c.raise.new.rows _ _ c.args.first _ c.deref_mut.ensures.value c.raise.ensures (none_after c.args.first c.deref_mut.result.now) (omega arith)))
    (raised_lie c.args.self.now.places.items c.args.price c.args.self.now.rows.items c.args.first arena)
