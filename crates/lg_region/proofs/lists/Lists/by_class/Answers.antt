use Rattle.std.proofs.Common.{[], get_or, sym, subst, arith}
use Rattle.std.proofs.lemmas.Grind.{common_steps}
use Rattle.lg_region.specs.Chains.{IsByClass}
use Rattle.lg_region.specs.declared.chains.Side.TheVariants.{Left, Right}
use Rattle.lg_region.proofs.Keeping.{word_at, word_listed}
use Rattle.lg_region.proofs.lists.Lists.by_class.Goals as goal

pub index-requires : goal.index-requires
index-requires c = let k = word_listed c.self.inside c.args.self.now Left c.self.inside.lefts.items c.args.word c.self.invariant.lefts c.self.view_is c.requires in grind (arith, common_steps)

pub index-requires-in-Right : goal.index-requires-in-Right
index-requires-in-Right c = let k = word_listed c.self.inside c.args.self.now Right c.self.inside.rights.items c.args.word c.self.invariant.rights c.self.view_is c.requires in grind (arith, common_steps)

pub returns-in-Left : goal.returns-in-Left
returns-in-Left c =
    subst (λ z. IsByClass z (get_or c.args.self.now.positions c.args.word []) c.index.result.now) (sym c.in-Left.is)
    (word_at c.self.inside c.args.self.now Left c.self.inside.lefts.items c.args.word c.index.result.now c.self.invariant.lefts c.self.view_is c.requires c.index.ensures)

pub returns-in-Right : goal.returns-in-Right
returns-in-Right c =
    subst (λ z. IsByClass z (get_or c.args.self.now.positions c.args.word []) c.index-in-Right.result.now) (sym c.in-Right.is)
    (word_at c.self.inside c.args.self.now Right c.self.inside.rights.items c.args.word c.index-in-Right.result.now c.self.invariant.rights c.self.view_is c.requires c.index-in-Right.ensures)
