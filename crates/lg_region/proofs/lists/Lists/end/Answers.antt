use Rattle.std.proofs.Common.{◌-◌, sym, subst, arith}
use Rattle.std.proofs.lemmas.Grind.{common_steps}
use Rattle.lg_region.specs.Ways.{IsEndOf}
use Rattle.lg_region.proofs.Keeping.{end_is, ends_within, pred_of}
use Rattle.lg_region.proofs.lists.Lists.end.Goals as goal

pub index-requires : goal.index-requires
index-requires c =
    let some = c.if-id-eq0.false in
    let known = c.requires in
    let within = ends_within c.self.inside c.args.self.now (c.args.id - 1) c.self.invariant c.self.view_is (omega arith) in
    grind (arith, common_steps)

pub returns-clause-value : goal.returns-clause-value
returns-clause-value c =
    let v = c.args.self.now in
    let some = c.if-id-eq0.false in
    let known = c.requires in
    let is = end_is c.self.inside v (c.args.id - 1) c.index.result.now c.self.invariant c.self.view_is (omega arith) c.index.ensures in
    subst (λ z. IsEndOf v.lists z c.index.result.now) (sym (pred_of c.args.id some)) is
