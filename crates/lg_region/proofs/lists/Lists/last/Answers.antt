use Rattle.std.proofs.Common.{◌-◌, sym, ◌∙◌, ap, arith}
use Rattle.std.proofs.lemmas.Grind.{common_steps}
use Rattle.lg_region.specs.Alike.{last_of}
use Rattle.lg_region.specs.Fronts.{list_of}
use Rattle.lg_region.proofs.Keeping.{ends_within, pred_of}
use Rattle.lg_region.proofs.Lasts.{first_within, kind_at, same_last}
use Rattle.lg_region.proofs.lists.Lists.last.Goals as goal

pub index-requires : goal.index-requires
index-requires c =
    let some = c.if-id-eq0.false in
    let known = c.requires in
    let within = ends_within c.self.inside c.args.self.now (c.args.id - 1) c.self.invariant c.self.view_is (omega arith) in
    grind (arith, common_steps)

pub index-requires-2 : goal.index-requires-2
index-requires-2 c =
    let some = c.if-id-eq0.false in
    let known = c.requires in
    let kind = kind_at c.self.inside c.args.self.now (c.args.id - 1) c.index.result.now c.self.invariant c.self.view_is (omega arith) c.index.ensures in
    let within = first_within c.self.inside c.index.result.now.kind c.self.invariant kind.within in
    grind (arith, common_steps)

pub returns : goal.returns
returns c =
    let v = c.args.self.now in
    let n = c.args.id - 1 in
    let some = c.if-id-eq0.false in
    let known = c.requires in
    same_last c.self.inside v n c.index-2.result.now c.index.result.now c.self.invariant c.self.view_is (omega arith) c.index.ensures c.index-2.ensures
    ∙ ap (λ z. last_of (list_of v.lists z)) (sym (pred_of c.args.id some))
