use Rattle.std.proofs.Common.{◌↔◌, ◌-◌, suc, false, IsTrue, sym, subst, arith}
use Rattle.lg_region.specs.Ways.{HasWay}
use Rattle.lg_region.proofs.Keeping.{pred_of}
use Rattle.lg_region.proofs.Lasts.{joins, kind_at}
use Rattle.lg_region.proofs.lists.Lists.can_join.Goals as goal

pub has-requires-clause-near : goal.has-requires-clause-near
has-requires-clause-near c =
    let some = c.if-near-eq0.false in
    let known = c.requires.near in
    (kind_at c.self.inside c.args.self.now (c.args.near - 1) c.index-first.result.now c.self.invariant c.self.view_is (omega arith) c.index-first.ensures).within

pub has-requires-clause-far : goal.has-requires-clause-far
has-requires-clause-far c =
    let some = c.if-far-eq0.false in
    let known = c.requires.far in
    (kind_at c.self.inside c.args.self.now (c.args.far - 1) c.index-second.result.now c.self.invariant c.self.view_is (omega arith) c.index-second.ensures).within

pub returns : goal.returns
returns c =
    let v = c.args.self.now in
    let n = c.args.near - 1 in
    let m = c.args.far - 1 in
    let some = c.if-near-eq0.false in
    let some' = c.if-far-eq0.false in
    let near = c.requires.near in
    let far = c.requires.far in
    let j = joins c.self.inside v n m c.index-first.result.now c.index-second.result.now c.self.invariant c.self.view_is (omega arith) (omega arith) c.index-first.ensures c.index-second.ensures in
    let at : IsTrue c.has.result ↔ HasWay v.lists (suc n) (suc m) false = (λ t. j.0 (c.has.ensures.0 t), λ w. c.has.ensures.1 (j.1 w)) in
    subst (λ z. IsTrue c.has.result ↔ HasWay v.lists z c.args.far false) (sym (pred_of c.args.near some)) (subst (λ z. IsTrue c.has.result ↔ HasWay v.lists (suc n) z false) (sym (pred_of c.args.far some')) at)
