use Rattle.std.proofs.Common.{◌≡◌, Contains, length, ap, sym, ◌∙◌, subst, arith}
use Rattle.std.specs.Map.{keys_of}
use Rattle.lg_forest.specs.Runs.{run_of}
use Rattle.lg_forest.proofs.Running.{ends_found, halves_seen}
use Rattle.lg_forest.proofs.halves.Halves.get.Goals as goal

pub returns-in_default : goal.returns-in_default
returns-in_default c = subst (λ z. Contains z c.args.half.now → ⊥) (sym (halves_seen c.self.inside.rights.items c.self.inside.found) ∙ ap keys_of c.self.view_is) c.in_default.ensures.found

pub slice_bounds-result-count : goal.slice_bounds-result-count
slice_bounds-result-count c = let is = c.self.invariant c.args.half.now c.in-Some.place.now c.in-Some.ensures.found in let s = is.starts in omega arith

pub slice_bounds-result-start : goal.slice_bounds-result-start
slice_bounds-result-start c = let is = c.self.invariant c.args.half.now c.in-Some.place.now c.in-Some.ensures.found in let s = is.starts in omega arith

pub slice_bounds-result-end : goal.slice_bounds-result-end
slice_bounds-result-end c =
    let is = c.self.invariant c.args.half.now c.in-Some.place.now c.in-Some.ensures.found in
    let e = is.ends in
    let long : length c.deref.result.now ≡ length c.self.inside.rights.items = ap length c.deref.ensures.value in
    omega arith

pub returns : goal.returns
returns c =
    subst (λ z. Contains z (c.args.half.now, run_of c.deref.result.now c.in-Some.place.now)) c.self.view_is
    (ends_found c.self.inside.rights.items c.self.inside.found c.args.half.now c.in-Some.place.now (run_of c.deref.result.now c.in-Some.place.now) c.in-Some.ensures.found (ap (λ z. run_of z c.in-Some.place.now) (sym c.deref.ensures.value)))
