use Rattle.std.proofs.Common.{◌≡◌, ◌⊎◌, Contains, map, sym, ap, ◌∙◌, subst}
use Rattle.lg_forest.specs.Runs.{AreRuns, ends_of}
use Rattle.lg_forest.proofs.Asked.{on_err_any}
use Rattle.lg_forest.proofs.Running.{ends_found, ends_put, ends_same, ends_stay, runs_kept, runs_put}
use Rattle.lg_forest.proofs.halves.Halves.put.Goals as goal

pub invariant_of-self : goal.invariant_of-self
invariant_of-self c = subst (λ z. AreRuns c.self.inside.found z) (sym c.in_err-place.ensures.unchanged) c.self.invariant

pub invariant_of-self-in_err-put : goal.invariant_of-self-in_err-put
invariant_of-self-in_err-put c =
    let kept = runs_kept c.self.inside.rights.items c.args.rights.now c.run_behind.new.all.items c.in_ok-place.ensures.grown c.self.inside.found c.self.invariant in
    subst (λ z. AreRuns z c.run_behind.new.all.items) (sym c.in_err-put.ensures.unchanged) kept

pub returns-in_err-put-clause-unchanged : goal.returns-in_err-put-clause-unchanged
returns-in_err-put-clause-unchanged c =
    let all = c.run_behind.new.all.items in
    on_err_any c.from_residual-in_err-put.result _ (ap (map (ends_of all)) c.in_err-put.ensures.unchanged ∙ ends_same c.self.inside.rights.items c.args.rights.now all c.in_ok-place.ensures.grown c.self.inside.found c.self.invariant ∙ c.self.view_is)

pub invariant_of-self-2 : goal.invariant_of-self-2
invariant_of-self-2 c =
    let all = c.run_behind.new.all.items in
    let found = c.self.inside.found in
    runs_put found c.put.new.self c.args.half c.in_ok-place.place c.in_ok-put.ensures.put all (runs_kept c.self.inside.rights.items c.args.rights.now all c.in_ok-place.ensures.grown found c.self.invariant) c.in_ok-place.ensures.run

pub returns-clause-put : goal.returns-clause-put
returns-clause-put c =
    let all = c.run_behind.new.all.items in
    let found = c.self.inside.found in
    let same = ends_same c.self.inside.rights.items c.args.rights.now all c.in_ok-place.ensures.grown found c.self.invariant in
    λ h x has. subst (λ z. Contains z (h, x) ⊎ ((h ≡ c.args.half) × (x ≡ c.args.rights.now))) (same ∙ c.self.view_is)
    (ends_put found c.put.new.self c.args.half c.in_ok-place.place c.in_ok-put.ensures.put all c.args.rights.now c.in_ok-place.ensures.stands h x has)

pub returns-clause-there : goal.returns-clause-there
returns-clause-there c = ends_found c.run_behind.new.all.items c.put.new.self c.args.half c.in_ok-place.place c.args.rights.now c.in_ok-put.ensures.there c.in_ok-place.ensures.stands

pub returns-clause-kept : goal.returns-clause-kept
returns-clause-kept c =
    let all = c.run_behind.new.all.items in
    let found = c.self.inside.found in
    let same = ends_same c.self.inside.rights.items c.args.rights.now all c.in_ok-place.ensures.grown found c.self.invariant in
    λ h x other has. ends_stay found c.put.new.self c.args.half all c.in_ok-put.ensures.kept h x other (subst (λ z. Contains z (h, x)) (sym (same ∙ c.self.view_is)) has)
