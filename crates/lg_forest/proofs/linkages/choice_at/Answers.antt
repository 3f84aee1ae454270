use Rattle.std.proofs.Common.{◌≡◌, Some, slice_get, get_or, refl, arith}
use Rattle.lg_gram.specs.declared.disjunct.Disjunct.{Disjunct}
use Rattle.lg_forest.specs.declared.draft.Use.{Use}
use Rattle.lg_forest.proofs.Once.{each_more, each_all}
use Rattle.lg_forest.proofs.linkages.choice_at.Goals as goal

pub loop-used-preserved : goal.loop-used-preserved
loop-used-preserved c =
    let none : Use = record { word = 0; disjunct = 0 } in
    each_more (λ (u : Use). (d : Disjunct) → u.word ≡ c.args.word → slice_get c.args.position.now u.disjunct ≡ Some d → ⊥) c.args.uses.now c.loop-used.used-index none (get_or c.args.uses.now c.loop-used.used-index none) (omega arith) refl c.loop-used.invariant c.in_default.ensures

pub returns : goal.returns
returns c =
    each_all (λ (u : Use). (d : Disjunct) → u.word ≡ c.args.word → slice_get c.args.position.now u.disjunct ≡ Some d → ⊥) c.args.uses.now c.loop-used.used-index (omega arith) c.loop-used.invariant
