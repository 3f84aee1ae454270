use Rattle.std.proofs.Common.{◌≡◌, Some, take, Contains, slice_get}
use Rattle.lg_gram.specs.declared.disjunct.Disjunct.{Disjunct}
use Rattle.lg_forest.specs.declared.draft.Use.{Use}
use Rattle.lg_forest.proofs.linkages.choice_at.Given as goal

-- none of the uses so far names a disjunct of the word
abbrev pub invariant-loop-used : goal.invariant-loop-used
invariant-loop-used l = (u : Use) → Contains (take l.used-index l.uses) u → (d : Disjunct) → u.word ≡ l.word → slice_get l.position u.disjunct ≡ Some d → ⊥
