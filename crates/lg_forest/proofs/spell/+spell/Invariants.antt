use Rattle.std.proofs.Common.{◌+◌, ◌*◌, ℕ}
use Rattle.lg_forest.specs.Forests.{IsForest}
use Rattle.lg_forest.specs.Search.{key_width, part_bound, alt_bound}
use Rattle.lg_forest.specs.Drafts.{AreDraftsOf}
use Rattle.lg_forest.proofs.Forested.{SpelledBy}
use Rattle.lg_forest.proofs.spell.+spell.Given as goal

abbrev pub decreases-drafts_under : goal.decreases-drafts_under
decreases-drafts_under l = 3 * key_width l.problem.now l.key + 2

abbrev pub decreases-drafts_of : goal.decreases-drafts_of
decreases-drafts_of l = 3 * alt_bound l.problem.now l.alt + 1

abbrev pub decreases-drafts_of_part : goal.decreases-drafts_of_part
decreases-drafts_of_part l = 3 * part_bound l.problem.now l.key

-- drafts of what the alternatives so far spell
abbrev pub invariant-drafts_under-loop-index : goal.invariant-drafts_under-loop-index
invariant-drafts_under-loop-index l = (from : ℕ) (is : IsForest l.problem from l.forest) → AreDraftsOf l.problem (SpelledBy l.problem is.lists l.key l.alts l.index) l.all.items
