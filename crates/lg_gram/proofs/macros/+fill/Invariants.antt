use Rattle.std.proofs.Common.{◌≡◌, map, take}
use Rattle.lg_gram.specs.Trees.{tree_of}
use Rattle.lg_gram.specs.RawTrees.{raw_tree_of}
use Rattle.lg_gram.specs.Filled.{filled}
use Rattle.lg_gram.proofs.macros.+fill.Given as goal

abbrev pub invariant-fill_members-loop-member : goal.invariant-fill_members-loop-member
invariant-fill_members-loop-member g l = map tree_of l.exprs.items ≡ map (λ e. filled (g.M.Macros.formulas l.macros) (raw_tree_of e)) (take l.member-index l.member-items)
