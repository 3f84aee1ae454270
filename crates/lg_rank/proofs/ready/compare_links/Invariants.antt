use Rattle.std.proofs.Common.{◌≡◌, drop}
use Rattle.std.specs.Cmp.Lexicographic.{slice_cmp}
use Rattle.lg_gram.specs.Linkages.{tie_cmp}
use Rattle.lg_rank.proofs.ready.compare_links.Given as goal

abbrev pub invariant-loop-i : goal.invariant-loop-i
invariant-loop-i l = slice_cmp tie_cmp (drop l.i l.a) (drop l.i l.b) ≡ slice_cmp tie_cmp l.a l.b
