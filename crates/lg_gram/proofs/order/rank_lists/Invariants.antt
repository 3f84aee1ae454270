use Rattle.std.proofs.Common.{◌≡◌, drop}
use Rattle.std.specs.Cmp.Lexicographic.{slice_cmp}
use Rattle.lg_gram.proofs.order.rank_lists.Given as goal

abbrev pub invariant-loop-i : goal.invariant-loop-i
invariant-loop-i g l =
    slice_cmp g.T.Ranked.rank (drop l.i l.a) (drop l.i l.b) ≡ slice_cmp g.T.Ranked.rank l.a l.b
