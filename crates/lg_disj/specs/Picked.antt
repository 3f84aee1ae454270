-- Picks of several expressions, not yet joined.
use Rattle.std.specs.Prelude.{List}
use Rattle.std.specs.List.{All}
use Rattle.lg_disj.specs.declared.product.Picks.{Picks}
use Rattle.lg_disj.specs.Places.{Places, all_both, listed, IsArena, IsCheap}

-- each whole
abbrev pub picked : Picks → List Places
picked p = all_both (listed p.firsts) (listed p.last)

-- they may be joined
pub record IsReady (p : Picks) : Type 0 where
  pub first_arena : IsArena p.firsts
  pub last_arena : IsArena p.last
  pub first_costs : All IsCheap (listed p.firsts)
  pub last_costs : All IsCheap (listed p.last)
