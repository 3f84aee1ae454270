-- What a way makes of two parts.
use Rattle.std.specs.Prelude.{ℕ, length}
use Rattle.lg_rank.specs.Values.{Value, combine, IsSmall, IsSmallWay}
use Rattle.lg_rank.specs.Sources.{value_in}
use Rattle.lg_rank.specs.declared.candidate.Candidate.{Candidate}

abbrev pub made_by : Candidate → Value
made_by c = combine c.way (value_in c.left) (value_in c.right)

-- a way and parts of n positions
pub record IsCandidate (n : ℕ) (c : Candidate) : Type 0 where
  pub way : IsSmallWay n c.way
  pub left : IsSmall n (value_in c.left)
  pub right : IsSmall n (value_in c.right)

-- the number of positions
abbrev pub positions_of : Candidate → ℕ
positions_of c = length (value_in c.left).choices

abbrev pub IsSound : Candidate → Type 0
IsSound c = IsCandidate (positions_of c) c
