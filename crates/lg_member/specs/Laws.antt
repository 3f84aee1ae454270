-- What holds of the members of a problem of which some are left.
use Rattle.std.specs.Prelude.{◌≡◌, ◌↔◌, ℕ, List, [], length, map, slice_index_or}
use Rattle.std.specs.List.{Contains, range_with_len}
use Rattle.lg_gram.specs.Problems.{IsProblem}
use Rattle.lg_gram.specs.declared.disjunct.Disjunct.{Disjunct}
use Rattle.lg_member.specs.Members.{seen_of, AreMembers, Have, AreLeft, row_at}
use Rattle.lg_member.specs.declared.side.Side.{Side}
use Rattle.lg_member.specs.declared.member.Member.{Member}

-- Members that are left of all those of a problem, and the problem that they are when they are written by position: the problem has a disjunct
-- at a position exactly where a member that is left has it there, as the whole problem has those of all members.
pub record AreLeftOf (positions rows : List (List Disjunct)) (old new : List Member) : Type 0 where
  pub is_problem : IsProblem rows
  pub same_length : length rows ≡ length positions
  pub whole : (i : ℕ) (d : Disjunct) → Contains (slice_index_or positions i []) d ↔ Have old i d
  pub part : (i : ℕ) (d : Disjunct) → Contains (slice_index_or rows i []) d ↔ Have new i d
  pub fewer : (i : ℕ) (d : Disjunct) → Have new i d → Have old i d
  pub seen : (i : ℕ) (d : Disjunct) → Contains (map seen_of new) (i, d) ↔ Have new i d

abbrev pub RowsAreProblems : Type 0
RowsAreProblems =
    (positions : List (List Disjunct)) (lefts rights : List Side) (old new : List Member) → IsProblem positions → AreMembers positions lefts rights old → AreLeft old new
    → AreLeftOf positions (map (row_at new) (range_with_len 0 (length positions))) old new

-- what is left after one round and then another is left after both as one, and all members are left after none
pub record MembersGoByRounds : Type 0 where
  pub none : (members : List Member) → AreLeft members members
  pub more : (old now new : List Member) → AreLeft old now → AreLeft now new → AreLeft old new
