-- What the reader holds, without where it lies in memory.
use Rattle.std.specs.Prelude.{◌≡◌, List, map, reverse, Result, Ok, Err}
use Rattle.lg_gram.specs.RawTrees.{raw_tree_of}
use Rattle.lg_expr.specs.declared.part.Part as code_part
use Rattle.lg_expr.specs.declared.part.Part.TheVariants as parts
use Rattle.lg_expr.specs.declared.frame.Frame as code_frame
use Rattle.lg_expr.specs.declared.frame.Outer as code_outer
use Rattle.lg_expr.specs.declared.reader.Phase as code_phase
use Rattle.lg_expr.specs.declared.reader.Phase.TheVariants as phases
use Rattle.lg_expr.specs.declared.reader.State as code_state
use Rattle.lg_expr.specs.declared.reader.Progress.{Progress}
use Rattle.lg_expr.specs.declared.reader.Progress.TheVariants.{Goes, Done}
use Rattle.lg_expr.specs.declared.fault.Refusal.{Refusal}
use Rattle.lg_expr.specs.declared.fault.Refusal.TheVariants.{NoMemory, Fault}
use Rattle.lg_expr.specs.Parts.{Part, connects, names, operates, opens, closes, number, no_number, ends, wrong}
use Rattle.lg_expr.specs.Automaton.{Frame, Outer, Phase, opened, wanting, reached, closed, State, Move, goes, done, refused}

abbrev pub part_of : code_part.Part → Part
part_of (parts.Connector c) = connects c
part_of (parts.Macro name) = names name.now
part_of (parts.Operator o) = operates o
part_of (parts.Open b) = opens b
part_of (parts.Close b) = closes b
part_of (parts.Number cost) = number cost
part_of parts.NoNumber = no_number
part_of parts.End = ends
part_of parts.Wrong = wrong

abbrev pub frame_of : code_frame.Frame → Frame
frame_of f = record { alternatives = map raw_tree_of f.alternatives.items; factors = map raw_tree_of f.factors.items }

abbrev pub outer_of : code_outer.Outer → Outer
outer_of o = record { bracket = o.bracket; frame = frame_of o.frame }

-- the innermost bracket first
abbrev pub outers : List code_outer.Outer → List Outer
outers os = reverse (map outer_of os)

abbrev pub phase_of : code_phase.Phase → Phase
phase_of phases.Opened = opened
phase_of phases.Wanting = wanting
phase_of phases.Reached = reached
phase_of (phases.Closed e) = closed (raw_tree_of e)

abbrev pub state_of : code_state.State → State
state_of s = record { phase = phase_of s.phase; here = frame_of s.here; outer = outers s.brackets.outer.items; deepest = s.brackets.deepest }

-- what a step gave is the move, unless memory ran out
abbrev pub GivesMove : Result Progress Refusal → Move → Type 0
GivesMove (Ok (Goes s)) m = m ≡ goes (state_of s)
GivesMove (Ok (Done e level)) m = m ≡ done (raw_tree_of e) level
GivesMove (Err NoMemory) m = Unit {0}
GivesMove (Err (Fault f)) m = m ≡ refused f
