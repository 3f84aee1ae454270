-- The same by an automaton with a stack: which part may follow, and what is then open.
use Rattle.std.specs.Prelude.{ℕ, suc, ◌+◌, max, List, [], ◌∷◌, ◌++◌, length, nat_lt, if◌then◌else◌}
use Rattle.lg_gram.specs.RawTrees.{RawTree, raw_empty, raw_leaf, named, raw_priced}
use Rattle.lg_expr.specs.declared.part.Operator.TheVariants.{And, Or}
use Rattle.lg_expr.specs.declared.part.Bracket.{Bracket}
use Rattle.lg_expr.specs.declared.part.Bracket.TheVariants.{Round, Curly, Square}
use Rattle.lg_expr.specs.declared.macros.Known.{Known}
use Rattle.lg_expr.specs.declared.macros.Known.TheVariants.{Unknown, Free, Leveled}
use Rattle.lg_expr.specs.declared.fault.Fault.{Fault}
use Rattle.lg_expr.specs.declared.fault.Fault.TheVariants.{Syntax, CostForm, UnknownMacro, TooDeep}
use Rattle.lg_expr.specs.Parts.{Part, connects, names, operates, opens, closes, number, no_number, ends}
use Rattle.lg_expr.specs.Grammar.{joined, optional, BRACKET_COST, Rules}

-- what is read of one bracket: the members before its last `or`, and the factors after it
pub record Frame : Type 0 where
  pub alternatives : List RawTree
  pub factors : List RawTree

-- a bracket that is open, and what stands before it in the one round it
pub record Outer : Type 0 where
  pub bracket : Bracket
  pub frame : Frame

abbrev pub fresh : Frame
fresh = record { alternatives = []; factors = [] }

abbrev pub with_factor : Frame → RawTree → Frame
with_factor f t = record f { factors = f.factors ++ t ∷ [] }

abbrev pub with_alternative : Frame → Frame
with_alternative f = record { alternatives = f.alternatives ++ joined And f.factors ∷ []; factors = [] }

abbrev pub value : Frame → RawTree
value f = joined Or (f.alternatives ++ joined And f.factors ∷ [])

-- just after an opening round bracket, before a primary, after one, after a closing square bracket
pub data Phase : Type 0 where
  opened : Phase
  wanting : Phase
  reached : Phase
  closed : RawTree → Phase

-- the innermost bracket, those round it from the innermost, and the greatest number that was open at once
pub record State : Type 0 where
  pub phase : Phase
  pub here : Frame
  pub outer : List Outer
  pub deepest : ℕ

pub data Move : Type 0 where
  goes : State → Move
  done : RawTree → ℕ → Move
  refused : Fault → Move

abbrev pub start : State
start = record { phase = wanting; here = fresh; outer = []; deepest = 0 }

abbrev pub after : Frame → List Outer → ℕ → RawTree → Move
after f outer deepest t = goes (record { phase = reached; here = with_factor f t; outer = outer; deepest = deepest })

abbrev pub first_phase : Bracket → Phase
first_phase Round = opened
first_phase Curly = wanting
first_phase Square = wanting

abbrev pub inside : Bracket → Frame → List Outer → ℕ → State
inside b f outer deepest = record { phase = first_phase b; here = fresh; outer = record { bracket = b; frame = f } ∷ outer; deepest = max deepest (suc (length outer)) }

abbrev pub opening : ℕ → Bracket → Frame → List Outer → ℕ → Move
opening limit b f outer deepest = if nat_lt (length outer) limit then goes (inside b f outer deepest) else refused TooDeep

abbrev pub naming : Known → ℕ → List ℕ → Frame → List Outer → ℕ → Move
naming Unknown limit m f outer deepest = refused UnknownMacro
naming Free limit m f outer deepest = after f outer deepest (named m (length outer))
naming (Leveled own) limit m f outer deepest =
    if nat_lt (own + length outer) limit then after f outer deepest (named m (length outer)) else refused TooDeep

-- an open bracket is closed round a tree
abbrev pub closing : Bracket → Bracket → RawTree → Frame → List Outer → ℕ → Move
closing Round Round t f outer deepest = after f outer deepest t
closing Curly Curly t f outer deepest = after f outer deepest (optional t)
closing Square Square t f outer deepest = goes (record { phase = closed t; here = f; outer = outer; deepest = deepest })
closing _ _ t f outer deepest = refused Syntax

abbrev pub close_with : Bracket → RawTree → List Outer → ℕ → Move
close_with b t [] deepest = refused Syntax
close_with b t (o ∷ outer) deepest = closing o.bracket b t o.frame outer deepest

-- () is empty
abbrev pub close_empty : List Outer → ℕ → Move
close_empty [] deepest = refused Syntax
close_empty (o ∷ outer) deepest = after o.frame outer deepest raw_empty

abbrev pub end_with : RawTree → List Outer → ℕ → Move
end_with t [] deepest = done t deepest
end_with t (o ∷ outer) deepest = refused Syntax

abbrev pub step_before : Rules → Frame → List Outer → ℕ → Part → Move
step_before r f outer deepest (connects c) = after f outer deepest (raw_leaf c)
step_before r f outer deepest (names m) = naming (r.known m) r.limit m f outer deepest
step_before r f outer deepest (opens b) = opening r.limit b f outer deepest
step_before r f outer deepest _ = refused Syntax

abbrev pub step_opened : Rules → Frame → List Outer → ℕ → Part → Move
step_opened r f outer deepest (closes Round) = close_empty outer deepest
step_opened r f outer deepest p = step_before r f outer deepest p

abbrev pub step_after : Frame → List Outer → ℕ → Part → Move
step_after f outer deepest (operates And) = goes (record { phase = wanting; here = f; outer = outer; deepest = deepest })
step_after f outer deepest (operates Or) = goes (record { phase = wanting; here = with_alternative f; outer = outer; deepest = deepest })
step_after f outer deepest (closes b) = close_with b (value f) outer deepest
step_after f outer deepest ends = end_with (value f) outer deepest
step_after f outer deepest _ = refused Syntax

abbrev pub step_closed : RawTree → Frame → List Outer → ℕ → Part → Move
step_closed t f outer deepest (number cost) = after f outer deepest (raw_priced t cost)
step_closed t f outer deepest no_number = refused CostForm
step_closed t f outer deepest p = step_after (with_factor f (raw_priced t BRACKET_COST)) outer deepest p

abbrev pub step_in : Rules → Phase → Frame → List Outer → ℕ → Part → Move
step_in r opened f outer deepest p = step_opened r f outer deepest p
step_in r wanting f outer deepest p = step_before r f outer deepest p
step_in r reached f outer deepest p = step_after f outer deepest p
step_in r (closed t) f outer deepest p = step_closed t f outer deepest p

abbrev pub step : Rules → State → Part → Move
step r s p = step_in r s.phase s.here s.outer s.deepest p

-- a value and what follows its end, or a fault and what is left from it on
pub data Answer (T : Type 0) : Type 0 where
  read : RawTree → ℕ → List T → Answer T
  stopped : Fault → List T → Answer T

-- over tokens, each of which is a part
module _ (T : Type 0) (part : T → Part) where
  abbrev pub follow : (State → Answer T) → Move → T → List T → Answer T
  follow next (goes s) t ts = next s
  follow next (done e level) t ts = read e level ts
  follow next (refused fault) t ts = stopped fault (t ∷ ts)

  abbrev pub run : Rules → State → List T → Answer T
  run r s [] = stopped Syntax []
  run r s (t ∷ ts) = follow (λ next. run r next ts) (step r s (part t)) t ts
