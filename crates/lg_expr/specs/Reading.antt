-- What some tokens stand for, or the first of them at fault. Each token is a part.
use Rattle.std.specs.Prelude.{◌≡◌, ℕ, List, [], ◌∷◌, ◌++◌, map, pos}
use Rattle.lg_gram.specs.RawTrees.{RawTree}
use Rattle.lg_expr.specs.declared.macros.Known.TheVariants.{Unknown}
use Rattle.lg_expr.specs.declared.fault.Fault.{Fault}
use Rattle.lg_expr.specs.declared.fault.Fault.TheVariants.{Syntax, CostForm, UnknownMacro, TooDeep}
use Rattle.lg_expr.specs.Parts.{Part, names, number, no_number, ends}
use Rattle.lg_expr.specs.Grammar.{Alternatives, spelled, tree, level, Rules, Keeps}
use Rattle.lg_expr.specs.Automaton.{Answer, read, stopped}

-- an expression that keeps the rules begins so, and its end is still to come
abbrev pub Begins : Rules → List Part → Type 0
Begins r front = (a : Alternatives) × (more : List Part) × Keeps r 0 a × (front ++ more ≡ spelled a)

-- an expression that keeps the rules, with its end, begins so and has this part next
abbrev pub MayFollow : Rules → List Part → Part → Type 0
MayFollow r front p = (a : Alternatives) × (more : List Part) × Keeps r 0 a × (front ++ p ∷ more ≡ spelled a ++ ends ∷ [])

-- by the grammar alone: under some rules
abbrev pub MayFollowAtAll : List Part → Part → Type 0
MayFollowAtAll front p = (any : Rules) × MayFollow any front p

-- what begins as a number is no cost, where a cost may stand
abbrev pub IsBadCost : List Part → Part → Type 0
IsBadCost front p = (p ≡ no_number) × MayFollowAtAll front (number (pos 0))

-- why the parts cannot go on with this one
abbrev pub StopsAt : Rules → Fault → List Part → Part → Type 0
StopsAt r Syntax front p = (MayFollowAtAll front p → ⊥) × (IsBadCost front p → ⊥)
StopsAt r CostForm front p = IsBadCost front p
StopsAt r UnknownMacro front p = (m : List ℕ) × (p ≡ names m) × (r.known m ≡ Unknown) × MayFollowAtAll front p
StopsAt r TooDeep front p = (limit : ℕ) × MayFollow (record r { limit = limit }) front p × (MayFollow r front p → ⊥)

-- and the end of the text inside an expression is a syntax error
abbrev pub StopsAtEnd : Fault → Type 0
StopsAtEnd Syntax = Unit {0}
StopsAtEnd CostForm = ⊥
StopsAtEnd UnknownMacro = ⊥
StopsAtEnd TooDeep = ⊥

module _ (T : Type 0) (part : T → Part) where
  -- At the front of the tokens stands an expression with its end, and then the rest. It means this tree, and has so
  -- many brackets open at once.
  pub record StandFor (r : Rules) (ts : List T) (e : RawTree) (n : ℕ) (rest : List T) : Type 0 where
    pub front : List T
    pub derivation : Alternatives
    pub split : ts ≡ front ++ rest
    pub spells : map part front ≡ spelled derivation ++ ends ∷ []
    pub keeps : Keeps r 0 derivation
    pub means : tree derivation ≡ e
    pub level_is : level derivation ≡ n

  abbrev pub Stops : Rules → Fault → List Part → List T → Type 0
  Stops r fault front [] = StopsAtEnd fault
  Stops r fault front (t ∷ rest) = StopsAt r fault front (part t)

  -- The first token at fault is at the head of the rest, or it is the end where there is no rest.
  pub record FirstFault (r : Rules) (ts : List T) (fault : Fault) (rest : List T) : Type 0 where
    pub front : List T
    pub split : ts ≡ front ++ rest
    pub begins : Begins r (map part front)
    pub stops : Stops r fault (map part front) rest

  -- what an answer says of the tokens
  abbrev pub AnswerIs : Rules → List T → Answer T → Type 0
  AnswerIs r ts (read e n rest) = StandFor r ts e n rest
  AnswerIs r ts (stopped fault rest) = FirstFault r ts fault rest
