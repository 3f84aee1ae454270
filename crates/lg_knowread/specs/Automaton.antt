-- The same a token at a time: what may come next, with what is read of a statement.
use Rattle.std.specs.Prelude.{ℕ, List, [], ◌∷◌, ◌++◌, true, false, ◌==◌, if◌then◌else◌, Result, Ok, Err}
use Rattle.lg_lex.specs.Tokens.{Lexeme, sign, quoted, plain, broken, Token}
use Rattle.lg_knowread.specs.declared.fault.Fault.{Fault}
use Rattle.lg_knowread.specs.declared.fault.Fault.TheVariants.{UnknownSection, Syntax}
use Rattle.lg_knowread.specs.declared.knowledge.Knowledge.{Knowledge}
use Rattle.lg_knowread.specs.declared.knowledge.Pattern.{Pattern}
use Rattle.lg_knowread.specs.declared.knowledge.Rule.{Rule}
use Rattle.lg_knowread.specs.declared.knowledge.Rule.TheVariants as rules
use Rattle.lg_knowread.specs.declared.words.Test as test
use Rattle.lg_knowread.specs.declared.words.Test.TheVariants.{NoneOf, OneOf, NoneInGroup, OneInGroup}
use Rattle.lg_knowread.specs.declared.words.Section.{Section}
use Rattle.lg_knowread.specs.declared.words.Section.TheVariants.{Start, Ignore, Test, Bounded, Cycle}
use Rattle.lg_knowread.specs.declared.reading.Head.{Head}
use Rattle.lg_knowread.specs.declared.reading.Head.TheVariants.{Starts, Ignored, Others}
use Rattle.lg_knowread.specs.declared.reading.State.{State}
use Rattle.lg_knowread.specs.declared.reading.State.TheVariants.{Name, Colon, First, Brace, Further, End}
use Rattle.lg_knowread.specs.declared.reading.Reading.{Reading}
use Rattle.lg_knowread.specs.Statements.{Statement, starts, ignores, forbids, demands, bounds, cycles, starts_of, ignored_of, rules_of}
use Rattle.lg_knowread.specs.Words.{section_of, kind_of, pattern_of}

abbrev pub nothing : Knowledge
nothing = record { starts = []; ignored = []; rules = [] }

-- with what one more statement says
abbrev pub with_statement : Knowledge → Statement → Knowledge
with_statement k s = record { starts = k.starts ++ starts_of s; ignored = k.ignored ++ ignored_of s; rules = k.rules ++ rules_of s }

-- the rule of this name, with its trigger and the others
abbrev pub rule_of : test.Test → Pattern → List Pattern → Rule
rule_of NoneOf p ps = rules.Forbid false p ps
rule_of OneOf p ps = rules.Demand false p ps
rule_of NoneInGroup p ps = rules.Forbid true p ps
rule_of OneInGroup p ps = rules.Demand true p ps

-- the statement that writes a rule
abbrev pub ruled : Rule → Statement
ruled (rules.Forbid grouped p ps) = forbids grouped p ps
ruled (rules.Demand grouped p ps) = demands grouped p ps
ruled (rules.Bounded kind) = bounds kind
ruled (rules.Cycle p) = cycles p

abbrev pub at : Knowledge → State → Reading
at k s = record { knowledge = k; state = s }

-- what comes of it, where there is no fault
abbrev pub leads : {A B : Type 0} → (A → B) → Result A Fault → Result B Fault
leads f (Ok x) = Ok (f x)
leads f (Err fault) = Err fault

-- a word after the colon
abbrev pub first_word : Section → List ℕ → Result State Fault
first_word Start w = leads (λ (kind : ℕ). Further (Starts kind) []) (kind_of w)
first_word Ignore w = leads (λ (p : Pattern). Further Ignored (p ∷ [])) (pattern_of w)
first_word (Test t) w = leads (Brace t) (pattern_of w)
first_word Bounded w = leads (λ (kind : ℕ). End (rules.Bounded kind)) (kind_of w)
first_word Cycle w = leads (λ (p : Pattern). End (rules.Cycle p)) (pattern_of w)

abbrev pub with_word : State → List ℕ → Result State Fault
with_word Name w = leads Colon (section_of w)
with_word (First s) w = first_word s w
with_word (Further h ps) w = leads (λ (p : Pattern). Further h (ps ++ p ∷ [])) (pattern_of w)
with_word _ w = Err Syntax

-- where the sign is this one; 58 is the colon, 59 the semicolon, 123 and 125 are the braces
abbrev pub at_sign : ℕ → ℕ → Reading → Result Reading Fault
at_sign wanted b r = if b == wanted then Ok r else Err Syntax

-- a sign after one pattern or more
abbrev pub with_list : Knowledge → Head → List Pattern → ℕ → Result Reading Fault
with_list k (Starts kind) ps b = at_sign 59 b (at (with_statement k (starts kind ps)) Name)
with_list k Ignored ps b = at_sign 59 b (at (with_statement k (ignores ps)) Name)
with_list k (Others t p) ps b = at_sign 125 b (at k (End (rule_of t p ps)))

abbrev pub with_sign : Knowledge → State → ℕ → Result Reading Fault
with_sign k Name b = Err UnknownSection
with_sign k (Colon s) b = at_sign 58 b (at k (First s))
with_sign k (First s) b = Err Syntax
with_sign k (Brace t p) b = at_sign 123 b (at k (Further (Others t p) []))
with_sign k (Further h []) b = Err Syntax
with_sign k (Further h (p ∷ ps)) b = with_list k h (p ∷ ps) b
with_sign k (End r) b = at_sign 59 b (at (with_statement k (ruled r)) Name)

-- a token that is neither a word nor a sign
abbrev pub unfit : State → Fault
unfit Name = UnknownSection
unfit _ = Syntax

abbrev pub advance : Reading → Lexeme → Result Reading Fault
advance r (sign b) = with_sign r.knowledge r.state b
advance r (quoted w) = Err (unfit r.state)
advance r (plain w) = leads (at r.knowledge) (with_word r.state w)
advance r broken = Err (unfit r.state)

-- what the text says, or a fault and what is left from it on
pub data Answer : Type 0 where
  read : Knowledge → Answer
  stopped : Fault → List Token → Answer

abbrev pub follow : (Reading → Answer) → Result Reading Fault → List Token → Answer
follow next (Ok r) left = next r
follow next (Err fault) left = stopped fault left

-- the end of the text
abbrev pub finish : Knowledge → State → Answer
finish k Name = read k
finish k _ = stopped Syntax []

abbrev pub run : Reading → List Token → Answer
run r [] = finish r.knowledge r.state
run r (t ∷ ts) = follow (λ q. run q ts) (advance r t.0) (t ∷ ts)

-- what the tokens of a text stand for
abbrev pub answer_of : List Token → Answer
answer_of ts = run (at nothing Name) ts
