-- One turn of the reader's loop.
use Rattle.std.proofs.Common.{◌≡◌, ℕ, ◌+◌, ◌≤◌, Bool, true, false, cond, eqb, List, [], ◌∷◌, ◌++◌, length, Result, Ok, Err, ap, subst, ◌∙◌, arith, length-append}
use Rattle.lg_lex.specs.declared.token.Token as code_token
use Rattle.lg_lex.specs.declared.token.Token.TheVariants as tokens
use Rattle.lg_lex.specs.Found.{lexeme_of, following}
use Rattle.lg_lex.specs.Tokens.{Lexeme, sign, quoted, plain, broken, Token}
use Rattle.lg_knowread.specs.declared.fault.Fault.{Fault}
use Rattle.lg_knowread.specs.declared.fault.Fault.TheVariants as faults
use Rattle.lg_knowread.specs.declared.knowledge.Knowledge.{Knowledge}
use Rattle.lg_knowread.specs.declared.knowledge.Pattern.{Pattern}
use Rattle.lg_knowread.specs.declared.reading.Head.{Head}
use Rattle.lg_knowread.specs.declared.reading.Head.TheVariants.{Starts, Ignored, Others}
use Rattle.lg_knowread.specs.declared.reading.State.{State}
use Rattle.lg_knowread.specs.declared.reading.State.TheVariants.{Name, Colon, First, Brace, Further, End}
use Rattle.lg_knowread.specs.declared.reading.Reading.{Reading}
use Rattle.lg_knowread.specs.Statements.{Statement, starts, ignores, forbids, demands, bounds, cycles, rules_of}
use Rattle.lg_knowread.specs.Automaton.{ruled, at, leads, with_word, with_list, with_sign, advance, follow, run}

-- a token that is taken is not broken, so the tokens go on after it
goes_on : (t : code_token.Token) (r q : Reading) (more : List Token) → advance r (lexeme_of t) ≡ Ok q → following t more ≡ more
goes_on (tokens.Sign b) r q more e = λ k. more
goes_on (tokens.Quoted w) r q more e = λ k. more
goes_on (tokens.Plain w) r q more e = λ k. more
goes_on tokens.Broken r q more e = absurd cc

pub run_turn : (t : code_token.Token) (n : ℕ) (r q : Reading) (left more : List Token) → left ≡ (lexeme_of t, n) ∷ following t more → advance r (lexeme_of t) ≡ Ok q → run r left ≡ run q more
run_turn t n r q left more next e =
    ap (run r) (next ∙ ap (λ (l : List Token). (lexeme_of t, n) ∷ l) (goes_on t r q more e))
    ∙ ap (λ (m : Result Reading Fault). follow (λ z. run z more) m ((lexeme_of t, n) ∷ more)) e

-- ---- rules are few

one_rule : (st : Statement) → length (rules_of st) ≤ 1
one_rule (starts kind ps) = omega arith
one_rule (ignores ps) = omega arith
one_rule (forbids grouped p ps) = omega arith
one_rule (demands grouped p ps) = omega arith
one_rule (bounds kind) = omega arith
one_rule (cycles p) = omega arith

stated : (k : Knowledge) (st : Statement) → length (k.rules ++ rules_of st) ≤ length k.rules + 1
stated k st = omega (arith, length-append k.rules (rules_of st), one_rule st)

abbrev OneMore : Knowledge → Result Reading Fault → Type 0
OneMore k (Ok q) = length q.knowledge.rules ≤ length k.rules + 1
OneMore k (Err fault) = Unit {0}

more_tested : (k : Knowledge) (r : Reading) (t : Bool) → length r.knowledge.rules ≤ length k.rules + 1 → OneMore k (cond t (Ok r) (Err faults.Syntax))
more_tested k r true h = h
more_tested k r false h = tt

more_list : (k : Knowledge) (h : Head) (ps : List Pattern) (b : ℕ) → OneMore k (with_list k h ps b)
more_list k (Starts kind) ps b = more_tested k _ (eqb b 59) (stated k (starts kind ps))
more_list k Ignored ps b = more_tested k _ (eqb b 59) (stated k (ignores ps))
more_list k (Others t p) ps b = more_tested k _ (eqb b 125) (omega arith)

more_sign : (k : Knowledge) (s : State) (b : ℕ) → OneMore k (with_sign k s b)
more_sign k Name b = tt
more_sign k (Colon s) b = more_tested k _ (eqb b 58) (omega arith)
more_sign k (First s) b = tt
more_sign k (Brace t p) b = more_tested k _ (eqb b 123) (omega arith)
more_sign k (Further h []) b = tt
more_sign k (Further h (p ∷ ps)) b = more_list k h (p ∷ ps) b
more_sign k (End r) b = more_tested k _ (eqb b 59) (stated k (ruled r))

more_word : (k : Knowledge) (m : Result State Fault) → OneMore k (leads (at k) m)
more_word k (Ok s) = omega arith
more_word k (Err fault) = tt

more_rules : (r : Reading) (x : Lexeme) → OneMore r.knowledge (advance r x)
more_rules r (sign b) = more_sign r.knowledge r.state b
more_rules r (quoted w) = tt
more_rules r (plain w) = more_word r.knowledge (with_word r.state w)
more_rules r broken = tt

pub one_more_rule : (r q : Reading) (x : Lexeme) → advance r x ≡ Ok q → length q.knowledge.rules ≤ length r.knowledge.rules + 1
one_more_rule r q x e = subst (OneMore r.knowledge) e (more_rules r x)
