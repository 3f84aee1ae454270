-- What the reader has taken is statements, and the front of one more.
use Rattle.std.proofs.Common.{◌≡◌, ℕ, Bool, true, false, cond, eqb, List, [], ◌∷◌, ◌++◌, map, Result, Ok, Err, ◌⊎◌, inl, inr, refl, sym, ap, subst, ◌∙◌, append_assoc}
use Rattle.std.specs.Prelude.{codes}
use Rattle.std.specs.List.{flat_map, AllByRecursion}
use Rattle.std.proofs.lemmas.Bool.{eqb-true}
use Rattle.std.proofs.lemmas.Grind.{flat_map-append}
use Rattle.std.proofs.lemmas.List.{append-nil, map_push}
use Rattle.lg_lex.specs.Tokens.{Lexeme, sign, quoted, plain, broken}
use Rattle.lg_knowread.specs.declared.fault.Fault.{Fault}
use Rattle.lg_knowread.specs.declared.fault.Fault.TheVariants.{Syntax}
use Rattle.lg_knowread.specs.declared.knowledge.Knowledge.{Knowledge}
use Rattle.lg_knowread.specs.declared.knowledge.Pattern.{Pattern}
use Rattle.lg_knowread.specs.declared.words.Test as test
use Rattle.lg_knowread.specs.declared.words.Test.TheVariants.{NoneOf, OneOf, NoneInGroup, OneInGroup}
use Rattle.lg_knowread.specs.declared.words.Section.{Section}
use Rattle.lg_knowread.specs.declared.words.Section.TheVariants.{Start, Ignore, Test, Bounded, Cycle}
use Rattle.lg_knowread.specs.declared.reading.Head.{Head}
use Rattle.lg_knowread.specs.declared.reading.Head.TheVariants.{Starts, Ignored, Others}
use Rattle.lg_knowread.specs.declared.reading.State.{State}
use Rattle.lg_knowread.specs.declared.reading.State.TheVariants.{Name, Colon, First, Brace, Further, End}
use Rattle.lg_knowread.specs.declared.reading.Reading.{Reading}
use Rattle.lg_knowread.specs.Statements.{Statement, starts, ignores, is_kind, IsPattern, ArePatterns, IsStatement, AreStatements, colon, opening_brace, closing_brace, pattern_token, kind_token, name, body, spelled, all_spelled, starts_of, ignored_of, rules_of, knowledge_of}
use Rattle.lg_knowread.specs.Words.{section_of, kind_of, pattern_of}
use Rattle.lg_knowread.specs.Automaton.{nothing, with_statement, rule_of, ruled, at, leads, first_word, with_word, with_list, with_sign, advance}
use Rattle.lg_knowread.proofs.Written.{test_name, section_name, SectionIs, section_is, KindIs, kind_is, PatternIs, pattern_is}

pub all_append : {X : Type 0} (P : X → Type 0) (xs ys : List X) → AllByRecursion P xs → AllByRecursion P ys → AllByRecursion P (xs ++ ys)
all_append P [] ys h k = k
all_append P (x ∷ xs) ys h k = (h.0, all_append P xs ys h.1 k)

-- ---- what is read of a statement

abbrev pub head_text : Head → List Lexeme
head_text (Starts kind) = plain (codes "start") ∷ colon ∷ kind_token kind ∷ []
head_text Ignored = plain (codes "ignore") ∷ colon ∷ []
head_text (Others t p) = plain (test_name t) ∷ colon ∷ pattern_token p ∷ opening_brace ∷ []

abbrev pub text : State → List Lexeme
text Name = []
text (Colon s) = plain (section_name s) ∷ []
text (First s) = plain (section_name s) ∷ colon ∷ []
text (Brace t p) = plain (test_name t) ∷ colon ∷ pattern_token p ∷ []
text (Further h ps) = head_text h ++ map pattern_token ps
text (End r) = plain (name (ruled r)) ∷ colon ∷ body (ruled r)

abbrev pub HeadFits : Head → Type 0
HeadFits (Starts kind) = is_kind kind ≡ true
HeadFits Ignored = Unit {0}
HeadFits (Others t p) = IsPattern p

abbrev pub Fits : State → Type 0
Fits Name = Unit {0}
Fits (Colon s) = Unit {0}
Fits (First s) = Unit {0}
Fits (Brace t p) = IsPattern p
Fits (Further h ps) = HeadFits h × AllByRecursion IsPattern ps
Fits (End r) = IsStatement (ruled r)

-- ---- rules by their names

abbrev pub tested : test.Test → Pattern → List Pattern → Statement
tested t p ps = ruled (rule_of t p ps)

pub tested_is : (t : test.Test) (p : Pattern) (ps : List Pattern) → IsPattern p → ArePatterns ps → IsStatement (tested t p ps)
tested_is NoneOf p ps h k = (h, k)
tested_is OneOf p ps h k = (h, k)
tested_is NoneInGroup p ps h k = (h, k)
tested_is OneInGroup p ps h k = (h, k)

pub tested_text : (t : test.Test) (p : Pattern) (ps : List Pattern) → plain (name (tested t p ps)) ∷ colon ∷ body (tested t p ps) ≡ head_text (Others t p) ++ (map pattern_token ps ++ closing_brace ∷ [])
tested_text NoneOf p ps = refl
tested_text OneOf p ps = refl
tested_text NoneInGroup p ps = refl
tested_text OneInGroup p ps = refl

-- ---- a word

-- a state that follows another, with this token more
abbrev Follows : State → Lexeme → State → Type 0
Follows s x t = (text t ≡ text s ++ x ∷ []) × Fits t

abbrev StateIs : State → Lexeme → Result State Fault → Type 0
StateIs s x (Ok t) = Follows s x t
StateIs s x (Err fault) = Unit {0}

at_section : (w : List ℕ) (r : Result Section Fault) → SectionIs w r → StateIs Name (plain w) (leads Colon r)
at_section w (Ok s) h = (ap (λ (v : List ℕ). plain v ∷ []) (sym h), tt)
at_section w (Err fault) h = tt

-- a kind goes on to a state, where each kind does with its token
at_kind : (s : State) (f : ℕ → State) (w : List ℕ) (r : Result ℕ Fault) → KindIs w r → ((kind : ℕ) → is_kind kind ≡ true → Follows s (kind_token kind) (f kind)) → StateIs s (plain w) (leads f r)
at_kind s f w (Ok kind) h next = subst (λ (v : List ℕ). Follows s (plain v) (f kind)) (sym h.0) (next kind h.1)
at_kind s f w (Err fault) h next = tt

at_pattern : (s : State) (f : Pattern → State) (w : List ℕ) (r : Result Pattern Fault) → PatternIs w r → ((p : Pattern) → IsPattern p → Follows s (pattern_token p) (f p)) → StateIs s (plain w) (leads f r)
at_pattern s f w (Ok p) h next = subst (λ (v : List ℕ). Follows s (plain v) (f p)) (sym h.0) (next p h.1)
at_pattern s f w (Err fault) h next = tt

at_first : (s : Section) (w : List ℕ) → StateIs (First s) (plain w) (first_word s w)
at_first Start w = at_kind (First Start) (λ (kind : ℕ). Further (Starts kind) []) w (kind_of w) (kind_is w) (λ kind h. (refl, (h, tt)))
at_first Ignore w = at_pattern (First Ignore) (λ (p : Pattern). Further Ignored (p ∷ [])) w (pattern_of w) (pattern_is w) (λ p h. (refl, (tt, (h, tt))))
at_first (Test t) w = at_pattern (First (Test t)) (Brace t) w (pattern_of w) (pattern_is w) (λ p h. (refl, h))
at_first Bounded w = at_kind (First Bounded) (λ (kind : ℕ). End _) w (kind_of w) (kind_is w) (λ kind h. (refl, h))
at_first Cycle w = at_pattern (First Cycle) (λ (p : Pattern). End _) w (pattern_of w) (pattern_is w) (λ p h. (refl, h))

one_further : (h : Head) (ps : List Pattern) (p : Pattern) → HeadFits h → AllByRecursion IsPattern ps → IsPattern p → Follows (Further h ps) (pattern_token p) (Further h (ps ++ p ∷ []))
one_further h ps p fits are is = (
  ap (λ (xs : List Lexeme). head_text h ++ xs) (map_push pattern_token ps p) ∙ sym (append_assoc (head_text h) (map pattern_token ps) (pattern_token p ∷ [])),
  (fits, all_append IsPattern ps (p ∷ []) are (is, tt)),
)

at_word : (s : State) (w : List ℕ) → Fits s → StateIs s (plain w) (with_word s w)
at_word Name w fits = at_section w (section_of w) (section_is w)
at_word (Colon s) w fits = tt
at_word (First s) w fits = at_first s w
at_word (Brace t p) w fits = tt
at_word (Further h ps) w fits = at_pattern (Further h ps) (λ (p : Pattern). Further h (ps ++ p ∷ [])) w (pattern_of w) (pattern_is w) (λ p is. one_further h ps p fits.0 fits.1 is)
at_word (End r) w fits = tt

-- ---- a sign

-- the statement goes on, or ends with this token
abbrev pub Grown : Knowledge → State → Lexeme → Reading → Type 0
Grown k s x r = ((r.knowledge ≡ k) × (text r.state ≡ text s ++ x ∷ []) × Fits r.state)
    ⊎ ((st : Statement) × (r ≡ at (with_statement k st) Name) × (spelled st ≡ text s ++ x ∷ []) × IsStatement st)

abbrev pub ReadingIs : Knowledge → State → Lexeme → Result Reading Fault → Type 0
ReadingIs k s x (Ok r) = Grown k s x r
ReadingIs k s x (Err fault) = Unit {0}

sign_tested : (k : Knowledge) (s : State) (b n : ℕ) (r : Reading) (t : Bool) → t ≡ eqb b n → Grown k s (sign n) r → ReadingIs k s (sign b) (cond t (Ok r) (Err Syntax))
sign_tested k s b n r true is h = subst (λ (m : ℕ). Grown k s (sign m) r) (sym (eqb-true b n (sym is))) h
sign_tested k s b n r false is h = tt

at_list : (k : Knowledge) (h : Head) (ps : List Pattern) (b : ℕ) → HeadFits h → ArePatterns ps → ReadingIs k (Further h ps) (sign b) (with_list k h ps b)
at_list k (Starts kind) ps b fits are = sign_tested k (Further (Starts kind) ps) b 59 _ (eqb b 59) refl (inr (starts kind ps, refl, refl, (fits, are)))
at_list k Ignored ps b fits are = sign_tested k (Further Ignored ps) b 59 _ (eqb b 59) refl (inr (ignores ps, refl, refl, are))
at_list k (Others t p) ps b fits are =
    sign_tested k (Further (Others t p) ps) b 125 _ (eqb b 125) refl
    (inl (
      refl,
      tested_text t p ps ∙ sym (append_assoc (head_text (Others t p)) (map pattern_token ps) (closing_brace ∷ [])),
      tested_is t p ps fits are,
    ))

pub at_sign_is : (k : Knowledge) (s : State) (b : ℕ) → Fits s → ReadingIs k s (sign b) (with_sign k s b)
at_sign_is k Name b fits = tt
at_sign_is k (Colon s) b fits = sign_tested k (Colon s) b 58 _ (eqb b 58) refl (inl (refl, refl, tt))
at_sign_is k (First s) b fits = tt
at_sign_is k (Brace t p) b fits = sign_tested k (Brace t p) b 123 _ (eqb b 123) refl (inl (refl, refl, (fits, tt)))
at_sign_is k (Further h []) b fits = tt
at_sign_is k (Further h (p ∷ ps)) b fits = at_list k h (p ∷ ps) b fits.0 ((λ e. cc), fits.1)
at_sign_is k (End r) b fits = sign_tested k (End r) b 59 _ (eqb b 59) refl (inr (ruled r, refl, refl, fits))

-- ---- one step

word_grows : (k : Knowledge) (s : State) (x : Lexeme) (r : Result State Fault) → StateIs s x r → ReadingIs k s x (leads (at k) r)
word_grows k s x (Ok t) h = inl (refl, h.0, h.1)
word_grows k s x (Err fault) h = tt

pub step_is : (k : Knowledge) (s : State) (x : Lexeme) → Fits s → ReadingIs k s x (advance (at k s) x)
step_is k s (sign b) fits = at_sign_is k s b fits
step_is k s (quoted w) fits = tt
step_is k s (plain w) fits = word_grows k s (plain w) (with_word s w) (at_word s w fits)
step_is k s broken fits = tt

-- ---- many

-- the tokens that led to this reading: statements, and the front of one more
pub record Taken (front : List Lexeme) (r : Reading) : Type 0 where
  pub before : List Statement
  pub are : AreStatements before
  pub says : r.knowledge ≡ knowledge_of before
  pub spells : front ≡ all_spelled before ++ text r.state
  pub fits : Fits r.state

pub taken_start : Taken [] (at nothing Name)
taken_start = record { before = []; are = tt; says = refl; spells = refl; fits = tt }

pub said : (before : List Statement) (st : Statement) → with_statement (knowledge_of before) st ≡ knowledge_of (before ++ st ∷ [])
said before st =
    (λ i. record {
      starts = (ap (λ (xs : List _). flat_map starts_of before ++ xs) (sym (append-nil (starts_of st))) ∙ sym (flat_map-append starts_of before (st ∷ []))) i;
      ignored = (ap (λ (xs : List _). flat_map ignored_of before ++ xs) (sym (append-nil (ignored_of st))) ∙ sym (flat_map-append ignored_of before (st ∷ []))) i;
      rules = (ap (λ (xs : List _). flat_map rules_of before ++ xs) (sym (append-nil (rules_of st))) ∙ sym (flat_map-append rules_of before (st ∷ []))) i;
    })

pub spelled_more : (before : List Statement) (st : Statement) → all_spelled (before ++ st ∷ []) ≡ all_spelled before ++ spelled st
spelled_more before st = flat_map-append spelled before (st ∷ []) ∙ ap (λ (xs : List Lexeme). all_spelled before ++ xs) (append-nil (spelled st))

taken_grown : (front : List Lexeme) (r q : Reading) (x : Lexeme) → Taken front r → Grown r.knowledge r.state x q → Taken (front ++ x ∷ []) q
taken_grown front r q x taken (inl (same, grows, fits)) = record {
  before = taken.before;
  are = taken.are;
  says = same ∙ taken.says;
  spells = ap (λ (xs : List Lexeme). xs ++ x ∷ []) taken.spells ∙ append_assoc (all_spelled taken.before) (text r.state) (x ∷ []) ∙ ap (λ (xs : List Lexeme). all_spelled taken.before ++ xs) (sym grows);
  fits = fits;
}
taken_grown front r q x taken (inr (st, is, ends, are)) =
    subst (Taken (front ++ x ∷ [])) (sym is)
    (record {
      before = taken.before ++ st ∷ [];
      are = all_append IsStatement taken.before (st ∷ []) taken.are (are, tt);
      says = ap (λ (k : Knowledge). with_statement k st) taken.says ∙ said taken.before st;
      spells = ap (λ (xs : List Lexeme). xs ++ x ∷ []) taken.spells ∙ append_assoc (all_spelled taken.before) (text r.state) (x ∷ []) ∙ ap (λ (xs : List Lexeme). all_spelled taken.before ++ xs) (sym ends) ∙ sym (spelled_more taken.before st) ∙ sym (append-nil (all_spelled (taken.before ++ st ∷ [])));
      fits = tt;
    })

pub taken_step : (front : List Lexeme) (r q : Reading) (x : Lexeme) → Taken front r → advance r x ≡ Ok q → Taken (front ++ x ∷ []) q
taken_step front r q x taken e =
    taken_grown front r q x taken (subst (ReadingIs r.knowledge r.state x) e (step_is r.knowledge r.state x taken.fits))
