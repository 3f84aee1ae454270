-- What statements spell, the reader takes.
use Rattle.std.proofs.Common.{◌≡◌, ◌≢◌, ℕ, true, false, List, [], ◌∷◌, ◌++◌, map, Result, Ok, Err, refl, sym, ap, ◌∙◌, append_assoc}
use Rattle.std.specs.List.{AllByRecursion}
use Rattle.std.proofs.lemmas.List.{append-nil}
use Rattle.lg_lex.specs.Tokens.{Lexeme, plain}
use Rattle.lg_gram.specs.Names.{NamesAreWritten}
use Rattle.lg_knowread.specs.declared.fault.Fault.{Fault}
use Rattle.lg_knowread.specs.declared.knowledge.Knowledge.{Knowledge}
use Rattle.lg_knowread.specs.declared.knowledge.Pattern.{Pattern}
use Rattle.lg_knowread.specs.declared.knowledge.Rule.TheVariants as rules
use Rattle.lg_knowread.specs.declared.words.Test as test
use Rattle.lg_knowread.specs.declared.words.Test.TheVariants.{NoneOf, OneOf, NoneInGroup, OneInGroup}
use Rattle.lg_knowread.specs.declared.words.Section.TheVariants.{Start, Ignore, Test, Bounded, Cycle}
use Rattle.lg_knowread.specs.declared.reading.Head.{Head}
use Rattle.lg_knowread.specs.declared.reading.Head.TheVariants.{Starts, Ignored, Others}
use Rattle.lg_knowread.specs.declared.reading.State.{State}
use Rattle.lg_knowread.specs.declared.reading.State.TheVariants.{Name, Colon, First, Brace, Further, End}
use Rattle.lg_knowread.specs.declared.reading.Reading.{Reading}
use Rattle.lg_knowread.specs.Statements.{Statement, starts, ignores, forbids, demands, bounds, cycles, is_kind, IsPattern, ArePatterns, IsStatement, AreStatements, colon, semicolon, opening_brace, closing_brace, pattern_token, kind_token, in_braces, spelled, all_spelled, knowledge_of}
use Rattle.lg_knowread.specs.Words.{kind_of, pattern_of}
use Rattle.lg_knowread.specs.Automaton.{nothing, with_statement, rule_of, at, leads, with_word, advance}
use Rattle.lg_knowread.proofs.Written.{test_name, section_of_test, kind_found, pattern_found}
use Rattle.lg_knowread.proofs.Sound.{tested, said}

-- ---- the reading that some tokens lead to

abbrev pub reach_on : (Reading → Result Reading Fault) → Result Reading Fault → Result Reading Fault
reach_on next (Ok q) = next q
reach_on next (Err fault) = Err fault

abbrev pub reach : Reading → List Lexeme → Result Reading Fault
reach r [] = Ok r
reach r (x ∷ xs) = reach_on (λ q. reach q xs) (advance r x)

-- ---- one token

to_word : (k : Knowledge) (s t : State) (w : List ℕ) (rest : List Lexeme) → with_word s w ≡ Ok t → reach (at k s) (plain w ∷ rest) ≡ reach (at k t) rest
to_word k s t w rest e = ap (λ (m : Result State Fault). reach_on (λ q. reach q rest) (leads (at k) m)) e

to_pattern : NamesAreWritten → (k : Knowledge) (s : State) (f : Pattern → State) (p : Pattern) (rest : List Lexeme) → ((w : List ℕ) → with_word s w ≡ leads f (pattern_of w)) → IsPattern p → reach (at k s) (pattern_token p ∷ rest) ≡ reach (at k (f p)) rest
to_pattern laws k s f p rest steps h = to_word k s (f p) (p.caps ++ p.subs) rest (steps (p.caps ++ p.subs) ∙ ap (leads f) (pattern_found laws p h))

to_kind : (k : Knowledge) (s : State) (f : ℕ → State) (kind : ℕ) (rest : List Lexeme) → ((w : List ℕ) → with_word s w ≡ leads f (kind_of w)) → is_kind kind ≡ true → reach (at k s) (kind_token kind ∷ rest) ≡ reach (at k (f kind)) rest
to_kind k s f kind rest steps h = to_word k s (f kind) (kind ∷ []) rest (steps (kind ∷ []) ∙ ap (leads f) (kind_found kind h))

-- ---- lists of patterns

to_patterns : NamesAreWritten → (ps qs : List Pattern) (k : Knowledge) (h : Head) (rest : List Lexeme) → AllByRecursion IsPattern ps → reach (at k (Further h qs)) (map pattern_token ps ++ rest) ≡ reach (at k (Further h (qs ++ ps))) rest
to_patterns laws [] qs k h rest are = ap (λ (l : List Pattern). reach (at k (Further h l)) rest) (sym (append-nil qs))
to_patterns laws (p ∷ ps) qs k h rest are =
    to_pattern laws k (Further h qs) (λ (q : Pattern). Further h (qs ++ q ∷ [])) p (map pattern_token ps ++ rest) (λ w. refl) are.0
    ∙ to_patterns laws ps (qs ++ p ∷ []) k h rest are.1
    ∙ ap (λ (l : List Pattern). reach (at k (Further h l)) rest) (append_assoc qs (p ∷ []) ps)

-- a list of one pattern or more, with the sign after it
to_starts_end : (kind : ℕ) (ps : List Pattern) (k : Knowledge) (rest : List Lexeme) → ps ≢ [] → reach (at k (Further (Starts kind) ps)) (semicolon ∷ rest) ≡ reach (at (with_statement k (starts kind ps)) Name) rest
to_starts_end kind [] k rest some = absurd (some refl)
to_starts_end kind (p ∷ ps) k rest some = refl

to_ignored_end : (ps : List Pattern) (k : Knowledge) (rest : List Lexeme) → ps ≢ [] → reach (at k (Further Ignored ps)) (semicolon ∷ rest) ≡ reach (at (with_statement k (ignores ps)) Name) rest
to_ignored_end [] k rest some = absurd (some refl)
to_ignored_end (p ∷ ps) k rest some = refl

to_others_end : (t : test.Test) (q : Pattern) (ps : List Pattern) (k : Knowledge) (rest : List Lexeme) → ps ≢ [] → reach (at k (Further (Others t q) ps)) (closing_brace ∷ rest) ≡ reach (at k (End (rule_of t q ps))) rest
to_others_end t q [] k rest some = absurd (some refl)
to_others_end t q (p ∷ ps) k rest some = refl

-- ---- statements

-- what stands between the name and the end of a rule that looks for others
to_tested : NamesAreWritten → (t : test.Test) (p : Pattern) (ps : List Pattern) (k : Knowledge) (rest : List Lexeme) → IsPattern p → ArePatterns ps
    → reach (at k Name) (plain (test_name t) ∷ colon ∷ ((in_braces p ps ++ semicolon ∷ []) ++ rest)) ≡ reach (at (with_statement k (tested t p ps)) Name) rest
to_tested laws t p ps k rest h are =
    let others : List Lexeme = map pattern_token ps in
    let after : List Lexeme = semicolon ∷ rest in
    let grouped : ((others ++ closing_brace ∷ []) ++ semicolon ∷ []) ++ rest ≡ others ++ closing_brace ∷ after = simp append_assoc in
    to_word k Name (Colon (Test t)) (test_name t) (colon ∷ ((in_braces p ps ++ semicolon ∷ []) ++ rest)) (ap (leads Colon) (section_of_test t))
    ∙ to_pattern laws k (First (Test t)) (Brace t) p (opening_brace ∷ (((others ++ closing_brace ∷ []) ++ semicolon ∷ []) ++ rest)) (λ w. refl) h
    ∙ ap (λ (xs : List Lexeme). reach (at k (Further (Others t p) [])) xs) grouped
    ∙ to_patterns laws ps [] k (Others t p) (closing_brace ∷ after) are.1
    ∙ to_others_end t p ps k after are.0

to_statement : NamesAreWritten → (st : Statement) (k : Knowledge) (rest : List Lexeme) → IsStatement st → reach (at k Name) (spelled st ++ rest) ≡ reach (at (with_statement k st) Name) rest
to_statement laws (starts kind ps) k rest (h, are) =
    to_kind k (First Start) (λ (n : ℕ). Further (Starts n) []) kind ((map pattern_token ps ++ semicolon ∷ []) ++ rest) (λ w. refl) h
    ∙ ap (λ (xs : List Lexeme). reach (at k (Further (Starts kind) [])) xs) (append_assoc (map pattern_token ps) (semicolon ∷ []) rest)
    ∙ to_patterns laws ps [] k (Starts kind) (semicolon ∷ rest) are.1
    ∙ to_starts_end kind ps k rest are.0
to_statement laws (ignores []) k rest are = absurd (are.0 refl)
to_statement laws (ignores (p ∷ ps)) k rest are =
    to_pattern laws k (First Ignore) (λ (q : Pattern). Further Ignored (q ∷ [])) p ((map pattern_token ps ++ semicolon ∷ []) ++ rest) (λ w. refl) are.1.0
    ∙ ap (λ (xs : List Lexeme). reach (at k (Further Ignored (p ∷ []))) xs) (append_assoc (map pattern_token ps) (semicolon ∷ []) rest)
    ∙ to_patterns laws ps (p ∷ []) k Ignored (semicolon ∷ rest) are.1.1
    ∙ to_ignored_end (p ∷ ps) k rest are.0
to_statement laws (forbids false p ps) k rest (h, are) = to_tested laws NoneOf p ps k rest h are
to_statement laws (forbids true p ps) k rest (h, are) = to_tested laws NoneInGroup p ps k rest h are
to_statement laws (demands false p ps) k rest (h, are) = to_tested laws OneOf p ps k rest h are
to_statement laws (demands true p ps) k rest (h, are) = to_tested laws OneInGroup p ps k rest h are
to_statement laws (bounds kind) k rest h = to_kind k (First Bounded) (λ (n : ℕ). End (rules.Bounded n)) kind (semicolon ∷ rest) (λ w. refl) h
to_statement laws (cycles p) k rest h = to_pattern laws k (First Cycle) (λ (q : Pattern). End (rules.Cycle q)) p (semicolon ∷ rest) (λ w. refl) h

-- after some statements
to_statements : NamesAreWritten → (ss before : List Statement) → AreStatements ss → reach (at (knowledge_of before) Name) (all_spelled ss) ≡ Ok (at (knowledge_of (before ++ ss)) Name)
to_statements laws [] before are = ap (λ (l : List Statement). Ok (at (knowledge_of l) Name)) (sym (append-nil before))
to_statements laws (st ∷ ss) before are =
    to_statement laws st (knowledge_of before) (all_spelled ss) are.0
    ∙ ap (λ (k : Knowledge). reach (at k Name) (all_spelled ss)) (said before st)
    ∙ to_statements laws ss (before ++ st ∷ []) are.1
    ∙ ap (λ (l : List Statement). Ok (at (knowledge_of l) Name)) (append_assoc before (st ∷ []) ss)

pub complete : NamesAreWritten → (ss : List Statement) → AreStatements ss → reach (at nothing Name) (all_spelled ss) ≡ Ok (at (knowledge_of ss) Name)
complete laws ss are = to_statements laws ss [] are

-- ---- fronts

reached_on : (r q : Reading) (m : Result Reading Fault) (xs ys : List Lexeme) → reach_on (λ z. reach z xs) m ≡ Ok q → ((z : Reading) → reach z xs ≡ Ok q → reach z (xs ++ ys) ≡ reach q ys) → reach_on (λ z. reach z (xs ++ ys)) m ≡ reach q ys
reached_on r q (Ok z) xs ys e next = next z e
reached_on r q (Err fault) xs ys e next = absurd cc

pub reach-append : (xs ys : List Lexeme) (r q : Reading) → reach r xs ≡ Ok q → reach r (xs ++ ys) ≡ reach q ys
reach-append [] ys r q e = let same : r ≡ q = cc in ap (λ (z : Reading). reach z ys) same
reach-append (x ∷ xs) ys r q e = reached_on r q (advance r x) xs ys e (λ z h. reach-append xs ys z q h)

front_on : (q : Reading) (m : Result Reading Fault) (xs ys : List Lexeme) → reach_on (λ z. reach z (xs ++ ys)) m ≡ Ok q → ((z : Reading) → reach z (xs ++ ys) ≡ Ok q → (p : Reading) × (reach z xs ≡ Ok p)) → (p : Reading) × (reach_on (λ z. reach z xs) m ≡ Ok p)
front_on q (Ok z) xs ys e next = next z e
front_on q (Err fault) xs ys e next = absurd cc

pub reach_front : (xs ys : List Lexeme) (r q : Reading) → reach r (xs ++ ys) ≡ Ok q → (p : Reading) × (reach r xs ≡ Ok p)
reach_front [] ys r q e = (r, refl)
reach_front (x ∷ xs) ys r q e = front_on q (advance r x) xs ys e (λ z h. reach_front xs ys z q h)
