-- Each front that begins statements leads the reader to one place, and what may follow it is what the reader takes there.
use Rattle.std.proofs.Common.{◌≡◌, ℕ, List, [], ◌∷◌, ◌++◌, map, Result, Ok, Err, refl, sym, ap, subst, ◌∙◌, append_assoc}
use Rattle.std.specs.List.{AllByRecursion}
use Rattle.std.proofs.lemmas.Grind.{flat_map-append}
use Rattle.std.proofs.lemmas.List.{append-nil, map_push}
use Rattle.lg_lex.specs.Tokens.{Lexeme, plain}
use Rattle.lg_gram.specs.Names.{NamesAreWritten}
use Rattle.lg_knowread.specs.declared.fault.Fault.{Fault}
use Rattle.lg_knowread.specs.declared.knowledge.Pattern.{Pattern}
use Rattle.lg_knowread.specs.declared.words.Test as test
use Rattle.lg_knowread.specs.declared.words.Test.TheVariants.{NoneOf, OneOf, NoneInGroup, OneInGroup}
use Rattle.lg_knowread.specs.declared.words.Section.{Section}
use Rattle.lg_knowread.specs.declared.words.Section.TheVariants.{Start, Ignore, Test, Bounded, Cycle}
use Rattle.lg_knowread.specs.declared.reading.Head.{Head}
use Rattle.lg_knowread.specs.declared.reading.Head.TheVariants.{Starts, Ignored, Others}
use Rattle.lg_knowread.specs.declared.reading.State.{State}
use Rattle.lg_knowread.specs.declared.reading.State.TheVariants.{Name, Colon, First, Brace, Further, End}
use Rattle.lg_knowread.specs.declared.reading.Reading.{Reading}
use Rattle.lg_knowread.specs.Statements.{Statement, starts, ignores, bounds, cycles, IsPattern, ArePatterns, IsStatement, AreStatements, name, body, colon, semicolon, opening_brace, closing_brace, pattern_token, spelled, all_spelled, knowledge_of}
use Rattle.lg_knowread.specs.Reading.{Begins, MayFollow}
use Rattle.lg_knowread.specs.Automaton.{nothing, ruled, at, advance}
use Rattle.lg_knowread.proofs.Written.{test_name, section_name}
use Rattle.lg_knowread.proofs.Sound.{all_append, head_text, text, HeadFits, Fits, tested, tested_is, tested_text, Taken, taken_start, taken_step}
use Rattle.lg_knowread.proofs.Complete.{reach_on, reach, complete, reach-append, reach_front}

-- ---- what is read of a statement can be ended

abbrev pub A : Pattern
A = record { caps = 65 ∷ []; subs = [] }

abbrev Closing : State → Type 0
Closing s = (ss : List Statement) × (more : List Lexeme) × AreStatements ss × (text s ++ more ≡ all_spelled ss)

closed_by : (s : State) (more : List Lexeme) (st : Statement) → IsStatement st → text s ++ more ≡ spelled st → Closing s
closed_by s more st are e = (st ∷ [], more, (are, tt), e ∙ sym (append-nil (spelled st)))

-- a statement of a section
abbrev sample : Section → Statement
sample Start = starts 97 (A ∷ [])
sample Ignore = ignores (A ∷ [])
sample (Test t) = tested t A (A ∷ [])
sample Bounded = bounds 97
sample Cycle = cycles A

sample_is : (s : Section) → IsStatement (sample s)
sample_is Start = (refl, ((λ e. cc), (refl, tt)))
sample_is Ignore = ((λ e. cc), (refl, tt))
sample_is (Test t) = tested_is t A (A ∷ []) refl ((λ e. cc), (refl, tt))
sample_is Bounded = refl
sample_is Cycle = refl

name_tested : (t : test.Test) → name (tested t A (A ∷ [])) ≡ test_name t
name_tested NoneOf = refl
name_tested OneOf = refl
name_tested NoneInGroup = refl
name_tested OneInGroup = refl

name_sample : (s : Section) → name (sample s) ≡ section_name s
name_sample Start = refl
name_sample Ignore = refl
name_sample (Test t) = name_tested t
name_sample Bounded = refl
name_sample Cycle = refl

named : (s : Section) → plain (section_name s) ∷ colon ∷ (body (sample s) ++ semicolon ∷ []) ≡ spelled (sample s)
named s = ap (λ (w : List ℕ). plain w ∷ colon ∷ (body (sample s) ++ semicolon ∷ [])) (sym (name_sample s))

one_more : (ps : List Pattern) → AllByRecursion IsPattern ps → ArePatterns (ps ++ A ∷ [])
one_more [] are = ((λ e. cc), (refl, tt))
one_more (p ∷ ps) are = ((λ e. cc), all_append IsPattern (p ∷ ps) (A ∷ []) are (refl, tt))

-- one more pattern, and then the end of the list
listed : (ps : List Pattern) (x : Lexeme) (xs : List Lexeme) → map pattern_token ps ++ pattern_token A ∷ x ∷ xs ≡ map pattern_token (ps ++ A ∷ []) ++ x ∷ xs
listed ps x xs = sym (append_assoc (map pattern_token ps) (pattern_token A ∷ []) (x ∷ xs)) ∙ ap (λ (l : List Lexeme). l ++ x ∷ xs) (sym (map_push pattern_token ps A))

rule_spelled : (t : test.Test) (p : Pattern) (ps : List Pattern) → head_text (Others t p) ++ (map pattern_token ps ++ closing_brace ∷ semicolon ∷ []) ≡ spelled (tested t p ps)
rule_spelled t p ps =
    let grouped : head_text (Others t p) ++ (map pattern_token ps ++ closing_brace ∷ semicolon ∷ []) ≡ (head_text (Others t p) ++ (map pattern_token ps ++ closing_brace ∷ [])) ++ semicolon ∷ [] = sym (simp append_assoc) in
    grouped ∙ ap (λ (l : List Lexeme). l ++ semicolon ∷ []) (sym (tested_text t p ps))

head_closes : (h : Head) (ps : List Pattern) → HeadFits h → AllByRecursion IsPattern ps → Closing (Further h ps)
head_closes (Starts kind) ps fits are =
    closed_by (Further (Starts kind) ps) (pattern_token A ∷ semicolon ∷ []) (starts kind (ps ++ A ∷ [])) (fits, one_more ps are)
    (ap (λ (l : List Lexeme). head_text (Starts kind) ++ l) (listed ps semicolon []))
head_closes Ignored ps fits are =
    closed_by (Further Ignored ps) (pattern_token A ∷ semicolon ∷ []) (ignores (ps ++ A ∷ [])) (one_more ps are)
    (ap (λ (l : List Lexeme). head_text Ignored ++ l) (listed ps semicolon []))
head_closes (Others t p) ps fits are =
    closed_by (Further (Others t p) ps) (pattern_token A ∷ closing_brace ∷ semicolon ∷ []) (tested t p (ps ++ A ∷ [])) (tested_is t p (ps ++ A ∷ []) fits (one_more ps are))
    (ap (λ (l : List Lexeme). head_text (Others t p) ++ l) (listed ps closing_brace (semicolon ∷ [])) ∙ rule_spelled t p (ps ++ A ∷ []))

closes : (s : State) → Fits s → Closing s
closes Name fits = ([], [], tt, refl)
closes (Colon s) fits = closed_by (Colon s) (colon ∷ (body (sample s) ++ semicolon ∷ [])) (sample s) (sample_is s) (named s)
closes (First s) fits = closed_by (First s) (body (sample s) ++ semicolon ∷ []) (sample s) (sample_is s) (named s)
closes (Brace t p) fits = closed_by (Brace t p) (opening_brace ∷ pattern_token A ∷ closing_brace ∷ semicolon ∷ []) (tested t p (A ∷ [])) (tested_is t p (A ∷ []) fits (one_more [] tt)) (rule_spelled t p (A ∷ []))
closes (Further h ps) fits = head_closes h ps fits.0 fits.1
closes (End r) fits = closed_by (End r) (semicolon ∷ []) (ruled r) fits refl

taken_begins : (front : List Lexeme) (r : Reading) → Taken front r → Begins front
taken_begins front r taken =
    let c = closes r.state taken.fits in (
      taken.before ++ c.0,
      c.1,
      all_append IsStatement taken.before c.0 taken.are c.2,
      ap (λ (l : List Lexeme). l ++ c.1) taken.spells ∙ append_assoc (all_spelled taken.before) (text r.state) c.1 ∙ ap (λ (l : List Lexeme). all_spelled taken.before ++ l) c.3 ∙ sym (flat_map-append spelled taken.before c.0),
    )

-- ---- fronts and the readings that they lead to

pub record Reached (front : List Lexeme) (r : Reading) : Type 0 where
  pub reached : reach (at nothing Name) front ≡ Ok r
  pub taken : Taken front r

pub reached_start : Reached [] (at nothing Name)
reached_start = record { reached = refl; taken = taken_start }

pub reached_step : (front : List Lexeme) (r q : Reading) (x : Lexeme) → Reached front r → advance r x ≡ Ok q → Reached (front ++ x ∷ []) q
reached_step front r q x h e = record {
  reached = reach-append front (x ∷ []) (at nothing Name) r h.reached ∙ ap (reach_on (λ z. reach z [])) e;
  taken = taken_step front r q x h.taken e;
}

pub reached_begins : (front : List Lexeme) (r : Reading) → Reached front r → Begins front
reached_begins front r h = taken_begins front r h.taken

taken_on : (front xs : List Lexeme) (r q : Reading) (x : Lexeme) (m : Result Reading Fault) → Taken front r → advance r x ≡ m → reach_on (λ z. reach z xs) m ≡ Ok q
    → ((z : Reading) → Taken (front ++ x ∷ []) z → reach z xs ≡ Ok q → Taken ((front ++ x ∷ []) ++ xs) q) → Taken (front ++ x ∷ xs) q
taken_on front xs r q x (Ok z) taken is e next = subst (λ (l : List Lexeme). Taken l q) (append_assoc front (x ∷ []) xs) (next z (taken_step front r z x taken is) e)
taken_on front xs r q x (Err fault) taken is e next = absurd cc

taken_all : (xs front : List Lexeme) (r q : Reading) → Taken front r → reach r xs ≡ Ok q → Taken (front ++ xs) q
taken_all [] front r q taken e =
    let same : r ≡ q = cc in
    subst (λ (l : List Lexeme). Taken l q) (sym (append-nil front)) (subst (Taken front) same taken)
taken_all (x ∷ xs) front r q taken e = taken_on front xs r q x (advance r x) taken refl e (λ z h k. taken_all xs (front ++ x ∷ []) z q h k)

-- each front that begins statements leads to a reading
pub begun : NamesAreWritten → (front : List Lexeme) → Begins front → (r : Reading) × Reached front r
begun laws front (ss, more, are, e) =
    let p = reach_front front more (at nothing Name) (at (knowledge_of ss) Name) (ap (reach (at nothing Name)) e ∙ complete laws ss are) in
    (p.0, record { reached = p.1; taken = taken_all front [] (at nothing Name) p.0 taken_start p.1 })

went_on : (m : Result Reading Fault) (p : Reading) → reach_on (λ z. reach z []) m ≡ Ok p → (q : Reading) × (m ≡ Ok q)
went_on (Ok q) p e = (q, refl)
went_on (Err fault) p e = absurd cc

-- what may follow is taken, and what is taken may follow
pub follows_taken : NamesAreWritten → (front : List Lexeme) (r : Reading) (x : Lexeme) → Reached front r → MayFollow front x → (q : Reading) × (advance r x ≡ Ok q)
follows_taken laws front r x h f =
    let b = begun laws (front ++ x ∷ []) f in
    went_on (advance r x) b.0 (sym (reach-append front (x ∷ []) (at nothing Name) r h.reached) ∙ b.1.reached)

pub taken_follows : (front : List Lexeme) (r q : Reading) (x : Lexeme) → Reached front r → advance r x ≡ Ok q → MayFollow front x
taken_follows front r q x h e = reached_begins (front ++ x ∷ []) q (reached_step front r q x h e)
