-- What plain tokens write, and that no token is two of a section's name, a kind and a pattern.
use Rattle.std.proofs.Common.{◌≡◌, ◌≢◌, ℕ, Bool, true, false, cond, List, [], ◌∷◌, ◌++◌, length, take, drop, Result, Ok, Err, refl, sym, ap, ◌∙◌, arith}
use Rattle.std.specs.Prelude.{codes}
use Rattle.std.specs.List.{list_all, prefix_len}
use Rattle.std.specs.Cmp.Lexicographic.{same_text}
use Rattle.std.proofs.lemmas.Bool.{false≢true, and_parts}
use Rattle.std.proofs.lemmas.Bool.Decides.{nat_tests}
use Rattle.std.proofs.lemmas.List.{take_at, drop_at, take-append-drop}
use Rattle.lg_lex.specs.Tokens.{is_text}
use Rattle.lg_gram.specs.Names.{is_capital, is_written, NamesAreWritten}
use Rattle.lg_knowread.specs.declared.fault.Fault.{Fault}
use Rattle.lg_knowread.specs.declared.fault.Fault.TheVariants.{UnknownSection, BadPattern, BadType}
use Rattle.lg_knowread.specs.declared.knowledge.Pattern.{Pattern}
use Rattle.lg_knowread.specs.declared.words.Test as test
use Rattle.lg_knowread.specs.declared.words.Test.TheVariants.{NoneOf, OneOf, NoneInGroup, OneInGroup}
use Rattle.lg_knowread.specs.declared.words.Section.{Section}
use Rattle.lg_knowread.specs.declared.words.Section.TheVariants.{Start, Ignore, Test, Bounded, Cycle}
use Rattle.lg_knowread.specs.Statements.{is_kind, IsPattern}
use Rattle.lg_knowread.specs.Words.{section_of, kind_of, pattern_of}

-- ---- names of sections

abbrev pub test_name : test.Test → List ℕ
test_name NoneOf = codes "none"
test_name OneOf = codes "one"
test_name NoneInGroup = codes "none-in-group"
test_name OneInGroup = codes "one-in-group"

abbrev pub section_name : Section → List ℕ
section_name Start = codes "start"
section_name Ignore = codes "ignore"
section_name (Test t) = test_name t
section_name Bounded = codes "bounded"
section_name Cycle = codes "cycle"

pub section_of_test : (t : test.Test) → section_of (test_name t) ≡ Ok (Test t)
section_of_test NoneOf = refl
section_of_test OneOf = refl
section_of_test NoneInGroup = refl
section_of_test OneInGroup = refl

-- what a word is found to be, it writes
abbrev pub SectionIs : List ℕ → Result Section Fault → Type 0
SectionIs w (Ok s) = w ≡ section_name s
SectionIs w (Err fault) = fault ≡ UnknownSection

name_or : (w : List ℕ) (s : Section) (q : Result Section Fault) (t : Bool) → t ≡ is_text (section_name s) w → SectionIs w q → SectionIs w (cond t (Ok s) q)
name_or w s q true is k = same_text w (section_name s) is
name_or w s q false is k = k

pub section_is : (w : List ℕ) → SectionIs w (section_of w)
section_is w =
    name_or w Start _ _ refl
    (name_or w Ignore _ _ refl
    (name_or w (Test NoneOf) _ _ refl
    (name_or w (Test OneOf) _ _ refl
    (name_or w (Test NoneInGroup) _ _ refl
    (name_or w (Test OneInGroup) _ _ refl
    (name_or w Bounded _ _ refl
    (name_or w Cycle _ _ refl refl)))))))

none_found : (w : List ℕ) (r : Result Section Fault) → SectionIs w r → ((s : Section) → w ≢ section_name s) → r ≡ Err UnknownSection
none_found w (Ok s) h none = absurd (none s h)
none_found w (Err fault) h none = ap Err h

-- ---- kinds

abbrev pub KindIs : List ℕ → Result ℕ Fault → Type 0
KindIs w (Ok kind) = (w ≡ kind ∷ []) × (is_kind kind ≡ true)
KindIs w (Err fault) = fault ≡ BadType

kind_tested : (b : ℕ) (t : Bool) → t ≡ is_kind b → KindIs (b ∷ []) (cond t (Ok b) (Err BadType))
kind_tested b true is = (refl, sym is)
kind_tested b false is = refl

pub kind_is : (w : List ℕ) → KindIs w (kind_of w)
kind_is [] = refl
kind_is (b ∷ []) = kind_tested b (is_kind b) refl
kind_is (b ∷ c ∷ w) = refl

pub kind_found : (kind : ℕ) → is_kind kind ≡ true → kind_of (kind ∷ []) ≡ Ok kind
kind_found kind h = ap (λ (t : Bool). cond t (Ok kind) (Err BadType)) h

-- ---- patterns

abbrev pub PatternIs : List ℕ → Result Pattern Fault → Type 0
PatternIs w (Ok p) = (w ≡ p.caps ++ p.subs) × IsPattern p
PatternIs w (Err fault) = fault ≡ BadPattern

pattern_tested : (w : List ℕ) (n : ℕ) (t : Bool) → t ≡ is_written (take n w) (drop n w) → PatternIs w (cond t (Ok (record { caps = take n w; subs = drop n w })) (Err BadPattern))
pattern_tested w n true is = (sym (take-append-drop n w), sym is)
pattern_tested w n false is = refl

pub pattern_is : (w : List ℕ) → PatternIs w (pattern_of w)
pattern_is w = pattern_tested w (prefix_len is_capital w) _ refl

pub pattern_found : NamesAreWritten → (p : Pattern) → IsPattern p → pattern_of (p.caps ++ p.subs) ≡ Ok p
pattern_found laws p h =
    let parts = laws p.caps p.subs h in
    let w = p.caps ++ p.subs in
    let n = prefix_len is_capital w in
    let size : length p.caps ≡ n = sym parts.front in
    let front : take n w ≡ p.caps = take_at p.caps p.subs n size in
    let back : drop n w ≡ p.subs = drop_at p.caps p.subs n size in
    (λ i. cond (is_written (front i) (back i)) (Ok (record { caps = front i; subs = back i })) (Err BadPattern))
    ∙ ap (λ (t : Bool). cond t (Ok p) (Err BadPattern)) h

-- ---- no word is two of these

abbrev first : List ℕ → ℕ
first [] = 0
first (b ∷ w) = b

abbrev is_single : List ℕ → Bool
is_single (b ∷ []) = true
is_single _ = false

small_test : (t : test.Test) → is_capital (first (test_name t)) ≡ false
small_test NoneOf = refl
small_test OneOf = refl
small_test NoneInGroup = refl
small_test OneInGroup = refl

small_name : (s : Section) → is_capital (first (section_name s)) ≡ false
small_name Start = refl
small_name Ignore = refl
small_name (Test t) = small_test t
small_name Bounded = refl
small_name Cycle = refl

long_test : (t : test.Test) → is_single (test_name t) ≡ false
long_test NoneOf = refl
long_test OneOf = refl
long_test NoneInGroup = refl
long_test OneInGroup = refl

long_name : (s : Section) → is_single (section_name s) ≡ false
long_name Start = refl
long_name Ignore = refl
long_name (Test t) = long_test t
long_name Bounded = refl
long_name Cycle = refl

-- a pattern begins with a capital letter
first_capital : NamesAreWritten → (caps subs : List ℕ) → is_written caps subs ≡ true → is_capital (first (caps ++ subs)) ≡ true
first_capital laws [] subs h = absurd (let parts = laws [] subs h in omega (arith, parts.some))
first_capital laws (b ∷ caps) subs h = (and_parts (is_capital b) (list_all is_capital caps) (laws (b ∷ caps) subs h).capitals).0

pub pattern_no_section : NamesAreWritten → (p : Pattern) → IsPattern p → section_of (p.caps ++ p.subs) ≡ Err UnknownSection
pattern_no_section laws p h =
    let w = p.caps ++ p.subs in
    none_found w (section_of w) (section_is w)
    (λ s e. false≢true (sym (small_name s) ∙ sym (ap (λ (v : List ℕ). is_capital (first v)) e) ∙ first_capital laws p.caps p.subs h))

pub kind_no_section : (kind : ℕ) → section_of (kind ∷ []) ≡ Err UnknownSection
kind_no_section kind =
    none_found (kind ∷ []) (section_of (kind ∷ [])) (section_is (kind ∷ []))
    (λ s e. false≢true (sym (long_name s) ∙ sym (ap is_single e)))

no_kind : (w : List ℕ) → is_capital (first w) ≡ true → kind_of w ≡ Err BadType
no_kind [] h = refl
no_kind (b ∷ []) h =
    let none : is_kind b ≡ false = grind (arith, nat_tests) in
    ap (λ (t : Bool). cond t (Ok b) (Err BadType)) none
no_kind (b ∷ c ∷ w) h = refl

pub pattern_no_kind : NamesAreWritten → (p : Pattern) → IsPattern p → kind_of (p.caps ++ p.subs) ≡ Err BadType
pattern_no_kind laws p h = no_kind (p.caps ++ p.subs) (first_capital laws p.caps p.subs h)

pub kind_no_pattern : (kind : ℕ) → is_kind kind ≡ true → pattern_of (kind ∷ []) ≡ Err BadPattern
kind_no_pattern kind h =
    let none : is_capital kind ≡ false = grind (arith, nat_tests) in
    ap (λ (t : Bool). let n = cond t 1 0 in cond (is_written (take n (kind ∷ [])) (drop n (kind ∷ []))) (Ok (record { caps = take n (kind ∷ []); subs = drop n (kind ∷ []) })) (Err BadPattern)) none
