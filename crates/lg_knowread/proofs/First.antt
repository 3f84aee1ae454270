-- A token that the reader refuses is the first at fault, for the cause that it tells.
use Rattle.std.proofs.Common.{◌≡◌, ℕ, Bool, true, false, cond, eqb, List, [], ◌∷◌, ◌++◌, Result, Ok, Err, refl, sym, ap, subst, ◌∙◌}
use Rattle.std.proofs.lemmas.List.{append-nil}
use Rattle.lg_lex.specs.Tokens.{Lexeme, sign, quoted, plain, broken}
use Rattle.lg_gram.specs.Names.{NamesAreWritten}
use Rattle.lg_knowread.specs.declared.fault.Fault.{Fault}
use Rattle.lg_knowread.specs.declared.fault.Fault.TheVariants.{UnknownSection, BadPattern, BadType, Syntax}
use Rattle.lg_knowread.specs.declared.knowledge.Knowledge.{Knowledge}
use Rattle.lg_knowread.specs.declared.knowledge.Pattern.{Pattern}
use Rattle.lg_knowread.specs.declared.knowledge.Rule.TheVariants as rules
use Rattle.lg_knowread.specs.declared.words.Section.{Section}
use Rattle.lg_knowread.specs.declared.words.Section.TheVariants.{Start, Ignore, Test, Bounded, Cycle}
use Rattle.lg_knowread.specs.declared.reading.Head.{Head}
use Rattle.lg_knowread.specs.declared.reading.Head.TheVariants.{Starts, Ignored, Others}
use Rattle.lg_knowread.specs.declared.reading.State.{State}
use Rattle.lg_knowread.specs.declared.reading.State.TheVariants.{Name, Colon, First, Brace, Further, End}
use Rattle.lg_knowread.specs.declared.reading.Reading.{Reading}
use Rattle.lg_knowread.specs.Statements.{is_kind, IsPattern, name, pattern_token, kind_token, all_spelled, knowledge_of}
use Rattle.lg_knowread.specs.Words.{section_of, kind_of, pattern_of}
use Rattle.lg_knowread.specs.Reading.{MayFollow, AreWhole, IsPlain, WantsPattern, WantsKind, StopsAt}
use Rattle.lg_knowread.specs.Automaton.{nothing, at, leads, with_word, with_list, with_sign, unfit, advance}
use Rattle.lg_knowread.proofs.Written.{SectionIs, section_is, KindIs, kind_is, PatternIs, pattern_is, pattern_found, kind_found, pattern_no_section, kind_no_section, pattern_no_kind, kind_no_pattern}
use Rattle.lg_knowread.proofs.Sound.{text}
use Rattle.lg_knowread.proofs.Complete.{reach, complete}
use Rattle.lg_knowread.proofs.Fronts.{A, Reached, follows_taken, taken_follows}

-- ---- what may come next in a state

pub data Want : Type 0 where
  a_name : Want
  a_kind : Want
  a_pattern : Want
  a_sign : Want

abbrev first_want : Section → Want
first_want Start = a_kind
first_want Ignore = a_pattern
first_want (Test t) = a_pattern
first_want Bounded = a_kind
first_want Cycle = a_pattern

abbrev pub want : State → Want
want Name = a_name
want (Colon s) = a_sign
want (First s) = first_want s
want (Brace t p) = a_sign
want (Further h ps) = a_pattern
want (End r) = a_sign

-- why a token is refused there
abbrev pub fault_at : Want → Lexeme → Fault
fault_at a_name x = UnknownSection
fault_at a_kind (plain w) = BadType
fault_at a_kind _ = Syntax
fault_at a_pattern (plain w) = BadPattern
fault_at a_pattern _ = Syntax
fault_at a_sign x = Syntax

-- ---- a refusal is for that cause

abbrev RefusedFor : {A : Type 0} → Fault → Result A Fault → Type 0
RefusedFor fault (Ok x) = Unit {0}
RefusedFor fault (Err e) = e ≡ fault

section_refused : (w : List ℕ) (r : Result Section Fault) → SectionIs w r → RefusedFor UnknownSection (leads Colon r)
section_refused w (Ok s) h = tt
section_refused w (Err fault) h = h

kind_refused : (f : ℕ → State) (w : List ℕ) (r : Result ℕ Fault) → KindIs w r → RefusedFor BadType (leads f r)
kind_refused f w (Ok kind) h = tt
kind_refused f w (Err fault) h = h

pattern_refused : (f : Pattern → State) (w : List ℕ) (r : Result Pattern Fault) → PatternIs w r → RefusedFor BadPattern (leads f r)
pattern_refused f w (Ok p) h = tt
pattern_refused f w (Err fault) h = h

word_refused : (s : State) (w : List ℕ) → RefusedFor (fault_at (want s) (plain w)) (with_word s w)
word_refused Name w = section_refused w (section_of w) (section_is w)
word_refused (Colon s) w = refl
word_refused (First Start) w = kind_refused _ w (kind_of w) (kind_is w)
word_refused (First Ignore) w = pattern_refused _ w (pattern_of w) (pattern_is w)
word_refused (First (Test t)) w = pattern_refused _ w (pattern_of w) (pattern_is w)
word_refused (First Bounded) w = kind_refused _ w (kind_of w) (kind_is w)
word_refused (First Cycle) w = pattern_refused _ w (pattern_of w) (pattern_is w)
word_refused (Brace t p) w = refl
word_refused (Further h ps) w = pattern_refused _ w (pattern_of w) (pattern_is w)
word_refused (End r) w = refl

tested_refused : (t : Bool) (r : Reading) → RefusedFor Syntax (cond t (Ok r) (Err Syntax))
tested_refused true r = tt
tested_refused false r = refl

list_refused : (k : Knowledge) (h : Head) (ps : List Pattern) (b : ℕ) → RefusedFor Syntax (with_list k h ps b)
list_refused k (Starts kind) ps b = tested_refused (eqb b 59) _
list_refused k Ignored ps b = tested_refused (eqb b 59) _
list_refused k (Others t p) ps b = tested_refused (eqb b 125) _

-- a token that is no word is refused for its place alone
other_first : (s : Section) (x : Lexeme) → fault_at a_kind x ≡ Syntax → fault_at a_pattern x ≡ Syntax → Syntax ≡ fault_at (first_want s) x
other_first Start x kind pattern = sym kind
other_first Ignore x kind pattern = sym pattern
other_first (Test t) x kind pattern = sym pattern
other_first Bounded x kind pattern = sym kind
other_first Cycle x kind pattern = sym pattern

other_refused : (s : State) (x : Lexeme) → fault_at a_kind x ≡ Syntax → fault_at a_pattern x ≡ Syntax → unfit s ≡ fault_at (want s) x
other_refused Name x kind pattern = refl
other_refused (Colon s) x kind pattern = refl
other_refused (First s) x kind pattern = other_first s x kind pattern
other_refused (Brace t p) x kind pattern = refl
other_refused (Further h ps) x kind pattern = sym pattern
other_refused (End r) x kind pattern = refl

sign_refused : (k : Knowledge) (s : State) (b : ℕ) → RefusedFor (fault_at (want s) (sign b)) (with_sign k s b)
sign_refused k Name b = refl
sign_refused k (Colon s) b = tested_refused (eqb b 58) _
sign_refused k (First s) b = other_first s (sign b) refl refl
sign_refused k (Brace t p) b = tested_refused (eqb b 123) _
sign_refused k (Further h []) b = refl
sign_refused k (Further h (p ∷ ps)) b = list_refused k h (p ∷ ps) b
sign_refused k (End r) b = tested_refused (eqb b 59) _

word_led : (k : Knowledge) (fault : Fault) (r : Result State Fault) → RefusedFor fault r → RefusedFor fault (leads (at k) r)
word_led k fault (Ok s) h = tt
word_led k fault (Err e) h = h

refused_for : (r : Reading) (x : Lexeme) → RefusedFor (fault_at (want r.state) x) (advance r x)
refused_for r (sign b) = sign_refused r.knowledge r.state b
refused_for r (plain w) = word_led r.knowledge (fault_at (want r.state) (plain w)) (with_word r.state w) (word_refused r.state w)
refused_for r (quoted w) = other_refused r.state (quoted w) refl refl
refused_for r broken = other_refused r.state broken refl refl

refused_is : (r : Reading) (x : Lexeme) (fault : Fault) → advance r x ≡ Err fault → fault ≡ fault_at (want r.state) x
refused_is r x fault e = subst (RefusedFor (fault_at (want r.state) x)) e (refused_for r x)

-- ---- what the tokens so far want is what the reader wants

led : {X Y : Type 0} (f : X → Y) (m : Result X Fault) (y : Y) → leads f m ≡ Ok y → (x : X) × (m ≡ Ok x)
led f (Ok x) y e = (x, refl)
led f (Err fault) y e = absurd cc

refused_led : {X Y : Type 0} (f : X → Y) (m : Result X Fault) (fault : Fault) (y : Y) → m ≡ Err fault → leads f m ≡ Ok y → ⊥
refused_led f (Ok x) fault y is e = cc
refused_led f (Err g) fault y is e = cc

-- a pattern is taken where one is wanted, and only there
takes_pattern : NamesAreWritten → (s t : State) (p : Pattern) → IsPattern p → with_word s (p.caps ++ p.subs) ≡ Ok t → want s ≡ a_pattern
takes_pattern laws Name t p h e = absurd (refused_led Colon (section_of (p.caps ++ p.subs)) UnknownSection t (pattern_no_section laws p h) e)
takes_pattern laws (Colon s) t p h e = absurd cc
takes_pattern laws (First Start) t p h e = absurd (refused_led _ (kind_of (p.caps ++ p.subs)) BadType t (pattern_no_kind laws p h) e)
takes_pattern laws (First Ignore) t p h e = refl
takes_pattern laws (First (Test x)) t p h e = refl
takes_pattern laws (First Bounded) t p h e = absurd (refused_led _ (kind_of (p.caps ++ p.subs)) BadType t (pattern_no_kind laws p h) e)
takes_pattern laws (First Cycle) t p h e = refl
takes_pattern laws (Brace x q) t p h e = absurd cc
takes_pattern laws (Further x ps) t p h e = refl
takes_pattern laws (End r) t p h e = absurd cc

pattern_taken : NamesAreWritten → (s : State) (p : Pattern) → IsPattern p → want s ≡ a_pattern → (t : State) × (with_word s (p.caps ++ p.subs) ≡ Ok t)
pattern_taken laws Name p h e = absurd cc
pattern_taken laws (Colon s) p h e = absurd cc
pattern_taken laws (First Start) p h e = absurd cc
pattern_taken laws (First Ignore) p h e = (_, ap (leads (λ (q : Pattern). Further Ignored (q ∷ []))) (pattern_found laws p h))
pattern_taken laws (First (Test x)) p h e = (_, ap (leads (Brace x)) (pattern_found laws p h))
pattern_taken laws (First Bounded) p h e = absurd cc
pattern_taken laws (First Cycle) p h e = (_, ap (leads (λ (q : Pattern). End (rules.Cycle q))) (pattern_found laws p h))
pattern_taken laws (Brace x q) p h e = absurd cc
pattern_taken laws (Further x ps) p h e = (_, ap (leads (λ (q : Pattern). Further x (ps ++ q ∷ []))) (pattern_found laws p h))
pattern_taken laws (End r) p h e = absurd cc

-- and a kind
takes_kind : (s t : State) (kind : ℕ) → is_kind kind ≡ true → with_word s (kind ∷ []) ≡ Ok t → want s ≡ a_kind
takes_kind Name t kind h e = absurd (refused_led Colon (section_of (kind ∷ [])) UnknownSection t (kind_no_section kind) e)
takes_kind (Colon s) t kind h e = absurd cc
takes_kind (First Start) t kind h e = refl
takes_kind (First Ignore) t kind h e = absurd (refused_led _ (pattern_of (kind ∷ [])) BadPattern t (kind_no_pattern kind h) e)
takes_kind (First (Test x)) t kind h e = absurd (refused_led _ (pattern_of (kind ∷ [])) BadPattern t (kind_no_pattern kind h) e)
takes_kind (First Bounded) t kind h e = refl
takes_kind (First Cycle) t kind h e = absurd (refused_led _ (pattern_of (kind ∷ [])) BadPattern t (kind_no_pattern kind h) e)
takes_kind (Brace x q) t kind h e = absurd cc
takes_kind (Further x ps) t kind h e = absurd (refused_led _ (pattern_of (kind ∷ [])) BadPattern t (kind_no_pattern kind h) e)
takes_kind (End r) t kind h e = absurd cc

kind_taken : (s : State) (kind : ℕ) → is_kind kind ≡ true → want s ≡ a_kind → (t : State) × (with_word s (kind ∷ []) ≡ Ok t)
kind_taken Name kind h e = absurd cc
kind_taken (Colon s) kind h e = absurd cc
kind_taken (First Start) kind h e = (_, ap (leads (λ (n : ℕ). Further (Starts n) [])) (kind_found kind h))
kind_taken (First Ignore) kind h e = absurd cc
kind_taken (First (Test x)) kind h e = absurd cc
kind_taken (First Bounded) kind h e = (_, ap (leads (λ (n : ℕ). End (rules.Bounded n))) (kind_found kind h))
kind_taken (First Cycle) kind h e = absurd cc
kind_taken (Brace x q) kind h e = absurd cc
kind_taken (Further x ps) kind h e = absurd cc
kind_taken (End r) kind h e = absurd cc

pub no_name : (s : Section) → first_want s ≡ a_name → ⊥
no_name Start e = cc
no_name Ignore e = cc
no_name (Test t) e = cc
no_name Bounded e = cc
no_name Cycle e = cc

-- where a name is wanted, nothing is read of a statement
between : (s : State) → want s ≡ a_name → text s ≡ []
between Name e = refl
between (Colon s) e = absurd cc
between (First s) e = absurd (no_name s e)
between (Brace t p) e = absurd cc
between (Further h ps) e = absurd cc
between (End r) e = absurd cc

-- ---- which the definitions say too

module _ (laws : NamesAreWritten) (front : List Lexeme) (r : Reading) (h : Reached front r) where
  pub whole_wants : AreWhole front → want r.state ≡ a_name
  whole_wants (ss, are, e) =
      let same : r ≡ at (knowledge_of ss) Name = let there : Ok r ≡ Ok (at (knowledge_of ss) Name) = sym h.reached ∙ ap (reach (at nothing Name)) e ∙ complete laws ss are in cc in
      ap (λ (q : Reading). want q.state) same

  pub wants_whole : want r.state ≡ a_name → AreWhole front
  wants_whole e = (h.taken.before, h.taken.are, h.taken.spells ∙ ap (λ (l : List Lexeme). all_spelled h.taken.before ++ l) (between r.state e) ∙ append-nil (all_spelled h.taken.before))

  pattern_wanted : WantsPattern front → want r.state ≡ a_pattern
  pattern_wanted (p, is, f) =
      let q = follows_taken laws front r (pattern_token p) h f in
      let t = led (at r.knowledge) (with_word r.state (p.caps ++ p.subs)) q.0 q.1 in
      takes_pattern laws r.state t.0 p is t.1

  wants_pattern : want r.state ≡ a_pattern → WantsPattern front
  wants_pattern e =
      let t = pattern_taken laws r.state A refl e in
      (A, refl, taken_follows front r (at r.knowledge t.0) (pattern_token A) h (ap (leads (at r.knowledge)) t.1))

  kind_wanted : WantsKind front → want r.state ≡ a_kind
  kind_wanted (kind, is, f) =
      let q = follows_taken laws front r (kind_token kind) h f in
      let t = led (at r.knowledge) (with_word r.state (kind ∷ [])) q.0 q.1 in
      takes_kind r.state t.0 kind is t.1

  wants_kind : want r.state ≡ a_kind → WantsKind front
  wants_kind e =
      let t = kind_taken r.state 97 refl e in
      (97, refl, taken_follows front r (at r.knowledge t.0) (kind_token 97) h (ap (leads (at r.knowledge)) t.1))

  -- ---- the cause of a stop

  syntax_there : (v : Want) (x : Lexeme) → (v ≡ a_name → ⊥) → (IsPlain x → v ≡ a_pattern → ⊥) → (IsPlain x → v ≡ a_kind → ⊥) → Syntax ≡ fault_at v x
  syntax_there a_name x name pattern kind = absurd (name refl)
  syntax_there a_kind (sign b) name pattern kind = refl
  syntax_there a_kind (quoted w) name pattern kind = refl
  syntax_there a_kind (plain w) name pattern kind = absurd (kind (w, refl) refl)
  syntax_there a_kind broken name pattern kind = refl
  syntax_there a_pattern (sign b) name pattern kind = refl
  syntax_there a_pattern (quoted w) name pattern kind = refl
  syntax_there a_pattern (plain w) name pattern kind = absurd (pattern (w, refl) refl)
  syntax_there a_pattern broken name pattern kind = refl
  syntax_there a_sign x name pattern kind = refl

  stop_cause : (x : Lexeme) (fault : Fault) → StopsAt fault front x → fault ≡ fault_at (want r.state) x
  stop_cause x UnknownSection s = sym (ap (λ (v : Want). fault_at v x) (whole_wants s))
  stop_cause x BadPattern ((w, is), wants) = sym (λ i. fault_at (pattern_wanted wants i) (is i))
  stop_cause x BadType ((w, is), wants) = sym (λ i. fault_at (kind_wanted wants i) (is i))
  stop_cause x Syntax (whole, pattern, kind) = syntax_there (want r.state) x (λ e. whole (wants_whole e)) (λ is e. pattern (is, wants_pattern e)) (λ is e. kind (is, wants_kind e))

  -- what is refused for syntax is refused for no other cause
  syntax_stops : (v : Want) (x : Lexeme) → want r.state ≡ v → (v ≡ a_name → ⊥) → (IsPlain x → v ≡ a_pattern → ⊥) → (IsPlain x → v ≡ a_kind → ⊥) → StopsAt Syntax front x
  syntax_stops v x is name pattern kind =
      ((λ s. name (sym is ∙ whole_wants s)), (λ s. pattern s.0 (sym is ∙ pattern_wanted s.1)), (λ s. kind s.0 (sym is ∙ kind_wanted s.1)))

  stops_there : (v : Want) (x : Lexeme) → want r.state ≡ v → StopsAt (fault_at v x) front x
  stops_there a_name x is = wants_whole is
  stops_there a_kind (plain w) is = ((w, refl), wants_kind is)
  stops_there a_kind (sign b) is = syntax_stops a_kind (sign b) is (λ e. cc) (λ p e. cc) (λ (w, e) k. cc)
  stops_there a_kind (quoted w) is = syntax_stops a_kind (quoted w) is (λ e. cc) (λ p e. cc) (λ (w, e) k. cc)
  stops_there a_kind broken is = syntax_stops a_kind broken is (λ e. cc) (λ p e. cc) (λ (w, e) k. cc)
  stops_there a_pattern (plain w) is = ((w, refl), wants_pattern is)
  stops_there a_pattern (sign b) is = syntax_stops a_pattern (sign b) is (λ e. cc) (λ (w, e) k. cc) (λ p e. cc)
  stops_there a_pattern (quoted w) is = syntax_stops a_pattern (quoted w) is (λ e. cc) (λ (w, e) k. cc) (λ p e. cc)
  stops_there a_pattern broken is = syntax_stops a_pattern broken is (λ e. cc) (λ (w, e) k. cc) (λ p e. cc)
  stops_there a_sign x is = syntax_stops a_sign x is (λ e. cc) (λ p e. cc) (λ p e. cc)

  -- what the reader refuses stops there, for the cause that it tells
  pub refused_stops : (x : Lexeme) (fault : Fault) → advance r x ≡ Err fault → (MayFollow front x → ⊥) × StopsAt fault front x
  refused_stops x fault e = (
    (λ f. let q = follows_taken laws front r x h f in let is = q.1 in cc),
    subst (λ (g : Fault). StopsAt g front x) (sym (refused_is r x fault e)) (stops_there (want r.state) x refl),
  )

  stopped_or : (x : Lexeme) (fault : Fault) (m : Result Reading Fault) → advance r x ≡ m → (MayFollow front x → ⊥) → StopsAt fault front x → m ≡ Err fault
  stopped_or x fault (Ok q) is not s = absurd (not (taken_follows front r q x h is))
  stopped_or x fault (Err g) is not s = ap Err (refused_is r x g is ∙ sym (stop_cause x fault s))

  -- and what stops there, the reader refuses for that cause
  pub stops_refused : (x : Lexeme) (fault : Fault) → (MayFollow front x → ⊥) → StopsAt fault front x → advance r x ≡ Err fault
  stops_refused x fault not s = stopped_or x fault (advance r x) refl not s
