-- What a refusal of the automaton says of the part that is refused.
use Rattle.std.proofs.Common.{◌≡◌, ℕ, ◌+◌, ◌<◌, Bool, true, false, cond, ltb, List, [], ◌∷◌, pos, ◌⊎◌, inl, inr, length, refl, ap, ◌∙◌, lt-ltb}
use Rattle.lg_gram.specs.RawTrees.{RawTree, named, raw_priced}
use Rattle.lg_expr.specs.declared.part.Operator.TheVariants.{And, Or}
use Rattle.lg_expr.specs.declared.part.Bracket.{Bracket}
use Rattle.lg_expr.specs.declared.part.Bracket.TheVariants.{Round, Curly, Square}
use Rattle.lg_expr.specs.declared.macros.Known.{Known}
use Rattle.lg_expr.specs.declared.macros.Known.TheVariants.{Unknown, Free, Leveled}
use Rattle.lg_expr.specs.declared.fault.Fault.{Fault}
use Rattle.lg_expr.specs.declared.fault.Fault.TheVariants.{Syntax, CostForm, UnknownMacro, TooDeep}
use Rattle.lg_expr.specs.Parts.{Part, connects, names, operates, opens, closes, number, no_number, ends, wrong}
use Rattle.lg_expr.specs.Grammar.{BRACKET_COST, Rules}
use Rattle.lg_expr.specs.Automaton.{Frame, Outer, with_factor, Phase, opened, wanting, reached, closed, State, Move, goes, refused, after, inside, closing, naming, step_in, step_after}
use Rattle.lg_expr.proofs.Complete.{IsBefore}

abbrev pub Refuses : Rules → Phase → Frame → List Outer → ℕ → Part → Fault → Type 0
Refuses r ph f outer n p Syntax = (any : Rules) → step_in any ph f outer n p ≡ refused Syntax
Refuses r ph f outer n p CostForm = (p ≡ no_number) × (t : RawTree) × (ph ≡ closed t)
Refuses r ph f outer n p UnknownMacro = (m : List ℕ) × (p ≡ names m) × (r.known m ≡ Unknown) × IsBefore ph
Refuses r ph f outer n p TooDeep = ((k : Bracket) × (p ≡ opens k) × IsBefore ph) ⊎ ((m : List ℕ) × (own : ℕ) × (p ≡ names m) × (r.known m ≡ Leveled own) × IsBefore ph)

opening_cases : (b : Bool) (s : State) (e : Fault) → cond b (goes s) (refused TooDeep) ≡ refused e → e ≡ TooDeep
opening_cases true s e h = absurd cc
opening_cases false s e h = cc

naming_cases : (k : Known) (limit : ℕ) (m : List ℕ) (f : Frame) (outer : List Outer) (n : ℕ) (e : Fault) → naming k limit m f outer n ≡ refused e → ((k ≡ Unknown) × (e ≡ UnknownMacro)) ⊎ (((own : ℕ) × (k ≡ Leveled own)) × (e ≡ TooDeep))
naming_cases Unknown limit m f outer n e h = inl (refl, cc)
naming_cases Free limit m f outer n e h = absurd cc
naming_cases (Leveled own) limit m f outer n e h = inr ((own, refl), opening_cases (ltb (own + length outer) limit) _ e h)

refuses_opening : (r : Rules) (ph : Phase) (f : Frame) (outer : List Outer) (n : ℕ) (k : Bracket) (e : Fault) → IsBefore ph → e ≡ TooDeep → Refuses r ph f outer n (opens k) e
refuses_opening r ph f outer n k e h is = rw is (inl (k, refl, h))

refuses_naming : (r : Rules) (ph : Phase) (f : Frame) (outer : List Outer) (n : ℕ) (m : List ℕ) (e : Fault) → IsBefore ph → ((r.known m ≡ Unknown) × (e ≡ UnknownMacro)) ⊎ (((own : ℕ) × (r.known m ≡ Leveled own)) × (e ≡ TooDeep)) → Refuses r ph f outer n (names m) e
refuses_naming r ph f outer n m e h (inl p) = rw p.1 (m, refl, p.0, h)
refuses_naming r ph f outer n m e h (inr p) = rw p.1 (inr (m, p.0.0, refl, p.0.1, h))

refuses_plainly : (r : Rules) (ph : Phase) (f : Frame) (outer : List Outer) (n : ℕ) (p : Part) (e : Fault) → ((any : Rules) → step_in any ph f outer n p ≡ refused Syntax) → step_in r ph f outer n p ≡ refused e → Refuses r ph f outer n p e
refuses_plainly r ph f outer n p Syntax h is = h
refuses_plainly r ph f outer n p CostForm h is = absurd (let x = h r in cc)
refuses_plainly r ph f outer n p UnknownMacro h is = absurd (let x = h r in cc)
refuses_plainly r ph f outer n p TooDeep h is = absurd (let x = h r in cc)

closing_refuses : (o k : Bracket) (t : RawTree) (f : Frame) (outer : List Outer) (n : ℕ) (e : Fault) → closing o k t f outer n ≡ refused e → e ≡ Syntax
closing_refuses Round Round t f outer n e h = absurd cc
closing_refuses Curly Curly t f outer n e h = absurd cc
closing_refuses Square Square t f outer n e h = absurd cc
closing_refuses Round Curly t f outer n e h = cc
closing_refuses Round Square t f outer n e h = cc
closing_refuses Curly Round t f outer n e h = cc
closing_refuses Curly Square t f outer n e h = cc
closing_refuses Square Round t f outer n e h = cc
closing_refuses Square Curly t f outer n e h = cc

after_refuses : (f : Frame) (outer : List Outer) (n : ℕ) (p : Part) (e : Fault) → step_after f outer n p ≡ refused e → e ≡ Syntax
after_refuses f outer n (operates And) e h = absurd cc
after_refuses f outer n (operates Or) e h = absurd cc
after_refuses f [] n (closes k) e h = cc
after_refuses f (o ∷ outer) n (closes k) e h = closing_refuses o.bracket k _ o.frame outer n e h
after_refuses f [] n ends e h = absurd cc
after_refuses f (o ∷ outer) n ends e h = cc
after_refuses f outer n (connects c) e h = cc
after_refuses f outer n (names m) e h = cc
after_refuses f outer n (opens k) e h = cc
after_refuses f outer n (number cost) e h = cc
after_refuses f outer n no_number e h = cc
after_refuses f outer n wrong e h = cc

-- where the rules play no part
refuses_always : (r : Rules) (ph : Phase) (f : Frame) (outer : List Outer) (n : ℕ) (p : Part) (m : Move) (e : Fault) → ((any : Rules) → step_in any ph f outer n p ≡ m) → m ≡ refused e → e ≡ Syntax → Refuses r ph f outer n p e
refuses_always r ph f outer n p m e same is s = rw s (λ any. same any ∙ is ∙ ap refused s)

pub refuses_in : (r : Rules) (ph : Phase) (f : Frame) (outer : List Outer) (n : ℕ) (p : Part) (e : Fault) → step_in r ph f outer n p ≡ refused e → Refuses r ph f outer n p e
refuses_in r reached f outer n p e h = refuses_always r reached f outer n p (step_after f outer n p) e (λ any. refl) h (after_refuses f outer n p e h)
refuses_in r (closed t) f outer n (number cost) e h = absurd cc
refuses_in r (closed t) f outer n no_number e h = rw (let x : e ≡ CostForm = cc in x) (refl, t, refl)
refuses_in r (closed t) f outer n (connects c) e h = refuses_always r (closed t) f outer n (connects c) (refused Syntax) e (λ any. refl) h cc
refuses_in r (closed t) f outer n (names c) e h = refuses_always r (closed t) f outer n (names c) (refused Syntax) e (λ any. refl) h cc
refuses_in r (closed t) f outer n (opens c) e h = refuses_always r (closed t) f outer n (opens c) (refused Syntax) e (λ any. refl) h cc
refuses_in r (closed t) f outer n wrong e h = refuses_always r (closed t) f outer n wrong (refused Syntax) e (λ any. refl) h cc
refuses_in r (closed t) f outer n (operates o) e h = refuses_always r (closed t) f outer n (operates o) _ e (λ any. refl) h (after_refuses (with_factor f (raw_priced t BRACKET_COST)) outer n (operates o) e h)
refuses_in r (closed t) f outer n (closes k) e h = refuses_always r (closed t) f outer n (closes k) _ e (λ any. refl) h (after_refuses (with_factor f (raw_priced t BRACKET_COST)) outer n (closes k) e h)
refuses_in r (closed t) f outer n ends e h = refuses_always r (closed t) f outer n ends _ e (λ any. refl) h (after_refuses (with_factor f (raw_priced t BRACKET_COST)) outer n ends e h)
refuses_in r opened f outer n (connects c) e h = absurd cc
refuses_in r opened f outer n (names m) e h = refuses_naming r opened f outer n m e tt (naming_cases (r.known m) r.limit m f outer n e h)
refuses_in r opened f outer n (opens k) e h = refuses_opening r opened f outer n k e tt (opening_cases (ltb (length outer) r.limit) _ e h)
refuses_in r opened f [] n (closes Round) e h = refuses_plainly r opened f [] n (closes Round) e (λ any. refl) h
refuses_in r opened f (o ∷ outer) n (closes Round) e h = absurd cc
refuses_in r opened f outer n (closes Curly) e h = refuses_plainly r opened f outer n (closes Curly) e (λ any. refl) h
refuses_in r opened f outer n (closes Square) e h = refuses_plainly r opened f outer n (closes Square) e (λ any. refl) h
refuses_in r opened f outer n (operates o) e h = refuses_plainly r opened f outer n (operates o) e (λ any. refl) h
refuses_in r opened f outer n (number cost) e h = refuses_plainly r opened f outer n (number cost) e (λ any. refl) h
refuses_in r opened f outer n no_number e h = refuses_plainly r opened f outer n no_number e (λ any. refl) h
refuses_in r opened f outer n ends e h = refuses_plainly r opened f outer n ends e (λ any. refl) h
refuses_in r opened f outer n wrong e h = refuses_plainly r opened f outer n wrong e (λ any. refl) h
refuses_in r wanting f outer n (connects c) e h = absurd cc
refuses_in r wanting f outer n (names m) e h = refuses_naming r wanting f outer n m e tt (naming_cases (r.known m) r.limit m f outer n e h)
refuses_in r wanting f outer n (opens k) e h = refuses_opening r wanting f outer n k e tt (opening_cases (ltb (length outer) r.limit) _ e h)
refuses_in r wanting f outer n (closes k) e h = refuses_plainly r wanting f outer n (closes k) e (λ any. refl) h
refuses_in r wanting f outer n (operates o) e h = refuses_plainly r wanting f outer n (operates o) e (λ any. refl) h
refuses_in r wanting f outer n (number cost) e h = refuses_plainly r wanting f outer n (number cost) e (λ any. refl) h
refuses_in r wanting f outer n no_number e h = refuses_plainly r wanting f outer n no_number e (λ any. refl) h
refuses_in r wanting f outer n ends e h = refuses_plainly r wanting f outer n ends e (λ any. refl) h
refuses_in r wanting f outer n wrong e h = refuses_plainly r wanting f outer n wrong e (λ any. refl) h

-- ---- what is taken where there is room enough

pub opens_in : (any : Rules) (ph : Phase) (f : Frame) (outer : List Outer) (n : ℕ) (k : Bracket) → IsBefore ph → length outer < any.limit → step_in any ph f outer n (opens k) ≡ goes (inside k f outer n)
opens_in any opened f outer n k h lt = rw (lt-ltb (length outer) any.limit lt) refl
opens_in any wanting f outer n k h lt = rw (lt-ltb (length outer) any.limit lt) refl
opens_in any reached f outer n k h lt = absurd h
opens_in any (closed t) f outer n k h lt = absurd h

leveled_in : (own limit : ℕ) (m : List ℕ) (f : Frame) (outer : List Outer) (n : ℕ) → own + length outer < limit → naming (Leveled own) limit m f outer n ≡ after f outer n (named m (length outer))
leveled_in own limit m f outer n lt = rw (lt-ltb (own + length outer) limit lt) refl

pub named_in : (any : Rules) (ph : Phase) (f : Frame) (outer : List Outer) (n : ℕ) (m : List ℕ) (own : ℕ) → IsBefore ph → any.known m ≡ Leveled own → own + length outer < any.limit → step_in any ph f outer n (names m) ≡ after f outer n (named m (length outer))
named_in any opened f outer n m own h is lt = ap (λ (k : Known). naming k any.limit m f outer n) is ∙ leveled_in own any.limit m f outer n lt
named_in any wanting f outer n m own h is lt = ap (λ (k : Known). naming k any.limit m f outer n) is ∙ leveled_in own any.limit m f outer n lt
named_in any reached f outer n m own h is lt = absurd h
named_in any (closed t) f outer n m own h is lt = absurd h

pub freely_in : (any : Rules) (ph : Phase) (f : Frame) (outer : List Outer) (n : ℕ) (m : List ℕ) → IsBefore ph → any.known m ≡ Free → step_in any ph f outer n (names m) ≡ after f outer n (named m (length outer))
freely_in any opened f outer n m h is = ap (λ (k : Known). naming k any.limit m f outer n) is
freely_in any wanting f outer n m h is = ap (λ (k : Known). naming k any.limit m f outer n) is
freely_in any reached f outer n m h is = absurd h
freely_in any (closed t) f outer n m h is = absurd h

-- ---- what is always refused

-- where what begins as a number is refused for the grammar, a cost is
pub number_in : (any : Rules) (ph : Phase) (f : Frame) (outer : List Outer) (n : ℕ) → step_in any ph f outer n no_number ≡ refused Syntax → step_in any ph f outer n (number (pos 0)) ≡ refused Syntax
number_in any opened f outer n h = refl
number_in any wanting f outer n h = refl
number_in any reached f outer n h = refl
number_in any (closed t) f outer n h = absurd cc

pub no_number_refused : (r : Rules) (ph : Phase) (f : Frame) (outer : List Outer) (n : ℕ) → (e : Fault) × (step_in r ph f outer n no_number ≡ refused e)
no_number_refused r opened f outer n = (Syntax, refl)
no_number_refused r wanting f outer n = (Syntax, refl)
no_number_refused r reached f outer n = (Syntax, refl)
no_number_refused r (closed t) f outer n = (CostForm, refl)

pub unknown_refused : (r : Rules) (ph : Phase) (f : Frame) (outer : List Outer) (n : ℕ) (m : List ℕ) → r.known m ≡ Unknown → (e : Fault) × (step_in r ph f outer n (names m) ≡ refused e)
unknown_refused r opened f outer n m is = (UnknownMacro, ap (λ (k : Known). naming k r.limit m f outer n) is)
unknown_refused r wanting f outer n m is = (UnknownMacro, ap (λ (k : Known). naming k r.limit m f outer n) is)
unknown_refused r reached f outer n m is = (Syntax, refl)
unknown_refused r (closed t) f outer n m is = (Syntax, refl)
