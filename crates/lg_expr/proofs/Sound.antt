-- What the automaton reads, the grammar spells. A front that it has taken is a derivation's, up to there.
use Rattle.std.proofs.Common.{◌≡◌, ℕ, suc, ◌+◌, ◌<◌, max, Bool, true, false, cond, ltb, List, [], ◌∷◌, ◌++◌, length, Option, Some, None, refl, sym, ap, subst, ◌∙◌, append_assoc, arith, ltb-true}
use Rattle.std.proofs.lemmas.List.{append-nil}
use Rattle.lg_gram.specs.RawTrees.{RawTree, raw_empty, raw_leaf, named, raw_priced}
use Rattle.lg_expr.specs.declared.part.Operator.TheVariants.{And, Or}
use Rattle.lg_expr.specs.declared.part.Bracket.{Bracket}
use Rattle.lg_expr.specs.declared.part.Bracket.TheVariants.{Round, Curly, Square}
use Rattle.lg_expr.specs.declared.macros.Known.{Known}
use Rattle.lg_expr.specs.declared.macros.Known.TheVariants.{Unknown, Free, Leveled}
use Rattle.lg_expr.specs.declared.fault.Fault.TheVariants.{TooDeep}
use Rattle.lg_expr.specs.Parts.{Part, connects, names, operates, opens, closes, number, no_number, ends, wrong}
use Rattle.lg_expr.specs.Grammar.{joined, Alternatives, alternative, or_else, Factors, factor, and_then, Primary, connector, macro, brackets, bracketed, braced, costly, costing, spelled, factors_spelled, primary_spelled, members, factors, meaning, tree, level, Rules, Admits, Keeps, FactorsKeep, PrimaryKeeps}
use Rattle.lg_expr.specs.Automaton.{Frame, Outer, fresh, value, opened, wanting, reached, closed, State, Move, goes, done, refused, after, inside, closing, naming, step, step_before, step_after}
use Rattle.lg_expr.specs.Reading.{Begins}
use Rattle.lg_expr.proofs.Reach.{max_assoc, max-zero, zero-max, reach, factors_reach, primary_reach, reach_all}
use Rattle.lg_expr.proofs.Complete.{at, open_at, NoNumber, step_plain}

-- what is read of one bracket, as derivations: up to an `or`, and up to an `&`
pub record Half : Type 0 where
  pub before : Option Alternatives
  pub now : Option Factors

-- an open bracket, and what stands before it
pub record Held : Type 0 where
  pub bracket : Bracket
  pub half : Half

abbrev members_of : ℕ → Option Alternatives → List RawTree
members_of depth None = []
members_of depth (Some a) = members depth a

abbrev factors_of : ℕ → Option Factors → List RawTree
factors_of depth None = []
factors_of depth (Some f) = factors depth f

abbrev pub frame : ℕ → Half → Frame
frame depth h = record { alternatives = members_of depth h.before; factors = factors_of depth h.now }

-- the brackets that are open, the innermost first
abbrev pub outers : List Held → List Outer
outers [] = []
outers (h ∷ hs) = open_at h.bracket (frame (length hs) h.half) ∷ outers hs

abbrev before_text : Option Alternatives → List Part
before_text None = []
before_text (Some a) = spelled a ++ operates Or ∷ []

abbrev now_text : Option Factors → List Part
now_text None = []
now_text (Some f) = factors_spelled f ++ operates And ∷ []

abbrev half_text : Half → List Part
half_text h = before_text h.before ++ now_text h.now

abbrev outer_text : List Held → List Part
outer_text [] = []
outer_text (h ∷ hs) = outer_text hs ++ (half_text h.half ++ opens h.bracket ∷ [])

-- the greatest number of brackets that was open at once
abbrev before_reach : ℕ → Option Alternatives → ℕ
before_reach depth None = 0
before_reach depth (Some a) = reach depth a

abbrev now_reach : ℕ → Option Factors → ℕ
now_reach depth None = 0
now_reach depth (Some f) = factors_reach depth f

abbrev half_reach : ℕ → Half → ℕ
half_reach depth h = max (before_reach depth h.before) (now_reach depth h.now)

abbrev outer_reach : List Held → ℕ
outer_reach [] = 0
outer_reach (h ∷ hs) = max (max (outer_reach hs) (half_reach (length hs) h.half)) (suc (length hs))

abbrev nothing : Half
nothing = record { before = None; now = None }

abbrev pub rounded : Half → Held
rounded h = record { bracket = Round; half = h }

-- just after an opening round bracket, before a primary, after one, after a square bracket closed round an expression
pub data Stage : Type 0 where
  at_opening : Half → List Held → Stage
  at_primary : Half → List Held → Stage
  at_reached : Option Alternatives → Factors → List Held → Stage
  at_cost : Half → Alternatives → List Held → Stage

abbrev pub state : Stage → State
state (at_opening h hs) = at opened fresh (outers (rounded h ∷ hs)) (outer_reach (rounded h ∷ hs))
state (at_primary h hs) = at wanting (frame (length hs) h) (outers hs) (max (outer_reach hs) (half_reach (length hs) h))
state (at_reached b f hs) = at reached (record { alternatives = members_of (length hs) b; factors = factors (length hs) f }) (outers hs) (max (outer_reach hs) (max (before_reach (length hs) b) (factors_reach (length hs) f)))
state (at_cost h a hs) = at (closed (joined Or (members (suc (length hs)) a))) (frame (length hs) h) (outers hs) (max (max (outer_reach hs) (half_reach (length hs) h)) (primary_reach (length hs) (costly a)))

abbrev pub text : Stage → List Part
text (at_opening h hs) = outer_text (rounded h ∷ hs)
text (at_primary h hs) = outer_text hs ++ half_text h
text (at_reached b f hs) = outer_text hs ++ (before_text b ++ factors_spelled f)
text (at_cost h a hs) = outer_text hs ++ (half_text h ++ primary_spelled (costly a))

-- the factors with one more, the alternatives with one more
abbrev pub with : Option Factors → Primary → Factors
with None p = factor p
with (Some f) p = and_then f p

abbrev pub ended : Option Alternatives → Factors → Alternatives
ended None f = alternative f
ended (Some a) f = or_else a f

with_factors : (depth : ℕ) (n : Option Factors) (p : Primary) → factors depth (with n p) ≡ factors_of depth n ++ meaning depth p ∷ []
with_factors depth None p = refl
with_factors depth (Some f) p = refl

with_text : (n : Option Factors) (p : Primary) → factors_spelled (with n p) ≡ now_text n ++ primary_spelled p
with_text None p = refl
with_text (Some f) p = simp append_assoc

with_reach : (depth : ℕ) (n : Option Factors) (p : Primary) → factors_reach depth (with n p) ≡ max (now_reach depth n) (primary_reach depth p)
with_reach depth None p = sym (zero-max (primary_reach depth p))
with_reach depth (Some f) p = refl

ended_members : (depth : ℕ) (b : Option Alternatives) (f : Factors) → members depth (ended b f) ≡ members_of depth b ++ joined And (factors depth f) ∷ []
ended_members depth None f = refl
ended_members depth (Some a) f = refl

ended_text : (b : Option Alternatives) (f : Factors) → spelled (ended b f) ≡ before_text b ++ factors_spelled f
ended_text None f = refl
ended_text (Some a) f = simp append_assoc

ended_reach : (depth : ℕ) (b : Option Alternatives) (f : Factors) → reach depth (ended b f) ≡ max (before_reach depth b) (factors_reach depth f)
ended_reach depth None f = sym (zero-max (factors_reach depth f))
ended_reach depth (Some a) f = refl

-- ---- the rules are kept

abbrev pub BeforeKeeps : Rules → ℕ → Option Alternatives → Type 0
BeforeKeeps r depth None = Unit {0}
BeforeKeeps r depth (Some a) = Keeps r depth a

abbrev pub NowKeeps : Rules → ℕ → Option Factors → Type 0
NowKeeps r depth None = Unit {0}
NowKeeps r depth (Some f) = FactorsKeep r depth f

abbrev pub HalfKeeps : Rules → ℕ → Half → Type 0
HalfKeeps r depth h = BeforeKeeps r depth h.before × NowKeeps r depth h.now

abbrev pub OuterKeeps : Rules → List Held → Type 0
OuterKeeps r [] = Unit {0}
OuterKeeps r (h ∷ hs) = HalfKeeps r (length hs) h.half × (length hs < r.limit) × OuterKeeps r hs

abbrev pub Fits : Rules → Stage → Type 0
Fits r (at_opening h hs) = OuterKeeps r (rounded h ∷ hs)
Fits r (at_primary h hs) = HalfKeeps r (length hs) h × OuterKeeps r hs
Fits r (at_reached b f hs) = BeforeKeeps r (length hs) b × FactorsKeep r (length hs) f × OuterKeeps r hs
Fits r (at_cost h a hs) = HalfKeeps r (length hs) h × ((length hs < r.limit) × Keeps r (suc (length hs)) a) × OuterKeeps r hs

with_keeps : (r : Rules) (depth : ℕ) (n : Option Factors) (p : Primary) → NowKeeps r depth n → PrimaryKeeps r depth p → FactorsKeep r depth (with n p)
with_keeps r depth None p h k = k
with_keeps r depth (Some f) p h k = (h, k)

ended_keeps : (r : Rules) (depth : ℕ) (b : Option Alternatives) (f : Factors) → BeforeKeeps r depth b → FactorsKeep r depth f → Keeps r depth (ended b f)
ended_keeps r depth None f h k = k
ended_keeps r depth (Some a) f h k = (h, k)

length_outers : (hs : List Held) → length (outers hs) ≡ length hs
length_outers [] = refl
length_outers (h ∷ hs) = ap suc (length_outers hs)

-- ---- one step

-- what a move says of the text before it and the part that it takes
abbrev pub StepSound : Rules → Move → List Part → Part → Type 0
StepSound r (goes s) front p = (q : Stage) × (state q ≡ s) × (text q ≡ front ++ p ∷ []) × Fits r q
StepSound r (done t n) front p = (a : Alternatives) × (tree a ≡ t) × (spelled a ≡ front) × (p ≡ ends) × Keeps r 0 a × (level a ≡ n)
StepSound r (refused e) front p = Unit {0}

-- a primary that follows a half, whose text ends with the part
primary_follows : (r : Rules) (h : Half) (hs : List Held) (n : ℕ) (p : Primary) (front : List Part) (part : Part) (t : RawTree)
    → t ≡ meaning (length hs) p → n ≡ max (max (outer_reach hs) (half_reach (length hs) h)) (primary_reach (length hs) p) → (outer_text hs ++ half_text h) ++ primary_spelled p ≡ front ++ part ∷ []
    → HalfKeeps r (length hs) h → PrimaryKeeps r (length hs) p → OuterKeeps r hs
    → StepSound r (after (frame (length hs) h) (outers hs) n t) front part
primary_follows r h hs n p front part t e deep spelling half keeps outer =
    let d = length hs in
    let same : max (outer_reach hs) (max (before_reach d h.before) (factors_reach d (with h.now p))) ≡ n =
    ap (λ (x : ℕ). max (outer_reach hs) (max (before_reach d h.before) x)) (with_reach d h.now p)
    ∙ ap (max (outer_reach hs)) (sym (max_assoc (before_reach d h.before) (now_reach d h.now) (primary_reach d p)))
    ∙ sym (max_assoc (outer_reach hs) (half_reach d h) (primary_reach d p)) ∙ sym deep in
    let trees : factors d (with h.now p) ≡ factors_of d h.now ++ t ∷ [] = with_factors d h.now p ∙ ap (λ (x : RawTree). factors_of d h.now ++ x ∷ []) (sym e) in (
      at_reached h.before (with h.now p) hs,
      (λ i. at reached (record { alternatives = members_of d h.before; factors = trees i }) (outers hs) (same i)),
      rw with_text (sym (simp append_assoc) ∙ spelling),
      (half.0, with_keeps r d h.now p half.1 keeps, outer),
    )

-- a bracket that opens after a half
opening_reach : (hs : List Held) (h : Half) (n : ℕ) → n ≡ max (outer_reach hs) (half_reach (length hs) h) → max (max (outer_reach hs) (half_reach (length hs) h)) (suc (length hs)) ≡ max n (suc (length (outers hs)))
opening_reach hs h n deep = λ i. max (sym deep i) (suc (sym (length_outers hs) i))

opening_follows : (r : Rules) (b : Bool) (k : Bracket) (h : Half) (hs : List Held) (n : ℕ) (front : List Part) → b ≡ ltb (length (outers hs)) r.limit → n ≡ max (outer_reach hs) (half_reach (length hs) h) → outer_text hs ++ half_text h ≡ front
    → HalfKeeps r (length hs) h → OuterKeeps r hs
    → StepSound r (cond b (goes (inside k (frame (length hs) h) (outers hs) n)) (refused TooDeep)) front (opens k)
opening_follows r true Round h hs n front is deep e half outer = (
  at_opening h hs,
  ap (at opened fresh (outers (rounded h ∷ hs))) (opening_reach hs h n deep),
  sym (append_assoc (outer_text hs) (half_text h) (opens Round ∷ [])) ∙ ap (λ (x : List Part). x ++ opens Round ∷ []) e,
  (half, omega (arith, ltb-true _ _ (sym is), length_outers hs), outer),
)
opening_follows r true Curly h hs n front is deep e half outer = (
  at_primary nothing (record { bracket = Curly; half = h } ∷ hs),
  ap (at wanting fresh (outers (record { bracket = Curly; half = h } ∷ hs))) (max-zero _ ∙ opening_reach hs h n deep),
  append-nil _ ∙ sym (append_assoc (outer_text hs) (half_text h) (opens Curly ∷ [])) ∙ ap (λ (x : List Part). x ++ opens Curly ∷ []) e,
  ((tt, tt), (half, omega (arith, ltb-true _ _ (sym is), length_outers hs), outer)),
)
opening_follows r true Square h hs n front is deep e half outer = (
  at_primary nothing (record { bracket = Square; half = h } ∷ hs),
  ap (at wanting fresh (outers (record { bracket = Square; half = h } ∷ hs))) (max-zero _ ∙ opening_reach hs h n deep),
  append-nil _ ∙ sym (append_assoc (outer_text hs) (half_text h) (opens Square ∷ [])) ∙ ap (λ (x : List Part). x ++ opens Square ∷ []) e,
  ((tt, tt), (half, omega (arith, ltb-true _ _ (sym is), length_outers hs), outer)),
)
opening_follows r false k h hs n front is deep e half outer = tt

-- a macro that is admitted after a half
macro_follows : (r : Rules) (m : List ℕ) (h : Half) (hs : List Held) (n : ℕ) (front : List Part) → n ≡ max (outer_reach hs) (half_reach (length hs) h) → outer_text hs ++ half_text h ≡ front
    → Admits (r.known m) (length hs) r.limit → HalfKeeps r (length hs) h → OuterKeeps r hs → StepSound r (after (frame (length hs) h) (outers hs) n (named m (length (outers hs)))) front (names m)
macro_follows r m h hs n front deep e admits half outer =
    primary_follows r h hs n (macro m) front (names m) (named m (length (outers hs))) (ap (named m) (length_outers hs)) (deep ∙ sym (max-zero _)) (ap (λ (x : List Part). x ++ names m ∷ []) e) half admits outer

leveled_follows : (r : Rules) (own : ℕ) (b : Bool) (m : List ℕ) (h : Half) (hs : List Held) (n : ℕ) (front : List Part) → Leveled own ≡ r.known m → b ≡ ltb (own + length (outers hs)) r.limit → n ≡ max (outer_reach hs) (half_reach (length hs) h) → outer_text hs ++ half_text h ≡ front
    → HalfKeeps r (length hs) h → OuterKeeps r hs → StepSound r (cond b (after (frame (length hs) h) (outers hs) n (named m (length (outers hs)))) (refused TooDeep)) front (names m)
leveled_follows r own true m h hs n front is test deep e half outer =
    macro_follows r m h hs n front deep e (subst (λ (k : Known). Admits k (length hs) r.limit) is (omega (arith, ltb-true _ _ (sym test), length_outers hs))) half outer
leveled_follows r own false m h hs n front is test deep e half outer = tt

naming_follows : (r : Rules) (k : Known) (m : List ℕ) (h : Half) (hs : List Held) (n : ℕ) (front : List Part) → k ≡ r.known m → n ≡ max (outer_reach hs) (half_reach (length hs) h) → outer_text hs ++ half_text h ≡ front
    → HalfKeeps r (length hs) h → OuterKeeps r hs → StepSound r (naming k r.limit m (frame (length hs) h) (outers hs) n) front (names m)
naming_follows r Unknown m h hs n front is deep e half outer = tt
naming_follows r Free m h hs n front is deep e half outer = macro_follows r m h hs n front deep e (subst (λ (k : Known). Admits k (length hs) r.limit) is tt) half outer
naming_follows r (Leveled own) m h hs n front is deep e half outer = leveled_follows r own (ltb (own + length (outers hs)) r.limit) m h hs n front is refl deep e half outer

before_sound : (r : Rules) (h : Half) (hs : List Held) (n : ℕ) (p : Part) → n ≡ max (outer_reach hs) (half_reach (length hs) h) → HalfKeeps r (length hs) h → OuterKeeps r hs → StepSound r (step_before r (frame (length hs) h) (outers hs) n p) (outer_text hs ++ half_text h) p
before_sound r h hs n (connects c) deep half outer = primary_follows r h hs n (connector c) _ (connects c) (raw_leaf c) refl (deep ∙ sym (max-zero _)) refl half tt outer
before_sound r h hs n (names m) deep half outer = naming_follows r (r.known m) m h hs n _ refl deep refl half outer
before_sound r h hs n (opens b) deep half outer = opening_follows r (ltb (length (outers hs)) r.limit) b h hs n _ refl deep refl half outer
before_sound r h hs n (operates o) deep half outer = tt
before_sound r h hs n (closes b) deep half outer = tt
before_sound r h hs n (number cost) deep half outer = tt
before_sound r h hs n no_number deep half outer = tt
before_sound r h hs n ends deep half outer = tt
before_sound r h hs n wrong deep half outer = tt

-- the same with nothing before it
fresh_sound : (r : Rules) (hs : List Held) (p : Part) → OuterKeeps r hs → StepSound r (step_before r fresh (outers hs) (outer_reach hs) p) (outer_text hs) p
fresh_sound r hs p outer = subst (λ (x : List Part). StepSound r (step_before r fresh (outers hs) (outer_reach hs) p) x p) (append-nil (outer_text hs)) (before_sound r nothing hs (outer_reach hs) p (sym (max-zero _)) (tt, tt) outer)

closing_sound : (r : Rules) (o k : Bracket) (h : Half) (hs : List Held) (n : ℕ) (a : Alternatives) (front : List Part) → n ≡ max (max (outer_reach hs) (half_reach (length hs) h)) (max (suc (length hs)) (reach (suc (length hs)) a)) → outer_text hs ++ (half_text h ++ opens o ∷ spelled a) ≡ front
    → HalfKeeps r (length hs) h → length hs < r.limit → Keeps r (suc (length hs)) a → OuterKeeps r hs
    → StepSound r (closing o k (joined Or (members (suc (length hs)) a)) (frame (length hs) h) (outers hs) n) front (closes k)
closing_sound r Round Round h hs n a front deep e half lt keeps outer = primary_follows r h hs n (bracketed a) front (closes Round) _ refl deep (rw (← e) (simp append_assoc)) half (lt, keeps) outer
closing_sound r Curly Curly h hs n a front deep e half lt keeps outer = primary_follows r h hs n (braced a) front (closes Curly) _ refl deep (rw (← e) (simp append_assoc)) half (lt, keeps) outer
closing_sound r Square Square h hs n a front deep e half lt keeps outer =
    (at_cost h a hs, ap (at (closed (joined Or (members (suc (length hs)) a))) (frame (length hs) h) (outers hs)) (sym deep), rw (← e) (simp append_assoc), (half, (lt, keeps), outer))
closing_sound r Round Curly h hs n a front deep e half lt keeps outer = tt
closing_sound r Round Square h hs n a front deep e half lt keeps outer = tt
closing_sound r Curly Round h hs n a front deep e half lt keeps outer = tt
closing_sound r Curly Square h hs n a front deep e half lt keeps outer = tt
closing_sound r Square Round h hs n a front deep e half lt keeps outer = tt
closing_sound r Square Curly h hs n a front deep e half lt keeps outer = tt

tree_is : (depth : ℕ) (b : Option Alternatives) (f : Factors) → joined Or (members depth (ended b f)) ≡ value (record { alternatives = members_of depth b; factors = factors depth f })
tree_is depth b f = ap (joined Or) (ended_members depth b f)

after_sound : (r : Rules) (b : Option Alternatives) (f : Factors) (hs : List Held) (n : ℕ) (p : Part) → n ≡ max (outer_reach hs) (max (before_reach (length hs) b) (factors_reach (length hs) f)) → BeforeKeeps r (length hs) b → FactorsKeep r (length hs) f → OuterKeeps r hs
    → StepSound r (step_after (record { alternatives = members_of (length hs) b; factors = factors (length hs) f }) (outers hs) n p) (text (at_reached b f hs)) p
after_sound r b f hs n (operates And) deep before now outer =
    (at_primary (record { before = b; now = Some f }) hs, ap (at wanting (frame (length hs) (record { before = b; now = Some f })) (outers hs)) (sym deep), simp append_assoc, ((before, now), outer))
after_sound r b f hs n (operates Or) deep before now outer =
    let d = length hs in
    let same : max (outer_reach hs) (max (reach d (ended b f)) 0) ≡ n = ap (max (outer_reach hs)) (max-zero (reach d (ended b f)) ∙ ended_reach d b f) ∙ sym deep in (
      at_primary (record { before = Some (ended b f); now = None }) hs,
      (λ i. at wanting (record { alternatives = ended_members d b f i; factors = [] }) (outers hs) (same i)),
      simp (append_assoc, ended_text, append-nil),
      ((ended_keeps r d b f before now, tt), outer),
    )
after_sound r b f [] n (closes k) deep before now outer = tt
after_sound r b f (h ∷ hs) n (closes k) deep before now outer =
    let d = suc (length hs) in
    subst (λ (t : RawTree). StepSound r (closing h.bracket k t (frame (length hs) h.half) (outers hs) n) (text (at_reached b f (h ∷ hs))) (closes k)) (tree_is d b f)
    (closing_sound r h.bracket k h.half hs n (ended b f) (text (at_reached b f (h ∷ hs)))
    (deep ∙ max_assoc _ d _ ∙ ap (λ (x : ℕ). max (max (outer_reach hs) (half_reach (length hs) h.half)) (max d x)) (sym (ended_reach d b f)))
    (simp (append_assoc, ended_text)) outer.0 outer.1 (ended_keeps r d b f before now) outer.2)
after_sound r b f [] n ends deep before now outer =
    (ended b f, tree_is 0 b f, ended_text b f, refl, ended_keeps r 0 b f before now, sym (reach_all (ended b f)) ∙ ended_reach 0 b f ∙ sym (zero-max _) ∙ sym deep)
after_sound r b f (h ∷ hs) n ends deep before now outer = tt
after_sound r b f hs n (connects c) deep before now outer = tt
after_sound r b f hs n (names m) deep before now outer = tt
after_sound r b f hs n (opens k) deep before now outer = tt
after_sound r b f hs n (number cost) deep before now outer = tt
after_sound r b f hs n no_number deep before now outer = tt
after_sound r b f hs n wrong deep before now outer = tt

-- after a square bracket that no number follows
plain_sound : (r : Rules) (h : Half) (a : Alternatives) (hs : List Held) (p : Part) → NoNumber p → Fits r (at_cost h a hs) → StepSound r (step r (state (at_cost h a hs)) p) (text (at_cost h a hs)) p
plain_sound r h a hs p plain fits =
    let d = length hs in
    let f : Factors = with h.now (costly a) in
    let n : ℕ = max (max (outer_reach hs) (half_reach d h)) (primary_reach d (costly a)) in
    let deep : n ≡ max (outer_reach hs) (max (before_reach d h.before) (factors_reach d f)) =
    max_assoc (outer_reach hs) (half_reach d h) (primary_reach d (costly a))
    ∙ ap (max (outer_reach hs)) (max_assoc (before_reach d h.before) (now_reach d h.now) (primary_reach d (costly a)) ∙ ap (max (before_reach d h.before)) (sym (with_reach d h.now (costly a)))) in
    subst (λ (m : Move). StepSound r m (text (at_cost h a hs)) p) (sym (step_plain (joined Or (members (suc d) a)) (frame d h) (outers hs) n p plain))
    (subst (λ (ts : List RawTree). StepSound r (step_after (record { alternatives = members_of d h.before; factors = ts }) (outers hs) n p) (text (at_cost h a hs)) p) (with_factors d h.now (costly a))
    (subst (λ (x : List Part). StepSound r (step_after (record { alternatives = members_of d h.before; factors = factors d f }) (outers hs) n p) x p)
    (ap (λ (x : List Part). outer_text hs ++ (before_text h.before ++ x)) (with_text h.now (costly a)) ∙ sym (simp append_assoc))
    (after_sound r h.before f hs n p deep fits.0.0 (with_keeps r d h.now (costly a) fits.0.1 fits.1) fits.2)))

-- the round bracket that closes `()`
empty_reach : (h : Half) (hs : List Held) → outer_reach (rounded h ∷ hs) ≡ max (max (outer_reach hs) (half_reach (length hs) h)) (primary_reach (length hs) brackets)
empty_reach h hs = refl

pub step_sound : (r : Rules) (q : Stage) (p : Part) → Fits r q → StepSound r (step r (state q) p) (text q) p
step_sound r (at_opening h hs) (closes Round) fits = primary_follows r h hs (outer_reach (rounded h ∷ hs)) brackets (text (at_opening h hs)) (closes Round) raw_empty refl (empty_reach h hs) (simp append_assoc) fits.0 fits.1 fits.2
step_sound r (at_opening h hs) (closes Curly) fits = tt
step_sound r (at_opening h hs) (closes Square) fits = tt
step_sound r (at_opening h hs) (connects c) fits = fresh_sound r (rounded h ∷ hs) (connects c) fits
step_sound r (at_opening h hs) (names m) fits = fresh_sound r (rounded h ∷ hs) (names m) fits
step_sound r (at_opening h hs) (opens k) fits = fresh_sound r (rounded h ∷ hs) (opens k) fits
step_sound r (at_opening h hs) (operates o) fits = tt
step_sound r (at_opening h hs) (number cost) fits = tt
step_sound r (at_opening h hs) no_number fits = tt
step_sound r (at_opening h hs) ends fits = tt
step_sound r (at_opening h hs) wrong fits = tt
step_sound r (at_primary h hs) p fits = before_sound r h hs _ p refl fits.0 fits.1
step_sound r (at_reached b f hs) p fits = after_sound r b f hs _ p refl fits.0 fits.1 fits.2
step_sound r (at_cost h a hs) (number cost) fits = primary_follows r h hs _ (costing a cost) (text (at_cost h a hs)) (number cost) (raw_priced (joined Or (members (suc (length hs)) a)) cost) refl refl (simp append_assoc) fits.0 fits.1 fits.2
step_sound r (at_cost h a hs) no_number fits = tt
step_sound r (at_cost h a hs) (connects c) fits = plain_sound r h a hs (connects c) tt fits
step_sound r (at_cost h a hs) (names m) fits = plain_sound r h a hs (names m) tt fits
step_sound r (at_cost h a hs) (operates o) fits = plain_sound r h a hs (operates o) tt fits
step_sound r (at_cost h a hs) (opens k) fits = plain_sound r h a hs (opens k) tt fits
step_sound r (at_cost h a hs) (closes k) fits = plain_sound r h a hs (closes k) tt fits
step_sound r (at_cost h a hs) ends fits = plain_sound r h a hs ends tt fits
step_sound r (at_cost h a hs) wrong fits = plain_sound r h a hs wrong tt fits

-- ---- each stage is in some expression

-- the brackets closed round an expression
around : Bracket → Alternatives → Primary
around Round a = bracketed a
around Curly a = braced a
around Square a = costly a

around_text : (b : Bracket) (a : Alternatives) → primary_spelled (around b a) ≡ opens b ∷ (spelled a ++ closes b ∷ [])
unfolding around
around_text Round a = refl
around_text Curly a = refl
around_text Square a = refl

around_keeps : (r : Rules) (depth : ℕ) (b : Bracket) (a : Alternatives) → depth < r.limit → Keeps r (suc depth) a → PrimaryKeeps r depth (around b a)
unfolding around
around_keeps r depth Round a lt k = (lt, k)
around_keeps r depth Curly a lt k = (lt, k)
around_keeps r depth Square a lt k = (lt, k)

closed_all : List Held → Alternatives → Alternatives
closed_all [] a = a
closed_all (h ∷ hs) a = closed_all hs (ended h.half.before (with h.half.now (around h.bracket a)))

closers : List Held → List Part
closers [] = []
closers (h ∷ hs) = closes h.bracket ∷ closers hs

closed_text : (hs : List Held) (a : Alternatives) → spelled (closed_all hs a) ≡ outer_text hs ++ (spelled a ++ closers hs)
unfolding closed_all closers
closed_text [] a = sym (append-nil (spelled a))
closed_text (h ∷ hs) a = closed_text hs (ended h.half.before (with h.half.now (around h.bracket a))) ∙ simp (append_assoc, ended_text, with_text, around_text)

closed_keeps : (r : Rules) (hs : List Held) (a : Alternatives) → OuterKeeps r hs → Keeps r (length hs) a → Keeps r 0 (closed_all hs a)
unfolding closed_all
closed_keeps r [] a outer keeps = keeps
closed_keeps r (h ∷ hs) a outer keeps =
    closed_keeps r hs (ended h.half.before (with h.half.now (around h.bracket a))) outer.2
    (ended_keeps r (length hs) h.half.before (with h.half.now (around h.bracket a)) outer.0.0
    (with_keeps r (length hs) h.half.now (around h.bracket a) outer.0.1 (around_keeps r (length hs) h.bracket a outer.1 keeps)))

-- a primary that follows a half is followed by the closing brackets
half_begins : (r : Rules) (h : Half) (hs : List Held) (p : Primary) (front more : List Part) → front ++ more ≡ (outer_text hs ++ half_text h) ++ primary_spelled p → HalfKeeps r (length hs) h → PrimaryKeeps r (length hs) p → OuterKeeps r hs → Begins r front
half_begins r h hs p front more e half keeps outer =
    let a : Alternatives = ended h.before (with h.now p) in
    let t : ((outer_text hs ++ half_text h) ++ primary_spelled p) ++ closers hs ≡ outer_text hs ++ (spelled a ++ closers hs) = simp (append_assoc, ended_text, with_text) in (
      closed_all hs a,
      more ++ closers hs,
      closed_keeps r hs a outer (ended_keeps r (length hs) h.before (with h.now p) half.0 (with_keeps r (length hs) h.now p half.1 keeps)),
      sym (append_assoc front more (closers hs)) ∙ ap (λ (x : List Part). x ++ closers hs) e ∙ t ∙ sym (closed_text hs a),
    )

-- a primary that every stage allows
abbrev some_primary : Primary
some_primary = connector (record { caps = []; subs = []; multi = false; right = false })

-- a stage goes on to an expression's end
pub stage_begins : (r : Rules) (q : Stage) → Fits r q → Begins r (text q)
stage_begins r (at_opening h hs) fits = half_begins r h hs brackets (text (at_opening h hs)) (closes Round ∷ []) (simp append_assoc) fits.0 fits.1 fits.2
stage_begins r (at_primary h hs) fits = half_begins r h hs some_primary (text (at_primary h hs)) (primary_spelled some_primary) refl fits.0 tt fits.1
stage_begins r (at_reached b f hs) fits =
    (closed_all hs (ended b f), closers hs, closed_keeps r hs (ended b f) fits.2 (ended_keeps r (length hs) b f fits.0 fits.1), sym (closed_text hs (ended b f) ∙ simp (append_assoc, ended_text)))
stage_begins r (at_cost h a hs) fits = half_begins r h hs (costly a) (text (at_cost h a hs)) [] (append-nil _ ∙ sym (append_assoc (outer_text hs) (half_text h) (primary_spelled (costly a)))) fits.0 fits.1 fits.2
