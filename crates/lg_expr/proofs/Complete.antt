-- What the grammar spells, the automaton reads.
use Rattle.std.proofs.Common.{◌≡◌, ℕ, suc, ◌+◌, ◌<◌, max, List, [], ◌∷◌, ◌++◌, length, refl, sym, ap, ◌∙◌, append_assoc, arith, lt-ltb}
use Rattle.lg_gram.specs.Connectors.{Connector}
use Rattle.lg_gram.specs.RawTrees.{RawTree, raw_leaf, named, raw_priced}
use Rattle.lg_expr.specs.declared.part.Operator.TheVariants.{And, Or}
use Rattle.lg_expr.specs.declared.part.Bracket.{Bracket}
use Rattle.lg_expr.specs.declared.part.Bracket.TheVariants.{Round, Curly, Square}
use Rattle.lg_expr.specs.declared.macros.Known.{Known}
use Rattle.lg_expr.specs.declared.macros.Known.TheVariants.{Unknown, Free, Leveled}
use Rattle.lg_expr.specs.Parts.{Part, connects, names, operates, opens, closes, number, no_number, ends, wrong}
use Rattle.lg_expr.specs.Grammar.{joined, optional, BRACKET_COST, Alternatives, alternative, or_else, Factors, factor, and_then, Primary, connector, macro, brackets, bracketed, braced, costly, costing, spelled, factors_spelled, primary_spelled, members, factors, meaning, tree, level, Rules, Admits, Keeps, FactorsKeep, PrimaryKeeps}
use Rattle.lg_expr.specs.Automaton.{Frame, Outer, fresh, with_factor, Phase, opened, wanting, reached, closed, State, Move, start, after, inside, naming, step_after, step_closed, Answer, read, follow, run}
use Rattle.lg_expr.proofs.Reach.{max_assoc, max-zero, zero-max, reach, factors_reach, primary_reach, reach_all}

-- the automaton over parts themselves
abbrev pub follow_parts : (State → Answer Part) → Move → Part → List Part → Answer Part
follow_parts next m p ps = follow Part (λ q. q) next m p ps

abbrev pub run_parts : Rules → State → List Part → Answer Part
run_parts r s ps = run Part (λ q. q) r s ps

-- a primary may begin
abbrev pub IsBefore : Phase → Type 0
IsBefore opened = Unit {0}
IsBefore wanting = Unit {0}
IsBefore reached = ⊥
IsBefore (closed t) = ⊥

abbrev pub at : Phase → Frame → List Outer → ℕ → State
at ph f outer deepest = record { phase = ph; here = f; outer = outer; deepest = deepest }

abbrev pub open_at : Bracket → Frame → Outer
open_at b f = record { bracket = b; frame = f }

abbrev with_factors : Frame → List RawTree → Frame
with_factors f ts = record { alternatives = f.alternatives; factors = f.factors ++ ts }

-- the members before the last, and the factors of the last
abbrev pub fronts : ℕ → Alternatives → List RawTree
fronts depth (alternative f) = []
fronts depth (or_else a f) = members depth a

abbrev pub last : ℕ → Alternatives → List RawTree
last depth (alternative f) = factors depth f
last depth (or_else a f) = factors depth f

pub members_are : (depth : ℕ) (a : Alternatives) → members depth a ≡ fronts depth a ++ joined And (last depth a) ∷ []
members_are depth (alternative f) = refl
members_are depth (or_else a f) = refl

abbrev pub NoNumber : Part → Type 0
NoNumber (connects c) = Unit {0}
NoNumber (names m) = Unit {0}
NoNumber (operates o) = Unit {0}
NoNumber (opens b) = Unit {0}
NoNumber (closes b) = Unit {0}
NoNumber (number cost) = ⊥
NoNumber no_number = ⊥
NoNumber ends = Unit {0}
NoNumber wrong = Unit {0}

-- no number stands next
abbrev pub Plain : List Part → Type 0
Plain [] = Unit {0}
Plain (p ∷ ps) = NoNumber p

pub step_plain : (t : RawTree) (f : Frame) (outer : List Outer) (n : ℕ) (p : Part) → NoNumber p → step_closed t f outer n p ≡ step_after (with_factor f (raw_priced t BRACKET_COST)) outer n p
step_plain t f outer n (connects c) h = refl
step_plain t f outer n (names m) h = refl
step_plain t f outer n (operates o) h = refl
step_plain t f outer n (opens b) h = refl
step_plain t f outer n (closes b) h = refl
step_plain t f outer n (number cost) h = absurd h
step_plain t f outer n no_number h = absurd h
step_plain t f outer n ends h = refl
step_plain t f outer n wrong h = refl

run_closed : (r : Rules) (t : RawTree) (f : Frame) (outer : List Outer) (n : ℕ) (ps : List Part) → Plain ps → run_parts r (at (closed t) f outer n) ps ≡ run_parts r (at reached (with_factor f (raw_priced t BRACKET_COST)) outer n) ps
run_closed r t f outer n [] h = refl
run_closed r t f outer n (p ∷ ps) h = ap (λ (m : Move). follow_parts (λ s. run_parts r s ps) m p ps) (step_plain t f outer n p h)

run_open : (r : Rules) (ph : Phase) (f : Frame) (outer : List Outer) (n : ℕ) (b : Bracket) (ps : List Part) → IsBefore ph → length outer < r.limit → run_parts r (at ph f outer n) (opens b ∷ ps) ≡ run_parts r (inside b f outer n) ps
run_open r opened f outer n b ps h lt = rw (lt-ltb (length outer) r.limit lt) refl
run_open r wanting f outer n b ps h lt = rw (lt-ltb (length outer) r.limit lt) refl
run_open r reached f outer n b ps h lt = absurd h
run_open r (closed t) f outer n b ps h lt = absurd h

run_connector : (r : Rules) (ph : Phase) (f : Frame) (outer : List Outer) (n : ℕ) (c : Connector) (ps : List Part) → IsBefore ph → run_parts r (at ph f outer n) (connects c ∷ ps) ≡ run_parts r (at reached (with_factor f (raw_leaf c)) outer n) ps
run_connector r opened f outer n c ps h = refl
run_connector r wanting f outer n c ps h = refl
run_connector r reached f outer n c ps h = absurd h
run_connector r (closed t) f outer n c ps h = absurd h

pub named_at : (k : Known) (limit : ℕ) (m : List ℕ) (f : Frame) (outer : List Outer) (n : ℕ) → Admits k (length outer) limit → naming k limit m f outer n ≡ after f outer n (named m (length outer))
named_at Unknown limit m f outer n h = absurd h
named_at Free limit m f outer n h = refl
named_at (Leveled own) limit m f outer n h = rw (lt-ltb (own + length outer) limit (omega arith)) refl

run_macro : (r : Rules) (ph : Phase) (f : Frame) (outer : List Outer) (n : ℕ) (m : List ℕ) (ps : List Part) → IsBefore ph → Admits (r.known m) (length outer) r.limit → run_parts r (at ph f outer n) (names m ∷ ps) ≡ run_parts r (at reached (with_factor f (named m (length outer))) outer n) ps
run_macro r opened f outer n m ps h k = ap (λ (x : Move). follow_parts (λ s. run_parts r s ps) x (names m) ps) (named_at (r.known m) r.limit m f outer n k)
run_macro r wanting f outer n m ps h k = ap (λ (x : Move). follow_parts (λ s. run_parts r s ps) x (names m) ps) (named_at (r.known m) r.limit m f outer n k)
run_macro r reached f outer n m ps h k = absurd h
run_macro r (closed t) f outer n m ps h k = absurd h

mutual
  reads : (a : Alternatives) (r : Rules) (ph : Phase) (outer : List Outer) (n : ℕ) (rest : List Part) → IsBefore ph → Keeps r (length outer) a → Plain rest
      → run_parts r (at ph fresh outer n) (spelled a ++ rest) ≡ run_parts r (at reached (record { alternatives = fronts (length outer) a; factors = last (length outer) a }) outer (max n (reach (length outer) a))) rest
  reads (alternative f) r ph outer n rest h k plain = reads_factors f r ph fresh outer n rest h k plain
  reads (or_else a f) r ph outer n rest h k plain =
      let d = length outer in
      rw append_assoc (reads a r ph outer n (operates Or ∷ (factors_spelled f ++ rest)) h k.0 tt
      ∙ ap (λ (ms : List RawTree). run_parts r (at wanting (record { alternatives = ms; factors = [] }) outer (max n (reach d a))) (factors_spelled f ++ rest)) (sym (members_are d a))
      ∙ reads_factors f r wanting (record { alternatives = members d a; factors = [] }) outer (max n (reach d a)) rest tt k.1 plain
      ∙ ap (λ (x : ℕ). run_parts r (at reached (record { alternatives = members d a; factors = factors d f }) outer x) rest) (max_assoc n (reach d a) (factors_reach d f)))

  reads_factors : (fs : Factors) (r : Rules) (ph : Phase) (f : Frame) (outer : List Outer) (n : ℕ) (rest : List Part) → IsBefore ph → FactorsKeep r (length outer) fs → Plain rest
      → run_parts r (at ph f outer n) (factors_spelled fs ++ rest) ≡ run_parts r (at reached (with_factors f (factors (length outer) fs)) outer (max n (factors_reach (length outer) fs))) rest
  reads_factors (factor p) r ph f outer n rest h k plain = reads_primary p r ph f outer n rest h k plain
  reads_factors (and_then fs p) r ph f outer n rest h k plain =
      let d = length outer in
      rw append_assoc (reads_factors fs r ph f outer n (operates And ∷ (primary_spelled p ++ rest)) h k.0 tt
      ∙ reads_primary p r wanting (with_factors f (factors d fs)) outer (max n (factors_reach d fs)) rest tt k.1 plain
      ∙ (λ i. run_parts r (at reached (record { alternatives = f.alternatives; factors = append_assoc f.factors (factors d fs) (meaning d p ∷ []) i }) outer (max_assoc n (factors_reach d fs) (primary_reach d p) i)) rest))

  reads_primary : (p : Primary) (r : Rules) (ph : Phase) (f : Frame) (outer : List Outer) (n : ℕ) (rest : List Part) → IsBefore ph → PrimaryKeeps r (length outer) p → Plain rest
      → run_parts r (at ph f outer n) (primary_spelled p ++ rest) ≡ run_parts r (at reached (with_factor f (meaning (length outer) p)) outer (max n (primary_reach (length outer) p))) rest
  reads_primary (connector c) r ph f outer n rest h k plain =
      run_connector r ph f outer n c rest h
      ∙ ap (λ (x : ℕ). run_parts r (at reached (with_factor f (raw_leaf c)) outer x) rest) (sym (max-zero n))
  reads_primary (macro m) r ph f outer n rest h k plain =
      run_macro r ph f outer n m rest h k
      ∙ ap (λ (x : ℕ). run_parts r (at reached (with_factor f (named m (length outer))) outer x) rest) (sym (max-zero n))
  reads_primary brackets r ph f outer n rest h k plain = run_open r ph f outer n Round (closes Round ∷ rest) h k
  reads_primary (bracketed a) r ph f outer n rest h k plain =
      let d = suc (length outer) in
      run_open r ph f outer n Round ((spelled a ++ closes Round ∷ []) ++ rest) h k.0
      ∙ rw append_assoc (reads a r opened (open_at Round f ∷ outer) (max n d) (closes Round ∷ rest) tt k.1 tt)
      ∙ (λ i. run_parts r (at reached (with_factor f (joined Or (sym (members_are d a) i))) outer (max_assoc n d (reach d a) i)) rest)
  reads_primary (braced a) r ph f outer n rest h k plain =
      let d = suc (length outer) in
      run_open r ph f outer n Curly ((spelled a ++ closes Curly ∷ []) ++ rest) h k.0
      ∙ rw append_assoc (reads a r wanting (open_at Curly f ∷ outer) (max n d) (closes Curly ∷ rest) tt k.1 tt)
      ∙ (λ i. run_parts r (at reached (with_factor f (optional (joined Or (sym (members_are d a) i)))) outer (max_assoc n d (reach d a) i)) rest)
  reads_primary (costly a) r ph f outer n rest h k plain =
      let d = suc (length outer) in
      run_open r ph f outer n Square ((spelled a ++ closes Square ∷ []) ++ rest) h k.0
      ∙ rw append_assoc (reads a r wanting (open_at Square f ∷ outer) (max n d) (closes Square ∷ rest) tt k.1 tt)
      ∙ (λ i. run_parts r (at (closed (joined Or (sym (members_are d a) i))) f outer (max_assoc n d (reach d a) i)) rest)
      ∙ run_closed r (joined Or (members d a)) f outer (max n (max d (reach d a))) rest plain
  reads_primary (costing a cost) r ph f outer n rest h k plain =
      let d = suc (length outer) in
      run_open r ph f outer n Square ((spelled a ++ closes Square ∷ number cost ∷ []) ++ rest) h k.0
      ∙ rw append_assoc (reads a r wanting (open_at Square f ∷ outer) (max n d) (closes Square ∷ number cost ∷ rest) tt k.1 tt)
      ∙ (λ i. run_parts r (at reached (with_factor f (raw_priced (joined Or (sym (members_are d a) i)) cost)) outer (max_assoc n d (reach d a) i)) rest)

-- an expression with its end is read, up to what follows
pub complete : (r : Rules) (a : Alternatives) (rest : List Part) → Keeps r 0 a → run_parts r start (spelled a ++ ends ∷ rest) ≡ read (tree a) (level a) rest
complete r a rest k =
    reads a r wanting [] 0 (ends ∷ rest) tt k tt
    ∙ (λ i. read (joined Or (sym (members_are 0 a) i)) ((zero-max (reach 0 a) ∙ reach_all a) i) rest)
