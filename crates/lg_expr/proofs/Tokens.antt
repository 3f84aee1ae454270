-- Over tokens: the automaton's answer is what the tokens stand for, or their first fault, and each of these is its answer.
use Rattle.std.proofs.Common.{◌≡◌, ℕ, List, [], ◌∷◌, ◌++◌, length, map, drop, refl, sym, ap, subst, ◌∙◌, append_assoc, arith}
use Rattle.std.proofs.lemmas.List.{length-append, length-map, drop_at, map-append}
use Rattle.lg_expr.specs.declared.fault.Fault.{Fault}
use Rattle.lg_expr.specs.Parts.{Part, ends}
use Rattle.lg_expr.specs.Grammar.{spelled, Rules}
use Rattle.lg_expr.specs.Automaton.{State, Move, goes, done, refused, start, step, Answer, read, stopped, follow, run}
use Rattle.lg_expr.specs.Reading.{Begins, Stops, AnswerIs}
use Rattle.lg_expr.proofs.Complete.{follow_parts, run_parts, complete}
use Rattle.lg_expr.proofs.First.{Taken, taken_start, taken_step, begins, stops_at, done_is, fault_runs, end_runs}

-- what follows two fronts, where it is as long, is the same
pub suffix_same : {T : Type 0} (a b c d : List T) → a ++ b ≡ c ++ d → length b ≡ length d → b ≡ d
suffix_same a b c d e n =
    let same : length a ≡ length c = omega (arith, ap length e, length-append a b, length-append c d) in
    sym (drop_at a b (length a) refl) ∙ ap (drop (length a)) e ∙ ap (λ (k : ℕ). drop k (c ++ d)) same ∙ drop_at c d (length c) refl

module _ (T : Type 0) (part : T → Part) where
  -- ---- the automaton's answer is so

  push_part : (front : List T) (t : T) → map part front ++ part t ∷ [] ≡ map part (front ++ t ∷ [])
  push_part front t = sym (map-append part front (t ∷ []))

  moved : (r : Rules) (front : List T) (s : State) (t : T) (ts all : List T) (m : Move) → Taken r (map part front) s → all ≡ front ++ t ∷ ts → step r s (part t) ≡ m
      → ((x : State) → Taken r (map part (front ++ t ∷ [])) x → AnswerIs T part r all (run T part r x ts)) → AnswerIs T part r all (follow T part (λ x. run T part r x ts) m t ts)
  moved r front s t ts all (goes x) taken split e next = next x (subst (λ (l : List Part). Taken r l x) (push_part front t) (taken_step r (map part front) s x (part t) taken e))
  moved r front s t ts all (done x n) taken split e next =
      let d = done_is r (map part front) s (part t) x n taken e in
      record {
        front = front ++ t ∷ [];
        derivation = d.0;
        split = split ∙ sym (append_assoc front (t ∷ []) ts);
        spells = sym (push_part front t) ∙ (λ i. sym d.2 i ++ d.3 i ∷ []);
        keeps = d.4;
        means = d.1;
        level_is = d.5;
      }
  moved r front s t ts all (refused f) taken split e next =
      record { front = front; split = split; begins = begins r (map part front) s taken; stops = stops_at r (map part front) s (part t) f taken e }

  answer_from : (r : Rules) (ts front all : List T) (s : State) → Taken r (map part front) s → all ≡ front ++ ts → AnswerIs T part r all (run T part r s ts)
  answer_from r [] front all s taken split = record { front = front; split = split; begins = begins r (map part front) s taken; stops = tt }
  answer_from r (t ∷ ts) front all s taken split =
      moved r front s t ts all (step r s (part t)) taken split refl
      (λ x next. answer_from r ts (front ++ t ∷ []) all x next (split ∙ sym (append_assoc front (t ∷ []) ts)))

  pub answer_is : (r : Rules) (ts : List T) → AnswerIs T part r ts (run T part r start ts)
  answer_is r ts = answer_from r ts [] ts start (taken_start r) refl

  -- ---- and what is so, it answers

  -- an answer over tokens, as one over their parts
  abbrev mapped : Answer T → Answer Part
  mapped (read e n rest) = read e n (map part rest)
  mapped (stopped fault rest) = stopped fault (map part rest)

  abbrev left : Answer T → List T
  left (read e n rest) = rest
  left (stopped fault rest) = rest

  follow_mapped : (f : State → Answer Part) (g : State → Answer T) (m : Move) (t : T) (ts : List T) → ((s : State) → f s ≡ mapped (g s)) → follow_parts f m (part t) (map part ts) ≡ mapped (follow T part g m t ts)
  follow_mapped f g (goes s) t ts h = h s
  follow_mapped f g (done e n) t ts h = refl
  follow_mapped f g (refused fault) t ts h = refl

  runs_mapped : (r : Rules) (ts : List T) (s : State) → run_parts r s (map part ts) ≡ mapped (run T part r s ts)
  runs_mapped r [] s = refl
  runs_mapped r (t ∷ ts) s = follow_mapped (λ x. run_parts r x (map part ts)) (λ x. run T part r x ts) (step r s (part t)) t ts (λ x. runs_mapped r ts x)

  abbrev EndsWith : List T → List T → Type 0
  EndsWith ts rest = (front : List T) × (ts ≡ front ++ rest)

  follow_left : (g : State → Answer T) (m : Move) (t : T) (ts : List T) → ((s : State) → EndsWith ts (left (g s))) → EndsWith (t ∷ ts) (left (follow T part g m t ts))
  follow_left g (goes s) t ts h = let e = h s in (t ∷ e.0, ap (λ (l : List T). t ∷ l) e.1)
  follow_left g (done e n) t ts h = (t ∷ [], refl)
  follow_left g (refused fault) t ts h = ([], refl)

  -- what is left is a rest of the tokens
  pub runs_left : (r : Rules) (ts : List T) (s : State) → EndsWith ts (left (run T part r s ts))
  runs_left r [] s = ([], refl)
  runs_left r (t ∷ ts) s = follow_left (λ x. run T part r x ts) (step r s (part t)) t ts (λ x. runs_left r ts x)

  parts_split : (ts front rest : List T) → ts ≡ front ++ rest → map part ts ≡ map part front ++ map part rest
  parts_split ts front rest split = ap (map part) split ∙ map-append part front rest

  stops_run : (r : Rules) (front rest : List T) (fault : Fault) → Begins r (map part front) → Stops T part r fault (map part front) rest → run_parts r start (map part front ++ map part rest) ≡ stopped fault (map part rest)
  stops_run r front [] fault b h = end_runs r (map part front) fault b h
  stops_run r front (t ∷ rest) fault b h = fault_runs r (map part front) (part t) (map part rest) fault b h

  -- over parts, an answer that is so is the automaton's
  parts_answer : (r : Rules) (ts : List T) (x : Answer T) → AnswerIs T part r ts x → run_parts r start (map part ts) ≡ mapped x
  parts_answer r ts (read e n rest) h =
      ap (run_parts r start) (parts_split ts h.front rest h.split ∙ ap (λ (l : List Part). l ++ map part rest) h.spells ∙ append_assoc (spelled h.derivation) (ends ∷ []) (map part rest))
      ∙ complete r h.derivation (map part rest) h.keeps
      ∙ (λ i. read (h.means i) (h.level_is i) (map part rest))
  parts_answer r ts (stopped fault rest) h =
      ap (run_parts r start) (parts_split ts h.front rest h.split) ∙ stops_run r h.front rest fault h.begins h.stops

  -- an answer is told by its parts and what is left
  answer_ends : (r : Rules) (ts : List T) (x : Answer T) → AnswerIs T part r ts x → EndsWith ts (left x)
  answer_ends r ts (read e n rest) h = (h.front, h.split)
  answer_ends r ts (stopped fault rest) h = (h.front, h.split)

  same_left : (ts us vs : List T) → EndsWith ts us → EndsWith ts vs → map part us ≡ map part vs → us ≡ vs
  same_left ts us vs a b e = suffix_same a.0 us b.0 vs (sym a.1 ∙ b.1) (sym (length-map us part) ∙ ap length e ∙ length-map vs part)

  same_answer : (ts : List T) (x y : Answer T) → EndsWith ts (left x) → EndsWith ts (left y) → mapped x ≡ mapped y → x ≡ y
  same_answer ts (read d m us) (read e n vs) a b is =
      let same : us ≡ vs = same_left ts us vs a b cc in
      let trees : d ≡ e = cc in
      let levels : m ≡ n = cc in
      (λ i. read (trees i) (levels i) (same i))
  same_answer ts (read d m us) (stopped fault vs) a b is = absurd cc
  same_answer ts (stopped fault us) (read e n vs) a b is = absurd cc
  same_answer ts (stopped fault us) (stopped other vs) a b is =
      let same : us ≡ vs = same_left ts us vs a b cc in
      let faults : fault ≡ other = cc in
      (λ i. stopped (faults i) (same i))

  pub is_answer : (r : Rules) (ts : List T) (x : Answer T) → AnswerIs T part r ts x → run T part r start ts ≡ x
  is_answer r ts x h = same_answer ts (run T part r start ts) x (runs_left r ts start) (answer_ends r ts x h) (sym (runs_mapped r ts start) ∙ parts_answer r ts x h)

  -- exactly one: an expression, or a first fault
  pub one_answer : (r : Rules) (ts : List T) (x y : Answer T) → AnswerIs T part r ts x → AnswerIs T part r ts y → x ≡ y
  one_answer r ts x y h k = sym (is_answer r ts x h) ∙ is_answer r ts y k
