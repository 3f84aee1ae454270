-- Over parts: the automaton's answer is what the parts stand for, or their first fault, and each of these is its answer.
use Rattle.std.proofs.Common.{◌≡◌, ℕ, ◌+◌, max, List, [], ◌∷◌, ◌++◌, pos, inl, inr, length, None, refl, sym, ap, subst, ◌∙◌, append_assoc, arith}
use Rattle.std.proofs.lemmas.List.{append-nil}
use Rattle.lg_gram.specs.RawTrees.{RawTree, raw_priced}
use Rattle.lg_expr.specs.declared.macros.Known.TheVariants.{Unknown}
use Rattle.lg_expr.specs.declared.fault.Fault.{Fault}
use Rattle.lg_expr.specs.declared.fault.Fault.TheVariants.{Syntax, CostForm, UnknownMacro, TooDeep}
use Rattle.lg_expr.specs.Parts.{Part, names, opens, number, no_number, ends}
use Rattle.lg_expr.specs.Grammar.{tree, level, Rules}
use Rattle.lg_expr.specs.Automaton.{with_factor, Phase, reached, State, Move, goes, done, refused, start, step_in, step, read, stopped}
use Rattle.lg_expr.specs.Reading.{Begins, MayFollow, MayFollowAtAll, StopsAt, StopsAtEnd}
use Rattle.lg_expr.proofs.Complete.{at, follow_parts, run_parts, complete}
use Rattle.lg_expr.proofs.Sound.{Stage, at_primary, state, text, Fits, StepSound, step_sound, stage_begins}
use Rattle.lg_expr.proofs.Laxer.{Laxer, laxer_self, laxer_laxer, all_free, laxer_all_free, laxer_limit, keeps_lax, fits_lax, lax_step}
use Rattle.lg_expr.proofs.Refusals.{Refuses, refuses_in, opens_in, named_in, freely_in, number_in, no_number_refused, unknown_refused}

-- ---- what a front has taken

-- The state that a front leads to, as a stage in derivations. Whatever laxer rules read from there, they read after the front.
pub record Taken (r : Rules) (front : List Part) (s : State) : Type 0 where
  pub stage : Stage
  pub state_is : state stage ≡ s
  pub text_is : text stage ≡ front
  pub fits : Fits r stage
  pub runs : (any : Rules) → Laxer r any → (ps : List Part) → run_parts any start (front ++ ps) ≡ run_parts any s ps

pub taken_start : (r : Rules) → Taken r [] start
taken_start r = record { stage = at_primary (record { before = None; now = None }) []; state_is = refl; text_is = refl; fits = ((tt, tt), tt); runs = λ any lax ps. refl }

taken_lax : (r any : Rules) (front : List Part) (s : State) → Laxer r any → Taken r front s → Taken any front s
taken_lax r any front s lax taken = record {
  stage = taken.stage;
  state_is = taken.state_is;
  text_is = taken.text_is;
  fits = fits_lax r any taken.stage lax taken.fits;
  runs = λ more h ps. taken.runs more (laxer_laxer r any more lax h) ps;
}

pub taken_step : (r : Rules) (front : List Part) (s t : State) (p : Part) → Taken r front s → step r s p ≡ goes t → Taken r (front ++ p ∷ []) t
taken_step r front s t p taken e =
    let sound = step_sound r taken.stage p taken.fits in
    let moved : StepSound r (goes t) (text taken.stage) p = subst (λ (m : Move). StepSound r m (text taken.stage) p) (ap (λ (x : State). step r x p) taken.state_is ∙ e) sound in
    record {
      stage = moved.0;
      state_is = moved.1;
      text_is = moved.2 ∙ ap (λ (x : List Part). x ++ p ∷ []) taken.text_is;
      fits = moved.3;
      runs = λ any lax ps. ap (run_parts any start) (append_assoc front (p ∷ []) ps) ∙ taken.runs any lax (p ∷ ps) ∙ ap (λ (m : Move). follow_parts (λ x. run_parts any x ps) m p ps) (lax_step r any s t p lax e);
    }

-- ---- refusals

begins_follow : (r : Rules) (front : List Part) (p : Part) → Begins r (front ++ p ∷ []) → MayFollow r front p
begins_follow r front p b = (b.0, b.1 ++ ends ∷ [], b.2, sym (simp append_assoc) ∙ ap (λ (x : List Part). x ++ ends ∷ []) b.3)

pub begins : (r : Rules) (front : List Part) (s : State) → Taken r front s → Begins r front
begins r front s taken = subst (Begins r) taken.text_is (stage_begins r taken.stage taken.fits)

-- where a step goes on, the part may follow
goes_follow : (r : Rules) (front : List Part) (s t : State) (p : Part) → Taken r front s → step r s p ≡ goes t → MayFollow r front p
goes_follow r front s t p taken e = begins_follow r front p (begins r (front ++ p ∷ []) t (taken_step r front s t p taken e))

-- where it is refused, it may not
not_follow : (r any : Rules) (front : List Part) (s : State) (p : Part) (e : Fault) → Taken r front s → Laxer r any → step any s p ≡ refused e → MayFollow any front p → ⊥
not_follow r any front s p e taken lax is f =
    let one : run_parts any start (front ++ p ∷ f.1) ≡ stopped e (p ∷ f.1) = taken.runs any lax (p ∷ f.1) ∙ ap (λ (m : Move). follow_parts (λ x. run_parts any x f.1) m p f.1) is in
    let other : run_parts any start (front ++ p ∷ f.1) ≡ read (tree f.0) (level f.0) [] = ap (run_parts any start) f.3 ∙ complete any f.0 [] f.2 in
    cc

-- what is never taken may never follow
never : (r : Rules) (front : List Part) (s : State) (p : Part) → Taken r front s → ((any : Rules) → (e : Fault) × (step any s p ≡ refused e)) → MayFollowAtAll front p → ⊥
never r front s p taken h f =
    let top = all_free (max r.limit f.0.limit) in
    let lax : Laxer f.0 top = laxer_all_free f.0 (max r.limit f.0.limit) (omega arith) in
    not_follow r top front s p (h top).0 taken (laxer_all_free r (max r.limit f.0.limit) (omega arith)) (h top).1 (f.1.0, f.1.1, keeps_lax f.1.0 f.0 top 0 lax f.1.2, f.1.3)

-- why the automaton refuses is why the parts stop
stop_of : (r : Rules) (front : List Part) (s : State) (p : Part) (e : Fault) → Taken r front s → step r s p ≡ refused e → Refuses r s.phase s.here s.outer s.deepest p e → StopsAt r e front p
stop_of r front s p Syntax taken e k =
    (never r front s p taken (λ any. (Syntax, k any)), λ bad. never r front s (number (pos 0)) taken (λ any. (Syntax, number_in any s.phase s.here s.outer s.deepest (subst (λ (x : Part). step_in any s.phase s.here s.outer s.deepest x ≡ refused Syntax) bad.0 (k any)))) bad.1)
stop_of r front s p CostForm taken e (is, t, ph) =
    (is, (r, goes_follow r front s (at reached (with_factor s.here (raw_priced t (pos 0))) s.outer s.deepest) (number (pos 0)) taken (ap (λ (x : Phase). step_in r x s.here s.outer s.deepest (number (pos 0))) ph)))
stop_of r front s p UnknownMacro taken e (m, is, none, before) =
    let any = all_free r.limit in
    (m, is, none, (any, subst (MayFollow any front) (sym is) (goes_follow any front s _ (names m) (taken_lax r any front s (laxer_all_free r r.limit (omega arith)) taken) (freely_in any s.phase s.here s.outer s.deepest m before refl))))
stop_of r front s p TooDeep taken e (inl (k, is, before)) =
    let n = r.limit + (1 + length s.outer) in
    let any : Rules = record r { limit = n } in
    (n, subst (MayFollow any front) (sym is) (goes_follow any front s _ (opens k) (taken_lax r any front s (laxer_limit r n (omega arith)) taken) (opens_in any s.phase s.here s.outer s.deepest k before (omega arith))), not_follow r r front s p TooDeep taken (laxer_self r) e)
stop_of r front s p TooDeep taken e (inr (m, own, is, known, before)) =
    let n = r.limit + (1 + (own + length s.outer)) in
    let any : Rules = record r { limit = n } in
    (n, subst (MayFollow any front) (sym is) (goes_follow any front s _ (names m) (taken_lax r any front s (laxer_limit r n (omega arith)) taken) (named_in any s.phase s.here s.outer s.deepest m own before known (omega arith))), not_follow r r front s p TooDeep taken (laxer_self r) e)

pub stops_at : (r : Rules) (front : List Part) (s : State) (p : Part) (e : Fault) → Taken r front s → step r s p ≡ refused e → StopsAt r e front p
stops_at r front s p e taken is = stop_of r front s p e taken is (refuses_in r s.phase s.here s.outer s.deepest p e is)

pub done_is : (r : Rules) (front : List Part) (s : State) (p : Part) (t : RawTree) (n : ℕ) → Taken r front s → step r s p ≡ done t n → StepSound r (done t n) front p
done_is r front s p t n taken e =
    subst (λ (m : Move). StepSound r m front p) e
    (subst (λ (x : State). StepSound r (step r x p) front p) taken.state_is
    (subst (λ (x : List Part). StepSound r (step r (state taken.stage) p) x p) taken.text_is (step_sound r taken.stage p taken.fits)))

-- ---- each front that begins an expression is taken

walk_step : (r : Rules) (front : List Part) (s : State) (p q : Part) (ps more : List Part) (t : RawTree) (n : ℕ) (m : Move) → Taken r front s → step r s p ≡ m
    → follow_parts (λ x. run_parts r x (ps ++ q ∷ more)) m p (ps ++ q ∷ more) ≡ read t n []
    → ((x : State) → Taken r (front ++ p ∷ []) x → run_parts r x (ps ++ q ∷ more) ≡ read t n [] → (y : State) × Taken r ((front ++ p ∷ []) ++ ps) y)
    → (y : State) × Taken r (front ++ p ∷ ps) y
walk_step r front s p q ps more t n (goes x) taken e runs next =
    let further = next x (taken_step r front s x p taken e) runs in
    (further.0, subst (λ (l : List Part). Taken r l further.0) (append_assoc front (p ∷ []) ps) further.1)
walk_step r front s p q [] more t n (done x k) taken e runs next = absurd cc
walk_step r front s p q (o ∷ ps) more t n (done x k) taken e runs next = absurd cc
walk_step r front s p q ps more t n (refused f) taken e runs next = absurd cc

walk : (r : Rules) (ps front more : List Part) (s : State) (q : Part) (t : RawTree) (n : ℕ) → Taken r front s → run_parts r s (ps ++ q ∷ more) ≡ read t n [] → (y : State) × Taken r (front ++ ps) y
walk r [] front more s q t n taken runs = (s, subst (λ (l : List Part). Taken r l s) (sym (append-nil front)) taken)
walk r (p ∷ ps) front more s q t n taken runs =
    walk_step r front s p q ps more t n (step r s p) taken refl runs
    (λ x next h. walk r ps (front ++ p ∷ []) more x q t n next h)

next_part : (r : Rules) (front : List Part) → Begins r front → (q : Part) × MayFollow r front q
next_part r front (a, [], k, is) = (ends, (a, [], k, ap (λ (l : List Part). l ++ ends ∷ []) (sym (append-nil front) ∙ is)))
next_part r front (a, q ∷ more, k, is) = (q, (a, more ++ ends ∷ [], k, sym (append_assoc front (q ∷ more) (ends ∷ [])) ∙ ap (λ (l : List Part). l ++ ends ∷ []) is))

pub begun : (r : Rules) (front : List Part) → Begins r front → (y : State) × Taken r front y
begun r front b =
    let n = next_part r front b in
    let f = n.1 in
    walk r front [] f.1 start n.0 (tree f.0) (level f.0) (taken_start r) (ap (run_parts r start) f.3 ∙ complete r f.0 [] f.2)

-- ---- no two faults at one part

-- a macro that is not known may not follow, however many brackets may be open
not_unknown : (r : Rules) (front : List Part) (s : State) (m : List ℕ) (n : ℕ) → Taken r front s → r.known m ≡ Unknown → MayFollow (record r { limit = n }) front (names m) → ⊥
not_unknown r front s m n taken is f =
    let low : Rules = record r { limit = n } in
    let any : Rules = record r { limit = max r.limit n } in
    let no = unknown_refused any s.phase s.here s.outer s.deepest m is in
    not_follow r any front s (names m) no.0 taken (laxer_limit r (max r.limit n) (omega arith)) no.1 (f.0, f.1, keeps_lax f.0 low any 0 (laxer_limit low (max r.limit n) (omega arith)) f.2, f.3)

not_stopped : (r : Rules) (front : List Part) (s : State) (p : Part) (e : Fault) → Taken r front s → StopsAt r e front p → MayFollow r front p → ⊥
not_stopped r front s p Syntax taken h f = h.0 (r, f)
not_stopped r front s p CostForm taken h f = never r front s no_number taken (λ any. no_number_refused any s.phase s.here s.outer s.deepest) (r, subst (MayFollow r front) h.0 f)
not_stopped r front s p UnknownMacro taken h f = not_unknown r front s h.0 r.limit taken h.2 (subst (MayFollow r front) h.1 f)
not_stopped r front s p TooDeep taken h f = h.2 f

cost_or_deep : (r : Rules) (front : List Part) (s : State) (p : Part) (n : ℕ) → Taken r front s → p ≡ no_number → MayFollow (record r { limit = n }) front p → ⊥
cost_or_deep r front s p n taken is f = never r front s no_number taken (λ any. no_number_refused any s.phase s.here s.outer s.deepest) (record r { limit = n }, subst (MayFollow (record r { limit = n }) front) is f)

unknown_or_deep : (r : Rules) (front : List Part) (s : State) (p : Part) (m : List ℕ) (n : ℕ) → Taken r front s → p ≡ names m → r.known m ≡ Unknown → MayFollow (record r { limit = n }) front p → ⊥
unknown_or_deep r front s p m n taken is none f = not_unknown r front s m n taken none (subst (MayFollow (record r { limit = n }) front) is f)

same_stop : (r : Rules) (front : List Part) (s : State) (p : Part) (e f : Fault) → Taken r front s → StopsAt r e front p → StopsAt r f front p → f ≡ e
same_stop r front s p Syntax Syntax taken h k = refl
same_stop r front s p Syntax CostForm taken h k = absurd (h.1 k)
same_stop r front s p Syntax UnknownMacro taken h k = absurd (h.0 k.3)
same_stop r front s p Syntax TooDeep taken h k = absurd (h.0 (record r { limit = k.0 }, k.1))
same_stop r front s p CostForm Syntax taken h k = absurd (k.1 h)
same_stop r front s p CostForm CostForm taken h k = refl
same_stop r front s p CostForm UnknownMacro taken h k = absurd (let a = h.0 in let b = k.1 in cc)
same_stop r front s p CostForm TooDeep taken h k = absurd (cost_or_deep r front s p k.0 taken h.0 k.1)
same_stop r front s p UnknownMacro Syntax taken h k = absurd (k.0 h.3)
same_stop r front s p UnknownMacro CostForm taken h k = absurd (let a = k.0 in let b = h.1 in cc)
same_stop r front s p UnknownMacro UnknownMacro taken h k = refl
same_stop r front s p UnknownMacro TooDeep taken h k = absurd (unknown_or_deep r front s p h.0 k.0 taken h.1 h.2 k.1)
same_stop r front s p TooDeep Syntax taken h k = absurd (k.0 (record r { limit = h.0 }, h.1))
same_stop r front s p TooDeep CostForm taken h k = absurd (cost_or_deep r front s p h.0 taken k.0 h.1)
same_stop r front s p TooDeep UnknownMacro taken h k = absurd (unknown_or_deep r front s p k.0 h.0 taken k.1 k.2 h.1)
same_stop r front s p TooDeep TooDeep taken h k = refl

-- what stops at a part, the automaton stops there
stopped_at : (r : Rules) (front : List Part) (s : State) (p : Part) (rest : List Part) (e : Fault) (m : Move) → Taken r front s → step r s p ≡ m → StopsAt r e front p
    → follow_parts (λ t. run_parts r t rest) m p rest ≡ stopped e (p ∷ rest)
stopped_at r front s p rest e (goes t) taken is h = absurd (not_stopped r front s p e taken h (goes_follow r front s t p taken is))
stopped_at r front s p rest e (done t n) taken is h =
    let d = done_is r front s p t n taken is in
    absurd (not_stopped r front s p e taken h (d.0, [], d.4, (λ i. sym d.2 i ++ d.3 i ∷ [])))
stopped_at r front s p rest e (refused f) taken is h = ap (λ (x : Fault). stopped x (p ∷ rest)) (same_stop r front s p e f taken h (stops_at r front s p f taken is))

pub fault_runs : (r : Rules) (front : List Part) (p : Part) (rest : List Part) (e : Fault) → Begins r front → StopsAt r e front p → run_parts r start (front ++ p ∷ rest) ≡ stopped e (p ∷ rest)
fault_runs r front p rest e b h =
    let t = begun r front b in
    t.1.runs r (laxer_self r) (p ∷ rest) ∙ stopped_at r front t.0 p rest e (step r t.0 p) t.1 refl h

pub end_runs : (r : Rules) (front : List Part) (e : Fault) → Begins r front → StopsAtEnd e → run_parts r start (front ++ []) ≡ stopped e []
end_runs r front Syntax b h = let t = begun r front b in t.1.runs r (laxer_self r) []
end_runs r front CostForm b h = absurd h
end_runs r front UnknownMacro b h = absurd h
end_runs r front TooDeep b h = absurd h
