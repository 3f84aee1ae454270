-- The paths of all sessions as one run: at each length of the history each session does what it did there, and then the history grows.
use Rattle.std.proofs.Common.{◌≡◌, ◌≢◌, ◌==◌, ℕ, zero, suc, ◌+◌, ◌≤◌, ◌<◌, ◌⊎◌, inl, inr, ⊎_elim, Bool, true, false, cond, ◌||◌, eqb, List, [], ◌∷◌, ◌++◌, length, replicate, count_by, get_or, Option, Some, None, slice_get, slice_set, refl, ap, sym, subst, ◌∙◌, arith, append_assoc, append-nil, eq-eqb, ne_eqb, eqb-true}
use Rattle.std.specs.List.{list_all}
use Rattle.std.specs.Option.{option_to_list}
use Rattle.std.proofs.lemmas.Bool.{and_parts, cases_eq, both_ways}
use Rattle.std.proofs.lemmas.List.{length-map}
use Rattle.std.proofs.lemmas.List.Elements.{filter-append}
use Rattle.std.proofs.lemmas.Option.{same_Some, slice_get_within, slice_get-get_or}
use Rattle.lg_gram.specs.declared.reply.Reply.{Reply}
use Rattle.lg_dict.specs.Dictionary.{Dictionary}
use Rattle.lg_log.specs.Codes.{is_code, is_of, code_session, CodesAreOfEdits}
use Rattle.lg_log.specs.Passes.{at_start}
use Rattle.lg_script.specs.Commands.{CommandView, is_edit}
use Rattle.lg_script.specs.EditNumbers.{edit_counts}
use Rattle.lg_core.specs.declared.note.Note.{Note}
use Rattle.lg_core.specs.declared.state.Actor.{Actor}
use Rattle.lg_core.specs.declared.state.Core.{Core}
use Rattle.lg_core.specs.Core.{newcomer, start_of}
use Rattle.lg_core.specs.Lawful as law
use Rattle.lg_core.specs.Lawful.{Runs, EveryRunIsLegal, notes_of}
use Rattle.lg_session.specs.Paths.{AreTold, PathsMakeRuns}
use Rattle.lg_session.proofs.Replayed.{get_set, get_other, IsOwn, Moves}
use Rattle.lg_session.proofs.Levels as levels
use Rattle.lg_session.proofs.Levels.{one_path, Own, Crosses, Solo, by_levels, from_start}

past : (j t : ℕ) → j ≤ t → t ≢ j → suc j ≤ t
past zero zero le apart = absurd (apart refl)
past zero (suc t) le apart = omega arith
past (suc j) zero le apart = absurd (omega (arith, le))
past (suc j) (suc t) le apart = let less = past j t (omega (arith, le)) (λ e. apart (ap suc e)) in omega (arith, less)

pub at_first : (n s : ℕ) → s < n → slice_get (replicate n newcomer) s ≡ Some newcomer
at_first zero s less = absurd (omega (arith, less))
at_first (suc n) zero less = refl
at_first (suc n) (suc s) less = at_first n s (omega (arith, less))

-- ---- codes and their sessions

or_false : (b : Bool) → b || false ≡ true → b ≡ true
or_false true is = refl
or_false false is = is

own_session : (t c : ℕ) → is_of (t ∷ []) c ≡ true → code_session c ≡ t
own_session t c is = eqb-true (code_session c) t (or_false (eqb (code_session c) t) is)

is_own : (c : ℕ) → is_of (code_session c ∷ []) c ≡ true
is_own c = ap (λ (b : Bool). b || false) (eq-eqb (code_session c) (code_session c) refl)

-- ---- the notes of one session

own_notes : (s : ℕ) (note : Option Note) → IsOwn s note → notes_of (s + 1) (option_to_list note) ≡ option_to_list note
own_notes s None own = refl
own_notes s (Some n) own = ap (λ (b : Bool). cond b (n ∷ []) []) (eq-eqb n.session (s + 1) own)

other_notes : (s t : ℕ) (note : Option Note) → t ≢ s → IsOwn s note → notes_of (t + 1) (option_to_list note) ≡ []
other_notes s t None apart own = refl
other_notes s t (Some n) apart own = ap (λ (b : Bool). cond b (n ∷ []) []) (ne_eqb n.session (t + 1) (λ e. apart (omega (arith, e, own))))

more_notes : (t : ℕ) (notes new : List Note) → notes_of (t + 1) (notes ++ new) ≡ notes_of (t + 1) notes ++ notes_of (t + 1) new
more_notes t notes new = filter-append (λ (m : Note). m.session == (t + 1)) notes new

module _ (scripts : List (List CommandView)) (base : Dictionary) where
  -- a run that makes steps of one session alone
  pub record Comes (s : ℕ) (h : List ℕ) (actors : List Actor) (notes : List Note) (b : Actor) (new : List Note) : Type 0 where
    pub then : List Actor
    pub all : List Note
    pub run : Runs scripts base (record { history = h; actors = then }) all
    pub mine : slice_get then s ≡ Some b
    pub told : notes_of (s + 1) all ≡ notes_of (s + 1) notes ++ new
    pub others : (t : ℕ) → t ≢ s → (slice_get then t ≡ slice_get actors t) × (notes_of (t + 1) all ≡ notes_of (t + 1) notes)

  one_move : (s : ℕ) (h next : List ℕ) (actors : List Actor) (notes : List Note) (a b : Actor) (note : Option Note) → Runs scripts base (record { history = h; actors = actors }) notes → slice_get actors s ≡ Some a
      → IsOwn s note → Moves scripts base s h next a b note → Comes s next actors notes b (option_to_list note)
  one_move s h next actors notes a b note run at own move =
      let step = move actors at in
      let new : List Note = option_to_list note in record {
        then = slice_set actors s b;
        all = notes ++ new;
        run = law.step (record { history = h; actors = actors }) (record { history = next; actors = slice_set actors s b }) notes step.0 note run step.1;
        mine = get_set actors s a b at;
        told = more_notes s notes new ∙ ap (λ (l : List Note). notes_of (s + 1) notes ++ l) (own_notes s note own);
        others = λ t apart. (get_other actors s t b apart, more_notes t notes new ∙ ap (λ (l : List Note). notes_of (t + 1) notes ++ l) (other_notes s t note apart own) ∙ append-nil (notes_of (t + 1) notes));
      }

  own_moves : (s : ℕ) (h : List ℕ) (a b : Actor) (new : List Note) → Own scripts base s h a b new → (actors : List Actor) (notes : List Note) → Runs scripts base (record { history = h; actors = actors }) notes
      → slice_get actors s ≡ Some a → Comes s h actors notes b new
  own_moves s h _ _ _ (levels.rests a) actors notes run at =
      record { then = actors; all = notes; run = run; mine = at; told = sym (append-nil (notes_of (s + 1) notes)); others = λ t apart. (refl, refl) }
  own_moves s h _ _ _ (levels.moves a b c note new own move rest) actors notes run at =
      let one = one_move s h h actors notes a b note run at own move in
      let more = own_moves s h b c new rest one.then one.all one.run one.mine in record {
        then = more.then;
        all = more.all;
        run = more.run;
        mine = more.mine;
        told = more.told ∙ ap (λ (l : List Note). l ++ new) one.told ∙ append_assoc (notes_of (s + 1) notes) (option_to_list note) new;
        others = λ t apart. ((more.others t apart).0 ∙ (one.others t apart).0, (more.others t apart).1 ∙ (one.others t apart).1);
      }

  module _ (n : ℕ) where
    -- a run so far, and what holds of each session's actor and of its notes
    pub record State (h : List ℕ) (P : ℕ → Actor → List Note → Type 0) : Type 0 where
      pub actors : List Actor
      pub notes : List Note
      pub run : Runs scripts base (record { history = h; actors = actors }) notes
      pub each : (s : ℕ) → s < n → (a : Actor) × (slice_get actors s ≡ Some a) × P s a (notes_of (s + 1) notes)

    -- one session after another does what it does while the history stays
    module _ (h : List ℕ) (P Q : ℕ → Actor → List Note → Type 0) (does : (s : ℕ) (a : Actor) (own : List Note) → P s a own → (b : Actor) × (new : List Note) × Own scripts base s h a b new × Q s b (own ++ new)) where
      abbrev Mixed : ℕ → ℕ → Actor → List Note → Type 0
      Mixed j s a own = ((s < j) × Q s a own) ⊎ ((j ≤ s) × P s a own)

      before : (j : ℕ) (a : Actor) (own : List Note) → Mixed j j a own → P j a own
      before j a own (inl h) = absurd (omega (arith, h.0))
      before j a own (inr h) = h.1

      one_does : (j : ℕ) → j < n → State h (Mixed j) → State h (Mixed (suc j))
      one_does j in_ state =
          let e = state.each j in_ in
          let own : List Note = notes_of (j + 1) state.notes in
          let d = does j e.0 own (before j e.0 own e.2) in
          let come = own_moves j h e.0 d.0 d.1 d.2 state.actors state.notes state.run e.1 in record {
            actors = come.then;
            notes = come.all;
            run = come.run;
            each = λ t there. ⊎_elim
                (λ (e : t ≡ j). subst (λ (k : ℕ). (a : Actor) × (slice_get come.then k ≡ Some a) × Mixed (suc j) k a (notes_of (k + 1) come.all)) (sym e)
                (d.0, come.mine, inl (omega arith, subst (Q j d.0) (sym come.told) d.3)))
                (λ (apart : t ≢ j). let f = state.each t there in (
                  f.0,
                  (come.others t apart).0 ∙ f.1,
                  subst (Mixed (suc j) t f.0) (sym (come.others t apart).1)
                      (⊎_elim (λ (h : (t < j) × Q t f.0 (notes_of (t + 1) state.notes)). inl (omega (arith, h.0), h.1)) (λ (h : (j ≤ t) × P t f.0 (notes_of (t + 1) state.notes)). inr (past j t h.0 apart, h.1)) f.2),
                ))
                (cases_eq t j);
          }

      some_do : (j : ℕ) → j ≤ n → State h P → State h (Mixed j)
      some_do zero le state = record { actors = state.actors; notes = state.notes; run = state.run; each = λ s there. let e = state.each s there in (e.0, e.1, inr (omega arith, e.2)) }
      some_do (suc j) le state = one_does j (omega (arith, le)) (some_do j (omega (arith, le)) state)

      all_do : State h P → State h Q
      all_do state = let end = some_do n (omega arith) state in record {
        actors = end.actors;
        notes = end.notes;
        run = end.run;
        each = λ s there. let e = end.each s there in (e.0, e.1, ⊎_elim (λ (h : (s < n) × Q s e.0 (notes_of (s + 1) end.notes)). h.1) (λ (h : (n ≤ s) × P s e.0 (notes_of (s + 1) end.notes)). absurd (omega (arith, h.0, there))) e.2);
      }

    -- ---- levels

    module _ (Good : ℕ → List Note → Type 0) where
      -- a session's notes so far and those to come are good
      abbrev Ready : List ℕ → List ℕ → ℕ → Actor → List Note → Type 0
      Ready rest h s a own = (more : List Note) × Solo scripts base s rest h a more × Good s (own ++ more)

      abbrev Waits : ℕ → List ℕ → List ℕ → ℕ → Actor → List Note → Type 0
      Waits c rest h s a own = (more : List Note) × Crosses scripts base s (Solo scripts base s rest (h ++ c ∷ [])) h a c more × Good s (own ++ more)

      abbrev Ended : ℕ → Actor → List Note → Type 0
      Ended s a own = Good s own

      -- the session of the code publishes it, and the others let the history grow
      module _ (c : ℕ) (rest h : List ℕ) (in_ : code_session c < n) (state : State h (Waits c rest h)) where
        abbrev p : ℕ
        p = code_session c

        waits_on : (t : ℕ) (a : Actor) (own : List Note) → t ≢ p → Waits c rest h t a own → Ready rest (h ++ c ∷ []) t a own
        waits_on t a own apart (more, inl other, good) = (more, other.1, good)
        waits_on t a own apart (more, inr mine, good) = absurd (apart (sym (own_session t c mine.0)))

        writes : (a : Actor) → slice_get state.actors p ≡ Some a → Waits c rest h p a (notes_of (p + 1) state.notes) → State (h ++ c ∷ []) (Ready rest (h ++ c ∷ []))
        writes a at (more, inl other, good) = absurd (both_ways (is_of (p ∷ []) c) other.0 (is_own c))
        writes a at (more, inr (mine, b, note, later, own, move, is, solo), good) =
            let old : List Note = notes_of (p + 1) state.notes in
            let new : List Note = option_to_list note in
            let come = one_move p h (h ++ c ∷ []) state.actors state.notes a b note state.run at own move in
            let whole : old ++ more ≡ notes_of (p + 1) come.all ++ later = ap (λ (l : List Note). old ++ l) is ∙ sym (append_assoc old new later) ∙ ap (λ (l : List Note). l ++ later) (sym come.told) in record {
              actors = come.then;
              notes = come.all;
              run = come.run;
              each = λ t there. ⊎_elim
                  (λ (e : t ≡ p). subst (λ (k : ℕ). (a : Actor) × (slice_get come.then k ≡ Some a) × Ready rest (h ++ c ∷ []) k a (notes_of (k + 1) come.all)) (sym e) (b, come.mine, (later, solo, subst (Good p) whole good)))
                  (λ (apart : t ≢ p). let f = state.each t there in
                  (f.0, (come.others t apart).0 ∙ f.1, subst (Ready rest (h ++ c ∷ []) t f.0) (sym (come.others t apart).1) (waits_on t f.0 (notes_of (t + 1) state.notes) apart f.2)))
                  (cases_eq t p);
            }

        crosses : State (h ++ c ∷ []) (Ready rest (h ++ c ∷ []))
        crosses = let e = state.each p in_ in writes e.0 e.1 e.2

      last_do : (h : List ℕ) (s : ℕ) (a : Actor) (own : List Note) → Ready [] h s a own → (b : Actor) × (new : List Note) × Own scripts base s h a b new × Ended s b (own ++ new)
      last_do h s a own (more, solo, good) = (solo.0, more, solo.1, good)

      then_wait : (c : ℕ) (rest h : List ℕ) (s : ℕ) (a : Actor) (own : List Note) → Ready (c ∷ rest) h s a own → (b : Actor) × (new : List Note) × Own scripts base s h a b new × Waits c rest h s b (own ++ new)
      then_wait c rest h s a own (more, (b, first, then, steps, is, crosses), good) =
          (b, first, steps, (then, crosses, subst (Good s) (ap (λ (l : List Note). own ++ l) is ∙ sym (append_assoc own first then)) good))

      pub by_level : (counts : List ℕ) → CodesAreOfEdits → length counts ≡ n → (rest h : List ℕ) → list_all (is_code counts) rest ≡ true → State h (Ready rest h) → State (h ++ rest) Ended
      by_level counts of_edits many [] h good state = subst (λ (l : List ℕ). State l Ended) (sym (append-nil h)) (all_do h (Ready [] h) Ended (last_do h) state)
      by_level counts of_edits many (c ∷ rest) h good state =
          let parts = and_parts (is_code counts c) (list_all (is_code counts) rest) good in
          let in_ : code_session c < n = omega (arith, (of_edits counts c parts.0).1, many) in
          subst (λ (l : List ℕ). State l Ended) (append_assoc h (c ∷ []) rest)
          (by_level counts of_edits many rest (h ++ c ∷ []) parts.1 (crosses c rest h in_ (all_do h (Ready (c ∷ rest) h) (Waits c rest h) (then_wait c rest h) state)))

pub make_runs : CodesAreOfEdits → EveryRunIsLegal → PathsMakeRuns
make_runs of_edits legal scripts base good history codes lists many ends =
    let n : ℕ = length scripts in
    let Good : ℕ → List Note → Type 0 = λ s notes. (replies : List Reply) → slice_get lists s ≡ Some replies → AreTold replies notes in
    let state = by_level scripts base n Good (edit_counts scripts) of_edits (length-map scripts (count_by is_edit)) history [] codes (record {
      actors = replicate n newcomer;
      notes = [];
      run = law.start;
      each = λ s there.
          let replies : List Reply = get_or lists s [] in
          let found : slice_get lists s ≡ Some replies = slice_get-get_or lists s [] (omega (arith, there, many)) in
          let end = ends s replies found in
          let path = one_path scripts base s end.log end.pass end.actors replies end.turns in
          let goes = by_levels scripts base s (at_start end.log (s ∷ [])) end.pass (start_of n).actors end.actors path.0 path.1 newcomer (at_first n s there) end.all.rest end.all.none in (
            newcomer,
            at_first n s there,
            (
              path.0,
              from_start scripts base s end.log history (end.pass.seen ++ end.all.rest) newcomer path.0 end.all.begins goes,
              λ others is. subst (λ (l : List Reply). AreTold l path.0) (same_Some replies others (sym found ∙ is)) path.2,
            ),
          );
    }) in
    let core : Core = record { history = history; actors = state.actors } in record {
      core = core;
      notes = state.notes;
      runs = state.run;
      same_history = refl;
      told = λ s replies is. (state.each s (omega (arith, slice_get_within lists s replies is, many))).2 replies is;
      legal = legal scripts base good core state.notes state.run;
    }
