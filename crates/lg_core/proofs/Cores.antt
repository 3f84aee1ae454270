-- States from which steps can be made stay such.
use Rattle.std.proofs.Common.{◌≡◌, ℕ, zero, suc, ◌+◌, ◌≤◌, ◌<◌, ◌⊎◌, inl, inr, ⊎_elim, List, [], ◌∷◌, ◌++◌, length, replicate, Option, Some, None, IfSome, Result, Ok, Err, IfOk, OnOk, slice_get, slice_set, refl, ap, sym, subst, ◌∙◌, arith, length-append}
use Rattle.std.proofs.lemmas.List.{length-map, length-replicate, length-set, map-append}
use Rattle.std.proofs.lemmas.Option.{none-some, same_Some, slice_get_within}
use Rattle.lg_gram.specs.declared.reply.Place.{Place}
use Rattle.lg_dict.specs.Dictionary.{Dictionary}
use Rattle.lg_edit.specs.Edits.{EditView, accept}
use Rattle.lg_script.specs.Commands.{CommandView, goes_on, makes}
use Rattle.lg_script.specs.Histories.{command_at, version_of}
use Rattle.lg_core.specs.declared.event.Event.{Event}
use Rattle.lg_core.specs.declared.event.Stepped.{Stepped}
use Rattle.lg_core.specs.declared.event.Stepped.TheVariants.{Done, NotEnabled}
use Rattle.lg_core.specs.declared.note.Note.{Note}
use Rattle.lg_core.specs.declared.note.NoteKind.TheVariants.{Published}
use Rattle.lg_core.specs.declared.state.Actor.{Actor}
use Rattle.lg_core.specs.declared.state.Core.{Core}
use Rattle.lg_core.specs.declared.state.Hold.{Hold}
use Rattle.lg_script.specs.Codes.{commands_of, place_of, places_of, AreScripts, EditsHavePlaces}
use Rattle.lg_core.specs.Core as happens
use Rattle.lg_core.specs.Core.{journal_of, newcomer, start_of, ended, published, next_code, note_of, IsNext, IsNextAtEnd, Happens, IsStep, IsActor, IsAccepted, IsCore}
use Rattle.lg_core.proofs.NextCommand.{asked}
use Rattle.lg_core.proofs.Legal.{actors_set, version_more}

-- ---- the start

pub at_start : (n s : ℕ) (a : Actor) → slice_get (replicate n newcomer) s ≡ Some a → a ≡ newcomer
at_start zero s a is = absurd (none-some a is)
at_start (suc n) zero a is = sym (same_Some newcomer a is)
at_start (suc n) (suc s) a is = at_start n s a is

pub starts : (scripts : List (List CommandView)) (base : Dictionary) (sessions : ℕ) → length scripts ≡ sessions → IsCore scripts base (start_of sessions)
starts scripts base sessions same = record {
  same_length = length-replicate sessions newcomer ∙ sym same;
  actors = λ s a is. subst (IsActor scripts (start_of sessions) s) (sym (at_start sessions s a is)) (record { place = omega arith; seen = omega arith; mores = tt });
  codes = λ version code is. absurd (none-some code is);
}

-- ---- a session has a command left

pub within : (scripts : List (List CommandView)) (core : Core) (s : ℕ) (a : Actor) (command : CommandView) → IsNext scripts core s a command → a.place < length (commands_of scripts s)
within scripts core s a command next = slice_get_within (commands_of scripts s) a.place command (asked scripts s a.place command next.asks_for).1

-- its place and its session are numbers of 32 bits
pub small_place : (scripts : List (List CommandView)) (core : Core) (s : ℕ) (a : Actor) (command : CommandView) → AreScripts scripts → IsNext scripts core s a command → a.place + 1 < 4294967296
small_place scripts core s a command good next =
    let few = (good.each s [] (asked scripts s a.place command next.asks_for).0).few in omega (arith, few, within scripts core s a command next)

pub is_session : (scripts : List (List CommandView)) (core : Core) (s : ℕ) (a : Actor) (command : CommandView) → IsNext scripts core s a command → s < length core.actors
is_session scripts core s a command next = slice_get_within core.actors s a next.stands

-- ---- steps

got_push : {A : Type 0} (xs : List A) (x : A) (i : ℕ) (y : A) → slice_get (xs ++ x ∷ []) i ≡ Some y → ((i < length xs) × (slice_get xs i ≡ Some y)) ⊎ ((i ≡ length xs) × (x ≡ y))
got_push [] x zero y is = inr (refl, same_Some x y is)
got_push [] x (suc i) y is = absurd (none-some y is)
got_push (z ∷ zs) x zero y is = inl (omega arith, is)
got_push (z ∷ zs) x (suc i) y is = ⊎_elim (λ h. inl (omega (arith, h.0), h.1)) (λ h. inr (ap suc h.0, h.1)) (got_push zs x i y is)

module _ (scripts : List (List CommandView)) (base : Dictionary) (core : Core) (is : IsCore scripts base core) (s : ℕ) (a : Actor) where
  -- an actor changes, and the history may grow
  set_actor : (history : List ℕ) (b : Actor) → length core.history ≤ length history → IsActor scripts (record { history = history; actors = core.actors }) s b
      → ((version code : ℕ) → slice_get history version ≡ Some code → IsAccepted scripts base (record { history = history; actors = core.actors }) version code)
      → IsCore scripts base (record { history = history; actors = slice_set core.actors s b })
  set_actor history b longer mine codes = record {
    same_length = length-set core.actors s b ∙ is.same_length;
    actors = actors_set (IsActor scripts (record { history = history; actors = slice_set core.actors s b })) core.actors s b
        (record { place = mine.place; seen = mine.seen; mores = mine.mores })
        (λ t c apart at. let old = is.actors t c at in record { place = old.place; seen = omega (arith, old.seen, longer); mores = old.mores });
    codes = λ version code at. let old = codes version code at in record { is_one = old.is_one; edit = old.edit; names = old.names; accepted = old.accepted };
  }

  same_history : (b : Actor) → IsActor scripts core s b → IsCore scripts base (record { history = core.history; actors = slice_set core.actors s b })
  same_history b mine = set_actor core.history b (omega arith) (record { place = mine.place; seen = mine.seen; mores = mine.mores })
      (λ version code at. let old = is.codes version code at in record { is_one = old.is_one; edit = old.edit; names = old.names; accepted = old.accepted })

  ends : (command : CommandView) (held : Option Hold) → IsNext scripts core s a command → IfSome held (λ hold. hold.mores ≤ a.place + 1) → IsCore scripts base (ended core s a held)
  ends command held next few =
      let old = is.actors s a next.stands in
      same_history (record a { place = a.place + 1; held = held }) (record { place = omega (arith, within scripts core s a command next); seen = old.seen; mores = few })

  few_more : (held : Option Hold) → IfSome held (λ hold. hold.mores ≤ a.place) → IfSome held (λ hold. hold.mores ≤ a.place + 1)
  few_more None few = tt
  few_more (Some hold) few = omega (arith, few)

  ends_so : (command : CommandView) → IsNext scripts core s a command → IsCore scripts base (ended core s a a.held)
  ends_so command next = ends command a.held next (few_more a.held (is.actors s a next.stands).mores)

  sees_one : (command : CommandView) → IsNext scripts core s a command → a.seen < length core.history → IsCore scripts base (happens.with_actor core s (record a { seen = a.seen + 1 }))
  sees_one command next less = let old = is.actors s a next.stands in same_history (record a { seen = a.seen + 1 }) (record { place = old.place; seen = omega (arith, less); mores = old.mores })

  pub_more : EditsHavePlaces → AreScripts scripts → (edit : EditView) → IsNextAtEnd scripts core s a (makes edit) → accept (version_of scripts base (journal_of scripts core) a.seen) edit ≡ None
      → IsCore scripts base (published core s a (next_code scripts s a))
  pub_more have good edit end accepted =
      let code : ℕ = next_code scripts s a in
      let old = is.actors s a end.next.stands in
      let names = have scripts good s a.place edit end.next.asks_for in
      let long : length (core.history ++ code ∷ []) ≡ length core.history + 1 = length-append core.history (code ∷ []) in
      let journal : List Place = journal_of scripts core in
      let same_long : length journal ≡ length core.history = length-map core.history (place_of scripts) in
      let grown : places_of scripts (core.history ++ code ∷ []) ≡ journal ++ place_of scripts code ∷ [] = map-append (place_of scripts) core.history (code ∷ []) in
      let stays : (n : ℕ) (e : EditView) → n ≤ length core.history → accept (version_of scripts base journal n) e ≡ None → accept (version_of scripts base (places_of scripts (core.history ++ code ∷ [])) n) e ≡ None =
      (λ n e there h. subst (λ (d : Dictionary). accept d e ≡ None) (sym (ap (λ (j : List Place). version_of scripts base j n) grown ∙ version_more scripts base journal (place_of scripts code ∷ []) n (omega (arith, there, same_long)))) h) in
      set_actor (core.history ++ code ∷ []) (record a { place = a.place + 1; seen = a.seen + 1 }) (omega (arith, long))
      (record { place = omega (arith, within scripts core s a (makes edit) end.next); seen = omega (arith, long, end.has_seen_all); mores = few_more a.held old.mores })
      (λ version c at. ⊎_elim
      (λ (h : (version < length core.history) × (slice_get core.history version ≡ Some c)). let was = is.codes version c h.1 in
      record { is_one = was.is_one; edit = was.edit; names = was.names; accepted = stays version was.edit (omega (arith, h.0)) was.accepted })
      (λ (h : (version ≡ length core.history) × (code ≡ c)). subst (λ (z : ℕ × ℕ). IsAccepted scripts base (record { history = core.history ++ code ∷ []; actors = core.actors }) z.0 z.1)
      (λ i. ((end.has_seen_all ∙ sym h.0) i, h.1 i))
      (record { is_one = names.0; edit = edit; names = ap (command_at scripts) names.1 ∙ end.next.asks_for; accepted = stays a.seen edit (omega (arith, end.has_seen_all)) accepted }))
      (got_push core.history code version c at))

module _ (have : EditsHavePlaces) (scripts : List (List CommandView)) (base : Dictionary) (good : AreScripts scripts) (core : Core) (is : IsCore scripts base core) where
  stays_core : (event : Event) (then : Core) (told : Option Note) → Happens scripts base core event then told → IsCore scripts base then
  stays_core _ _ _ (happens.learns s a command next less) = sees_one scripts base core is s a command next less
  stays_core _ _ _ (happens.passes_over s a edit end accepted) = is
  stays_core _ _ _ (happens.refuses s a edit cause end refused) = ends_so scripts base core is s a (makes edit) end.next
  stays_core _ _ _ (happens.tells s a end) = ends_so scripts base core is s a _ end.next
  stays_core _ _ _ (happens.begins s a command text tokens end sentence listed) = ends scripts base core is s a command _ end.next (omega arith)
  stays_core _ _ _ (happens.is_beyond s a command text bound end sentence passes) = ends scripts base core is s a command None end.next tt
  stays_core _ _ _ (happens.publishes s a edit end accepted) = pub_more scripts base core is s a have good edit end accepted
  stays_core _ _ _ (happens.pages s a hold next held) =
      let few : hold.mores ≤ a.place = subst (λ (h : Option Hold). IfSome h (λ k. k.mores ≤ a.place)) held (is.actors s a next.stands).mores in
      ends scripts base core is s a goes_on _ next (omega (arith, few))
  stays_core _ _ _ (happens.has_none s a next held) = ends scripts base core is s a goes_on None next tt

  pub stepped_core : (event : Event) (then : Core) (stepped : Stepped) → IsStep scripts base core event then stepped → IsCore scripts base then
  stepped_core event then (Done told) h = stays_core event then told h
  stepped_core event then NotEnabled h = subst (IsCore scripts base) (sym h.0) is

  pub kept_on : {E : Type 0} (event : Event) (then : Core) (r : Result Stepped E) → IfOk r (IsStep scripts base core event then) → OnOk r (IsCore scripts base then)
  kept_on event then (Ok stepped) h = stepped_core event then stepped h
  kept_on event then (Err e) h = tt

-- a code is appended and seen, and then the command ends
module _ (core : Core) (s : ℕ) (a : Actor) (history : List ℕ) (seen code next : ℕ) (appended : history ≡ core.history ++ code ∷ []) (same : code ≡ next) (all : seen ≡ length history) (had_seen : a.seen ≡ length core.history) where
  one_more : seen ≡ a.seen + 1
  one_more = let long = ap length appended ∙ length-append core.history (code ∷ []) in omega (arith, long)

  pub published_so : ended (record { history = history; actors = core.actors }) s (record a { seen = seen }) a.held ≡ published core s a next
  published_so i = record {
    history = (appended ∙ ap (λ (c : ℕ). core.history ++ c ∷ []) same) i;
    actors = slice_set core.actors s (record a { place = a.place + 1; seen = one_more i });
  }

  pub note_so : note_of s (record a { seen = seen }) seen Published ≡ note_of s a (a.seen + 1) Published
  note_so i = note_of s a (one_more i) Published
