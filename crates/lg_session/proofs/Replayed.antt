-- A step of the core once more, in a state with the same history in which the session's actor is the same.
use Rattle.std.proofs.Common.{◌≡◌, ◌≢◌, ℕ, zero, suc, ◌+◌, List, [], ◌∷◌, Option, Some, None, IfSome, slice_get, slice_set, refl, ap, sym, subst}
use Rattle.std.proofs.lemmas.Option.{none-some, same_Some}
use Rattle.lg_dict.specs.Dictionary.{Dictionary}
use Rattle.lg_script.specs.Commands.{CommandView}
use Rattle.lg_core.specs.declared.event.Event.{Event}
use Rattle.lg_core.specs.declared.event.Event.TheVariants.{Look, Learn, Publish, More}
use Rattle.lg_core.specs.declared.note.Note.{Note}
use Rattle.lg_core.specs.declared.state.Actor.{Actor}
use Rattle.lg_core.specs.declared.state.Core.{Core}
use Rattle.lg_core.specs.Core as happens
use Rattle.lg_core.specs.Core.{IsNext, IsNextAtEnd, Happens}

-- ---- lists in which one element changes

module _ {A : Type 0} where
  set_same : (xs : List A) (i : ℕ) (x : A) → slice_get xs i ≡ Some x → slice_set xs i x ≡ xs
  set_same [] i x is = refl
  set_same (y ∷ ys) zero x is = ap (λ (z : A). z ∷ ys) (sym (same_Some y x is))
  set_same (y ∷ ys) (suc i) x is = ap (λ (l : List A). y ∷ l) (set_same ys i x is)

  pub get_set : (xs : List A) (i : ℕ) (x y : A) → slice_get xs i ≡ Some x → slice_get (slice_set xs i y) i ≡ Some y
  get_set [] i x y is = absurd (none-some x is)
  get_set (z ∷ zs) zero x y is = refl
  get_set (z ∷ zs) (suc i) x y is = get_set zs i x y is

  pub get_other : (xs : List A) (i j : ℕ) (y : A) → j ≢ i → slice_get (slice_set xs i y) j ≡ slice_get xs j
  get_other [] i j y apart = refl
  get_other (z ∷ zs) zero zero y apart = absurd (apart refl)
  get_other (z ∷ zs) zero (suc j) y apart = refl
  get_other (z ∷ zs) (suc i) zero y apart = refl
  get_other (z ∷ zs) (suc i) (suc j) y apart = get_other zs i j y (λ e. apart (ap suc e))

-- ---- steps

abbrev pub session_of : Event → ℕ
session_of (Look s) = s
session_of (Learn s) = s
session_of (Publish s) = s
session_of (More s) = s

-- the note is the session's
abbrev pub IsOwn : ℕ → Option Note → Type 0
IsOwn s note = IfSome note (λ n. n.session ≡ s + 1)

module _ (scripts : List (List CommandView)) (base : Dictionary) where
  -- where the history is this one and the session's actor that one, a step of the session can happen, and leads to these
  abbrev pub Moves : ℕ → List ℕ → List ℕ → Actor → Actor → Option Note → Type 0
  Moves s history then a b note = (actors : List Actor) → slice_get actors s ≡ Some a
      → (event : Event) × Happens scripts base (record { history = history; actors = actors }) event (record { history = then; actors = slice_set actors s b }) note

  -- a step is one of its session alone, and can happen so again
  pub record Replays (core then : Core) (s : ℕ) (note : Option Note) : Type 0 where
    pub before : Actor
    pub after : Actor
    pub stands : slice_get core.actors s ≡ Some before
    pub changed : then.actors ≡ slice_set core.actors s after
    pub own : IsOwn s note
    pub moves : Moves s core.history then.history before after note

  module _ (core : Core) where
    again : (s : ℕ) (a : Actor) (command : CommandView) (actors : List Actor) → IsNext scripts core s a command → slice_get actors s ≡ Some a
        → IsNext scripts (record { history = core.history; actors = actors }) s a command
    again s a command actors next at = record { stands = at; asks_for = next.asks_for }

    again_end : (s : ℕ) (a : Actor) (command : CommandView) (actors : List Actor) → IsNextAtEnd scripts core s a command → slice_get actors s ≡ Some a
        → IsNextAtEnd scripts (record { history = core.history; actors = actors }) s a command
    again_end s a command actors end at = record { next = again s a command actors end.next at; has_seen_all = end.has_seen_all }

    pub replays : (event : Event) (then : Core) (note : Option Note) → Happens scripts base core event then note → Replays core then (session_of event) note
    replays _ _ _ (happens.learns s a command next less) = record {
      before = a;
      after = record a { seen = a.seen + 1 };
      stands = next.stands;
      changed = refl;
      own = tt;
      moves = λ actors at. (Learn s, happens.learns s a command (again s a command actors next at) less);
    }
    replays _ _ _ (happens.passes_over s a edit end accepted) = record {
      before = a;
      after = a;
      stands = end.next.stands;
      changed = sym (set_same core.actors s a end.next.stands);
      own = tt;
      moves = λ actors at. (
        Look s,
        subst (λ (l : List Actor). Happens scripts base (record { history = core.history; actors = actors }) (Look s) (record { history = core.history; actors = l }) None)
            (sym (set_same actors s a at)) (happens.passes_over s a edit (again_end s a _ actors end at) accepted),
      );
    }
    replays _ _ _ (happens.refuses s a edit cause end refused) = record {
      before = a;
      after = record a { place = a.place + 1; held = a.held };
      stands = end.next.stands;
      changed = refl;
      own = refl;
      moves = λ actors at. (Look s, happens.refuses s a edit cause (again_end s a _ actors end at) refused);
    }
    replays _ _ _ (happens.tells s a end) = record {
      before = a;
      after = record a { place = a.place + 1; held = a.held };
      stands = end.next.stands;
      changed = refl;
      own = refl;
      moves = λ actors at. (Look s, happens.tells s a (again_end s a _ actors end at));
    }
    replays _ _ _ (happens.begins s a command text tokens end sentence listed) = record {
      before = a;
      after = record a { place = a.place + 1; held = Some (record { version = a.seen; command = a.place + 1; mores = 0 }) };
      stands = end.next.stands;
      changed = refl;
      own = refl;
      moves = λ actors at. (Look s, happens.begins s a command text tokens (again_end s a command actors end at) sentence listed);
    }
    replays _ _ _ (happens.is_beyond s a command text bound end sentence passes) = record {
      before = a;
      after = record a { place = a.place + 1; held = None };
      stands = end.next.stands;
      changed = refl;
      own = refl;
      moves = λ actors at. (Look s, happens.is_beyond s a command text bound (again_end s a command actors end at) sentence passes);
    }
    replays _ _ _ (happens.publishes s a edit end accepted) = record {
      before = a;
      after = record a { place = a.place + 1; seen = a.seen + 1 };
      stands = end.next.stands;
      changed = refl;
      own = refl;
      moves = λ actors at. (Publish s, happens.publishes s a edit (again_end s a _ actors end at) accepted);
    }
    replays _ _ _ (happens.pages s a hold next is) = record {
      before = a;
      after = record a { place = a.place + 1; held = Some (record hold { mores = hold.mores + 1 }) };
      stands = next.stands;
      changed = refl;
      own = refl;
      moves = λ actors at. (More s, happens.pages s a hold (again s a _ actors next at) is);
    }
    replays _ _ _ (happens.has_none s a next is) = record {
      before = a;
      after = record a { place = a.place + 1; held = None };
      stands = next.stands;
      changed = refl;
      own = refl;
      moves = λ actors at. (More s, happens.has_none s a (again s a _ actors next at) is);
    }
