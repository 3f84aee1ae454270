-- The core of the sessions: its states, and what happens in one step.
use Rattle.std.specs.Prelude.{◌≡◌, ℕ, ◌+◌, ◌<◌, ◌≤◌, true, List, [], ◌∷◌, ◌++◌, length, replicate, slice_get, slice_set, Option, Some, None, IfSome}
use Rattle.lg_gram.specs.declared.edit.EditRefusal.{EditRefusal}
use Rattle.lg_gram.specs.declared.listing.Bound.{Bound}
use Rattle.lg_gram.specs.declared.listing.Token.{Token}
use Rattle.lg_gram.specs.declared.reply.Place.{Place}
use Rattle.lg_dict.specs.Dictionary.{Dictionary}
use Rattle.lg_edit.specs.Edits.{EditView, accept}
use Rattle.lg_log.specs.Codes.{is_code}
use Rattle.lg_token.specs.Bounds.{AreListed, IsBeyond}
use Rattle.lg_script.specs.Commands.{CommandView, parses, lists, goes_on, makes, asks}
use Rattle.lg_script.specs.EditNumbers.{edit_counts}
use Rattle.lg_script.specs.Histories.{command_at, version_of}
use Rattle.lg_core.specs.declared.event.Event.{Event}
use Rattle.lg_core.specs.declared.event.Event.TheVariants.{Look, Learn, Publish, More}
use Rattle.lg_core.specs.declared.event.Stepped.{Stepped}
use Rattle.lg_core.specs.declared.event.Stepped.TheVariants.{Done, NotEnabled}
use Rattle.lg_core.specs.declared.note.Note.{Note}
use Rattle.lg_core.specs.declared.note.NoteKind.{NoteKind}
use Rattle.lg_core.specs.declared.note.NoteKind.TheVariants.{Listed, Beyond, Paged, NoListing, Published, Refused, At}
use Rattle.lg_core.specs.declared.state.Actor.{Actor}
use Rattle.lg_core.specs.declared.state.Core.{Core}
use Rattle.lg_core.specs.declared.state.Hold.{Hold}
use Rattle.lg_script.specs.Codes.{commands_of, code_after, place_of, places_of}

-- ---- states

-- the edits of the history, by their places
abbrev pub journal_of : List (List CommandView) → Core → List Place
journal_of scripts core = places_of scripts core.history

-- before any step: no history, and each session before its first command
abbrev pub newcomer : Actor
newcomer = record { place = 0; seen = 0; held = None }

abbrev pub start_of : ℕ → Core
start_of sessions = record { history = []; actors = replicate sessions newcomer }

-- the actor of a session is this one, and all else stays
abbrev pub with_actor : Core → ℕ → Actor → Core
with_actor core session actor = record core { actors = slice_set core.actors session actor }

-- ---- a session, numbered from 0, and its next command

-- the place of the next command
abbrev pub next_place : ℕ → Actor → Place
next_place session actor = record { session = session + 1; command = actor.place + 1 }

-- its code, if it is an edit
abbrev pub next_code : List (List CommandView) → ℕ → Actor → ℕ
next_code scripts session actor = code_after scripts session actor.place

-- its note
abbrev pub note_of : ℕ → Actor → ℕ → NoteKind → Note
note_of session actor version kind = record { session = session + 1; command = actor.place + 1; version = version; kind = kind }

-- this is the actor of the session, and its next command
pub record IsNext (scripts : List (List CommandView)) (core : Core) (session : ℕ) (actor : Actor) (command : CommandView) : Type 0 where
  pub stands : slice_get core.actors session ≡ Some actor
  pub asks_for : command_at scripts (next_place session actor) ≡ Some command

-- and it has seen the whole history
pub record IsNextAtEnd (scripts : List (List CommandView)) (core : Core) (session : ℕ) (actor : Actor) (command : CommandView) : Type 0 where
  pub next : IsNext scripts core session actor command
  pub has_seen_all : actor.seen ≡ length core.history

-- the dictionary of the version that it has seen
abbrev pub seen_by : List (List CommandView) → Dictionary → Core → Actor → Dictionary
seen_by scripts base core actor = version_of scripts base (journal_of scripts core) actor.seen

-- the sentence that a command asks to list
abbrev pub sentence_of : CommandView → Option (List ℕ)
sentence_of (parses text) = Some text
sentence_of (lists first want text) = Some text
sentence_of _ = None

-- ---- steps

-- its command has ended, and it holds this listing
abbrev pub ended : Core → ℕ → Actor → Option Hold → Core
ended core session actor hold = with_actor core session (record actor { place = actor.place + 1; held = hold })

-- its command has ended, and its code stands at the end of the history
abbrev pub published : Core → ℕ → Actor → ℕ → Core
published core session actor code = record {
  history = core.history ++ code ∷ [];
  actors = slice_set core.actors session (record actor { place = actor.place + 1; seen = actor.seen + 1 });
}

-- What may happen in a state, which state follows, and the note of the command that ends. A session without a command left makes no step.
pub data Happens (scripts : List (List CommandView)) (base : Dictionary) (core : Core) : Event → Core → Option Note → Type 0 where
  -- the session sees one code more of the history
  learns : (session : ℕ) (actor : Actor) (command : CommandView) → IsNext scripts core session actor command → actor.seen < length core.history
      → Happens scripts base core (Learn session) (with_actor core session (record actor { seen = actor.seen + 1 })) None
  -- an edit that is accepted may be published, and a look leaves it
  passes_over : (session : ℕ) (actor : Actor) (edit : EditView) → IsNextAtEnd scripts core session actor (makes edit) → accept (seen_by scripts base core actor) edit ≡ None
      → Happens scripts base core (Look session) core None
  refuses : (session : ℕ) (actor : Actor) (edit : EditView) (cause : EditRefusal) → IsNextAtEnd scripts core session actor (makes edit) → accept (seen_by scripts base core actor) edit ≡ Some cause
      → Happens scripts base core (Look session) (ended core session actor actor.held) (Some (note_of session actor actor.seen (Refused cause)))
  tells : (session : ℕ) (actor : Actor) → IsNextAtEnd scripts core session actor asks
      → Happens scripts base core (Look session) (ended core session actor actor.held) (Some (note_of session actor actor.seen At))
  -- a sentence that passes no bound is listed, and the listing is held
  begins : (session : ℕ) (actor : Actor) (command : CommandView) (text : List ℕ) (tokens : List Token) → IsNextAtEnd scripts core session actor command → sentence_of command ≡ Some text
      → AreListed (seen_by scripts base core actor) text tokens
      → Happens scripts base core (Look session) (ended core session actor (Some (record { version = actor.seen; command = actor.place + 1; mores = 0 }))) (Some (note_of session actor actor.seen Listed))
  -- another one leaves no listing
  is_beyond : (session : ℕ) (actor : Actor) (command : CommandView) (text : List ℕ) (bound : Bound) → IsNextAtEnd scripts core session actor command → sentence_of command ≡ Some text
      → IsBeyond (seen_by scripts base core actor) text bound
      → Happens scripts base core (Look session) (ended core session actor None) (Some (note_of session actor actor.seen Beyond))
  publishes : (session : ℕ) (actor : Actor) (edit : EditView) → IsNextAtEnd scripts core session actor (makes edit) → accept (seen_by scripts base core actor) edit ≡ None
      → Happens scripts base core (Publish session) (published core session actor (next_code scripts session actor)) (Some (note_of session actor (actor.seen + 1) Published))
  -- `more` goes on with the listing that is held, by its version, and does not look at the history
  pages : (session : ℕ) (actor : Actor) (hold : Hold) → IsNext scripts core session actor goes_on → actor.held ≡ Some hold
      → Happens scripts base core (More session) (ended core session actor (Some (record hold { mores = hold.mores + 1 }))) (Some (note_of session actor hold.version (Paged hold)))
  has_none : (session : ℕ) (actor : Actor) → IsNext scripts core session actor goes_on → actor.held ≡ None
      → Happens scripts base core (More session) (ended core session actor None) (Some (note_of session actor 0 NoListing))

-- a step has one outcome
abbrev pub StepsAreDetermined : Type 0
StepsAreDetermined = (scripts : List (List CommandView)) (base : Dictionary) (core one other : Core) (event : Event) (note another : Option Note)
    → Happens scripts base core event one note → Happens scripts base core event other another → (one ≡ other) × (note ≡ another)

-- it happens, or it cannot happen and nothing changes
abbrev pub IsStep : List (List CommandView) → Dictionary → Core → Event → Core → Stepped → Type 0
IsStep scripts base core event then (Done note) = Happens scripts base core event then note
IsStep scripts base core event then NotEnabled = (then ≡ core) × ((other : Core) (note : Option Note) → Happens scripts base core event other note → ⊥)

-- ---- states from which steps can be made

-- an actor is not past its script, nor past the history, and has gone on with its listing by commands that have ended
pub record IsActor (scripts : List (List CommandView)) (core : Core) (session : ℕ) (actor : Actor) : Type 0 where
  pub place : actor.place ≤ length (commands_of scripts session)
  pub seen : actor.seen ≤ length core.history
  pub mores : IfSome actor.held (λ hold. hold.mores ≤ actor.place)

-- the code names an edit that the dictionary of the version accepts
pub record IsAccepted (scripts : List (List CommandView)) (base : Dictionary) (core : Core) (version code : ℕ) : Type 0 where
  pub is_one : is_code (edit_counts scripts) code ≡ true
  pub edit : EditView
  pub names : command_at scripts (place_of scripts code) ≡ Some (makes edit)
  pub accepted : accept (version_of scripts base (journal_of scripts core) version) edit ≡ None

abbrev pub AreActors : List (List CommandView) → Core → Type 0
AreActors scripts core = (session : ℕ) (actor : Actor) → slice_get core.actors session ≡ Some actor → IsActor scripts core session actor

-- one actor for each script, and each code names an edit that the version before it accepts
pub record IsCore (scripts : List (List CommandView)) (base : Dictionary) (core : Core) : Type 0 where
  pub same_length : length core.actors ≡ length scripts
  pub actors : AreActors scripts core
  pub codes : (version code : ℕ) → slice_get core.history version ≡ Some code → IsAccepted scripts base core version code
