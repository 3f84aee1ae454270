-- The turns of a session as steps of lg_core, and what the turns of all sessions come to.
use Rattle.std.specs.Prelude.{◌≡◌, ℕ, ◌+◌, true, false, List, [], ◌∷◌, ◌++◌, length, Option, Some, None, slice_get}
use Rattle.std.specs.List.{list_all}
use Rattle.std.specs.Option.{option_to_list}
use Rattle.lg_gram.specs.declared.edit.EditRefusal.{EditRefusal}
use Rattle.lg_gram.specs.declared.listing.Bound.{Bound}
use Rattle.lg_gram.specs.declared.listing.Page.{Page}
use Rattle.lg_gram.specs.declared.listing.Stats.{Stats}
use Rattle.lg_gram.specs.declared.listing.Token.{Token}
use Rattle.lg_gram.specs.declared.reply.Reply.{Reply}
use Rattle.lg_gram.specs.declared.reply.Reply.TheVariants.{Listed, Beyond, Published, Refused, At, NoListing}
use Rattle.lg_dict.specs.Dictionary.{Dictionary}
use Rattle.lg_log.specs.Codes.{is_code, is_of}
use Rattle.lg_log.specs.Passes.{LogId, Standing, HasAllOf, at_start, with_code, at_end}
use Rattle.lg_script.specs.Commands.{CommandView}
use Rattle.lg_script.specs.EditNumbers.{edit_counts}
use Rattle.lg_script.specs.Histories.{dictionary_after}
use Rattle.lg_script.specs.Codes.{places_of, AreScripts}
use Rattle.lg_core.specs.declared.event.Event.TheVariants.{Look, Learn, Publish, More}
use Rattle.lg_core.specs.declared.note.Note.{Note}
use Rattle.lg_core.specs.declared.note.NoteKind.{NoteKind}
use Rattle.lg_core.specs.declared.note.NoteKind.TheVariants as noted
use Rattle.lg_core.specs.declared.state.Actor.{Actor}
use Rattle.lg_core.specs.declared.state.Core.{Core}
use Rattle.lg_core.specs.declared.state.Hold.{Hold}
use Rattle.lg_core.specs.Core.{start_of, Happens}
use Rattle.lg_core.specs.Lawful.{Runs, IsLegalCore, notes_of}
use Rattle.lg_session.specs.declared.session.Session.{Session}

-- ---- steps

-- the core as a session knows it: the history is what its pass has seen
abbrev pub known : Standing → List Actor → Core
known pass actors = record { history = pass.seen; actors = actors }

-- One atomic step of a session: what it makes of the pass, and of the core as it is known then.
pub data Acts (scripts : List (List CommandView)) (base : Dictionary) (session : ℕ) : Standing → List Actor → Standing → List Actor → Option Note → Type 0 where
  -- a code of another session stands behind all that was seen, and is seen
  learns : (pass : Standing) (actors then : List Actor) (code : ℕ) → is_of (session ∷ []) code ≡ false
      → Happens scripts base (known (with_code pass code) actors) (Learn session) (known (with_code pass code) then) None
      → Acts scripts base session pass actors (with_code pass code) then None
  -- no code stands there: what was seen is the whole history
  looks : (pass : Standing) (actors then : List Actor) (note : Option Note)
      → Happens scripts base (known pass actors) (Look session) (known pass then) note
      → Acts scripts base session pass actors (at_end pass) then note
  -- a code of its own stands there now
  publishes : (pass : Standing) (actors then : List Actor) (code : ℕ) (note : Option Note) → is_of (session ∷ []) code ≡ true
      → Happens scripts base (known pass actors) (Publish session) (known (with_code pass code) then) note
      → Acts scripts base session pass actors (with_code pass code) then note
  -- the history is left alone
  pages : (pass : Standing) (actors then : List Actor) (note : Option Note)
      → Happens scripts base (known pass actors) (More session) (known pass then) note
      → Acts scripts base session pass actors pass then note

-- steps, one after another, with the notes of the commands that they end
pub data Path (scripts : List (List CommandView)) (base : Dictionary) (session : ℕ) : Standing → List Actor → Standing → List Actor → List Note → Type 0 where
  ends : (pass : Standing) (actors : List Actor) → Path scripts base session pass actors pass actors []
  goes : (pass next last : Standing) (actors then final : List Actor) (note : Option Note) (notes : List Note)
      → Acts scripts base session pass actors next then note → Path scripts base session next then last final notes
      → Path scripts base session pass actors last final (option_to_list note ++ notes)

-- ---- turns

-- what is held is a listing of the same version, or nothing
abbrev pub HeldAs : {H : Type 0} → Option (ℕ × H) → Option Hold → Type 0
HeldAs None None = Unit {0}
HeldAs (Some held) (Some hold) = hold.version ≡ held.0
HeldAs held hold = ⊥

-- One of the actors stands for the session, and the session's dictionary is that after all edits that it has seen.
pub record StandsFor {H : Type 0} (scripts : List (List CommandView)) (base : Dictionary) (session : Session H) (actors : List Actor) : Type 0 where
  pub actor : Actor
  pub is : slice_get actors session.session ≡ Some actor
  pub place : actor.place ≡ session.place
  pub seen : actor.seen ≡ length session.pass.seen
  pub held : HeldAs session.held actor.held
  pub newest : session.view ≡ dictionary_after scripts base (places_of scripts session.pass.seen)

-- a note of this version and kind says what the answer says
pub data Tells : Reply → ℕ → NoteKind → Type 0 where
  listed : (version : ℕ) (tokens : List Token) (page : Page) (stats : Stats) → Tells (Listed version tokens page (Some stats)) version noted.Listed
  beyond : (version : ℕ) (bound : Bound) → Tells (Beyond version bound) version noted.Beyond
  paged : (hold : Hold) (tokens : List Token) (page : Page) → Tells (Listed hold.version tokens page None) hold.version (noted.Paged hold)
  no_listing : Tells NoListing 0 noted.NoListing
  published : (version : ℕ) → Tells (Published version) version noted.Published
  refused : (version : ℕ) (cause : EditRefusal) (name : List ℕ) → Tells (Refused version cause name) version (noted.Refused cause)
  version : (version : ℕ) → Tells (At version) version noted.At

-- The turn is steps of the core, one after another: look at the history as far as it is known, answer. One command ends in them, with
-- a note that says what the answer says.
pub record TakesSteps {H : Type 0} (scripts : List (List CommandView)) (base : Dictionary) (session : Session H) (actors : List Actor) (after : Session H × Reply) : Type 0 where
  pub then : List Actor
  pub note : Note
  pub path : Path scripts base session.session session.pass actors after.0.pass then (note ∷ [])
  pub told : Tells after.1 note.version note.kind
  pub stands : StandsFor scripts base after.0 then

-- ---- all sessions

-- Turns of a session from its start on, each of which takes steps, with their answers: where its pass and its actor stand then.
pub data Turns (scripts : List (List CommandView)) (base : Dictionary) (log : LogId) (session : ℕ) : Standing → List Actor → List Reply → Type 0 where
  start : Turns scripts base log session (at_start log (session ∷ [])) (start_of (length scripts)).actors []
  turn : (pass next : Standing) (actors then : List Actor) (replies : List Reply) (reply : Reply) (note : Note)
      → Turns scripts base log session pass actors replies → Path scripts base session pass actors next then (note ∷ []) → Tells reply note.version note.kind
      → Turns scripts base log session next then (replies ++ reply ∷ [])

-- A session was answered so, and its turns end in this history: they have seen a beginning of it, with all codes of the session.
pub record EndsIn (scripts : List (List CommandView)) (base : Dictionary) (history : List ℕ) (session : ℕ) (replies : List Reply) : Type 0 where
  pub log : LogId
  pub pass : Standing
  pub actors : List Actor
  pub turns : Turns scripts base log session pass actors replies
  pub all : HasAllOf (session ∷ []) pass.seen history

-- there is a note for each answer, in their order
abbrev pub AreTold : List Reply → List Note → Type 0
AreTold [] [] = Unit {0}
AreTold (reply ∷ replies) (note ∷ notes) = Tells reply note.version note.kind × AreTold replies notes
AreTold replies notes = ⊥

-- A run of the core has this history, and each session's notes in it tell the session's answers. It is legal, as every run is.
pub record IsRun (scripts : List (List CommandView)) (base : Dictionary) (history : List ℕ) (lists : List (List Reply)) : Type 0 where
  pub core : Core
  pub notes : List Note
  pub runs : Runs scripts base core notes
  pub same_history : core.history ≡ history
  pub told : (session : ℕ) (replies : List Reply) → slice_get lists session ≡ Some replies → AreTold replies (notes_of (session + 1) notes)
  pub legal : IsLegalCore scripts base core notes

-- The turns of all sessions, which end in one history of their codes, are a run of the core.
abbrev pub PathsMakeRuns : Type 0
PathsMakeRuns = (scripts : List (List CommandView)) (base : Dictionary) → AreScripts scripts
    → (history : List ℕ) → list_all (is_code (edit_counts scripts)) history ≡ true
    → (lists : List (List Reply)) → length lists ≡ length scripts
    → ((session : ℕ) (replies : List Reply) → slice_get lists session ≡ Some replies → EndsIn scripts base history session replies)
    → IsRun scripts base history lists
