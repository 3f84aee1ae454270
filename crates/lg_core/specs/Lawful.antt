-- What holds of the history and of the notes, whatever steps were made.
use Rattle.std.specs.Prelude.{◌≡◌, ℕ, ◌+◌, ◌≤◌, ◌<◌, ◌==◌, Bool, true, false, List, [], ◌∷◌, ◌++◌, length, map, filter, count_by, All, AllPairs, Option, Some}
use Rattle.std.specs.Option.{option_to_list}
use Rattle.lg_gram.specs.declared.edit.EditRefusal.{EditRefusal}
use Rattle.lg_gram.specs.declared.listing.Bound.{Bound}
use Rattle.lg_gram.specs.declared.listing.Token.{Token}
use Rattle.lg_gram.specs.declared.reply.Place.{Place}
use Rattle.lg_dict.specs.Dictionary.{Dictionary}
use Rattle.lg_edit.specs.Edits.{EditView, accept}
use Rattle.lg_log.specs.Codes.{is_code}
use Rattle.lg_token.specs.Bounds.{AreListed, IsBeyond}
use Rattle.lg_script.specs.Commands.{CommandView, goes_on, makes, asks}
use Rattle.lg_script.specs.EditNumbers.{edit_counts}
use Rattle.lg_script.specs.Histories.{command_at, version_of, IsPublishedAt}
use Rattle.lg_core.specs.declared.event.Event.{Event}
use Rattle.lg_core.specs.declared.note.Note.{Note}
use Rattle.lg_core.specs.declared.note.NoteKind.{NoteKind}
use Rattle.lg_core.specs.declared.note.NoteKind.TheVariants.{Listed, Beyond, Paged, NoListing, Published, Refused, At}
use Rattle.lg_core.specs.declared.state.Core.{Core}
use Rattle.lg_core.specs.declared.state.Hold.{Hold}
use Rattle.lg_script.specs.Codes.{AreScripts}
use Rattle.lg_core.specs.Core.{journal_of, start_of, sentence_of, Happens}

-- steps from the start, one after another, and their notes in the same order
pub data Runs (scripts : List (List CommandView)) (base : Dictionary) : Core → List Note → Type 0 where
  start : Runs scripts base (start_of (length scripts)) []
  step : (core then : Core) (notes : List Note) (event : Event) (note : Option Note) → Runs scripts base core notes → Happens scripts base core event then note
      → Runs scripts base then (notes ++ option_to_list note)

-- ---- notes

-- the notes of a session, numbered from 1
abbrev pub notes_of : ℕ → List Note → List Note
notes_of session notes = filter (λ n. n.session == session) notes

-- the command of a note
abbrev pub noted : Note → Place
noted n = record { session = n.session; command = n.command }

abbrev pub is_published : NoteKind → Bool
is_published Published = true
is_published _ = false

-- the answers to `parse` and `list`
abbrev pub is_listing : NoteKind → Bool
is_listing Listed = true
is_listing Beyond = true
is_listing _ = false

abbrev pub is_paged : NoteKind → Bool
is_paged (Paged hold) = true
is_paged _ = false

-- the answers that name what the session has seen: those to all commands but `more`, which goes on with an old version
abbrev pub is_fresh : NoteKind → Bool
is_fresh (Paged hold) = false
is_fresh NoListing = false
is_fresh _ = true

-- the version of a later note is no lower, and that which an edit made is higher
abbrev pub rises : NoteKind → ℕ → ℕ → Type 0
rises Published old new = old < new
rises kind old new = old ≤ new

abbrev pub Precedes : Note → Note → Type 0
Precedes earlier later = rises later.kind earlier.version later.version

-- The listing that the notes of a session leave to go on with: that of its last `parse` or `list`, if it was listed, with the number
-- of `more`s since.
pub record Leaves (notes : List Note) (hold : Hold) : Type 0 where
  pub before : List Note
  pub note : Note
  pub after : List Note
  pub parts : notes ≡ before ++ note ∷ after
  pub listed : note.kind ≡ Listed
  pub last : All (λ n. is_listing n.kind ≡ false) after
  pub version : hold.version ≡ note.version
  pub command : hold.command ≡ note.command
  pub mores : hold.mores ≡ count_by (λ n. is_paged n.kind) after

-- ---- what is right

-- What a note of the command at a place says, by the version that it names and the notes of its session before it. An edit made the
-- version, or is refused by it. A sentence is listed, or passes a bound, by the dictionary of the version. `more` goes on with the
-- listing that is left.
pub data Says (scripts : List (List CommandView)) (base : Dictionary) (journal : List Place) (p : Place) (earlier : List Note) : CommandView → ℕ → NoteKind → Type 0 where
  published : (edit : EditView) (version : ℕ) → IsPublishedAt scripts base journal p edit version → Says scripts base journal p earlier (makes edit) version Published
  refused : (edit : EditView) (version : ℕ) (cause : EditRefusal) → accept (version_of scripts base journal version) edit ≡ Some cause
      → Says scripts base journal p earlier (makes edit) version (Refused cause)
  version : (version : ℕ) → Says scripts base journal p earlier asks version At
  listed : (command : CommandView) (text : List ℕ) (version : ℕ) (tokens : List Token) → sentence_of command ≡ Some text → AreListed (version_of scripts base journal version) text tokens
      → Says scripts base journal p earlier command version Listed
  beyond : (command : CommandView) (text : List ℕ) (version : ℕ) (bound : Bound) → sentence_of command ≡ Some text → IsBeyond (version_of scripts base journal version) text bound
      → Says scripts base journal p earlier command version Beyond
  paged : (hold : Hold) → Leaves earlier hold → Says scripts base journal p earlier goes_on hold.version (Paged hold)
  no_listing : ((hold : Hold) → Leaves earlier hold → ⊥) → Says scripts base journal p earlier goes_on 0 NoListing

-- a note, by those of its session before it: it is of the command after theirs
pub record IsRight (scripts : List (List CommandView)) (base : Dictionary) (journal : List Place) (earlier : List Note) (n : Note) : Type 0 where
  pub in_order : n.command ≡ length earlier + 1
  pub command : CommandView
  pub stands : command_at scripts (noted n) ≡ Some command
  pub says : Says scripts base journal (noted n) earlier command n.version n.kind

-- The history has the codes of edits: exactly those of each session that were published, in the order of their notes, each once. The
-- notes of each session answer its commands in order, and each is right. No note names a version that is not there, and the versions of
-- a session never fall.
pub record IsLegalCore (scripts : List (List CommandView)) (base : Dictionary) (core : Core) (notes : List Note) : Type 0 where
  pub codes : All (λ code. is_code (edit_counts scripts) code ≡ true) core.history
  pub published : (session : ℕ) → filter (λ p. p.session == session) (journal_of scripts core) ≡ map noted (filter (λ n. is_published n.kind) (notes_of session notes))
  pub there : All (λ n. n.version ≤ length core.history) notes
  pub rise : (session : ℕ) → AllPairs Precedes (filter (λ n. is_fresh n.kind) (notes_of session notes))
  pub right : (before : List Note) (n : Note) (after : List Note) → notes ≡ before ++ n ∷ after → IsRight scripts base (journal_of scripts core) (notes_of n.session before) n

-- the law, over every list of steps
abbrev pub EveryRunIsLegal : Type 0
EveryRunIsLegal = (scripts : List (List CommandView)) (base : Dictionary) → AreScripts scripts → (core : Core) (notes : List Note) → Runs scripts base core notes → IsLegalCore scripts base core notes
