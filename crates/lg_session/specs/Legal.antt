-- What has to hold of the journal and of the answers of sessions that edit one dictionary and ask for sentences.
use Rattle.std.specs.Prelude.{◌≡◌, ℕ, ◌+◌, List, [], ◌∷◌, length, Option, Some, None}
use Rattle.lg_gram.specs.declared.edit.EditRefusal.{EditRefusal}
use Rattle.lg_gram.specs.declared.listing.Bound.{Bound}
use Rattle.lg_gram.specs.declared.listing.Page.{Page}
use Rattle.lg_gram.specs.declared.listing.Stats.{Stats}
use Rattle.lg_gram.specs.declared.listing.Token.{Token}
use Rattle.lg_gram.specs.declared.reply.Place.{Place}
use Rattle.lg_gram.specs.declared.reply.Reply.{Reply}
use Rattle.lg_gram.specs.declared.reply.Reply.TheVariants.{Listed, Beyond, Published, Refused, At, NoListing}
use Rattle.lg_dict.specs.Dictionary.{Dictionary}
use Rattle.lg_token.specs.Bounds.{AreListed, IsBeyond}
use Rattle.lg_edit.specs.Edits.{EditView}
use Rattle.lg_script.specs.declared.command.Command.{Command}
use Rattle.lg_script.specs.Commands.{CommandView, script_views, parses, lists, goes_on, makes, asks}
use Rattle.lg_script.specs.Histories.{numbered, version_of, HasPublished, AreInTime, IsPublishedAt, IsRefusedAt}
use Rattle.lg_session.specs.Engines.{Meaning, Progress, start_of, moved}

-- what a session holds: a listing by the dictionary of a version
pub record Holding : Type 0 where
  pub version : ℕ
  pub progress : Progress

-- A command asks for the listing of a sentence from a candidate on: `parse` from the first, as many as the engine gives, and
-- `list` from a number on, as many as it says.
pub data AsksFor : CommandView → List ℕ → ℕ → Option ℕ → Type 0 where
  parse : (text : List ℕ) → AsksFor (parses text) text 1 None
  list : (first want : ℕ) (text : List ℕ) → AsksFor (lists first want text) text first (Some want)

-- what a run has in hand: the meaning of its engine, its scripts, its dictionary, and the journal of its edits
pub record Run : Type 1 where
  pub meaning : Meaning
  pub scripts : List (List CommandView)
  pub base : Dictionary
  pub journal : List Place

abbrev pub run_of : Meaning → List (List Command) → Dictionary → List Place → Run
run_of meaning scripts base journal = record { meaning = meaning; scripts = script_views scripts; base = base; journal = journal }

abbrev pub dictionary_at : Run → ℕ → Dictionary
dictionary_at run version = version_of run.scripts run.base run.journal version

-- The answer to the command at a place, by what is held before it, and what is held after it. An edit is published or refused.
-- A sentence is listed by the dictionary of the version that the answer names, with its tokens, and the listing is held; a sentence
-- past a bound leaves no listing. `more` goes on with the listing that is held, by the dictionary that it began with.
pub data AnswerIs (run : Run) (p : Place) : Option Holding → CommandView → Reply → Option Holding → Type 0 where
  published : (held : Option Holding) (edit : EditView) (version : ℕ) → IsPublishedAt run.scripts run.base run.journal p edit version
      → AnswerIs run p held (makes edit) (Published version) held
  refused : (held : Option Holding) (edit : EditView) (version : ℕ) (cause : EditRefusal) (name : List ℕ) → IsRefusedAt run.scripts run.base run.journal edit version cause name
      → AnswerIs run p held (makes edit) (Refused version cause name) held
  version : (held : Option Holding) (version : ℕ) → AnswerIs run p held asks (At version) held
  listed : (held : Option Holding) (command : CommandView) (text : List ℕ) (first : ℕ) (want : Option ℕ) (version : ℕ) (tokens : List Token) (page : Page) (stats : Stats)
      → AsksFor command text first want → AreListed (dictionary_at run version) text tokens → run.meaning.shows (dictionary_at run version) (start_of text want tokens first) page → run.meaning.counts (dictionary_at run version) text stats
      → AnswerIs run p held command (Listed version tokens page (Some stats)) (Some (record { version = version; progress = moved (start_of text want tokens first) page }))
  beyond : (held : Option Holding) (command : CommandView) (text : List ℕ) (first : ℕ) (want : Option ℕ) (version : ℕ) (bound : Bound)
      → AsksFor command text first want → IsBeyond (dictionary_at run version) text bound
      → AnswerIs run p held command (Beyond version bound) None
  more : (h : Holding) (page : Page) → run.meaning.shows (dictionary_at run h.version) h.progress page
      → AnswerIs run p (Some h) goes_on (Listed h.version h.progress.tokens page None) (Some (record h { progress = moved h.progress page }))
  no_more : AnswerIs run p None goes_on NoListing None

-- the answers to the commands of a session from that number on, or to the first of them, by what is held before them
pub data Answered (run : Run) (session : ℕ) : ℕ → Option Holding → List CommandView → List Reply → Type 0 where
  so_far : (n : ℕ) (held : Option Holding) (commands : List CommandView) → Answered run session n held commands []
  next : (n : ℕ) (held then : Option Holding) (command : CommandView) (commands : List CommandView) (r : Reply) (rs : List Reply)
      → AnswerIs run (record { session = session; command = n }) held command r then → Answered run session (n + 1) then commands rs
      → Answered run session n held (command ∷ commands) (r ∷ rs)

-- the answers of one session, which holds nothing at its start
pub record IsLegalSession (run : Run) (session : ℕ) (commands : List CommandView) (replies : List Reply) : Type 0 where
  pub in_time : AreInTime run.journal commands replies
  pub answered : Answered run session 1 None commands replies

-- The journal and the answers of all sessions, to a front part of the commands of each.
pub record IsLegal (run : Run) (replies : List (List Reply)) : Type 0 where
  pub journal : HasPublished run.journal replies
  pub same_length : length replies ≡ length run.scripts
  pub sessions : (session : ℕ) (commands : List CommandView) (rs : List Reply) → numbered run.scripts session ≡ Some commands → numbered replies session ≡ Some rs
      → IsLegalSession run session commands rs

-- every command is answered
abbrev pub AnswersAll : List (List CommandView) → List (List Reply) → Type 0
AnswersAll scripts replies = (session : ℕ) (commands : List CommandView) (rs : List Reply) → numbered scripts session ≡ Some commands → numbered replies session ≡ Some rs
    → length rs ≡ length commands
