-- What the functions of a turn say of their answers.
use Rattle.std.specs.Prelude.{◌≡◌, ℕ, ◌+◌, List, [], length, Option, Some, None}
use Rattle.lg_gram.specs.declared.reply.Place.{Place}
use Rattle.lg_gram.specs.declared.reply.Reply.{Reply}
use Rattle.lg_gram.specs.declared.reply.Reply.TheVariants.{Listed, NoListing}
use Rattle.lg_dict.specs.Dictionary.{Dictionary}
use Rattle.lg_edit.specs.Edits.{EditView}
use Rattle.lg_log.specs.Codes.{code_session}
use Rattle.lg_script.specs.Commands.{CommandView, goes_on}
use Rattle.lg_script.specs.Histories.{command_at}
use Rattle.lg_session.specs.declared.session.Session.{Session}
use Rattle.lg_script.specs.Codes.{place_of, code_after}
use Rattle.lg_core.specs.declared.event.Event.{Event}
use Rattle.lg_core.specs.declared.event.Event.TheVariants.{Look, More}
use Rattle.lg_core.specs.declared.note.Note.{Note}
use Rattle.lg_core.specs.declared.state.Actor.{Actor}
use Rattle.lg_core.specs.Core.{Happens}
use Rattle.lg_session.specs.Engines.{Meaning, Progress, GoesOn}
use Rattle.lg_session.specs.Learning.{CatchesUp, IsEdited}
use Rattle.lg_session.specs.Legal.{Holding, AnswerIs}
use Rattle.lg_session.specs.Paths.{known, Tells, StandsFor, TakesSteps}
use Rattle.lg_session.specs.Turns.{Story, HasCome, run_in, journal_in, place_in, added, IsTimely, Grows, Turned}

-- the story with what is held after a turn
abbrev pub later : Story → Option Holding → Story
later story then = record story { holding = then; limit = story.limit + 2000000 }

-- the session stays, but for what it holds
pub record Stays {H : Type 0} (before after : Session H) : Type 0 where
  pub session : after.session ≡ before.session
  pub place : after.place ≡ before.place
  pub pass : after.pass ≡ before.pass
  pub view : after.view ≡ before.view

-- the session has seen the history to its end, and is else as it was
pub record IsUp {H : Type 0} (scripts : List (List CommandView)) (Over : Dictionary → Type 0) (before after : Session H) : Type 0 where
  pub session : after.session ≡ before.session
  pub place : after.place ≡ before.place
  pub held : after.held ≡ before.held
  pub up : CatchesUp scripts Over (before.pass, before.view) (after.pass, after.view)

-- the command is answered right by what the session has seen
pub record AnswersSo {H : Type 0} (meaning : Meaning) (Stands : H → Dictionary → Progress → Type 0) (story : Story) (session : Session H)
    (command : CommandView) (after : Session H × Reply) : Type 0 where
  pub then : Option Holding
  pub come : HasCome Stands (later story then) after.0
  pub answer : AnswerIs (run_in meaning story (journal_in story after.0)) (place_in session) story.holding command after.1 then
  pub timely : IsTimely command after.1 (length after.0.pass.seen)

-- the answer is counted
abbrev pub counted : {H : Type 0} → Session H × Reply → Session H × Reply
counted after = (record after.0 { place = after.0.place + 1 }, after.1)

-- the step of the core that ends a command and publishes nothing
abbrev pub ending : CommandView → ℕ → Event
ending goes_on session = More session
ending command session = Look session

-- by this step the command ends, with a note that says what the answer says
pub record EndsWith {H : Type 0} (scripts : List (List CommandView)) (base : Dictionary) (session : Session H) (command : CommandView) (actors : List Actor) (after : Session H × Reply) : Type 0 where
  pub then : List Actor
  pub note : Note
  pub happens : Happens scripts base (known session.pass actors) (ending command session.session) (known session.pass then) (Some note)
  pub told : Tells after.1 note.version note.kind
  pub stands : StandsFor scripts base (counted after).0 then

-- the command is answered by what the session has seen, and nothing is published
pub record IsAnswered {H : Type 0} (meaning : Meaning) (Stands : H → Dictionary → Progress → Type 0) (session : Session H) (command : CommandView) (after : Session H × Reply) : Type 0 where
  pub stays : Stays session after.0
  pub unpublished : (p : Place) → added p after.1 ≡ []
  pub answers : (story : Story) → HasCome Stands story session → AnswersSo meaning Stands story session command after
  pub steps : (scripts : List (List CommandView)) (base : Dictionary) (actors : List Actor) → command_at scripts (place_in session) ≡ Some command → StandsFor scripts base session actors
      → EndsWith scripts base session command actors after

-- what comes of `more`, by what is held: the next page of the listing, or none
abbrev pub GivesNextPage : {H : Type 0} → Meaning → (H → Dictionary → Progress → Type 0) → Option (ℕ × H) → Option (ℕ × H) × Reply → Type 0
GivesNextPage meaning Stands None (None, NoListing) = Unit {0}
GivesNextPage meaning Stands (Some (version, held)) (Some (same, next), Listed of tokens page stats) = (same ≡ version) × (of ≡ version) × (stats ≡ None)
    × ((dict : Dictionary) (progress : Progress) → Stands held dict progress → GoesOn meaning Stands dict progress next tokens page)
GivesNextPage meaning Stands held after = ⊥

-- The next command is answered, and not yet counted.
pub record Answers {H : Type 0} (meaning : Meaning) (Stands : H → Dictionary → Progress → Type 0) (story : Story) (session : Session H) (after : Session H × Reply) : Type 0 where
  pub same_session : after.0.session ≡ session.session
  pub same_place : after.0.place ≡ session.place
  pub grown : Grows story (place_in session) after.1 session.pass after.0.pass
  pub turned : (command : CommandView) → command_at story.scripts (place_in session) ≡ Some command → HasCome Stands story session
      → Turned meaning Stands story session command (counted after)
  pub steps : (actors : List Actor) → StandsFor story.scripts story.base session actors → TakesSteps story.scripts story.base session actors (counted after)

-- the edit at the session's place was published or refused, under its code
pub record IsMade {H : Type 0} (scripts : List (List CommandView)) (edit : EditView) (before : Session H) (after : Session H × Reply) : Type 0 where
  pub session : after.0.session ≡ before.session
  pub place : after.0.place ≡ before.place
  pub held : after.0.held ≡ before.held
  pub code : ℕ
  pub own : code_session code ≡ before.session
  pub at : place_of scripts code ≡ place_in before
  pub counted_so : code ≡ code_after scripts before.session before.place
  pub edited : IsEdited scripts code edit (before.pass, before.view) (after.0.pass, after.0.view) after.1
