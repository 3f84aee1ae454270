-- The words of the functions that make a step. What has to hold in the end stands in Core.
use Rattle.std.specs.Prelude.{◌≡◌, ℕ, ◌+◌, List, length, Option, Some, None}
use Rattle.lg_gram.specs.declared.edit.EditRefusal.{EditRefusal}
use Rattle.lg_gram.specs.declared.listing.Bound.{Bound}
use Rattle.lg_gram.specs.declared.listing.Token.{Token}
use Rattle.lg_dict.specs.Dictionary.{Dictionary}
use Rattle.lg_edit.specs.Edits.{accept}
use Rattle.lg_token.specs.Bounds.{bound_of}
use Rattle.lg_token.specs.Tokens.{AreTokens}
use Rattle.lg_script.specs.Commands.{CommandView, parses, lists, goes_on, makes, asks}
use Rattle.lg_script.specs.Histories.{version_of}
use Rattle.lg_core.specs.declared.note.NoteKind.{NoteKind}
use Rattle.lg_core.specs.declared.note.NoteKind.TheVariants.{Listed, Beyond, Refused, At}
use Rattle.lg_core.specs.declared.state.Actor.{Actor}
use Rattle.lg_core.specs.declared.state.Core.{Core}
use Rattle.lg_core.specs.declared.state.Hold.{Hold}
use Rattle.lg_core.specs.declared.look.Looked.{Looked}
use Rattle.lg_core.specs.declared.look.Looked.TheVariants as looks
use Rattle.lg_core.specs.Core.{journal_of, IsNext, IsNextAtEnd}

-- no command is left
abbrev pub HasNoNext : List (List CommandView) → Core → ℕ → Type 0
HasNoNext scripts core session = (actor : Actor) (command : CommandView) → IsNext scripts core session actor command → ⊥

-- no command is left, or not the whole history was seen
abbrev pub IsNotAtEnd : List (List CommandView) → Core → ℕ → Type 0
IsNotAtEnd scripts core session = (actor : Actor) (command : CommandView) → IsNextAtEnd scripts core session actor command → ⊥

-- what an actor holds after a look that ends its command so
abbrev pub held_after : Actor → NoteKind → Option Hold
held_after actor Listed = Some (record { version = actor.seen; command = actor.place + 1; mores = 0 })
held_after actor Beyond = None
held_after actor kind = actor.held

-- the dictionary after all edits of the history
abbrev pub newest_of : List (List CommandView) → Dictionary → Core → Dictionary
newest_of scripts base core = version_of scripts base (journal_of scripts core) (length core.history)

-- the bound that a sentence passes, if it passes one
abbrev pub HasBound : Dictionary → List ℕ → Option Bound → Type 0
HasBound dict text bound = (tokens : List Token) × AreTokens dict text tokens × (bound_of dict tokens ≡ bound)

abbrev pub kind_by : Option Bound → NoteKind
kind_by None = Listed
kind_by (Some bound) = Beyond

-- what a look at the end makes of an edit, by what accepts it
abbrev pub looked_by : Option EditRefusal → Looked
looked_by None = looks.Accepted
looked_by (Some cause) = looks.Ends (Refused cause)

-- what a look at the end makes of a command, by the dictionary that was seen
abbrev pub LooksSo : Dictionary → CommandView → Looked → Type 0
LooksSo dict (parses text) looked = (bound : Option Bound) × HasBound dict text bound × (looked ≡ looks.Ends (kind_by bound))
LooksSo dict (lists first want text) looked = (bound : Option Bound) × HasBound dict text bound × (looked ≡ looks.Ends (kind_by bound))
LooksSo dict goes_on looked = looked ≡ looks.Waits
LooksSo dict (makes edit) looked = looked ≡ looked_by (accept dict edit)
LooksSo dict asks looked = looked ≡ looks.Ends At
