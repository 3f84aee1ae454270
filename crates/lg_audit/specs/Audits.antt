-- What an audit answers.
use Rattle.std.specs.Prelude.{◌≡◌, ◌⊎◌, ℕ, ◌<◌, true, false, List, length, map, All, Option, Some, IsSome}
use Rattle.std.specs.List.{sum_by}
use Rattle.lg_gram.specs.declared.reply.Place.{Place}
use Rattle.lg_dict.specs.Dictionary.{Dictionary}
use Rattle.lg_knowread.specs.declared.knowledge.Knowledge.{Knowledge}
use Rattle.lg_script.specs.Commands.{CommandView, is_edit}
use Rattle.lg_script.specs.Histories.{numbered, command_at, HasPublished}
use Rattle.std.specs.Option.{option_map_or}
use Rattle.lg_audit.specs.Lines.{ShownReply, listed}
use Rattle.lg_audit.specs.Documents.{ShownDocument, Shows}
use Rattle.lg_audit.specs.Replies.{Basis, Held, Hold, outline, linkages_on}
use Rattle.lg_audit.specs.declared.answer.AuditAnswer.{AuditAnswer}
use Rattle.lg_audit.specs.declared.answer.AuditAnswer.TheVariants.{Yes, Shape, Journal, Reply}

-- what a document is audited by
pub record Inputs : Type 0 where
  pub base : Dictionary
  pub know : Knowledge
  pub scripts : List (List CommandView)

abbrev pub basis_of : Inputs → ShownDocument → Basis
basis_of inputs d = record { base = inputs.base; know = inputs.know; scripts = inputs.scripts; journal = d.journal }

-- each line of the journal names a command that edits, and the journal has the edits that were published, in order, each once
pub record JournalHolds (inputs : Inputs) (d : ShownDocument) : Type 0 where
  pub edits : All (λ p. option_map_or is_edit (command_at inputs.scripts p) false ≡ true) d.journal
  pub published : HasPublished d.journal (map (map outline) d.replies)

-- the first n answers of the session hold, and after them that is held
pub record HaveHeld (inputs : Inputs) (d : ShownDocument) (session n : ℕ) (held : Option Held) : Type 0 where
  pub commands : List CommandView
  pub replies : List ShownReply
  pub script : numbered inputs.scripts session ≡ Some commands
  pub answers : numbered d.replies session ≡ Some replies
  pub hold : Hold (basis_of inputs d) session commands replies n held

-- the answer at the place holds, and those before it in its session
abbrev pub Holds : Inputs → ShownDocument → Place → Type 0
Holds inputs d p = (held : Option Held) × HaveHeld inputs d p.session p.command held

abbrev pub IsPlaceOf : Inputs → Place → Type 0
IsPlaceOf inputs p = IsSome (command_at inputs.scripts p)

-- by session, and then by command
abbrev pub IsBefore : Place → Place → Type 0
IsBefore p q = (p.session < q.session) ⊎ ((p.session ≡ q.session) × (p.command < q.command))

-- how many linkages a document shows
abbrev pub shown_by : ShownReply → ℕ
shown_by (listed version stats page) = length (linkages_on page)
shown_by _ = 0

abbrev pub shown_count : ShownDocument → ℕ
shown_count d = sum_by (sum_by shown_by) d.replies

-- The answer of an audit. Yes: the bytes are a document, its journal holds, and so does each answer; the number is that of the linkages
-- shown. Shape: they are no document. Journal: they are one, and its journal does not hold. Reply: its journal holds, and the answer at
-- the place is the first that does not.
abbrev pub IsAudit : Inputs → List ℕ → AuditAnswer → Type 0
IsAudit inputs bytes (Yes shown) =
    (d : ShownDocument) × Shows inputs.scripts bytes d × JournalHolds inputs d × ((p : Place) → IsPlaceOf inputs p → Holds inputs d p) × (shown ≡ shown_count d)
IsAudit inputs bytes Shape = (d : ShownDocument) → Shows inputs.scripts bytes d → ⊥
IsAudit inputs bytes Journal = (d : ShownDocument) × Shows inputs.scripts bytes d × (JournalHolds inputs d → ⊥)
IsAudit inputs bytes (Reply p) =
    (d : ShownDocument) × Shows inputs.scripts bytes d × JournalHolds inputs d
    × IsPlaceOf inputs p × (Holds inputs d p → ⊥) × ((q : Place) → IsPlaceOf inputs q → IsBefore q p → Holds inputs d q)
