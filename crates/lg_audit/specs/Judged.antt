-- What comes of a document that was read.
use Rattle.std.specs.Prelude.{◌≡◌, List, length, map}
use Rattle.std.specs.List.{sum_by}
use Rattle.lg_script.specs.Histories.{HasPublished}
use Rattle.lg_audit.specs.Lines.{ShownReply}
use Rattle.lg_audit.specs.Replies.{Basis, outline}
use Rattle.lg_audit.specs.Shares.{NamesEdits}
use Rattle.lg_audit.specs.Walks.{AllHold, IsFirstPlace}
use Rattle.lg_audit.specs.Audits.{shown_by}
use Rattle.lg_audit.specs.declared.answer.AuditAnswer.{AuditAnswer}
use Rattle.lg_audit.specs.declared.answer.AuditAnswer.TheVariants.{Yes, Shape, Journal, Reply}

-- the journal is that of the edits that were published
abbrev pub HasJournal : Basis → List (List ShownReply) → Type 0
HasJournal basis replies = NamesEdits basis.scripts basis.journal × HasPublished basis.journal (map (map outline) replies)

-- all holds, or this is wrong
abbrev pub IsJudged : Basis → List (List ShownReply) → AuditAnswer → Type 0
IsJudged basis replies (Yes shown) = HasJournal basis replies × AllHold basis replies (length replies) × (shown ≡ sum_by (sum_by shown_by) replies)
IsJudged basis replies Shape = ⊥
IsJudged basis replies Journal = HasJournal basis replies → ⊥
IsJudged basis replies (Reply p) = HasJournal basis replies × IsFirstPlace basis replies p
