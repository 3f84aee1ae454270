-- When the answer to an edit holds.
use Rattle.std.specs.Prelude.{◌≡◌, ℕ, List}
use Rattle.lg_gram.specs.declared.edit.EditRefusal.{EditRefusal}
use Rattle.lg_gram.specs.declared.reply.Place.{Place}
use Rattle.lg_edit.specs.Edits.{EditView}
use Rattle.lg_text.specs.Replies.{cause_pieces}
use Rattle.lg_script.specs.Histories.{IsPublishedAt, IsRefusedAt}
use Rattle.lg_audit.specs.Lines.{ShownReply, published, refused, line}
use Rattle.lg_audit.specs.Replies.{Basis}

-- this version refuses the edit, and the text tells the cause
pub record TellsRefusal (basis : Basis) (edit : EditView) (version : ℕ) (text : List ℕ) : Type 0 where
  pub cause : EditRefusal
  pub name : List ℕ
  pub refused : IsRefusedAt basis.scripts basis.base basis.journal edit version cause name
  pub is : text ≡ line (cause_pieces cause name)

abbrev pub EditHolds : Basis → Place → EditView → ShownReply → Type 0
EditHolds basis p edit (published version) = IsPublishedAt basis.scripts basis.base basis.journal p edit version
EditHolds basis p edit (refused version text) = TellsRefusal basis edit version text
EditHolds basis p edit _ = ⊥
