-- Each exit: what is left of the line is what the head of this place and kind has there.
use Rattle.std.proofs.Common.{sym, ◌∙◌, subst}
use Rattle.lg_text.specs.Replies.{kind_word, place_text}
use Rattle.lg_audit.specs.Pieces.{HasNoBlank}
use Rattle.lg_audit.proofs.Cuts.{same_first, has_blank}
use Rattle.lg_audit.proofs.Heads.{behind_piece, kind_solid, not_another}
use Rattle.lg_audit.proofs.head.told.Goals as goal

pub returns-in_default-first_piece : goal.returns-in_default-first_piece
returns-in_default-first_piece c = λ rest is.
    let left = behind_piece c.args.line.now (place_text (record { session = c.args.session; command = c.args.command })) _ _ c.in-Some.ensures is in
    has_blank (kind_word c.args.kind) rest (subst HasNoBlank left c.in_default-first_piece.ensures)

pub returns-then-ne : goal.returns-then-ne
returns-then-ne c = λ rest is.
    let left = behind_piece c.args.line.now (place_text (record { session = c.args.session; command = c.args.command })) _ _ c.in-Some.ensures is in
    let cut = c.in-Some-first_piece.ensures in
    let words = same_first _ (kind_word c.args.kind) _ _ cut.0 (kind_solid c.args.kind) (sym cut.1 ∙ left) in
    not_another _ _ (words.0 ∙ sym c.word_of.ensures) c.if-ne.ensures
