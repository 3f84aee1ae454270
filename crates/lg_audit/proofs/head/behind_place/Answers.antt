-- Each exit: what is left of the line is what this place and a blank leave.
use Rattle.std.proofs.Common.{decimal, sym, ◌∙◌, subst, arith, true≢false}
use Rattle.lg_audit.specs.Pieces.{HasNoBlank}
use Rattle.lg_audit.proofs.Cuts.{same_first, has_blank, decimal_solid}
use Rattle.lg_audit.proofs.Heads.{session_cut}
use Rattle.lg_audit.proofs.head.behind_place.Goals as goal

pub returns-then-not-is_number : goal.returns-then-not-is_number
returns-then-not-is_number c = λ rest is.
    let cut = c.in-Some.ensures in
    let parts = session_cut c.args.line.now _ _ c.args.session c.args.command (omega arith) cut.0 cut.1 rest is in
    true≢false (sym (c.is_number.ensures.1 parts.0) ∙ c.if-not-is_number.true)

pub returns-in_default-first_piece : goal.returns-in_default-first_piece
returns-in_default-first_piece c = λ rest is.
    let cut = c.in-Some.ensures in
    let parts = session_cut c.args.line.now _ _ c.args.session c.args.command (omega arith) cut.0 cut.1 rest is in
    has_blank (decimal c.args.command) rest (subst HasNoBlank parts.1 c.in_default-first_piece.ensures)

pub returns-then-not-is_number-2 : goal.returns-then-not-is_number-2
returns-then-not-is_number-2 c = λ rest is.
    let cut = c.in-Some.ensures in
    let parts = session_cut c.args.line.now _ _ c.args.session c.args.command (omega arith) cut.0 cut.1 rest is in
    let cut' = c.in-Some-first_piece.ensures in
    let pieces = same_first _ (decimal c.args.command) _ _ cut'.0 (decimal_solid c.args.command (omega arith)) (sym cut'.1 ∙ parts.1) in
    true≢false (sym (c.is_number-2.ensures.1 pieces.0) ∙ c.if-not-is_number-2.true)
