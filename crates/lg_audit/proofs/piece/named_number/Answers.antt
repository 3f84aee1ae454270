-- Each exit: what stands behind the word is a piece and a blank.
use Rattle.std.proofs.Common.{decimal}
use Rattle.lg_audit.proofs.Cuts.{some_piece, piece_is, decimal_solid}
use Rattle.lg_audit.proofs.piece.named_number.Goals as goal

pub returns-in_default-clause-value : goal.returns-in_default-clause-value
returns-in_default-clause-value c = λ n rest fits is. c.in_default.ensures _ is

pub returns-in_default-first_piece-clause-value : goal.returns-in_default-first_piece-clause-value
returns-in_default-first_piece-clause-value c = λ n rest fits is.
    some_piece c.args.front.now c.args.text.now (decimal n) rest (decimal_solid n fits) is _ c.in-Some.ensures c.in_default-first_piece.ensures

pub returns-in_default-number_of-clause-value : goal.returns-in_default-number_of-clause-value
returns-in_default-number_of-clause-value c = λ n rest fits is.
    let cut = c.in-Some-first_piece.ensures in
    c.in_default-number_of.ensures.value n fits (piece_is c.args.front.now c.args.text.now (decimal n) rest (decimal_solid n fits) is _ _ _ c.in-Some.ensures cut.0 cut.1).0
