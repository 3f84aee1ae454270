-- The pieces of a line.
use Rattle.std.specs.Prelude.{ℕ, List}
use Rattle.std.specs.Fmt.{decimal}
use Rattle.lg_run.specs.declared.line.Piece.{Piece}
use Rattle.lg_run.specs.declared.line.Piece.TheVariants.{Text, Number}

abbrev pub piece_text : Piece → List ℕ
piece_text (Text bytes) = bytes.now
piece_text (Number number) = decimal number
