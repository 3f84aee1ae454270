-- What each token is in an expression, as a function.
use Rattle.std.specs.Prelude.{ℕ, ◌-◌, List, [], ◌∷◌, Bool, true, false, ℤ, Option, Some, None, length, take, drop, slice_index, nat_lt, ◌==◌, ◌&&◌, codes, if◌then◌else◌}
use Rattle.std.specs.List.{prefix_len}
use Rattle.lg_base.specs.Costs.{read_cost}
use Rattle.lg_gram.specs.Names.{is_capital, is_written, trimmed}
use Rattle.lg_gram.specs.Connectors.{Connector}
use Rattle.lg_lex.specs.Tokens.{is_text, Lexeme, sign, quoted, plain, broken}
use Rattle.lg_expr.specs.declared.part.Operator.TheVariants.{And, Or}
use Rattle.lg_expr.specs.declared.part.Bracket.TheVariants.{Round, Curly, Square}
use Rattle.lg_expr.specs.Parts.{Part, connects, names, operates, opens, closes, number, no_number, ends, wrong}
use Rattle.lg_expr.specs.Words.{begins_number}

abbrev pub last_byte : List ℕ → ℕ
last_byte w = slice_index w (length w - 1)

abbrev pub without_last : List ℕ → List ℕ
without_last w = take (length w - 1) w

-- capital letters as far as they go, and then subscripts
abbrev pub connector_from : List ℕ → Bool → Bool → Option Connector
connector_from letters multi right =
    let caps = take (prefix_len is_capital letters) letters in
    let subs = drop (prefix_len is_capital letters) letters in
    if is_written caps subs then Some (record { caps = caps; subs = trimmed subs; multi = multi; right = right }) else None

-- an `@` or none, and then letters
abbrev pub connector_without_sign : List ℕ → Bool → Option Connector
connector_without_sign [] right = None
connector_without_sign (b ∷ bs) right = if b == 64 then connector_from bs true right else connector_from (b ∷ bs) false right

abbrev pub connector_of : List ℕ → Option Connector
connector_of w =
    if last_byte w == 43 then connector_without_sign (without_last w) true
    else (if last_byte w == 45 then connector_without_sign (without_last w) false
    else None)

abbrev pub is_macro_name : List ℕ → Bool
is_macro_name w = nat_lt 2 (length w) && slice_index w 0 == 60 && last_byte w == 62

abbrev pub part_of_number : Option ℤ → Part
part_of_number None = no_number
part_of_number (Some cost) = number cost

abbrev pub part_of_connector : Option Connector → Part
part_of_connector None = wrong
part_of_connector (Some c) = connects c

abbrev pub part_of_word : List ℕ → Part
part_of_word w =
    if is_text (codes "or") w then operates Or
    else (if is_text (codes "and") w then operates And
    else (if is_macro_name w then names w
    else (if begins_number w then part_of_number (read_cost w)
    else part_of_connector (connector_of w))))

abbrev pub part_of_sign : ℕ → Part
part_of_sign b =
    if b == 40 then opens Round
    else (if b == 41 then closes Round
    else (if b == 123 then opens Curly
    else (if b == 125 then closes Curly
    else (if b == 91 then opens Square
    else (if b == 93 then closes Square
    else (if b == 38 then operates And
    else (if b == 124 then operates Or
    else (if b == 59 then ends
    else wrong))))))))

abbrev pub part_of_lexeme : Lexeme → Part
part_of_lexeme (sign b) = part_of_sign b
part_of_lexeme (quoted w) = wrong
part_of_lexeme (plain w) = part_of_word w
part_of_lexeme broken = wrong
