-- What a token is before the colon of an entry.
use Rattle.std.specs.Prelude.{ℕ, List, Bool, length, drop, slice_index, nat_lt, ◌==◌, ◌&&◌, if◌then◌else◌}
use Rattle.lg_gram.specs.declared.entry.Item.{Item}
use Rattle.lg_gram.specs.declared.entry.ItemKind.TheVariants.{Word, Macro, File}
use Rattle.lg_lex.specs.Tokens.{Lexeme, sign, quoted, plain, broken}
use Rattle.lg_expr.specs.Classes.{is_macro_name}

-- an item, the colon that ends the items, or a token that may not stand there
pub data Head : Type 0 where
  item : Item → Head
  colon : Head
  other : Head

-- it begins with `/` (47) and is longer than that byte
abbrev pub is_file_name : List ℕ → Bool
is_file_name w = nat_lt 1 (length w) && slice_index w 0 == 47

-- What a plain token names: in angle brackets a macro, after `/` a word file, whose name is the rest, and else a word.
abbrev pub plain_item : List ℕ → Item
plain_item w =
    if is_macro_name w then record { kind = Macro; text = w }
    else (if is_file_name w then record { kind = File; text = drop 1 w }
    else record { kind = Word; text = w })

-- a quoted token is a word, whatever its bytes; 58 is the colon
abbrev pub head_of : Lexeme → Head
head_of (sign b) = if b == 58 then colon else other
head_of (quoted w) = item (record { kind = Word; text = w })
head_of (plain w) = item (plain_item w)
head_of broken = other
