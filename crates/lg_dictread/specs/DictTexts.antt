-- What the reader of dictionary texts answers.
use Rattle.std.specs.Prelude.{ℕ, List, Option, IfSome}
use Rattle.lg_base.specs.Contents.{Contents}
use Rattle.lg_base.specs.Files.{AsksWithin}
use Rattle.lg_lex.specs.Tokens.{Token}
use Rattle.lg_gram.specs.declared.entry.Entry.{Entry}
use Rattle.lg_gram.specs.Trees.{tree_of}
use Rattle.lg_dictread.specs.Texts.{Earlier, Meaning, TextAnswer, TextIs, DictionaryGives, DictionaryIs}
use Rattle.lg_dictread.specs.Telling.{Determined}

-- what contracts see of an entry that is read
abbrev pub entry_meaning : Entry → Meaning
entry_meaning e = record { words = e.words; macros = e.macros; formula = tree_of e.formula; level = e.level; line = e.line }

-- the text of these tokens, after what was read before
abbrev pub TextOf : List ℕ → Earlier → List Token → Determined TextAnswer
TextOf text earlier ts asked answer = TextIs text earlier ts asked answer

-- the dictionary file of these bytes
abbrev pub DictionaryOf : List ℕ → Determined TextAnswer
DictionaryOf bytes asked answer = DictionaryGives bytes asked answer

-- the names that were asked are a front part of those that the file asks for, where word files have these contents
abbrev pub AsksInFront : Option Contents → List ℕ → List (List ℕ) → List (List ℕ) → Type 0
AsksInFront known bytes old new =
    IfSome known (λ contents. (names : List (List ℕ)) (answer : TextAnswer) → DictionaryIs contents bytes names answer → AsksWithin old new names)
