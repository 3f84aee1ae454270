-- What the items of an entry define, and the first of them that may not stand.
use Rattle.std.specs.Prelude.{◌≡◌, ℕ, List, [], ◌∷◌, ◌++◌, Bool, Option, Some, None, map, nat_eq}
use Rattle.std.specs.Cmp.Lexicographic.{pointwise}
use Rattle.std.specs.Map.{lookup}
use Rattle.std.specs.Str.{IsUtf8, IsValidUpTo}
use Rattle.lg_gram.specs.declared.entry.Item.{Item}
use Rattle.lg_gram.specs.declared.entry.ItemKind.{ItemKind}
use Rattle.lg_gram.specs.declared.entry.ItemKind.TheVariants as kinds
use Rattle.lg_lex.specs.declared.run.Separators.TheVariants.{WhiteSpace}
use Rattle.lg_lex.specs.Marked.{without_mark}
use Rattle.lg_lex.specs.Runs.{AreRuns}
use Rattle.lg_dictread.specs.declared.dict_error.DictError.{DictError}
use Rattle.lg_dictread.specs.declared.dict_error.DictError.TheVariants.{DuplicateWord, WordFile}
use Rattle.lg_dictread.specs.declared.dict_error.WordFileError.{WordFileError}
use Rattle.lg_dictread.specs.declared.dict_error.WordFileError.TheVariants.{Failed, TooLong, NotUtf8}
use Rattle.lg_dictread.specs.Findings.{Found, not_read, too_long, has_bytes, Asked}

-- names, each with the line of the item that defines it
abbrev pub Lines : Type 0
Lines = List (List ℕ × ℕ)

abbrev pub same_text : List ℕ → List ℕ → Bool
same_text = pointwise nat_eq

-- the line on which a name is defined, if it is
abbrev pub line_in : Lines → List ℕ → Option ℕ
line_in lines name = lookup (same_text name) lines

-- none of the new names is defined before it, among the earlier ones or the new ones
abbrev pub AreNew : Lines → Lines → Type 0
AreNew earlier [] = Unit {0}
AreNew earlier (d ∷ new) = (line_in earlier d.0 ≡ None) × AreNew (earlier ++ d ∷ []) new

-- the first of the new names that is defined before it is told with both lines
pub record IsTwice (earlier new : Lines) (error : DictError) : Type 0 where
  pub front : Lines
  pub again : List ℕ × ℕ
  pub rest : Lines
  pub first : ℕ
  pub split : new ≡ front ++ again ∷ rest
  pub distinct : AreNew earlier front
  pub before : line_in (earlier ++ front) again.0 ≡ Some first
  pub told : error ≡ DuplicateWord again.0 first again.1

-- the words and the macros that are defined
pub record Defined : Type 0 where
  pub words : Lines
  pub macros : Lines

abbrev pub none_defined : Defined
none_defined = record { words = []; macros = [] }

-- one after the other
abbrev pub both : Defined → Defined → Defined
both a b = record { words = a.words ++ b.words; macros = a.macros ++ b.macros }

-- what an item gives: names, or the cause why its word file gives none
pub data Given : Type 0 where
  gives : List (List ℕ) → Given
  fails : WordFileError → Given

-- A word file gives the runs of its bytes between white space. It has no comments and no quotes.
pub data FileGives : Found → Given → Type 0 where
  missing : FileGives not_read (fails Failed)
  long : FileGives too_long (fails TooLong)
  at_fault : (bytes : List ℕ) (n : ℕ) → IsValidUpTo bytes n → FileGives (has_bytes bytes) (fails (NotUtf8 n))
  runs : (bytes : List ℕ) (rs : List (List ℕ × ℕ)) → IsUtf8 bytes → AreRuns WhiteSpace rs 0 (without_mark bytes)
      → FileGives (has_bytes bytes) (gives (map (λ r. r.0) rs))

-- what an item asks for, and what it gives: a word and a macro name themselves
abbrev pub KindGives : ItemKind → List ℕ → List Asked → Given → Type 0
KindGives kinds.Word text asked given = (asked ≡ []) × (given ≡ gives (text ∷ []))
KindGives kinds.Macro text asked given = (asked ≡ []) × (given ≡ gives (text ∷ []))
KindGives kinds.File text asked given = (found : Found) × (asked ≡ record { name = text; found = found } ∷ []) × FileGives found given

abbrev pub ItemGives : Item → List Asked → Given → Type 0
ItemGives item asked given = KindGives item.kind item.text asked given

-- the names of an item, each with the item's line
abbrev pub on_line : ℕ → List (List ℕ) → Lines
on_line line names = map (λ name. (name, line)) names

-- macros are macros, and all else are words
abbrev pub defined_as : ItemKind → Lines → Defined
defined_as kinds.Word lines = record { words = lines; macros = [] }
defined_as kinds.Macro lines = record { words = []; macros = lines }
defined_as kinds.File lines = record { words = lines; macros = [] }

abbrev pub of_kind : ItemKind → Defined → Lines
of_kind kinds.Word d = d.words
of_kind kinds.Macro d = d.macros
of_kind kinds.File d = d.words

-- what items define, or the first fault
pub data ItemsAnswer : Type 0 where
  define : Defined → ItemsAnswer
  refuse_items : DictError → ItemsAnswer

-- with what was defined in front
abbrev pub with_defined : Defined → ItemsAnswer → ItemsAnswer
with_defined d (define more) = define (both d more)
with_defined d (refuse_items error) = refuse_items error

-- Items, each with its line, from left to right, where so much is defined before: the files that are asked for, in order,
-- with what was found, and the answer.
pub data ItemsGive : Defined → List (Item × ℕ) → List Asked → ItemsAnswer → Type 0 where
  no_item : (earlier : Defined) → ItemsGive earlier [] [] (define none_defined)
  defines : (earlier : Defined) (item : Item) (line : ℕ) (items : List (Item × ℕ)) (names : List (List ℕ)) (here asked : List Asked) (answer : ItemsAnswer)
      → ItemGives item here (gives names) → AreNew (of_kind item.kind earlier) (on_line line names)
      → ItemsGive (both earlier (defined_as item.kind (on_line line names))) items asked answer
      → ItemsGive earlier ((item, line) ∷ items) (here ++ asked) (with_defined (defined_as item.kind (on_line line names)) answer)
  twice : (earlier : Defined) (item : Item) (line : ℕ) (items : List (Item × ℕ)) (names : List (List ℕ)) (here : List Asked) (error : DictError)
      → ItemGives item here (gives names) → IsTwice (of_kind item.kind earlier) (on_line line names) error
      → ItemsGive earlier ((item, line) ∷ items) here (refuse_items error)
  unread : (earlier : Defined) (item : Item) (line : ℕ) (items : List (Item × ℕ)) (here : List Asked) (cause : WordFileError)
      → ItemGives item here (fails cause)
      → ItemsGive earlier ((item, line) ∷ items) here (refuse_items (WordFile line item.text cause))
