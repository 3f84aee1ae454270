-- What the tables of a reader hold, and what an item adds to them.
use Rattle.std.specs.Prelude.{◌≡◌, ℕ, List, [], ◌∷◌, ◌++◌, map, Option, Result, Ok, Err}
use Rattle.std.specs.Str.{IsUtf8}
use Rattle.lg_base.specs.Contents.{Contents}
use Rattle.lg_base.specs.Files.{AsksWithin}
use Rattle.lg_gram.specs.declared.entry.Item.{Item}
use Rattle.lg_gram.specs.declared.entry.ItemKind.{ItemKind}
use Rattle.lg_gram.specs.declared.entry.ItemKind.TheVariants as kinds
use Rattle.lg_dictread.specs.declared.dict_error.DictError.{DictError}
use Rattle.lg_dictread.specs.declared.dict_error.DictError.TheVariants.{WordFile}
use Rattle.lg_dictread.specs.declared.dict_error.WordFileError.{WordFileError}
use Rattle.lg_dictread.specs.declared.dict_error.WordFileError.TheVariants.{Failed}
use Rattle.std.specs.declared.vec.Vec.{Vec}
use Rattle.lg_dictread.specs.Findings.{Found, not_read, has_bytes, Asked, AreKnown}
use Rattle.lg_dictread.specs.declared.define.Tables.{Tables}
use Rattle.lg_dictread.specs.declared.define.Names.{Names}
use Rattle.lg_dictread.specs.Definitions.{Lines, AreNew, IsTwice, Defined, both, fails, FileGives, ItemsAnswer, define, refuse_items, with_defined, ItemsGive}
use Rattle.lg_dictread.specs.Tables.{text_entries}
use Rattle.lg_dictread.specs.Telling.{Determined, Answers, UnlessMemory, ErrorTells}

abbrev pub defined_in : Tables → Defined
defined_in t = record { words = text_entries t.words; macros = text_entries t.macros }

abbrev pub names_in : Lines → List (List ℕ)
names_in lines = map (λ d. d.0) lines

-- these names were new, and are added to a table and to a list
pub record AddsNames (old now : Lines) (names more : List (List ℕ)) (new : Lines) : Type 0 where
  pub are_new : AreNew old new
  pub table : now ≡ old ++ new
  pub listed : more ≡ names ++ names_in new

-- names are added, or one of them is defined twice
abbrev pub TellsNames : Lines → Lines → List (List ℕ) → List (List ℕ) → Lines → Result (Unit {0}) DictError → Type 0
TellsNames old now names more new (Ok done) = AddsNames old now names more new
TellsNames old now names more new (Err error) = UnlessMemory (IsTwice old new) error

-- the words and the macros of an entry
pub record Listed : Type 0 where
  pub words : List (List ℕ)
  pub macros : List (List ℕ)

abbrev pub listed_in : Names → Listed
listed_in names = record { words = names.words.items; macros = names.macros.items }

abbrev pub none_listed : Listed
none_listed = record { words = []; macros = [] }

-- words and macros are added
pub record AddsDefined (old now : Defined) (listed more : Listed) (new : Defined) : Type 0 where
  pub words : AddsNames old.words now.words listed.words more.words new.words
  pub macros : AddsNames old.macros now.macros listed.macros more.macros new.macros

-- what an item does to the answer of the items from it on, where this was found for it
abbrev pub LeadsOn : Defined → Item × ℕ → List Asked → ItemsAnswer → Type 0
LeadsOn old i asked (define new) = (items : List (Item × ℕ)) (more : List Asked) (answer : ItemsAnswer) → ItemsGive (both old new) items more answer
    → ItemsGive old (i ∷ items) (asked ++ more) (with_defined new answer)
LeadsOn old i asked (refuse_items error) = (items : List (Item × ℕ)) → ItemsGive old (i ∷ items) asked (refuse_items error)

-- what one item asks for, and what it answers
abbrev pub ItemIs : Defined → Item × ℕ → Determined ItemsAnswer
ItemIs old i asked answer = LeadsOn old i asked answer

-- the same of all items
abbrev pub ItemsAre : Defined → List (Item × ℕ) → Determined ItemsAnswer
ItemsAre old items asked answer = ItemsGive old items asked answer

-- the names of files that an item asks for
abbrev pub asked_by : ItemKind → List ℕ → List (List ℕ)
asked_by kinds.Word text = []
asked_by kinds.Macro text = []
asked_by kinds.File text = text ∷ []

-- the definitions that are added are the answer, or the error is; where the call ends before, this holds
abbrev pub TellsDefined : {T : Type 0} → Type 0 → Option Contents → Determined ItemsAnswer → List (List ℕ) → List (List ℕ) → (T → Defined → Type 0) → Result T DictError → Type 0
TellsDefined Ended known is old new Adds (Ok x) = (d : Defined) × Adds x d × Answers known is old new (define d)
TellsDefined Ended known is old new Adds (Err error) = ErrorTells Ended known is refuse_items old new error

-- this is found of the file, where contents are known; but reading it may fail
abbrev pub IsFinding : Option Contents → List ℕ → Found → WordFileError → Type 0
IsFinding known name found Failed = found ≡ not_read
IsFinding known name found cause = AreKnown known (record { name = name; found = found } ∷ [])

-- the error of a word file of which something is found
abbrev pub IsUnread : Option Contents → ℕ → List ℕ → DictError → Type 0
IsUnread known line name error = (cause : WordFileError) × (found : Found) × (error ≡ WordFile line name cause) × FileGives found (fails cause) × IsFinding known name found cause

-- the bytes that are found of a word file, or why it gives no words
abbrev pub TellsFile : {A : Type 0} → Option Contents → ℕ → List ℕ → Result (Vec ℕ A) DictError → Type 0
TellsFile known line name (Ok bytes) = IsUtf8 bytes.items × AreKnown known (record { name = name; found = has_bytes bytes.items } ∷ [])
TellsFile known line name (Err error) = UnlessMemory (IsUnread known line name) error

-- the file is asked for once; memory may run out before
abbrev pub AsksFile : {T : Type 0} → List (List ℕ) → List (List ℕ) → List ℕ → Result T DictError → Type 0
AsksFile old new name (Ok x) = new ≡ old ++ name ∷ []
AsksFile old new name (Err error) = AsksWithin old new (name ∷ []) × UnlessMemory (λ e. new ≡ old ++ name ∷ []) error

-- each name of a word file is UTF-8
abbrev pub HasUtf8Name : Item → Type 0
HasUtf8Name item = item.kind ≡ kinds.File → IsUtf8 item.text
