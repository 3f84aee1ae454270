-- What one item is told to define.
use Rattle.std.proofs.Common.{◌≡◌, ℕ, Option, List, [], ◌∷◌, ◌++◌, map, Result, Ok, Err, Vec, refl, sym, ap, subst, ◌∙◌}
use Rattle.std.proofs.lemmas.List.{append-nil}
use Rattle.lg_base.specs.Contents.{Contents}
use Rattle.lg_base.specs.Files.{AsksWithin}
use Rattle.lg_gram.specs.declared.entry.Item.{Item}
use Rattle.lg_gram.specs.declared.entry.ItemKind.{ItemKind}
use Rattle.lg_gram.specs.declared.entry.ItemKind.TheVariants as kinds
use Rattle.lg_lex.specs.declared.run.Separators.TheVariants.{WhiteSpace}
use Rattle.lg_lex.specs.Marked.{without_mark}
use Rattle.lg_lex.specs.Runs.{AreRuns, runs_from}
use Rattle.lg_dictread.specs.declared.dict_error.DictError.{DictError}
use Rattle.lg_dictread.specs.declared.dict_error.DictError.TheVariants.{WordFile}
use Rattle.lg_dictread.specs.declared.dict_error.WordFileError.{WordFileError}
use Rattle.lg_dictread.specs.declared.dict_error.WordFileError.TheVariants.{Failed, TooLong, NotUtf8}
use Rattle.lg_dictread.specs.Findings.{Found, not_read, has_bytes, Asked, names_of, AreKnown}
use Rattle.lg_dictread.specs.Definitions.{Lines, AreNew, IsTwice, Defined, gives, fails, FileGives, runs, KindGives, on_line, defined_as, of_kind, define, refuse_items, defines, twice, unread}
use Rattle.lg_dictread.specs.Telling.{Answers, UnlessMemory, ErrorTells, out_of_memory, file_unread, first_fault}
use Rattle.lg_dictread.specs.Defining.{AddsNames, TellsNames, Listed, AddsDefined, ItemIs, asked_by, TellsDefined, IsFinding, IsUnread, TellsFile, AsksFile}
use Rattle.lg_dictread.proofs.Found.{known_none}
use Rattle.lg_dictread.proofs.ErrorMaps.{memory_error, memory_both}

-- nothing is added
pub adds_none : (lines : Lines) (names : List (List ℕ)) → AddsNames lines lines names names []
adds_none lines names = record { are_new = tt; table = sym (append-nil lines); listed = sym (append-nil names) }

-- nothing is asked
asks_none : (asked now : List (List ℕ)) → now ≡ asked → now ≡ asked ++ []
asks_none asked now same = same ∙ sym (append-nil asked)

module _ (known : Option Contents) (asked now : List (List ℕ)) (old : Defined) (more : Lines) (listed : Listed) (names : List (List ℕ)) (text : List ℕ) (line : ℕ) where
  -- the item, by its kind
  abbrev item : ItemKind → Item × ℕ
  item kind = (record { kind = kind; text = text }, line)

  abbrev Told : ItemKind → Defined → Listed → Result (Unit {0}) DictError → Type 0
  Told kind at most result = TellsDefined (AsksWithin asked now (asked_by kind text)) known (ItemIs old (item kind)) asked now (λ x. AddsDefined old at listed most) result

  abbrev with_words : Defined
  with_words = record old { words = more }

  abbrev with_macros : Defined
  with_macros = record old { macros = more }

  abbrev words_listed : Listed
  words_listed = record listed { words = names }

  abbrev macros_listed : Listed
  macros_listed = record listed { macros = names }

  -- what the item gives, and what it does to the answer
  answered : (kind : ItemKind) (given_names : List (List ℕ)) (here : List Asked) → now ≡ asked ++ names_of here → AreKnown known here → KindGives kind text here (gives given_names) → AreNew (of_kind kind old) (on_line line given_names)
      → Answers known (ItemIs old (item kind)) asked now (define (defined_as kind (on_line line given_names)))
  answered kind given_names here grown found given new = record {
    asked = here;
    names = grown;
    found = found;
    answers = λ items rest answer further. defines old (item kind).0 line items given_names here rest answer given new further;
  }

  -- one of the names is there already
  refused : (kind : ItemKind) (given_names : List (List ℕ)) (here : List Asked) → now ≡ asked ++ names_of here → AreKnown known here → KindGives kind text here (gives given_names)
      → (error : DictError) → UnlessMemory (IsTwice (of_kind kind old) (on_line line given_names)) error → AsksWithin asked now (asked_by kind text)
      → ErrorTells (AsksWithin asked now (asked_by kind text)) known (ItemIs old (item kind)) refuse_items asked now error
  refused kind given_names here grown found given error again within =
      memory_error (IsTwice (of_kind kind old) (on_line line given_names)) (AsksWithin asked now (asked_by kind text)) known (ItemIs old (item kind)) refuse_items asked now within
      (λ e is. record { asked = here; names = grown; found = found; answers = λ items. twice old (item kind).0 line items given_names here e given is }) error again

  pub word_told : (result : Result (Unit {0}) DictError) → now ≡ asked → TellsNames old.words more listed.words names ((text, line) ∷ []) result → Told kinds.Word with_words words_listed result
  word_told (Ok done) same h = (
    record { words = (text, line) ∷ []; macros = [] },
    record { words = h; macros = adds_none old.macros listed.macros },
    answered kinds.Word (text ∷ []) [] (asks_none asked now same) (known_none known) (refl, refl) h.are_new,
  )
  word_told (Err error) same h = refused kinds.Word (text ∷ []) [] (asks_none asked now same) (known_none known) (refl, refl) error h ([], [], refl, asks_none asked now same)

  pub macro_told : (result : Result (Unit {0}) DictError) → now ≡ asked → TellsNames old.macros more listed.macros names ((text, line) ∷ []) result → Told kinds.Macro with_macros macros_listed result
  macro_told (Ok done) same h = (
    record { words = []; macros = (text, line) ∷ [] },
    record { words = adds_none old.words listed.words; macros = h },
    answered kinds.Macro (text ∷ []) [] (asks_none asked now same) (known_none known) (refl, refl) h.are_new,
  )
  macro_told (Err error) same h = refused kinds.Macro (text ∷ []) [] (asks_none asked now same) (known_none known) (refl, refl) error h ([], [], refl, asks_none asked now same)

  -- the words of a file
  abbrev words_of : List ℕ → List (List ℕ)
  words_of bytes = map (λ r. r.0) (runs_from WhiteSpace (without_mark bytes) 0)

  abbrev one : Found → List Asked
  one found = record { name = text; found = found } ∷ []

  -- a file that was read
  pub file_told : (bytes : List ℕ) (result : Result (Unit {0}) DictError) → now ≡ asked ++ text ∷ [] → AreKnown known (one (has_bytes bytes)) → FileGives (has_bytes bytes) (gives (words_of bytes))
      → TellsNames old.words more listed.words names (on_line line (words_of bytes)) result → Told kinds.File with_words words_listed result
  file_told bytes (Ok done) same found given h = (
    record { words = on_line line (words_of bytes); macros = [] },
    record { words = h; macros = adds_none old.macros listed.macros },
    answered kinds.File (words_of bytes) (one (has_bytes bytes)) same found (has_bytes bytes, refl, given) h.are_new,
  )
  file_told bytes (Err error) same found given h = refused kinds.File (words_of bytes) (one (has_bytes bytes)) same found (has_bytes bytes, refl, given) error h (text ∷ [], [], refl, same)

  -- a file that was not
  abbrev UnreadTold : DictError → Type 0
  UnreadTold error = ErrorTells (AsksWithin asked now (text ∷ [])) known (ItemIs old (item kinds.File)) refuse_items asked now error

  unread_answers : (cause : WordFileError) (found : Found) → now ≡ asked ++ text ∷ [] → FileGives found (fails cause) → AreKnown known (one found) → UnreadTold (WordFile line text cause)
  unread_answers cause found same given are =
      first_fault (WordFile line text cause) (record { asked = one found; names = same; found = are; answers = λ items. unread old (item kinds.File).0 line items (one found) cause (found, refl, given) })

  by_cause : (cause : WordFileError) (found : Found) → now ≡ asked ++ text ∷ [] → AsksWithin asked now (text ∷ []) → FileGives found (fails cause) → IsFinding known text found cause → UnreadTold (WordFile line text cause)
  by_cause TooLong found same within given finding = unread_answers TooLong found same given finding
  by_cause (NotUtf8 n) found same within given finding = unread_answers (NotUtf8 n) found same given finding
  by_cause Failed found same within given finding =
      file_unread line text [] within same (known_none known) (λ items. unread old (item kinds.File).0 line items (one not_read) Failed (not_read, refl, subst (λ (f : Found). FileGives f (fails Failed)) finding given))

  unread_known : (A : Type 0) (error : DictError) → AsksFile {T = Vec ℕ A} asked now text (Err error) → TellsFile {A = A} known line text (Err error) → UnreadTold error
  unread_known A error asks read =
      memory_both (IsUnread known line text) UnreadTold (now ≡ asked ++ text ∷ []) (out_of_memory asks.0)
      (λ e same (cause, found, is, given, finding). subst UnreadTold (sym is) (by_cause cause found same asks.0 given finding)) error asks.1 read

  pub unread_told : (A : Type 0) (error : DictError) (kind : ItemKind) (name : List ℕ) → kind ≡ kinds.File → name ≡ text → AsksFile {T = Vec ℕ A} asked now name (Err error) → TellsFile {A = A} known line name (Err error)
      → ErrorTells (AsksWithin asked now (asked_by kind text)) known (ItemIs old (item kind)) refuse_items asked now error
  unread_told A error kind name is same asks read =
      subst (λ (k : ItemKind). ErrorTells (AsksWithin asked now (asked_by k text)) known (ItemIs old (item k)) refuse_items asked now error) (sym is)
      (unread_known A error (subst (λ (t : List ℕ). AsksFile {T = Vec ℕ A} asked now t (Err error)) same asks)
      (subst (λ (t : List ℕ). TellsFile {A = A} known line t (Err error)) same read))

  -- ---- by the item's kind, where its text goes by another name

  pub of_word : (result : Result (Unit {0}) DictError) (kind : ItemKind) (name : List ℕ) → kind ≡ kinds.Word → name ≡ text → now ≡ asked → TellsNames old.words more listed.words names ((name, line) ∷ []) result → Told kind with_words words_listed result
  of_word result kind name is same unasked h =
      subst (λ (k : ItemKind). Told k with_words words_listed result) (sym is)
      (word_told result unasked (subst (λ (t : List ℕ). TellsNames old.words more listed.words names ((t, line) ∷ []) result) same h))

  pub of_macro : (result : Result (Unit {0}) DictError) (kind : ItemKind) (name : List ℕ) → kind ≡ kinds.Macro → name ≡ text → now ≡ asked → TellsNames old.macros more listed.macros names ((name, line) ∷ []) result → Told kind with_macros macros_listed result
  of_macro result kind name is same unasked h =
      subst (λ (k : ItemKind). Told k with_macros macros_listed result) (sym is)
      (macro_told result unasked (subst (λ (t : List ℕ). TellsNames old.macros more listed.macros names ((t, line) ∷ []) result) same h))

  pub of_file : (cut : (bytes : List ℕ) → AreRuns WhiteSpace (runs_from WhiteSpace bytes 0) 0 bytes) (A : Type 0) (bytes : Vec ℕ A) (result : Result (Unit {0}) DictError) (kind : ItemKind) (name file_text : List ℕ)
      → kind ≡ kinds.File → name ≡ text → file_text ≡ without_mark bytes.items → now ≡ asked ++ name ∷ [] → TellsFile {A = A} known line name (Ok bytes)
      → TellsNames old.words more listed.words names (on_line line (map (λ r. r.0) (runs_from WhiteSpace file_text 0))) result → Told kind with_words words_listed result
  of_file cut A bytes result kind name file_text is same marked asks read h =
      subst (λ (k : ItemKind). Told k with_words words_listed result) (sym is)
      (file_told bytes.items result (asks ∙ ap (λ (t : List ℕ). asked ++ t ∷ []) same)
      (subst (λ (t : List ℕ). AreKnown known (record { name = t; found = has_bytes bytes.items } ∷ [])) same read.1)
      (runs bytes.items (runs_from WhiteSpace (without_mark bytes.items) 0) read.0 (cut (without_mark bytes.items)))
      (subst (λ (t : List ℕ). TellsNames old.words more listed.words names (on_line line (map (λ r. r.0) (runs_from WhiteSpace t 0))) result) marked h))
