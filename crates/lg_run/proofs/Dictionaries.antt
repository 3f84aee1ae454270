-- Reading a dictionary: its file, and then its text with its word files.
use Rattle.std.proofs.Common.{◌≡◌, ℕ, ◌<◌, ◌≤◌, List, [], ◌∷◌, ◌++◌, length, map, ◌⊎◌, inl, inr, Option, None, Some, IfSome, IsSomeAnd, refl, sym, ◌∙◌, ap, subst, arith}
use Rattle.std.proofs.lemmas.Bool.{cases_lt}
use Rattle.lg_base.specs.Contents.{Contents, file}
use Rattle.std.proofs.lemmas.List.Folds.{flat_map-map}
use Rattle.std.specs.FinMap.{from_entries}
use Rattle.lg_gram.specs.declared.entry.Entry.{Entry}
use Rattle.lg_dict.specs.Dictionary.{dictionary_of}
use Rattle.lg_dictread.specs.declared.dict_error.DictError.{DictError}
use Rattle.lg_dictread.specs.declared.dict_error.DictError.TheVariants as errors
use Rattle.lg_dictread.specs.declared.dict_error.WordFileError.TheVariants as causes
use Rattle.lg_dictread.specs.Findings.{names_of}
use Rattle.lg_dictread.specs.Limits.{FILE}
use Rattle.lg_dictread.specs.Telling.{Answers, AsksFront, ErrorTells, out_of_memory, file_unread, first_fault, IsCause}
use Rattle.lg_dictread.specs.Texts.{Meaning, TextAnswer, refuse, DictionaryIs}
use Rattle.lg_dictread.specs.DictTexts.{entry_meaning, DictionaryOf, AsksInFront}
use Rattle.lg_run.specs.Lines.{too_long_line, dict_line}
use Rattle.lg_run.specs.Inputs.{accepted, refused, missing, HasSome, IsOne, FileIs, absent, long, whole, dictionary_from, found_in, DictionaryReads, reads, DictionaryInput}
use Rattle.lg_run.specs.Reads.{AsksInOrder, Comes, TellsStop, IsFaultOf}
use Rattle.lg_run.specs.Stops.{dict_status}
use Rattle.lg_run.specs.declared.status.Status.TheVariants.{BadInput}
use Rattle.lg_run.proofs.Readings.{some_followed, one_followed}

-- ---- a file

some_at : (contents : Contents) (name : List ℕ) (found : Option (List ℕ)) → file contents name ≡ found → HasSome (FileIs contents name)
some_at contents name None is = (name ∷ [], missing name, absent is)
some_at contents name (Some bytes) is = sized (cases_lt FILE (length bytes)) where
  sized : (FILE < length bytes) ⊎ (length bytes ≤ FILE) → HasSome (FileIs contents name)
  sized (inl h) = (name ∷ [], refused (too_long_line name), long bytes is h)
  sized (inr h) = (name ∷ [], accepted bytes, whole bytes is h)

pub some_file : (contents : Contents) (name : List ℕ) → HasSome (FileIs contents name)
some_file contents name = some_at contents name (file contents name) refl

same_bytes : (a b : List ℕ) → ◌≡◌ {A = Option (List ℕ)} (Some a) (Some b) → a ≡ b
same_bytes a b h = cc

not_both : (bytes : List ℕ) → ◌≡◌ {A = Option (List ℕ)} None (Some bytes) → ⊥
not_both bytes h = cc

too_long : (a b : List ℕ) → a ≡ b → FILE < length a → length b ≤ FILE → ⊥
too_long a b h p q = let e = ap length h in omega arith

pub one_file : (contents : Contents) (name : List ℕ) → IsOne (FileIs contents name)
one_file contents name _ _ _ _ (absent p) (absent q) = (refl, refl)
one_file contents name _ _ _ _ (absent p) (long bytes q r) = absurd (not_both bytes (sym p ∙ q))
one_file contents name _ _ _ _ (absent p) (whole bytes q r) = absurd (not_both bytes (sym p ∙ q))
one_file contents name _ _ _ _ (long bytes p r) (absent q) = absurd (not_both bytes (sym q ∙ p))
one_file contents name _ _ _ _ (long bytes p r) (long other q s) = (refl, refl)
one_file contents name _ _ _ _ (long bytes p r) (whole other q s) = absurd (too_long bytes other (same_bytes bytes other (sym p ∙ q)) r s)
one_file contents name _ _ _ _ (whole bytes p r) (absent q) = absurd (not_both bytes (sym q ∙ p))
one_file contents name _ _ _ _ (whole bytes p r) (long other q s) = absurd (too_long other bytes (same_bytes other bytes (sym q ∙ p)) s r)
one_file contents name _ _ _ _ (whole bytes p r) (whole other q s) = (refl, ap accepted (same_bytes bytes other (sym p ∙ q)))

-- the file was asked for
pub asks_file : (contents : Contents) (name : List ℕ) (old new : List (List ℕ)) → new ≡ old ++ name ∷ [] → AsksInOrder (FileIs contents name) old new
asks_file contents name old new grown _ _ (absent p) = (name ∷ [], [], refl, grown)
asks_file contents name old new grown _ _ (long bytes p q) = (name ∷ [], [], refl, grown)
asks_file contents name old new grown _ _ (whole bytes p q) = (name ∷ [], [], refl, grown)

-- the file is too long
pub long_file : (contents : Contents) (name : List ℕ) (old new : List (List ℕ)) → new ≡ old ++ name ∷ [] → IsSomeAnd (file contents name) (λ bytes. FILE < length bytes) →
    Comes (FileIs contents name) old new (refused (too_long_line name))
long_file contents name old new grown h = of_found (file contents name) refl h where
  of_found : (found : Option (List ℕ)) → file contents name ≡ found → IsSomeAnd found (λ bytes. FILE < length bytes) → Comes (FileIs contents name) old new (refused (too_long_line name))
  of_found None is k = absurd k
  of_found (Some bytes) is k = record { names = name ∷ []; read = long bytes is k; grown = grown }

-- the dictionary of the entries is that of what they mean
pub same_dictionary : (entries : List Entry) → dictionary_from (map entry_meaning entries) ≡ dictionary_of entries
same_dictionary entries = λ i. record {
  words = from_entries (flat_map-map (λ (m : Meaning). map (λ (word : List ℕ). (word, m.formula)) m.words) entry_meaning entries i);
  macros = from_entries (flat_map-map (λ (m : Meaning). map (λ (name : List ℕ). (name, (m.formula, m.level))) m.macros) entry_meaning entries i);
}

-- ---- a text

-- what the law of dictionaries says
abbrev pub SomeDictionary : Type 0
SomeDictionary = (contents : Contents) (bytes : List ℕ) → (asked : List (List ℕ)) × (answer : TextAnswer) × DictionaryIs contents bytes asked answer

abbrev pub OneDictionary : Type 0
OneDictionary = (contents : Contents) (bytes : List ℕ) (asked other : List (List ℕ)) (x y : TextAnswer) →
    DictionaryIs contents bytes asked x → DictionaryIs contents bytes other y → (asked ≡ other) × (x ≡ y)

pub some_text : SomeDictionary → (contents : Contents) (name bytes : List ℕ) → HasSome (DictionaryReads contents name bytes)
some_text law contents name bytes = let d = law contents bytes in (d.0, found_in name d.1, reads d.0 d.1 d.2)

pub one_text : OneDictionary → (contents : Contents) (name bytes : List ℕ) → IsOne (DictionaryReads contents name bytes)
one_text law contents name bytes _ _ _ _ (reads asked answer p) (reads other reply q) =
    let same = law contents bytes asked other answer reply p q in (same.0, ap (found_in name) same.1)

-- no more was asked than the format reads
pub asks_text : (known : Option Contents) (name bytes : List ℕ) (old new : List (List ℕ)) → AsksInFront known bytes old new → IfSome known (λ contents. AsksInOrder (DictionaryReads contents name bytes) old new)
asks_text None name bytes old new h = tt
asks_text (Some contents) name bytes old new h = asks where
  asks : AsksInOrder (DictionaryReads contents name bytes) old new
  asks _ _ (reads asked answer q) = h asked answer q

-- an answer by what was found is that of the contents
pub told_answer : (contents : Contents) (bytes : List ℕ) (old new : List (List ℕ)) (answer : TextAnswer) (h : Answers (Some contents) (DictionaryOf bytes) old new answer) → DictionaryIs contents bytes (names_of h.asked) answer
told_answer contents bytes old new answer h = record { asked = h.asked; names_are = refl; found = h.found; gives = h.answers }

-- an error that is a fault of the input says the line of the first text that is refused
abbrev pub ErrorTold : Contents → List ℕ → List ℕ → List (List ℕ) → List (List ℕ) → DictError → Type 0
ErrorTold contents name bytes old new error = TellsStop (DictionaryReads contents name bytes) old new (dict_status error) (dict_line name error)

module _ (contents : Contents) (name bytes : List ℕ) (old new : List (List ℕ)) where
  read_so : (answer : TextAnswer) (line : List ℕ) → found_in name answer ≡ refused line → Answers (Some contents) (DictionaryOf bytes) old new answer → TellsStop (DictionaryReads contents name bytes) old new BadInput line
  read_so answer line same h = record {
    names = names_of h.asked;
    read = subst (λ f. DictionaryReads contents name bytes (names_of h.asked) f) same (reads (names_of h.asked) answer (told_answer contents bytes old new answer h));
    grown = h.names;
  }

  -- the first fault
  first_known : (error : DictError) → (error ≡ errors.NoMemory → ⊥) → Answers (Some contents) (DictionaryOf bytes) old new (refuse error) → ErrorTold contents name bytes old new error
  first_known errors.NoMemory other h = absurd (other refl)
  first_known (errors.WordFile line file causes.Failed) other h = tt
  first_known (errors.WordFile line file causes.TooLong) other h = read_so (refuse (errors.WordFile line file causes.TooLong)) (too_long_line file) refl h
  first_known (errors.WordFile line file (causes.NotUtf8 n)) other h = let e = errors.WordFile line file (causes.NotUtf8 n) in read_so (refuse e) (dict_line name e) refl h
  first_known (errors.NotUtf8 n) other h = let e = errors.NotUtf8 n in read_so (refuse e) (dict_line name e) refl h
  first_known (errors.Syntax line column) other h = let e = errors.Syntax line column in read_so (refuse e) (dict_line name e) refl h
  first_known (errors.UnknownMacro line macro) other h = let e = errors.UnknownMacro line macro in read_so (refuse e) (dict_line name e) refl h
  first_known (errors.CostForm line) other h = let e = errors.CostForm line in read_so (refuse e) (dict_line name e) refl h
  first_known (errors.TooDeep line) other h = let e = errors.TooDeep line in read_so (refuse e) (dict_line name e) refl h
  first_known (errors.TooManyNodes line n) other h = let e = errors.TooManyNodes line n in read_so (refuse e) (dict_line name e) refl h
  first_known (errors.TooManyChoices line n) other h = let e = errors.TooManyChoices line n in read_so (refuse e) (dict_line name e) refl h
  first_known (errors.SideTooLong line n) other h = let e = errors.SideTooLong line n in read_so (refuse e) (dict_line name e) refl h
  first_known (errors.DuplicateWord word n m) other h = let e = errors.DuplicateWord word n m in read_so (refuse e) (dict_line name e) refl h

  told_known : (error : DictError) → (error ≡ errors.NoMemory → ⊥) → ErrorTells (AsksFront (Some contents) (DictionaryOf bytes) old new) (Some contents) (DictionaryOf bytes) refuse old new error → ErrorTold contents name bytes old new error
  told_known error other (out_of_memory ended) = absurd (other refl)
  told_known error other (file_unread line file asked ended names found answers) = tt
  told_known error other (first_fault e h) = first_known e other h

pub told_error : (known : Option Contents) (name bytes : List ℕ) (old new : List (List ℕ)) (error : DictError) → (error ≡ errors.NoMemory → ⊥) →
    ErrorTells (AsksFront known (DictionaryOf bytes) old new) known (DictionaryOf bytes) refuse old new error → IfSome known (λ contents. ErrorTold contents name bytes old new error)
told_error None name bytes old new error other h = tt
told_error (Some contents) name bytes old new error other h = told_known contents name bytes old new error other h

-- the dictionary of these entries is what the contents stand for
pub told_value : (known : Option Contents) (bytes : List ℕ) (old new : List (List ℕ)) (answer : TextAnswer) → Answers known (DictionaryOf bytes) old new answer
    → IfSome known (λ contents. (names : List (List ℕ)) × (new ≡ old ++ names) × DictionaryIs contents bytes names answer)
told_value None bytes old new answer h = tt
told_value (Some contents) bytes old new answer h = (names_of h.asked, h.names, told_answer contents bytes old new answer h)

-- a word file that was not read is the cause of a read fault
pub fault_error : (before now : ℕ) (name : List ℕ) (asked : List (List ℕ)) (error : DictError) → IsCause before now asked error → IsFaultOf asked before now (dict_status error) (dict_line name error)
fault_error before now name asked errors.NoMemory h = tt
fault_error before now name asked (errors.WordFile line file causes.Failed) h = (h.1 refl, (file, h.0, refl))
fault_error before now name asked (errors.WordFile line file causes.TooLong) h = tt
fault_error before now name asked (errors.WordFile line file (causes.NotUtf8 n)) h = tt
fault_error before now name asked (errors.NotUtf8 n) h = tt
fault_error before now name asked (errors.Syntax line column) h = tt
fault_error before now name asked (errors.UnknownMacro line macro) h = tt
fault_error before now name asked (errors.CostForm line) h = tt
fault_error before now name asked (errors.TooDeep line) h = tt
fault_error before now name asked (errors.TooManyNodes line n) h = tt
fault_error before now name asked (errors.TooManyChoices line n) h = tt
fault_error before now name asked (errors.SideTooLong line n) h = tt
fault_error before now name asked (errors.DuplicateWord word n m) h = tt

-- ---- all inputs

pub one_dictionary : OneDictionary → (contents : Contents) (name : List ℕ) → IsOne (DictionaryInput contents name)
one_dictionary law contents name = one_followed (FileIs contents name) (DictionaryReads contents name) (one_file contents name) (one_text law contents name)

pub some_dictionary : SomeDictionary → (contents : Contents) (name : List ℕ) → HasSome (DictionaryInput contents name)
some_dictionary law contents name = some_followed (FileIs contents name) (DictionaryReads contents name) (some_file contents name) (some_text law contents name)
