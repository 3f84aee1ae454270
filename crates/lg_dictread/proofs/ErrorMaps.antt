-- Errors, where what is told of them leads to something else.
use Rattle.std.proofs.Common.{◌≡◌, ℕ, List, [], ◌∷◌, ◌++◌, Option, sym, ap, subst, ◌∙◌, append_assoc}
use Rattle.lg_base.specs.Contents.{Contents}
use Rattle.lg_dictread.specs.declared.dict_error.DictError.{DictError}
use Rattle.lg_dictread.specs.declared.dict_error.DictError.TheVariants.{NoMemory, NotUtf8, Syntax, UnknownMacro, CostForm, TooDeep, TooManyNodes, TooManyChoices, SideTooLong, DuplicateWord, WordFile}
use Rattle.lg_dictread.specs.declared.dict_error.WordFileError.TheVariants.{Failed}
use Rattle.lg_dictread.specs.Findings.{Asked, not_read, names_of, AreKnown}
use Rattle.lg_dictread.specs.Telling.{Determined, Answers, UnlessMemory, ErrorTells, out_of_memory, file_unread, first_fault}
use Rattle.lg_dictread.proofs.Found.{names_then, known_then, grown_then}

-- ---- errors

module _ (Told More : DictError → Type 0) where
  -- what holds where memory ran out and of each error that is told holds of all
  pub memory_out : More NoMemory → ((error : DictError) → Told error → More error) → (error : DictError) → UnlessMemory Told error → More error
  memory_out none leads NoMemory h = none
  memory_out none leads (NotUtf8 n) h = leads (NotUtf8 n) h
  memory_out none leads (Syntax line column) h = leads (Syntax line column) h
  memory_out none leads (UnknownMacro line m) h = leads (UnknownMacro line m) h
  memory_out none leads (CostForm line) h = leads (CostForm line) h
  memory_out none leads (TooDeep line) h = leads (TooDeep line) h
  memory_out none leads (TooManyNodes line n) h = leads (TooManyNodes line n) h
  memory_out none leads (TooManyChoices line n) h = leads (TooManyChoices line n) h
  memory_out none leads (SideTooLong line n) h = leads (SideTooLong line n) h
  memory_out none leads (DuplicateWord w n m) h = leads (DuplicateWord w n m) h
  memory_out none leads (WordFile line name cause) h = leads (WordFile line name cause) h

  pub memory_map : ((error : DictError) → Told error → More error) → (error : DictError) → UnlessMemory Told error → UnlessMemory More error
  memory_map leads NoMemory h = tt
  memory_map leads (NotUtf8 n) h = leads (NotUtf8 n) h
  memory_map leads (Syntax line column) h = leads (Syntax line column) h
  memory_map leads (UnknownMacro line m) h = leads (UnknownMacro line m) h
  memory_map leads (CostForm line) h = leads (CostForm line) h
  memory_map leads (TooDeep line) h = leads (TooDeep line) h
  memory_map leads (TooManyNodes line n) h = leads (TooManyNodes line n) h
  memory_map leads (TooManyChoices line n) h = leads (TooManyChoices line n) h
  memory_map leads (SideTooLong line n) h = leads (SideTooLong line n) h
  memory_map leads (DuplicateWord w n m) h = leads (DuplicateWord w n m) h
  memory_map leads (WordFile line name cause) h = leads (WordFile line name cause) h

  -- what holds unless memory ran out, and what is told
  pub memory_both : (Same : Type 0) → More NoMemory → ((error : DictError) → Same → Told error → More error) → (error : DictError) → UnlessMemory (λ e. Same) error → UnlessMemory Told error → More error
  memory_both Same none leads NoMemory h k = none
  memory_both Same none leads (NotUtf8 n) h k = leads (NotUtf8 n) h k
  memory_both Same none leads (Syntax line column) h k = leads (Syntax line column) h k
  memory_both Same none leads (UnknownMacro line m) h k = leads (UnknownMacro line m) h k
  memory_both Same none leads (CostForm line) h k = leads (CostForm line) h k
  memory_both Same none leads (TooDeep line) h k = leads (TooDeep line) h k
  memory_both Same none leads (TooManyNodes line n) h k = leads (TooManyNodes line n) h k
  memory_both Same none leads (TooManyChoices line n) h k = leads (TooManyChoices line n) h k
  memory_both Same none leads (SideTooLong line n) h k = leads (SideTooLong line n) h k
  memory_both Same none leads (DuplicateWord w n m) h k = leads (DuplicateWord w n m) h k
  memory_both Same none leads (WordFile line name cause) h k = leads (WordFile line name cause) h k

-- where nothing but memory may end the call
pub memory_error : {A : Type 0} (Told : DictError → Type 0) (Ended : Type 0) (known : Option Contents) (is : Determined A) (refuse : DictError → A) (old new : List (List ℕ)) → Ended → ((error : DictError) → Told error → Answers known is old new (refuse error))
    → (error : DictError) → UnlessMemory Told error → ErrorTells Ended known is refuse old new error
memory_error Told Ended known is refuse old new ended leads error h =
    memory_out Told (ErrorTells Ended known is refuse old new) (out_of_memory ended) (λ e told. first_fault e (leads e told)) error h

-- an error that comes after these were asked for
module _ {A B : Type 0} (Ended Stopped : Type 0) (known : Option Contents) (is : Determined A) (other : Determined B) (refuse : DictError → A) (reject : DictError → B) (start old new : List (List ℕ)) (before : List Asked) where
  pub error_map : AreKnown known before → old ≡ start ++ names_of before → (Ended → Stopped) → ((asked : List Asked) (error : DictError) → is asked (refuse error) → other (before ++ asked) (reject error))
      → (error : DictError) → ErrorTells Ended known is refuse old new error → ErrorTells Stopped known other reject start new error
  error_map found grown ends leads error (out_of_memory ended) = out_of_memory (ends ended)
  error_map found grown ends leads error (file_unread line name asked ended names is_found answers) =
      let last : List Asked = record { name = name; found = not_read } ∷ [] in
      file_unread line name (before ++ asked) (ends ended)
      (names
      ∙ ap (λ (l : List (List ℕ)). l ++ (names_of asked ++ name ∷ [])) grown
      ∙ append_assoc start (names_of before) (names_of asked ++ name ∷ [])
      ∙ ap (λ (l : List (List ℕ)). start ++ l) (sym (append_assoc (names_of before) (names_of asked) (name ∷ [])) ∙ ap (λ (l : List (List ℕ)). l ++ name ∷ []) (sym (names_then before asked))))
      (known_then known before asked found is_found)
      (subst (λ (l : List Asked). other l (reject (WordFile line name Failed))) (sym (append_assoc before asked last)) (leads (asked ++ last) (WordFile line name Failed) answers))
  error_map found grown ends leads error (first_fault e h) =
      first_fault e (record {
        asked = before ++ h.asked;
        names = grown_then start old new before h.asked grown h.names;
        found = known_then known before h.asked found h.found;
        answers = leads h.asked e h.answers;
      })

-- what comes of each comes of all
pub error_any : {A : Type 0} (Ended Any : Type 0) (known : Option Contents) (is : Determined A) (refuse : DictError → A) (old new : List (List ℕ)) → (Ended → Any) → ((answer : A) → Answers known is old new answer → Any)
    → (error : DictError) → ErrorTells Ended known is refuse old new error → Any
error_any Ended Any known is refuse old new ends leads error (out_of_memory ended) = ends ended
error_any Ended Any known is refuse old new ends leads error (file_unread line name asked ended names found answers) = ends ended
error_any Ended Any known is refuse old new ends leads error (first_fault e h) = leads (refuse e) h
