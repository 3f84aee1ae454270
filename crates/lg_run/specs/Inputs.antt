-- What comes of the inputs of a command, by the words and by what the files hold.
use Rattle.std.specs.Prelude.{◌≡◌, ℕ, suc, ◌<◌, ◌≤◌, List, [], ◌∷◌, ◌++◌, length, map, take, sum, slice_get, is_none, if◌then◌else◌, Result, Ok, Err}
use Rattle.std.specs.List.{flat_map}
use Rattle.std.specs.FinMap.{from_entries}
use Rattle.std.specs.declared.option.Option.TheVariants.{None, Some}
use Rattle.lg_base.specs.Contents.{Contents, file}
use Rattle.lg_dict.specs.Dictionary.{Dictionary}
use Rattle.lg_dictread.specs.declared.dict_error.DictError.TheVariants as errors
use Rattle.lg_dictread.specs.declared.dict_error.WordFileError.TheVariants as causes
use Rattle.lg_dictread.specs.Limits.{FILE}
use Rattle.lg_dictread.specs.Texts.{Meaning, TextAnswer, stands, refuse, DictionaryIs}
use Rattle.lg_edit.specs.Edits.{accept, edited}
use Rattle.lg_export.specs.Exports.{quoted_word}
use Rattle.lg_export.specs.Spelling.{dictionary_spelled}
use Rattle.lg_knowread.specs.declared.fault.KnowError.{KnowError}
use Rattle.lg_knowread.specs.declared.knowledge.Knowledge.{Knowledge}
use Rattle.lg_knowread.specs.Reading.{KnowledgeIs}
use Rattle.lg_script.specs.Codes.{commands_of}
use Rattle.lg_script.specs.Commands.{CommandView, makes}
use Rattle.lg_script.specs.EditNumbers.{edit_counts}
use Rattle.lg_script.specs.Scripts.{Outcome, ScriptIs}
use Rattle.lg_run.specs.Words.{Task, One, Run, Gen, Export, Audit}
use Rattle.lg_run.specs.Lines.{too_long_line, dict_line, know_line, script_line, edits_line, versions_line, quote_line}
use Rattle.lg_run.specs.declared.setup.Setup.{Setup}

-- What comes of texts that are read: all are accepted and stand for this; or the first that is refused has this line;
-- or this is the first name that is not there.
pub data Found (A : Type 0) : Type 0 where
  accepted : A → Found A
  refused : List ℕ → Found A
  missing : List ℕ → Found A

-- the names of the files that are read, in order, and what comes of them
abbrev pub Reading : Type 0 → Type 1
Reading A = List (List ℕ) → Found A → Type 0

-- a reading comes to something, and to one thing alone
abbrev pub HasSome : {A : Type 0} → Reading A → Type 0
HasSome {A} reading = (names : List (List ℕ)) × (found : Found A) × reading names found

abbrev pub IsOne : {A : Type 0} → Reading A → Type 0
IsOne {A} reading = (names others : List (List ℕ)) (x y : Found A) → reading names x → reading others y → (names ≡ others) × (x ≡ y)

-- no file is read for this
abbrev pub given : {A : Type 0} → A → Reading A
given a names found = (names ≡ []) × (found ≡ accepted a)

-- One text after another: what the first stands for says how the next is read, and nothing is read after a text that is
-- refused or a name that is not there.
pub data Followed {A B : Type 0} (first : Reading A) (next : A → Reading B) : List (List ℕ) → Found B → Type 0 where
  both : (a : A) (names more : List (List ℕ)) (found : Found B) → first names (accepted a) → next a more found → Followed first next (names ++ more) found
  ends_refused : (names : List (List ℕ)) (line : List ℕ) → first names (refused line) → Followed first next names (refused line)
  ends_missing : (names : List (List ℕ)) (name : List ℕ) → first names (missing name) → Followed first next names (missing name)

-- the bytes of a file that the words name
pub data FileIs (contents : Contents) (name : List ℕ) : List (List ℕ) → Found (List ℕ) → Type 0 where
  absent : file contents name ≡ None → FileIs contents name (name ∷ []) (missing name)
  long : (bytes : List ℕ) → file contents name ≡ Some bytes → FILE < length bytes → FileIs contents name (name ∷ []) (refused (too_long_line name))
  whole : (bytes : List ℕ) → file contents name ≡ Some bytes → length bytes ≤ FILE → FileIs contents name (name ∷ []) (accepted bytes)

-- each word of the entries with its formula, and each macro with its formula and its level
abbrev pub dictionary_from : List Meaning → Dictionary
dictionary_from entries = record {
  words = from_entries (flat_map (λ m. map (λ word. (word, m.formula)) m.words) entries);
  macros = from_entries (flat_map (λ m. map (λ name. (name, (m.formula, m.level))) m.macros) entries);
}

-- what comes of a dictionary of this name; a word file that is not there is a name that is not there
abbrev pub found_in : List ℕ → TextAnswer → Found Dictionary
found_in name (stands entries) = accepted (dictionary_from entries)
found_in name (refuse (errors.WordFile line file causes.Failed)) = missing file
found_in name (refuse error) = refused (dict_line name error)

-- the dictionary of these bytes, with its word files
pub data DictionaryReads (contents : Contents) (name bytes : List ℕ) : List (List ℕ) → Found Dictionary → Type 0 where
  reads : (asked : List (List ℕ)) (answer : TextAnswer) → DictionaryIs contents bytes asked answer → DictionaryReads contents name bytes asked (found_in name answer)

-- the dictionary with this name
abbrev pub DictionaryInput : Contents → List ℕ → Reading Dictionary
DictionaryInput contents name = Followed (FileIs contents name) (DictionaryReads contents name)

-- what comes of a knowledge file of this name
abbrev pub found_knowledge : List ℕ → Result Knowledge KnowError → Found Knowledge
found_knowledge name (Ok know) = accepted know
found_knowledge name (Err error) = refused (know_line name error)

pub data KnowledgeReads (name bytes : List ℕ) : List (List ℕ) → Found Knowledge → Type 0 where
  reads_knowledge : (x : Result Knowledge KnowError) → KnowledgeIs bytes x → KnowledgeReads name bytes [] (found_knowledge name x)

-- the knowledge with this name
abbrev pub KnowledgeInput : Contents → List ℕ → Reading Knowledge
KnowledgeInput contents name = Followed (FileIs contents name) (KnowledgeReads name)

-- what comes of a script of this name
abbrev pub found_script : List ℕ → Outcome → Found (List CommandView)
found_script name (Ok commands) = accepted commands
found_script name (Err error) = refused (script_line name error)

pub data ScriptReads (name bytes : List ℕ) : List (List ℕ) → Found (List CommandView) → Type 0 where
  reads_script : (x : Outcome) → ScriptIs bytes x → ScriptReads name bytes [] (found_script name x)

-- the script with this name
abbrev pub ScriptInput : Contents → List ℕ → Reading (List CommandView)
ScriptInput contents name = Followed (FileIs contents name) (ScriptReads name)

-- the scripts of these names, one after another
abbrev pub ScriptsInput : Contents → List (List ℕ) → Reading (List (List CommandView))
ScriptsInput contents [] = given []
ScriptsInput contents (name ∷ names) = Followed (ScriptInput contents name) (λ commands. Followed (ScriptsInput contents names) (λ more. given (commands ∷ more)))

-- the most edits of all scripts
abbrev pub EDITS : ℕ
EDITS = 100000

-- once all are read: where they have more edits together, the script with which they pass the limit is refused
pub data EditsRead (names : List (List ℕ)) (scripts : List (List CommandView)) : List (List ℕ) → Found (List (List CommandView)) → Type 0 where
  few : sum (edit_counts scripts) ≤ EDITS → EditsRead names scripts [] (accepted scripts)
  many : (i : ℕ) (name : List ℕ) → slice_get names i ≡ Some name → sum (take i (edit_counts scripts)) ≤ EDITS → EDITS < sum (take (suc i) (edit_counts scripts))
      → EditsRead names scripts [] (refused (edits_line name))

-- what a command has in hand once all its inputs are accepted, and how it lists and prints
pub data Given : Type 0 where
  -- a dictionary and a sentence
  OneGiven : Setup → Dictionary → List ℕ → Given
  -- a dictionary, knowledge and the scripts of sessions
  RunGiven : Setup → Dictionary → Knowledge → List (List CommandView) → Given
  -- a seed, and how many words and sentences are made
  GenGiven : ℕ → ℕ → ℕ → Given
  -- the text of a version
  ExportGiven : List ℕ → Given
  -- a dictionary, knowledge, the scripts of sessions, and the bytes of their document
  AuditGiven : Dictionary → Knowledge → List (List CommandView) → List ℕ → Given

-- the inputs of sessions: the dictionary, the knowledge and the scripts
abbrev pub ScriptsGiven : Contents → Setup → Dictionary → Knowledge → List (List ℕ) → Reading Given
ScriptsGiven contents setup dict know names = Followed (Followed (ScriptsInput contents names) (EditsRead names)) (λ scripts. given (RunGiven setup dict know scripts))

abbrev pub KnowledgeGiven : Contents → Setup → Dictionary → List ℕ → List (List ℕ) → Reading Given
KnowledgeGiven contents setup dict knowledge names = Followed (KnowledgeInput contents knowledge) (λ know. ScriptsGiven contents setup dict know names)

-- the inputs of an audit: the dictionary, the knowledge, the document, which is refused only if it is too long, and the scripts
abbrev pub AuditScripts : Contents → Dictionary → Knowledge → List ℕ → List (List ℕ) → Reading Given
AuditScripts contents dict know document names = Followed (Followed (ScriptsInput contents names) (EditsRead names)) (λ scripts. given (AuditGiven dict know scripts document))

abbrev pub AuditDocument : Contents → Dictionary → Knowledge → List ℕ → List (List ℕ) → Reading Given
AuditDocument contents dict know document names = Followed (FileIs contents document) (λ bytes. AuditScripts contents dict know bytes names)

abbrev pub AuditKnowledge : Contents → Dictionary → List ℕ → List ℕ → List (List ℕ) → Reading Given
AuditKnowledge contents dict knowledge document names = Followed (KnowledgeInput contents knowledge) (λ know. AuditDocument contents dict know document names)

-- A dictionary before all edits of a script, and after each that is accepted when it comes. An edit that is refused makes no version,
-- and other commands are passed over.
abbrev pub versions : Dictionary → List CommandView → List Dictionary
versions dict [] = dict ∷ []
versions dict (makes edit ∷ commands) = if is_none (accept dict edit) then dict ∷ versions (edited dict edit) commands else versions dict commands
versions dict (_ ∷ commands) = versions dict commands

-- Once the dictionary and the script are read: fewer edits are accepted than were asked for, a word of that version has a quote, or
-- the version has a text. No file is read.
pub data ExportReads (dictionary script : List ℕ) (n : ℕ) (dict : Dictionary) (commands : List CommandView) : List (List ℕ) → Found Given → Type 0 where
  too_few : (count : ℕ) → length (versions dict commands) ≡ suc count → count < n → ExportReads dictionary script n dict commands [] (refused (versions_line script count))
  quoted : (version : Dictionary) (word : List ℕ) → slice_get (versions dict commands) n ≡ Some version → quoted_word version ≡ Some word
      → ExportReads dictionary script n dict commands [] (refused (quote_line dictionary word))
  spelled : (version : Dictionary) → slice_get (versions dict commands) n ≡ Some version → quoted_word version ≡ None
      → ExportReads dictionary script n dict commands [] (accepted (ExportGiven (dictionary_spelled version)))

-- the inputs of a version, if the dictionary is had: the script, and what comes of both
abbrev pub VersionGiven : Contents → List ℕ → List ℕ → ℕ → Dictionary → Reading Given
VersionGiven contents dictionary script n dict = Followed (Followed (ScriptsInput contents (script ∷ [])) (EditsRead (script ∷ []))) (λ scripts. ExportReads dictionary script n dict (commands_of scripts 0))

-- the inputs of a command
abbrev pub InputsAre : Contents → Task → Reading Given
InputsAre contents (One setup dictionary sentence) = Followed (DictionaryInput contents dictionary) (λ dict. given (OneGiven setup dict sentence))
InputsAre contents (Run setup dictionary knowledge scripts) = Followed (DictionaryInput contents dictionary) (λ dict. KnowledgeGiven contents setup dict knowledge scripts)
InputsAre contents (Gen seed words sentences) = given (GenGiven seed words sentences)
InputsAre contents (Export dictionary script n) = Followed (DictionaryInput contents dictionary) (λ dict. VersionGiven contents dictionary script n dict)
InputsAre contents (Audit dictionary knowledge document scripts) = Followed (DictionaryInput contents dictionary) (λ dict. AuditKnowledge contents dict knowledge document scripts)
