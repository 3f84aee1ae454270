-- What comes of the inputs of an export reads back as a dictionary.
use Rattle.std.proofs.Common.{◌≡◌, ℕ, zero, suc, ◌+◌, cond, List, [], ◌∷◌, Option, Some, None, Result, Ok, Err, slice_get, is_none, refl, sym, subst}
use Rattle.std.specs.List.{AllByRecursion}
use Rattle.lg_base.specs.Contents.{Contents}
use Rattle.lg_gram.specs.declared.edit.EditRefusal.{EditRefusal}
use Rattle.lg_dict.specs.Dictionary.{Dictionary}
use Rattle.lg_dictread.specs.declared.dict_error.DictError.{DictError}
use Rattle.lg_dictread.specs.declared.dict_error.DictError.TheVariants as errors
use Rattle.lg_dictread.specs.declared.dict_error.WordFileError.TheVariants as causes
use Rattle.lg_dictread.specs.Texts.{stands, refuse}
use Rattle.lg_edit.specs.Edits.{accept, edited}
use Rattle.lg_export.specs.Exportable.{IsExportable}
use Rattle.lg_export.specs.Read.{ReadIsExportable, IsReadEdit, read_puts, read_sets, read_removes, EditedIsExportable}
use Rattle.lg_export.specs.ReadBack.{ExportsReadBack}
use Rattle.lg_script.specs.Codes.{commands_of}
use Rattle.lg_script.specs.Commands as script_commands
use Rattle.lg_script.specs.Commands.{CommandView, parses, lists, goes_on, makes, asks, Fault, CommandIs}
use Rattle.lg_script.specs.Scripts.{Outcome, with_command, LinesGive, ended, passed, command, fault, ScriptIs, not_utf8, lines}
use Rattle.lg_run.specs.Inputs.{Found, accepted, refused, missing, Reading, Given, OneGiven, RunGiven, GenGiven, ExportGiven, AuditGiven, given, Followed, both, ends_refused, ends_missing, FileIs, absent, long, whole, found_in, DictionaryReads, reads, DictionaryInput, found_script, ScriptReads, reads_script, ScriptInput, ScriptsInput, EditsRead, few, many, versions, ExportReads, too_few, quoted, spelled, VersionGiven}
use Rattle.lg_run.specs.Exported.{IsDictionaryText, ExportsAreDictionaries}

-- ---- readings

-- what holds of what comes of texts that are accepted
abbrev pub IfFound : {A : Type 0} → (A → Type 0) → Found A → Type 0
IfFound P (accepted a) = P a
IfFound P (refused line) = Unit {0}
IfFound P (missing name) = Unit {0}

abbrev pub Gives : {A : Type 0} → Reading A → (A → Type 0) → Type 0
Gives {A} reading P = (names : List (List ℕ)) (found : Found A) → reading names found → IfFound P found

pub followed_gives : {A B : Type 0} (first : Reading A) (next : A → Reading B) (P : A → Type 0) (Q : B → Type 0) → Gives first P → ((a : A) → P a → Gives (next a) Q) → Gives (Followed first next) Q
followed_gives first next P Q f g _ _ (both a names more found p q) = g a (f names (accepted a) p) more found q
followed_gives first next P Q f g _ _ (ends_refused names line p) = tt
followed_gives first next P Q f g _ _ (ends_missing names name p) = tt

pub given_gives : {A : Type 0} (a : A) (P : A → Type 0) → P a → Gives (given a) P
given_gives a P h names found is = subst (IfFound P) (sym is.1) h

file_gives : (contents : Contents) (name : List ℕ) → Gives (FileIs contents name) (λ bytes. Unit {0})
file_gives contents name _ _ (absent is) = tt
file_gives contents name _ _ (long bytes is much) = tt
file_gives contents name _ _ (whole bytes is within) = tt

-- ---- scripts

-- each edit has an entry that was read
abbrev pub IsRead : CommandView → Type 0
IsRead (parses text) = Unit {0}
IsRead (lists from want text) = Unit {0}
IsRead goes_on = Unit {0}
IsRead (makes edit) = IsReadEdit edit
IsRead asks = Unit {0}

abbrev pub AreRead : List CommandView → Type 0
AreRead commands = AllByRecursion IsRead commands

abbrev CommandRead : Result CommandView Fault → Type 0
CommandRead (Ok c) = IsRead c
CommandRead (Err f) = Unit {0}

abbrev OutcomeRead : Outcome → Type 0
OutcomeRead (Ok commands) = AreRead commands
OutcomeRead (Err error) = Unit {0}

command_read : (word rest : List ℕ) (r : Result CommandView Fault) → CommandIs word rest r → CommandRead r
command_read _ _ _ (script_commands.parse rest) = tt
command_read _ _ _ (script_commands.list rest from want sentence is) = tt
command_read _ _ _ (script_commands.no_list rest is) = tt
command_read _ _ _ script_commands.more = tt
command_read _ _ _ (script_commands.more_than_more rest some) = tt
command_read _ _ _ script_commands.version = tt
command_read _ _ _ (script_commands.more_than_version rest some) = tt
command_read _ _ _ (script_commands.set rest e is words) = read_puts rest e is words
command_read _ _ _ (script_commands.no_set rest is) = tt
command_read _ _ _ (script_commands.macro rest e is one) = read_sets rest e is one
command_read _ _ _ (script_commands.no_macro rest is) = tt
command_read _ _ _ (script_commands.del rest some inner) = read_removes rest
command_read _ _ _ (script_commands.no_del rest is) = tt
command_read _ _ _ (script_commands.unknown word rest is) = tt

with_command_read : (c : CommandView) (x : Outcome) → IsRead c → OutcomeRead x → OutcomeRead (with_command c x)
with_command_read c (Ok commands) h k = (h, k)
with_command_read c (Err error) h k = tt

lines_read : (n : ℕ) (ls : List (List ℕ)) (x : Outcome) → LinesGive n ls x → OutcomeRead x
lines_read _ _ _ (ended n) = tt
lines_read _ _ _ (passed n line body ls x says over rest) = lines_read (n + 1) ls x rest
lines_read _ _ _ (command n line body word rest ls c x says is said more) = with_command_read c x (command_read word rest (Ok c) said) (lines_read (n + 1) ls x more)
lines_read _ _ _ (fault n line body word rest ls f says is said) = tt

script_read : (bytes : List ℕ) (x : Outcome) → ScriptIs bytes x → OutcomeRead x
script_read bytes _ (not_utf8 n is) = tt
script_read bytes _ (lines ls x utf8 are more) = lines_read 1 ls x more

found_read : (name : List ℕ) (x : Outcome) → OutcomeRead x → IfFound AreRead (found_script name x)
found_read name (Ok commands) h = h
found_read name (Err error) h = tt

script_text_read : (name bytes : List ℕ) → Gives (ScriptReads name bytes) AreRead
script_text_read name bytes _ _ (reads_script x is) = found_read name x (script_read bytes x is)

abbrev pub AllRead : List (List CommandView) → Type 0
AllRead scripts = AllByRecursion AreRead scripts

module _ (contents : Contents) where
  scripts_read : (names : List (List ℕ)) → Gives (ScriptsInput contents names) AllRead
  scripts_read [] = given_gives [] AllRead tt
  scripts_read (name ∷ names) =
      followed_gives (ScriptInput contents name) (λ commands. Followed (ScriptsInput contents names) (λ more. given (commands ∷ more))) AreRead AllRead
      (followed_gives (FileIs contents name) (ScriptReads name) (λ bytes. Unit {0}) AreRead (file_gives contents name) (λ bytes h. script_text_read name bytes))
      (λ commands h. followed_gives (ScriptsInput contents names) (λ more. given (commands ∷ more)) AllRead AllRead (scripts_read names) (λ more k. given_gives (commands ∷ more) AllRead (h, k)))

  edits_read : (names : List (List ℕ)) (scripts : List (List CommandView)) → AllRead scripts → Gives (EditsRead names scripts) AllRead
  edits_read names scripts h _ _ (few within) = h
  edits_read names scripts h _ _ (many i name is before after) = tt

  -- and all of them
  pub all_read : (names : List (List ℕ)) → Gives (Followed (ScriptsInput contents names) (EditsRead names)) AllRead
  all_read names = followed_gives (ScriptsInput contents names) (EditsRead names) AllRead AllRead (scripts_read names) (λ scripts h. edits_read names scripts h)

first_read : (scripts : List (List CommandView)) → AllRead scripts → AreRead (commands_of scripts 0)
first_read [] h = tt
first_read (commands ∷ scripts) h = h.0

-- ---- dictionaries

pub there : {T : Type 0} (P : T → Type 0) (all : List T) (n : ℕ) (x : T) → AllByRecursion P all → slice_get all n ≡ Some x → P x
there P [] n x h e = absurd cc
there P (y ∷ all) zero x h e = let same : y ≡ x = cc in subst P same h.0
there P (y ∷ all) (suc n) x h e = there P all n x h.1 e

module _ (read_can : ReadIsExportable) where
  refused_gives : (name : List ℕ) (error : DictError) → IfFound IsExportable (found_in name (refuse error))
  refused_gives name (errors.WordFile line file causes.Failed) = tt
  refused_gives name error = tt

  dictionary_can : (contents : Contents) (name bytes : List ℕ) → Gives (DictionaryReads contents name bytes) IsExportable
  dictionary_can contents name bytes _ _ (reads asked (stands entries) is) = read_can bytes is.asked entries is.gives
  dictionary_can contents name bytes _ _ (reads asked (refuse error) is) = refused_gives name error

  pub input_can : (contents : Contents) (name : List ℕ) → Gives (DictionaryInput contents name) IsExportable
  input_can contents name =
      followed_gives (FileIs contents name) (DictionaryReads contents name) (λ bytes. Unit {0}) IsExportable (file_gives contents name) (λ bytes h. dictionary_can contents name bytes)

module _ (read_can : ReadIsExportable) (edited_can : EditedIsExportable) (read_back : ExportsReadBack) where
  -- every version can be exported
  abbrev AllCan : List Dictionary → Type 0
  AllCan all = AllByRecursion IsExportable all

  made_or_not : (dict next : Dictionary) (made left : List Dictionary) (cause : Option EditRefusal) → IsExportable dict → (cause ≡ None → AllCan made) → AllCan left → AllCan (cond (is_none cause) (dict ∷ made) left)
  made_or_not dict next made left None can h k = (can, h refl)
  made_or_not dict next made left (Some cause) can h k = k

  versions_can : (commands : List CommandView) (dict : Dictionary) → IsExportable dict → AreRead commands → AllCan (versions dict commands)
  versions_can [] dict can h = (can, tt)
  versions_can (parses text ∷ commands) dict can h = versions_can commands dict can h.1
  versions_can (lists from want text ∷ commands) dict can h = versions_can commands dict can h.1
  versions_can (goes_on ∷ commands) dict can h = versions_can commands dict can h.1
  versions_can (asks ∷ commands) dict can h = versions_can commands dict can h.1
  versions_can (makes edit ∷ commands) dict can h =
      made_or_not dict (edited dict edit) (versions (edited dict edit) commands) (versions dict commands) (accept dict edit) can
      (λ none. versions_can commands (edited dict edit) (edited_can dict edit can h.0 none) h.1) (versions_can commands dict can h.1)

  -- what is given reads back, where it is a text
  abbrev ReadsAgain : Given → Type 0
  ReadsAgain (OneGiven setup dict sentence) = Unit {0}
  ReadsAgain (RunGiven setup dict know scripts) = Unit {0}
  ReadsAgain (GenGiven seed words sentences) = Unit {0}
  ReadsAgain (ExportGiven text) = IsDictionaryText text
  ReadsAgain (AuditGiven dict know scripts bytes) = Unit {0}

  export_gives : (dictionary script : List ℕ) (n : ℕ) (dict : Dictionary) (commands : List CommandView) → IsExportable dict → AreRead commands → Gives (ExportReads dictionary script n dict commands) ReadsAgain
  export_gives dictionary script n dict commands can h _ _ (too_few count all less) = tt
  export_gives dictionary script n dict commands can h _ _ (quoted version word is quote) = tt
  export_gives dictionary script n dict commands can h _ _ (spelled version is none) = record {
    version = version;
    spelled = refl;
    reads_back = read_back version (there IsExportable (versions dict commands) n version (versions_can commands dict can h) is) none;
  }

  pub exports_are_dictionaries : ExportsAreDictionaries
  exports_are_dictionaries contents dictionary script n names text is =
      followed_gives (DictionaryInput contents dictionary) (λ dict. VersionGiven contents dictionary script n dict) IsExportable ReadsAgain (input_can read_can contents dictionary)
      (λ dict can. followed_gives (Followed (ScriptsInput contents (script ∷ [])) (EditsRead (script ∷ []))) (λ scripts. ExportReads dictionary script n dict (commands_of scripts 0)) AllRead ReadsAgain
      (all_read contents (script ∷ []))
      (λ scripts h. export_gives dictionary script n dict (commands_of scripts 0) can (first_read scripts h)))
      names (accepted (ExportGiven text)) is
