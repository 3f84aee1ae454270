-- Dictionaries that are read, and what edits make of them, can be exported.
use Rattle.std.specs.Prelude.{◌≡◌, ℕ, List, None, Ok}
use Rattle.lg_gram.specs.EntryViews.{EntryView}
use Rattle.lg_dict.specs.Dictionary.{Dictionary}
use Rattle.lg_edit.specs.Edits.{EditView, puts, sets, removes, DefinesWords, DefinesOneMacro, accept, edited}
use Rattle.lg_dictread.specs.EntryTexts.{EntryTextIs}
use Rattle.lg_dictread.specs.Findings.{Asked}
use Rattle.lg_dictread.specs.Texts.{Meaning, stands, DictionaryGives}
use Rattle.lg_export.specs.Exportable.{IsExportable}
use Rattle.lg_export.specs.ReadBack.{dictionary_meant}

-- the dictionary of each text that stands for entries, whatever its word files hold
abbrev pub ReadIsExportable : Type 0
ReadIsExportable = (bytes : List ℕ) (asked : List Asked) (entries : List Meaning) → DictionaryGives bytes asked (stands entries) → IsExportable (dictionary_meant entries)

-- the edit has an entry that is read from a text, and defines as it may
pub data IsReadEdit : EditView → Type 0 where
  read_puts : (bytes : List ℕ) (e : EntryView) → EntryTextIs bytes (Ok e) → DefinesWords e → IsReadEdit (puts e)
  read_sets : (bytes : List ℕ) (e : EntryView) → EntryTextIs bytes (Ok e) → DefinesOneMacro e → IsReadEdit (sets e)
  read_removes : (word : List ℕ) → IsReadEdit (removes word)

-- a dictionary that can be exported can be so after an edit that it accepts
abbrev pub EditedIsExportable : Type 0
EditedIsExportable = (dict : Dictionary) (edit : EditView) → IsExportable dict → IsReadEdit edit → accept dict edit ≡ None → IsExportable (edited dict edit)
