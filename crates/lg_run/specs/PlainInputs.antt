-- Dictionaries without line feeds: no name of theirs has one, nor has a connector of their formulas.
use Rattle.std.specs.Prelude.{◌≡◌, ℕ, List, Some}
use Rattle.std.specs.FinMap.{get}
use Rattle.lg_gram.specs.Connectors.{connector_text}
use Rattle.lg_gram.specs.Trees.{Tree, Trees, empty, leaf, all_of, one_of, priced, no_trees, tree}
use Rattle.lg_dict.specs.Dictionary.{Dictionary}
use Rattle.lg_dictread.specs.Findings.{Asked}
use Rattle.lg_dictread.specs.Texts.{Meaning, stands, DictionaryGives}
use Rattle.lg_edit.specs.Edits.{EditView, after_edit}
use Rattle.lg_script.specs.Commands.{makes}
use Rattle.lg_script.specs.SingleLines.{IsSingleLine, HasSingleLines}
use Rattle.lg_run.specs.Inputs.{dictionary_from}

-- no connector of a formula has a line feed
abbrev mutual
  pub IsPlainTree : Tree → Type 0
  IsPlainTree empty = Unit {0}
  IsPlainTree (leaf c) = IsSingleLine (connector_text c)
  IsPlainTree (all_of ts) = ArePlainTrees ts
  IsPlainTree (one_of ts) = ArePlainTrees ts
  IsPlainTree (priced t price) = IsPlainTree t

  pub ArePlainTrees : Trees → Type 0
  ArePlainTrees no_trees = Unit {0}
  ArePlainTrees (tree t ts) = IsPlainTree t × ArePlainTrees ts

-- no word and no macro's name has a line feed, nor has a connector of what it stands for
pub record IsPlainDictionary (dict : Dictionary) : Type 0 where
  pub words : (word : List ℕ) (t : Tree) → get dict.words word ≡ Some t → IsSingleLine word × IsPlainTree t
  pub macros : (name : List ℕ) (m : Tree × ℕ) → get dict.macros name ≡ Some m → IsSingleLine name × IsPlainTree m.0

-- Every dictionary that is read is without line feeds.
abbrev pub DictionariesArePlain : Type 0
DictionariesArePlain = (bytes : List ℕ) (asked : List Asked) (entries : List Meaning) → DictionaryGives bytes asked (stands entries) → IsPlainDictionary (dictionary_from entries)

-- An edit without line feeds keeps a dictionary so.
abbrev pub EditsKeepPlain : Type 0
EditsKeepPlain = (dict : Dictionary) (edit : EditView) → IsPlainDictionary dict → HasSingleLines (makes edit) → IsPlainDictionary (after_edit dict edit)
