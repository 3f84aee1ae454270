-- How a dictionary is kept.
use Rattle.std.specs.Prelude.{◌<◌, ℕ, List, length, All, Contains}
use Rattle.std.specs.FinMap.{from_entries}
use Rattle.indexmap.specs.IndexMap.{values}
use Rattle.lg_dict.specs.Dictionary.{Dictionary, IsLongest}
use Rattle.lg_dict.specs.Lengths.{HasLengths}
use Rattle.lg_dict.specs.Tables.{text_entries, text_keys, Lists, with_trees, with_macros, IsMacro}
use Rattle.lg_dict.specs.declared.dict.Dict.TheInside.{Inside}
use Rattle.lg_dict.specs.declared.tables.By.TheVariants.{Stem, First}

-- the two maps that the tables stand for
abbrev pub shown : Inside → Dictionary
shown a = record {
  words = from_entries (with_trees a.formulas.items (text_entries a.words));
  macros = from_entries (with_macros a.formulas.items (text_entries a.macros));
}

-- each formula is there, each level fits, the tables of stems and of first parts list words, the longest word is so long, and the lengths of words and stems are there
pub record IsKept (a : Inside) : Type 0 where
  pub words : All (λ number. number < length a.formulas.items) (values a.words)
  pub macros : All (IsMacro a.formulas.items) (values a.macros)
  pub stems : Lists Stem (text_keys a.words) a.stems
  pub firsts : Lists First (text_keys a.words) a.firsts
  pub longest : IsLongest (Contains (text_keys a.words)) a.longest
  pub lengths : (word : List ℕ) → Contains (text_keys a.words) word → HasLengths a.lengths word
