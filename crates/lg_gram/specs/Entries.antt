-- Entries of a dictionary, all together.
use Rattle.std.specs.Prelude.{◌≢◌, ℕ, List, All, AllPairs}
use Rattle.std.specs.List.{flat_map}
use Rattle.lg_gram.specs.declared.entry.Entry.{Entry}
use Rattle.lg_gram.specs.Formulas.{LevelFits}
use Rattle.lg_gram.specs.Trees.{tree_of}

-- all words of the entries, in their order
abbrev pub words_in : List Entry → List (List ℕ)
words_in entries = flat_map (λ e. e.words) entries

-- all macros of the entries, in their order
abbrev pub macros_in : List Entry → List (List ℕ)
macros_in entries = flat_map (λ e. e.macros) entries

-- no word and no macro stands twice, and each entry's level fits its formula
pub record AreEntries (entries : List Entry) : Type 0 where
  pub words : AllPairs (λ a b. a ≢ b) (words_in entries)
  pub macros : AllPairs (λ a b. a ≢ b) (macros_in entries)
  pub levels : All (λ e. LevelFits e.level (tree_of e.formula)) entries
