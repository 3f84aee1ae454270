-- Changes that are laid over a dictionary.
use Rattle.std.specs.Prelude.{◌≡◌, ℕ, List, [], ◌∷◌, All, if◌then◌else◌, Option, Some, None, IsSome, IfSome}
use Rattle.std.specs.FinMap.{get, insert, remove}
use Rattle.std.specs.List.{list_any}
use Rattle.std.specs.Option.{unwrap_or}
use Rattle.lg_gram.specs.Trees.{Tree, tree_of}
use Rattle.lg_gram.specs.Fits.{Fits}
use Rattle.lg_gram.specs.declared.expr.Expr.{Expr}
use Rattle.lg_dict.specs.Dictionary.{Dictionary, TextMap}
use Rattle.lg_dict.specs.Lengths.{HasLengths}
use Rattle.lg_dict.specs.Tables.{text_entries, at_text, AreListed, same_text}
use Rattle.lg_dict.specs.declared.changes.Change.{Change}
use Rattle.lg_dict.specs.declared.changes.Change.TheVariants.{Same, Removed, Given}
use Rattle.lg_dict.specs.declared.changes.Changes.{Changes}
use Rattle.lg_dict.specs.declared.changes.Named.{Named}
use Rattle.lg_dict.specs.declared.tables.By.TheVariants.{Stem, First}

-- at this key the map has this value, or nothing
abbrev pub set_key : {X : Type 0} → TextMap X → List ℕ → Option X → TextMap X
set_key m key None = remove m key
set_key m key (Some x) = insert m key x

-- a map with changes laid over it, each by what it means at its key; the first change of a key counts
abbrev pub laid_over : {V X : Type 0} → (List ℕ → V → Option X) → List (List ℕ × V) → TextMap X → TextMap X
laid_over means [] m = m
laid_over means (e ∷ es) m = set_key (laid_over means es m) e.0 (means e.0 e.1)

-- what a word has by a change, over these words
abbrev pub word_by : TextMap Tree → List ℕ → Change → Option Tree
word_by words word Same = get words word
word_by words word Removed = None
word_by words word (Given formula) = Some (tree_of formula)

-- what a macro stands for now, and its level
abbrev pub named_by : Named → Tree × ℕ
named_by m = (tree_of m.formula, m.level)

-- a dictionary with changes laid over it
abbrev pub changed : Dictionary → Changes → Dictionary
changed dict c = record {
  words = laid_over (word_by dict.words) (text_entries c.words) dict.words;
  macros = laid_over (λ name m. Some (named_by m)) (text_entries c.macros) dict.macros;
}

-- what is changed at a word
abbrev pub change_at : Changes → List ℕ → Change
change_at c word = unwrap_or (at_text c.words word) Same

-- there is room for a change of the word
abbrev pub IsNamed : Changes → List ℕ → Type 0
IsNamed c word = IsSome (at_text c.words word)

-- a macro keeps to its level
abbrev pub KeepsToLevel : Named → Type 0
KeepsToLevel m = Fits m.level (tree_of m.formula)

-- each macro keeps to its level, and the words that are named are listed by their stems and by their first parts, and their lengths are there
pub record IsLaid (c : Changes) : Type 0 where
  pub macros : (name : List ℕ) → IfSome (at_text c.macros name) KeepsToLevel
  pub stems : AreListed Stem (IsNamed c) c.stems
  pub firsts : AreListed First (IsNamed c) c.firsts
  pub lengths : (word : List ℕ) → IsNamed c word → HasLengths c.lengths word

-- the expression reads as this tree
abbrev pub IsTree : Tree → Expr → Type 0
IsTree tree e = tree_of e ≡ tree

-- where these all read as one tree, each of the words has it, and each other word what it had
abbrev pub HasGiven : List Expr → List (List ℕ) → Changes → Changes → Type 0
HasGiven formulas names old new = (tree : Tree) → All (IsTree tree) formulas
    → (words : TextMap Tree) (word : List ℕ) → word_by words word (change_at new word) ≡ (if list_any (same_text word) names then Some tree else word_by words word (change_at old word))

-- nothing is changed between the two
pub record HasSame (old new : Changes) : Type 0 where
  pub words : (word : List ℕ) → change_at new word ≡ change_at old word
  pub macros : (name : List ℕ) → at_text new.macros name ≡ at_text old.macros name
