-- Dictionaries whose export reads back.
use Rattle.std.specs.Prelude.{◌≡◌, ◌≢◌, ℕ, ◌≤◌, List, [], true, false, ◌==◌, IfSome, unsigned_abs}
use Rattle.std.specs.FinMap.{get}
use Rattle.std.specs.List.{list_any}
use Rattle.std.specs.Str.{IsUtf8}
use Rattle.lg_gram.specs.Connectors.{name_of}
use Rattle.lg_gram.specs.Limits.{LEVEL, PRICE}
use Rattle.lg_gram.specs.Measured.{IsSmall}
use Rattle.lg_gram.specs.Names.{Name, is_written, trimmed}
use Rattle.lg_gram.specs.Trees.{Tree, Trees, empty, leaf, all_of, one_of, priced, no_trees, tree}
use Rattle.lg_dict.specs.Dictionary.{Dictionary}
use Rattle.lg_lex.specs.declared.marks.Marks.TheVariants.{Dictionary as dictionary_marks}
use Rattle.lg_lex.specs.Tokens.{ArePlain}
use Rattle.lg_expr.specs.Words.{IsMacroName}
use Rattle.lg_export.specs.Spelling.{top, level_at}

-- two members or more
abbrev pub AreMany : Trees → Type 0
AreMany no_trees = ⊥
AreMany (tree t no_trees) = ⊥
AreMany (tree t (tree u us)) = Unit {0}

-- a name that a dictionary may write, with no star at the end
pub record IsLettered (n : Name) : Type 0 where
  pub written : is_written n.caps n.subs ≡ true
  pub short : trimmed n.subs ≡ n.subs

-- its connectors, its lists and its costs are such as a reader makes
abbrev mutual
  pub IsReadable : Tree → Type 0
  IsReadable empty = Unit {0}
  IsReadable (leaf c) = IsLettered (name_of c)
  IsReadable (all_of ts) = AreMany ts × AreReadable ts
  IsReadable (one_of ts) = AreMany ts × AreReadable ts
  IsReadable (priced t cost) = (unsigned_abs cost ≤ PRICE) × IsReadable t

  pub AreReadable : Trees → Type 0
  AreReadable no_trees = Unit {0}
  AreReadable (tree t ts) = IsReadable t × AreReadable ts

-- and it is within the measures, with not too many brackets open at once
pub record HasText (t : Tree) : Type 0 where
  pub readable : IsReadable t
  pub small : IsSmall t
  pub level : level_at top t ≤ LEVEL

-- one byte or more of UTF-8, on one line (10 is the line feed)
pub record IsWordToWrite (word : List ℕ) (t : Tree) : Type 0 where
  pub utf8 : IsUtf8 word
  pub some : word ≢ []
  pub on_one_line : list_any (λ b. b == 10) word ≡ false
  pub formula : HasText t

-- a plain token in angle brackets, whose level is not below that of its spelling
pub record IsMacroToWrite (name : List ℕ) (m : Tree × ℕ) : Type 0 where
  pub utf8 : IsUtf8 name
  pub named : IsMacroName name
  pub plain : ArePlain dictionary_marks name
  pub formula : HasText m.0
  pub above : level_at top m.0 ≤ m.1
  pub few : m.1 ≤ LEVEL

-- each of its words and macros is so
pub record IsExportable (dict : Dictionary) : Type 0 where
  pub words : (word : List ℕ) → IfSome (get dict.words word) (IsWordToWrite word)
  pub macros : (name : List ℕ) → IfSome (get dict.macros name) (IsMacroToWrite name)
