-- Hash tables whose keys are bytes, and what their values stand for.
use Rattle.std.specs.Prelude.{◌≡◌, ◌<◌, ℕ, List, [], map, filter, length, Contains, slice_get, nat_eq, Bool, true, false, if◌then◌else◌, Option, Some, None}
use Rattle.std.specs.declared.vec.Vec.{Vec}
use Rattle.std.specs.Option.{option_map_or, unwrap_or}
use Rattle.std.specs.Cmp.Lexicographic.{pointwise}
use Rattle.indexmap.specs.IndexMap.{IndexMap, get_by}
use Rattle.lg_gram.specs.Trees.{Tree, empty, tree_of}
use Rattle.lg_gram.specs.declared.expr.Expr.{Expr}
use Rattle.lg_gram.specs.Fits.{Fits}
use Rattle.lg_dict.specs.Subscripts.{stem_of}
use Rattle.lg_dict.specs.Compounds.{compound_first}
use Rattle.lg_dict.specs.declared.tables.By.{By}
use Rattle.lg_dict.specs.declared.tables.By.TheVariants.{Stem, First}
use Rattle.lg_dict.specs.declared.tables.Macro.{Macro}

module _ {A V S : Type 0} where
  -- the entries, each key as its bytes
  abbrev pub text_entries : IndexMap (Vec ℕ A) V S → List (List ℕ × V)
  text_entries table = map (λ e. (e.0.items, e.1)) table.entries

  -- the keys, as their bytes
  abbrev pub text_keys : IndexMap (Vec ℕ A) V S → List (List ℕ)
  text_keys table = map (λ e. e.0.items) table.entries

  -- what the table has at these bytes
  abbrev pub at_text : IndexMap (Vec ℕ A) V S → List ℕ → Option V
  at_text table text = get_by (λ key. pointwise nat_eq text key.items) table

-- the text of this number; where there is none, no bytes
abbrev pub text_at : List (List ℕ) → ℕ → List ℕ
text_at texts number = unwrap_or (slice_get texts number) []

module _ {A B S : Type 0} where
  -- the numbers that a table of lists has for a key
  abbrev pub numbers_at : IndexMap (Vec ℕ A) (Vec ℕ B) S → List ℕ → List ℕ
  numbers_at lists key = option_map_or (λ numbers. numbers.items) (at_text lists key) []

  -- the words of these numbers
  abbrev pub listed : List (List ℕ) → IndexMap (Vec ℕ A) (Vec ℕ B) S → List ℕ → List (List ℕ)
  listed words lists key = map (λ number. text_at words number) (numbers_at lists key)

-- the texts that a table of lists has for a key
abbrev pub texts_at : {A B S : Type 0} → IndexMap (Vec ℕ A) (Vec (List ℕ) B) S → List ℕ → List (List ℕ)
texts_at lists key = option_map_or (λ texts. texts.items) (at_text lists key) []

-- two texts have the same bytes
abbrev pub same_text : List ℕ → List ℕ → Bool
same_text = pointwise nat_eq

-- the stem of a word that has a subscript; None for each other word
abbrev pub other_stem : List ℕ → Option (List ℕ)
other_stem word = if same_text (stem_of word) word then None else Some (stem_of word)

-- the key by which a word is listed, if it is: its stem where it has a subscript, or its first part where it is a compound
abbrev pub key_of : By → List ℕ → Option (List ℕ)
key_of Stem word = other_stem word
key_of First word = compound_first word

abbrev pub is_at : Option (List ℕ) → List ℕ → Bool
is_at None text = false
is_at (Some key) text = same_text text key

-- the word is listed at this key
unfoldable pub is_under : By → List ℕ → List ℕ → Bool
is_under by key word = is_at (key_of by word) key

-- the table has for each key those of these words that are listed at it
abbrev pub Lists : {A B S : Type 0} → By → List (List ℕ) → IndexMap (Vec ℕ A) (Vec ℕ B) S → Type 0
Lists by words lists = (key : List ℕ) → listed words lists key ≡ filter (λ word. is_under by key word) words

-- the table has for each key words that are listed at it, among them each of these words
pub record AreListed {A B S : Type 0} (by : By) (IsOne : List ℕ → Type 0) (lists : IndexMap (Vec ℕ A) (Vec (List ℕ) B) S) : Type 0 where
  pub only : (key word : List ℕ) → Contains (texts_at lists key) word → is_under by key word ≡ true
  pub all : (key word : List ℕ) → IsOne word → is_under by key word ≡ true → Contains (texts_at lists key) word

-- the tree of the formula at this number
abbrev pub tree_at : List Expr → ℕ → Tree
tree_at formulas number = option_map_or tree_of (slice_get formulas number) empty

abbrev pub with_trees : List Expr → List (List ℕ × ℕ) → List (List ℕ × Tree)
with_trees formulas entries = map (λ e. (e.0, tree_at formulas e.1)) entries

abbrev pub macro_at : List Expr → Macro → Tree × ℕ
macro_at formulas m = (tree_at formulas m.formula, m.level)

abbrev pub with_macros : List Expr → List (List ℕ × Macro) → List (List ℕ × (Tree × ℕ))
with_macros formulas entries = map (λ e. (e.0, macro_at formulas e.1)) entries

-- a macro's formula is there, and keeps to its level
pub record IsMacro (formulas : List Expr) (m : Macro) : Type 0 where
  pub within : m.formula < length formulas
  pub fits : Fits m.level (tree_at formulas m.formula)
