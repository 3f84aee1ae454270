-- What contracts see of a dictionary: two finite maps.
use Rattle.std.specs.Prelude.{◌≡◌, ◌⊎◌, ◌↔◌, ◌≤◌, ℕ, List, [], ◌∷◌, length, map, Contains, Some, IsSome}
use Rattle.std.specs.List.{flat_map}
use Rattle.std.specs.List.Sorted.{IsStrictlySortedBy}
use Rattle.std.specs.Ordering.{nat_cmp}
use Rattle.std.specs.Cmp.Lexicographic.{slice_cmp}
use Rattle.std.specs.FinMap.{FinMap, get, insert, from_entries}
use Rattle.lg_gram.specs.Filled.{Formulas}
use Rattle.lg_gram.specs.Trees.{Tree, tree_of}
use Rattle.lg_gram.specs.declared.entry.Entry.{Entry}
pub use Rattle.lg_gram.specs.Entries.{words_in, macros_in, AreEntries}
use Rattle.lg_dict.specs.Compounds.{compound_first}
use Rattle.lg_dict.specs.Subscripts.{stem_of}

-- a finite map from texts, in the order of their bytes
abbrev pub TextMap : Type 0 → Type 0
TextMap V = FinMap (slice_cmp nat_cmp) V

-- the formula of each word, and the formula and the level of each macro; formulas are seen as trees
pub record Dictionary : Type 0 where
  pub words : TextMap Tree
  pub macros : TextMap (Tree × ℕ)

-- what the macros stand for, each with its level
abbrev pub macros_of : Dictionary → Formulas
macros_of dict name = get dict.macros name

-- each of these keys has the value; all other keys stay
abbrev pub insert_all : {V : Type 0} → List (List ℕ) → V → TextMap V → TextMap V
insert_all [] v m = m
insert_all (k ∷ ks) v m = insert_all ks v (insert m k v)

-- each word of the entries with its formula
abbrev pub words_with_formulas : List Entry → List (List ℕ × Tree)
words_with_formulas entries = flat_map (λ e. map (λ word. (word, tree_of e.formula)) e.words) entries

-- each macro of the entries with its formula and its level
abbrev pub macros_with_formulas : List Entry → List (List ℕ × (Tree × ℕ))
macros_with_formulas entries = flat_map (λ e. map (λ name. (name, (tree_of e.formula, e.level))) e.macros) entries

-- the dictionary of the entries: each of their words has its entry's formula, each macro its entry's formula and level, and there is nothing else
abbrev pub dictionary_of : List Entry → Dictionary
dictionary_of entries = record {
  words = from_entries (words_with_formulas entries);
  macros = from_entries (macros_with_formulas entries);
}

-- a word of the dictionary that equals the text or has it as stem
pub record IsWordOf (dict : Dictionary) (text word : List ℕ) : Type 0 where
  pub kept : IsSome (get dict.words word)
  pub fits : (word ≡ text) ⊎ (stem_of word ≡ text)

-- exactly those words, increasing by bytes
pub record AreWordsOf (dict : Dictionary) (text : List ℕ) (words : List (List ℕ)) : Type 0 where
  pub rise : IsStrictlySortedBy (slice_cmp nat_cmp) words
  pub exactly : (word : List ℕ) → Contains words word ↔ IsWordOf dict text word

-- a compound of the dictionary whose first part this is
pub record IsCompoundOf (dict : Dictionary) (first word : List ℕ) : Type 0 where
  pub kept : IsSome (get dict.words word)
  pub begins : compound_first word ≡ Some first

-- exactly those compounds, increasing by bytes
pub record AreCompoundsOf (dict : Dictionary) (first : List ℕ) (words : List (List ℕ)) : Type 0 where
  pub rise : IsStrictlySortedBy (slice_cmp nat_cmp) words
  pub exactly : (word : List ℕ) → Contains words word ↔ IsCompoundOf dict first word

-- exactly the keys of the map, increasing by bytes
pub record AreKeys {V : Type 0} (m : TextMap V) (texts : List (List ℕ)) : Type 0 where
  pub rise : IsStrictlySortedBy (slice_cmp nat_cmp) texts
  pub exactly : (text : List ℕ) → Contains texts text ↔ IsSome (get m text)

-- the length of the longest of some texts: none has more bytes, and one has so many, or it is 0
pub record IsLongest (IsOne : List ℕ → Type 0) (n : ℕ) : Type 0 where
  pub bounds : (text : List ℕ) → IsOne text → length text ≤ n
  pub reached : (n ≡ 0) ⊎ ((text : List ℕ) × IsOne text × (length text ≡ n))

-- the length of the longest word of the dictionary
abbrev pub IsLongestWord : Dictionary → ℕ → Type 0
IsLongestWord dict n = IsLongest (λ word. IsSome (get dict.words word)) n

-- no word of the dictionary has more bytes
abbrev pub NoWordIsLonger : Dictionary → ℕ → Type 0
NoWordIsLonger dict n = (word : List ℕ) → IsSome (get dict.words word) → length word ≤ n
