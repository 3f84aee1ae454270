-- Each linkage is cut in one way, and a number stands for one list.
use Rattle.std.specs.Prelude.{◌≡◌, ◌↔◌, ℕ, ◌<◌, ◌≤◌, List, length, Some, ◌⊎◌}
use Rattle.lg_gram.specs.Connectors.{Connector}
use Rattle.lg_gram.specs.Linkages.{Linkage}
use Rattle.lg_gram.specs.Problems.{IsProblem}
use Rattle.lg_gram.specs.declared.disjunct.Disjunct.{Disjunct}
use Rattle.lg_region.specs.Parts.{Region, Under, UnderWhole, part_of}
use Rattle.lg_region.specs.Cuts.{Alternative, all_null, split, Split, IsAlternative, IsCut, Spells, SpelledBy, IsValid}
use Rattle.lg_region.specs.Whole.{First, IsFirst, SpellsFirst, WholeAlternative, nothing, first, IsWholeAlternative, WholeSpelledBy}
use Rattle.lg_region.specs.Fronts.{AreListsOf, list_of}
use Rattle.lg_region.specs.Keys.{IsKeyOf, IsValidKey, IsAltOf}
use Rattle.lg_region.specs.Small.{IsSmall}
use Rattle.lg_region.specs.declared.key.Key.{Key}
use Rattle.lg_region.specs.declared.alternative.Alt.{Alt}
use Rattle.lg_region.specs.declared.alternative.Alt.TheVariants.{AllNull, Split as At}

-- every linkage under a region is spelled by exactly one of its alternatives, and an alternative spells only linkages under it
pub record RegionsAreCutOnce : Type 0 where
  pub some : (positions : List (List Disjunct)) (k : Region) (g : Linkage) → k.left < k.right → Under positions k g → (a : Alternative) × IsAlternative positions k a × SpelledBy positions k a g
  pub one : (positions : List (List Disjunct)) (k : Region) (g : Linkage) (a b : Alternative) → IsAlternative positions k a → SpelledBy positions k a g → IsAlternative positions k b → SpelledBy positions k b g → a ≡ b
  pub sound : (positions : List (List Disjunct)) (k : Region) (g : Linkage) → k.left < k.right → (a : Alternative) → IsAlternative positions k a → SpelledBy positions k a g → Under positions k g

-- the same of the whole sentence, for each number of unlinked positions
pub record SentencesAreCutOnce : Type 0 where
  pub some : (positions : List (List Disjunct)) (nulls : ℕ) (g : Linkage) → UnderWhole positions nulls g → (a : WholeAlternative) × IsWholeAlternative positions nulls a × WholeSpelledBy positions a g
  pub one : (positions : List (List Disjunct)) (nulls : ℕ) (g : Linkage) (a b : WholeAlternative) → IsWholeAlternative positions nulls a → WholeSpelledBy positions a g → IsWholeAlternative positions nulls b → WholeSpelledBy positions b g → a ≡ b
  pub sound : (positions : List (List Disjunct)) (nulls : ℕ) (g : Linkage) (a : WholeAlternative) → IsWholeAlternative positions nulls a → WholeSpelledBy positions a g → UnderWhole positions nulls g

-- the regions of a cut may be asked for where its own region may, and so may that of a first word
pub record CutsAreValid : Type 0 where
  pub split : (positions : List (List Disjunct)) (k : Region) (c : Split) → IsValid positions k → IsCut positions k c → IsValid positions c.lkey × IsValid positions c.rkey
  pub first : (positions : List (List Disjunct)) (nulls : ℕ) (c : First) → IsFirst positions nulls c → IsValid positions c.rkey

-- some linkage lies under a region
abbrev pub HasLinkage : List (List Disjunct) → Region → Type 0
HasLinkage positions k = (g : Linkage) × Under positions k g

-- and under the regions of an alternative
abbrev pub KeysHave : List (List Disjunct) → Alternative → Type 0
KeysHave positions all_null = Unit {0}
KeysHave positions (split c) = HasLinkage positions c.lkey × HasLinkage positions c.rkey

-- some linkage lies under a region exactly where some lies under each region of one of its alternatives
abbrev pub AlternativesDecide : Type 0
AlternativesDecide =
    (positions : List (List Disjunct)) (k : Region) → IsValid positions k → HasLinkage positions k ↔ ((a : Alternative) × IsAlternative positions k a × KeysHave positions a)

-- and under the region of a first word
abbrev pub WholeKeyHas : List (List Disjunct) → WholeAlternative → Type 0
WholeKeyHas positions nothing = Unit {0}
WholeKeyHas positions (first c) = HasLinkage positions c.rkey

-- the same of the whole sentence
abbrev pub WholeAlternativesDecide : Type 0
WholeAlternativesDecide =
    (positions : List (List Disjunct)) (nulls : ℕ) → ((g : Linkage) × UnderWhole positions nulls g) ↔ ((a : WholeAlternative) × IsWholeAlternative positions nulls a × WholeKeyHas positions a)

-- Linkages under the two regions of a cut are the parts of one linkage that it spells, and of no other. The same of a first word.
pub record PartsMakeLinkages : Type 0 where
  pub some : (positions : List (List Disjunct)) (k : Region) (c : Split) (ga gb : Linkage) → IsValid positions k → IsCut positions k c → Under positions c.lkey ga → Under positions c.rkey gb → (g : Linkage) × Spells positions k c g × (part_of k.left c.word g ≡ ga) × (part_of c.word k.right g ≡ gb)
  pub one : (positions : List (List Disjunct)) (k : Region) (c : Split) (g h : Linkage) → IsCut positions k c → Spells positions k c g → Spells positions k c h → part_of k.left c.word g ≡ part_of k.left c.word h → part_of c.word k.right g ≡ part_of c.word k.right h → g ≡ h
  pub some_first : (positions : List (List Disjunct)) (nulls : ℕ) (c : First) (gb : Linkage) → IsFirst positions nulls c → Under positions c.rkey gb → (g : Linkage) × SpellsFirst positions c g × (part_of c.word (length positions) g ≡ gb)
  pub one_first : (positions : List (List Disjunct)) (c : First) (g h : Linkage) → SpellsFirst positions c g → SpellsFirst positions c h → part_of c.word (length positions) g ≡ part_of c.word (length positions) h → g ≡ h

-- a key of an alternative
abbrev pub HasKey : Alt → Key → Type 0
HasKey AllNull key = ⊥
HasKey (At word number to_left to_right lkey rkey) key = (lkey ≡ Some key) ⊎ (rkey ≡ Some key)

-- Numbers with the same list are one, and so are keys of one region. Each region that may be asked for has a key, which may be asked
-- for, and so may the keys of its alternatives.
pub record NumbersTellListsApart (positions : List (List Disjunct)) (lists : List (List Connector)) : Type 0 where
  pub lists_apart : (m n : ℕ) → m ≤ length lists → n ≤ length lists → list_of lists m ≡ list_of lists n → m ≡ n
  pub keys_apart : (a b : Key) (k : Region) → IsKeyOf lists a k → IsKeyOf lists b k → a ≡ b
  pub some_key : (k : Region) → IsValid positions k → (key : Key) × IsKeyOf lists key k
  pub valid_key : (key : Key) (k : Region) → IsKeyOf lists key k → IsValid positions k → IsValidKey positions lists key
  pub valid_below : (key : Key) (a : Alt) (below : Key) → IsValidKey positions lists key → IsAltOf positions lists key a → HasKey a below → IsValidKey positions lists below

-- the words, places and numbers of unlinked words of an alternative are below 256
abbrev pub AlternativesAreSmall : Type 0
AlternativesAreSmall =
    (positions : List (List Disjunct)) (lists : List (List Connector)) (key : Key) (a : Alt) → IsProblem positions → AreListsOf positions lists → IsValidKey positions lists key → IsAltOf positions lists key a → IsSmall a
