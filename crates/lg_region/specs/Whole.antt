-- The alternatives of the whole sentence: nothing is linked, or there is a first linked word.
use Rattle.std.specs.Prelude.{◌≡◌, ℕ, suc, ◌-◌, ◌<◌, ◌≤◌, List, [], length, Some, slice_index_or}
use Rattle.std.specs.List.{Contains}
use Rattle.lg_gram.specs.Linkages.{Linkage}
use Rattle.lg_gram.specs.Rules.{Belongs, HasLink, IsLinked, chosen_at}
use Rattle.lg_gram.specs.declared.disjunct.Disjunct.{Disjunct}
use Rattle.lg_gram.specs.declared.linkage.Link.{Link}
use Rattle.lg_region.specs.Parts.{Region, Under, part_of}
use Rattle.lg_region.specs.Cuts.{IsEmpty}

-- the first linked word with its disjunct, and the region from it to the end of the sentence
pub record First : Type 0 where
  pub word : ℕ
  pub disjunct : Disjunct
  pub rkey : Region

pub data WholeAlternative : Type 0 where
  nothing : WholeAlternative
  first : First → WholeAlternative

-- the words before it are unlinked, and it has no connector to the left
pub record IsFirst (positions : List (List Disjunct)) (nulls : ℕ) (c : First) : Type 0 where
  pub before : c.word < length positions
  pub enough : c.word ≤ nulls
  pub listed : Contains (slice_index_or positions c.word []) c.disjunct
  pub left : c.disjunct.left ≡ []
  pub rkey : c.rkey ≡ record { left = c.word; right = length positions; llist = c.disjunct.right; rlist = []; nulls = nulls - c.word }
  pub few : nulls - c.word ≤ length positions - suc c.word

-- the alternatives of the sentence with so many unlinked positions
abbrev pub IsWholeAlternative : List (List Disjunct) → ℕ → WholeAlternative → Type 0
IsWholeAlternative positions nulls nothing = nulls ≡ length positions
IsWholeAlternative positions nulls (first c) = IsFirst positions nulls c

pub record SpellsFirst (positions : List (List Disjunct)) (c : First) (g : Linkage) : Type 0 where
  pub belongs : Belongs positions g
  pub chosen : chosen_at g c.word ≡ Some c.disjunct
  pub before : (i : ℕ) → i < c.word → IsLinked g i → ⊥
  pub right : Under positions c.rkey (part_of c.word (length positions) g)
  pub rest : (l : Link) → HasLink g l → HasLink (part_of c.word (length positions) g) l

abbrev pub WholeSpelledBy : List (List Disjunct) → WholeAlternative → Linkage → Type 0
WholeSpelledBy positions nothing g = Belongs positions g × IsEmpty g
WholeSpelledBy positions (first c) g = SpellsFirst positions c g
