-- The order of linkages follows that of their parts.
use Rattle.std.specs.Prelude.{◌≡◌, ℕ, List, length, Option, None, ◌⊎◌}
use Rattle.std.specs.List.Sorted.{IsStrictlySortedBy}
use Rattle.std.specs.declared.cmp.Ordering.TheVariants.{Less}
use Rattle.lg_gram.specs.Linkages.{Linkage, link_cmp, linkage_cmp}
use Rattle.lg_gram.specs.Rules.{chosen_at, HasLink, IsExclusive}
use Rattle.lg_gram.specs.declared.disjunct.Disjunct.{Disjunct}
use Rattle.lg_gram.specs.declared.linkage.Link.{Link}
use Rattle.lg_region.specs.Cuts.{Split, IsCut, Spells}
use Rattle.lg_region.specs.Parts.{Region, part_of}
use Rattle.lg_region.specs.Whole.{First, IsFirst, SpellsFirst}

-- the links are a set, and no two of them join the same positions
pub record IsTidy (g : Linkage) : Type 0 where
  pub set : IsStrictlySortedBy link_cmp g.links
  pub exclusive : IsExclusive (HasLink g)

-- one of the two is none, and x is the other
abbrev pub IsEitherOf : Option Disjunct → Option Disjunct → Option Disjunct → Type 0
IsEitherOf a b x = ((a ≡ None) × (x ≡ b)) ⊎ ((b ≡ None) × (x ≡ a))

-- g is a and b together: at each position one of them chooses nothing, and no pair of positions has a link in both
pub record IsJoin (a b g : Linkage) : Type 0 where
  pub first_length : length a.chosen ≡ length g.chosen
  pub second_length : length b.chosen ≡ length g.chosen
  pub chosen : (i : ℕ) → IsEitherOf (chosen_at a i) (chosen_at b i) (chosen_at g i)
  pub out : (l : Link) → HasLink g l → HasLink a l ⊎ HasLink b l
  pub in_first : (l : Link) → HasLink a l → HasLink g l
  pub in_second : (l : Link) → HasLink b l → HasLink g l
  pub apart : (k l : Link) → HasLink a k → HasLink b l → k.left ≡ l.left → k.right ≡ l.right → ⊥

-- with the other part as it is, an earlier part makes an earlier whole
abbrev pub JoinsGrow : Type 0
JoinsGrow = (a c b g h : Linkage) → IsTidy a → IsTidy c → IsTidy b → IsTidy g → IsTidy h → IsJoin a b g → IsJoin c b h → linkage_cmp a c ≡ Less → linkage_cmp g h ≡ Less

-- Of two linkages that one cut spells with the same part on one side, the one whose other part is earlier is earlier. So it is of
-- two that one first word spells.
pub record CutsKeepOrder : Type 0 where
  pub left : (positions : List (List Disjunct)) (k : Region) (c : Split) (g h : Linkage) → IsCut positions k c → Spells positions k c g → Spells positions k c h
      → part_of c.word k.right g ≡ part_of c.word k.right h → linkage_cmp (part_of k.left c.word g) (part_of k.left c.word h) ≡ Less → linkage_cmp g h ≡ Less
  pub right : (positions : List (List Disjunct)) (k : Region) (c : Split) (g h : Linkage) → IsCut positions k c → Spells positions k c g → Spells positions k c h
      → part_of k.left c.word g ≡ part_of k.left c.word h → linkage_cmp (part_of c.word k.right g) (part_of c.word k.right h) ≡ Less → linkage_cmp g h ≡ Less
  pub first : (positions : List (List Disjunct)) (nulls : ℕ) (c : First) (g h : Linkage) → IsFirst positions nulls c → SpellsFirst positions c g → SpellsFirst positions c h
      → linkage_cmp (part_of c.word (length positions) g) (part_of c.word (length positions) h) ≡ Less → linkage_cmp g h ≡ Less
