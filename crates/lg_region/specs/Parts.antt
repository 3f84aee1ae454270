-- Parts of a sentence: the positions strictly between two ends, what stands there, and which linkages lie there.
use Rattle.std.specs.Prelude.{◌≡◌, ℕ, zero, suc, ◌+◌, ◌-◌, ◌<◌, ◌==◌, ◌&&◌, nat_lt, nat_le, Bool, cond, not, List, [], ◌∷◌, take, Option, None, Some, slice_index_or, ◌⊎◌}
use Rattle.std.specs.List.{Contains, filter}
use Rattle.lg_gram.specs.Connectors.{Connector}
use Rattle.lg_gram.specs.Linkages.{Linkage, unlinked}
use Rattle.lg_gram.specs.Rules.{Rules, Good, IsConnected, Belongs, chosen_at, left_list, right_list, HasLink, IsLinked}
use Rattle.lg_gram.specs.Walks.{LinkFrom}
use Rattle.lg_gram.specs.declared.disjunct.Disjunct.{Disjunct}
use Rattle.lg_gram.specs.declared.linkage.Link.{Link}

-- The positions strictly between two ends. The left end has `llist` to its right, the right end `rlist` to its left, from near
-- to far, and `nulls` positions between them are unlinked.
pub record Region : Type 0 where
  pub left : ℕ
  pub right : ℕ
  pub llist : List Connector
  pub rlist : List Connector
  pub nulls : ℕ

-- the function f, but xs at i
abbrev pub but_at : ℕ → List Connector → (ℕ → List Connector) → ℕ → List Connector
but_at i xs f j = cond (j == i) xs (f j)

-- what stands to the right of each position of a part in a region, and to the left
abbrev pub rights_in : Region → Linkage → ℕ → List Connector
rights_in k g = but_at k.left k.llist (λ i. right_list (chosen_at g i))

abbrev pub lefts_in : Region → Linkage → ℕ → List Connector
lefts_in k g = but_at k.right k.rlist (λ i. left_list (chosen_at g i))

abbrev pub null_at : Option Disjunct → ℕ
null_at None = 1
null_at (Some d) = 0

-- how many of the n positions from s on are unlinked
abbrev pub nulls_from : Linkage → ℕ → ℕ → ℕ
nulls_from g s zero = 0
nulls_from g s (suc n) = null_at (chosen_at g s) + nulls_from g (suc s) n

-- a linkage of the problem, of whole length, that uses positions strictly between L and R alone
pub record IsPart (positions : List (List Disjunct)) (L R : ℕ) (g : Linkage) : Type 0 where
  pub belongs : Belongs positions g
  pub inside : (i : ℕ) → IsLinked g i → (L < i) × (i < R)

-- a link of the set joins a and b, or they are the two ends
abbrev pub EdgeWith : ℕ → ℕ → (Link → Type 0) → ℕ → ℕ → Type 0
EdgeWith L R Has a b = LinkFrom Has a b ⊎ ((a ≡ L) × (b ≡ R))

-- linked, or an end
abbrev pub IsCounted : ℕ → ℕ → Linkage → ℕ → Type 0
IsCounted L R g i = IsLinked g i ⊎ ((i ≡ L) ⊎ (i ≡ R))

-- A linkage lies under a region: it uses positions inside, keeps all rules with the lists of the two ends, has no link from end to
-- end, hangs together where the ends count as joined, and leaves as many positions unlinked as the region says.
pub record Under (positions : List (List Disjunct)) (k : Region) (g : Linkage) : Type 0 where
  pub part : IsPart positions k.left k.right g
  pub rules : Rules (rights_in k g) (lefts_in k g) (HasLink g)
  pub apart : (l : Link) → HasLink g l → l.left ≡ k.left → l.right ≡ k.right → ⊥
  pub connected : IsConnected (IsCounted k.left k.right g) (EdgeWith k.left k.right (HasLink g))
  pub nulls : nulls_from g (suc k.left) (k.right - suc k.left) ≡ k.nulls

-- it lies under the whole sentence with so many unlinked positions: it is a good linkage that has so many
pub record UnderWhole (positions : List (List Disjunct)) (nulls : ℕ) (g : Linkage) : Type 0 where
  pub good : Good positions g
  pub count : unlinked g ≡ nulls

-- the choice for the positions strictly between L and R, and none elsewhere; os is the choice from position s on
abbrev pub choice_within : ℕ → ℕ → ℕ → List (Option Disjunct) → List (Option Disjunct)
choice_within s L R [] = []
choice_within s L R (o ∷ os) = cond (nat_lt L s && nat_lt s R) o None ∷ choice_within (suc s) L R os

-- whether a link lies between L and R, and does not join these two
abbrev pub is_within : ℕ → ℕ → Link → Bool
is_within L R l = nat_le L l.left && (nat_le l.right R && not ((l.left == L) && (l.right == R)))

-- the part of a linkage between L and R
abbrev pub part_of : ℕ → ℕ → Linkage → Linkage
part_of L R g = record { chosen = choice_within 0 L R g.chosen; links = filter (is_within L R) g.links }

-- the empty list, or a front part of a side of a disjunct of the problem
abbrev pub IsKnown : List (List Disjunct) → List Connector → Type 0
IsKnown positions cs =
    (cs ≡ []) ⊎ ((i : ℕ) × (d : Disjunct) × (m : ℕ) × Contains (slice_index_or positions i []) d × ((cs ≡ take m d.left) ⊎ (cs ≡ take m d.right)))
