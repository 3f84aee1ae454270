-- What each step of the slow lister adds to the list. Contracts of private steps alone cite this.
use Rattle.std.specs.Prelude.{◌≡◌, ◌↔◌, ℕ, ◌<◌, ◌≤◌, ◌-◌, List, [], ◌∷◌, ◌++◌, Option, Some, None, IfSome, is_none, ◌⊎◌}
use Rattle.std.specs.List.{AllZip, Contains, count_by}
use Rattle.std.specs.List.Sorted.{IsStrictlySortedBy}
use Rattle.lg_gram.specs.Linkages.{Linkage, link_cmp, unlinked}
use Rattle.lg_gram.specs.Rules.{Good}
use Rattle.lg_gram.specs.declared.disjunct.Disjunct.{Disjunct}
use Rattle.lg_gram.specs.declared.linkage.Link.{Link}
use Rattle.lg_rules.specs.Verdicts.{IsSound}

-- new has the elements of old and those of which Q holds, and no others
unfoldable pub Adds : (Linkage → Type 0) → List Linkage → List Linkage → Type 0
Adds Q old new = (g : Linkage) → Contains new g ↔ (Contains old g ⊎ Q g)

-- xs has some of the links of ys, in their order
unfoldable pub IsSublist : List Link → List Link → Type 0
IsSublist xs [] = xs ≡ []
IsSublist xs (y ∷ ys) = IsSublist xs ys ⊎ ((zs : List Link) × (xs ≡ y ∷ zs) × IsSublist zs ys)

-- a sound linkage with this choice, and with the links that are taken and some of the rest
unfoldable pub IsCompletion : List (Option Disjunct) → List Link → List Link → Linkage → Type 0
IsCompletion chosen taken rest g = (g.chosen ≡ chosen) × ((more : List Link) × IsSublist more rest × (g.links ≡ taken ++ more)) × IsSound g

-- a sound linkage with this choice
pub record IsSoundWith (chosen : List (Option Disjunct)) (g : Linkage) : Type 0 where
  pub same : g.chosen ≡ chosen
  pub rise : IsStrictlySortedBy link_cmp g.links
  pub sound : IsSound g

-- one of the row, or none
abbrev pub IsPick : List Disjunct → Option Disjunct → Type 0
IsPick row o = IfSome o (Contains row)

-- a sound linkage that goes on from the choice so far by picks from these rows, at most `spare` of them none
unfoldable pub GoesOn : List (Option Disjunct) → List (List Disjunct) → ℕ → Linkage → Type 0
GoesOn chosen rows spare g = (more : List (Option Disjunct)) × AllZip IsPick rows more × (count_by is_none more ≤ spare) × IsSoundWith (chosen ++ more) g

-- the same, with the next position unlinked, or with one of these disjuncts there
unfoldable pub GoesOnWithNone : List (Option Disjunct) → List (List Disjunct) → ℕ → Linkage → Type 0
GoesOnWithNone chosen rows spare g = (0 < spare) × GoesOn (chosen ++ None ∷ []) rows (spare - 1) g

unfoldable pub GoesOnWithOne : List Disjunct → List (Option Disjunct) → List (List Disjunct) → ℕ → Linkage → Type 0
GoesOnWithOne row chosen rows spare g = (d : Disjunct) × Contains row d × GoesOn (chosen ++ Some d ∷ []) rows spare g

-- exactly the good linkages with at most so many unlinked positions
abbrev pub AreGoodWithin : List (List Disjunct) → ℕ → List Linkage → Type 0
AreGoodWithin positions spare all = (g : Linkage) → Contains all g ↔ (Good positions g × (unlinked g ≤ spare))
