-- The ways that a linkage's words are linked, as they are noted.
use Rattle.std.specs.Prelude.{◌≡◌, ℕ, ◌+◌, ◌-◌, ◌≤◌, ◌⊎◌, Bool, true, false, List, Some}
use Rattle.lg_gram.specs.Linkages.{Linkage, link_length}
use Rattle.lg_gram.specs.Rules.{HasLink, chosen_at}
use Rattle.lg_gram.specs.declared.disjunct.Disjunct.{Disjunct}
use Rattle.lg_gram.specs.declared.linkage.Link.{Link}
use Rattle.lg_sharpen.specs.Filling.{least_at}
use Rattle.lg_sharpen.specs.Sites.{own}

-- 0, or no more than the length of some link of word w to the right, or to the left
abbrev pub IsMet : Linkage → Bool → ℕ → ℕ → Type 0
IsMet g right w n = (n ≡ 0) ⊎ ((e : Link) × HasLink g e × (own right e ≡ w) × (n ≤ link_length e))

-- a way to link word w is noted that the linkage meets
pub record HasWay (g : Linkage) (rows : List (List ℕ)) (w : ℕ) : Type 0 where
  pub left : ℕ
  pub right : ℕ
  pub noted : (a : ℕ) → a ≤ w - left → least_at rows w a ≤ w + right
  pub left_met : IsMet g false w left
  pub right_met : IsMet g true w right

-- the same of each linked word
abbrev pub KnowsWays : Linkage → List (List ℕ) → Type 0
KnowsWays g rows = (w : ℕ) (d : Disjunct) → chosen_at g w ≡ Some d → HasWay g rows w
