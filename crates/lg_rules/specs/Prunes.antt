-- What the slow lister looks at before it goes on: each of these holds where a good linkage can still be found. Contracts of private steps alone cite this.
use Rattle.std.specs.Prelude.{◌≡◌, ℕ, ◌<◌, ◌≤◌, List, length, Option, ◌⊎◌}
use Rattle.std.specs.List.{All, Any}
use Rattle.lg_gram.specs.Connectors.{Connector, Match}
use Rattle.lg_gram.specs.Rules.{right_list}
use Rattle.lg_gram.specs.declared.disjunct.Disjunct.{Disjunct}
use Rattle.lg_gram.specs.declared.linkage.Link.{Link}
use Rattle.lg_rules.specs.Partners.{right_at, left_at}

-- some word of the choice has a connector to its right that matches
unfoldable pub HasPartner : List (Option Disjunct) → Connector → Type 0
HasPartner chosen c = Any (λ o. Any (λ a. Match a c) (right_list o)) chosen

-- The next word, before so many more, can use the disjunct: neither side has more connectors than there are positions on that side, since each joins another one of them, and each connector to its left has a partner.
pub record CanStand (chosen : List (Option Disjunct)) (after : ℕ) (d : Disjunct) : Type 0 where
  pub on_left : length d.left ≤ length chosen
  pub on_right : length d.right ≤ after
  pub partners : All (HasPartner chosen) d.left

-- one of the links stands at this place to the right of this position, or to its left
unfoldable pub HasRight : List Link → ℕ → ℕ → Type 0
HasRight links i p = Any (λ l. (l.left ≡ i) × (l.lplace ≡ p)) links

unfoldable pub HasLeft : List Link → ℕ → ℕ → Type 0
HasLeft links i p = Any (λ l. (l.right ≡ i) × (l.rplace ≡ p)) links

-- each place of the choice has one of the links
pub record AllReached (chosen : List (Option Disjunct)) (links : List Link) : Type 0 where
  pub on_right : (i p : ℕ) → i < length chosen → p < length (right_at chosen i) → HasRight links i p
  pub on_left : (i p : ℕ) → i < length chosen → p < length (left_at chosen i) → HasLeft links i p

-- both places of a link have one that is taken, or one that comes later
pub record IsCovered (taken later : List Link) (l : Link) : Type 0 where
  pub on_right : HasRight taken l.left l.lplace ⊎ HasRight later l.left l.lplace
  pub on_left : HasLeft taken l.right l.rplace ⊎ HasLeft later l.right l.rplace

-- planarity, ordering and exclusion of two links
abbrev pub IsUncrossed : Link → Link → Type 0
IsUncrossed a b = a.left < b.left → b.left < a.right → a.right < b.right → ⊥

abbrev pub IsInOrder : Link → Link → Type 0
IsInOrder a b = (a.left ≡ b.left → a.lplace < b.lplace → a.right < b.right) × (a.right ≡ b.right → a.rplace < b.rplace → b.left < a.left)

abbrev pub IsAlone : Link → Link → Type 0
IsAlone a b = a.left ≡ b.left → a.right ≡ b.right → a ≡ b

-- two links that can stand in one good linkage
pub record AreCompatible (a b : Link) : Type 0 where
  pub uncrossed : IsUncrossed a b
  pub uncrossed_back : IsUncrossed b a
  pub in_order : IsInOrder a b
  pub in_order_back : IsInOrder b a
  pub alone : IsAlone a b
