-- What is so of the links of a part, from one end to the other.
use Rattle.std.specs.Prelude.{◌≡◌, ℕ, ◌<◌, ◌≤◌, List, Some, slice_get}
use Rattle.lg_gram.specs.Connectors.{Connector}
use Rattle.lg_gram.specs.Rules.{Joins, Serves}
use Rattle.lg_gram.specs.Walks.{Walk}
use Rattle.lg_gram.specs.declared.linkage.Link.{Link}
use Rattle.lg_region.specs.Parts.{EdgeWith}

-- all rules between L and R, where connectivity has an edge from L to R
pub record Fits (L R : ℕ) (rights lefts : ℕ → List Connector) (Linked : ℕ → Type 0) (Has : Link → Type 0) : Type 0 where
  pub within : (l : Link) → Has l → (L ≤ l.left) × (l.left < l.right) × (l.right ≤ R)
  pub matched : (l : Link) → Has l → Joins rights lefts l
  pub served_right : (i p : ℕ) (c : Connector) → L ≤ i → i < R → slice_get (rights i) p ≡ Some c → Serves Has (λ l. l.left) (λ l. l.lplace) i p c
  pub served_left : (j q : ℕ) (c : Connector) → L < j → j ≤ R → slice_get (lefts j) q ≡ Some c → Serves Has (λ l. l.right) (λ l. l.rplace) j q c
  pub planar : (k l : Link) → Has k → Has l → k.left < l.left → l.left < k.right → k.right < l.right → ⊥
  pub ordered_right : (k l : Link) → Has k → Has l → k.left ≡ l.left → k.lplace < l.lplace → k.right < l.right
  pub ordered_left : (k l : Link) → Has k → Has l → k.right ≡ l.right → k.rplace < l.rplace → l.left < k.left
  pub exclusive : (k l : Link) → Has k → Has l → k.left ≡ l.left → k.right ≡ l.right → k ≡ l
  pub connected : (i : ℕ) → L ≤ i → i ≤ R → Linked i → Walk (EdgeWith L R Has) L i
