-- The least numbers at which something holds.
use Rattle.std.specs.Prelude.{◌≡◌, ℕ, ◌<◌, Bool, true, false}

-- it holds here, and at no smaller number
pub record IsLeast (P : ℕ → Type 0) (n : ℕ) : Type 0 where
  pub here : P n
  pub earlier : (k : ℕ) → k < n → P k → ⊥

-- it holds at this pair, at no pair with a smaller first number, and at none with this first number and a smaller second
pub record IsLeastPair (P : ℕ → ℕ → Type 0) (m n : ℕ) : Type 0 where
  pub here : P m n
  pub first : (a b : ℕ) → a < m → P a b → ⊥
  pub second : (b : ℕ) → b < n → P m b → ⊥

-- it holds at this side and place, not on the left where this side is the right, and at no earlier place of this side
pub record IsLeastOfSides (P : Bool → ℕ → Type 0) (right : Bool) (p : ℕ) : Type 0 where
  pub here : P right p
  pub left : right ≡ true → (q : ℕ) → P false q → ⊥
  pub places : (q : ℕ) → q < p → P right q → ⊥

-- it holds here, at no earlier position, and at this position nowhere before on its sides
pub record IsLeastPlace (P : ℕ → Bool → ℕ → Type 0) (i : ℕ) (right : Bool) (p : ℕ) : Type 0 where
  pub here : IsLeastOfSides (P i) right p
  pub positions : (k : ℕ) → k < i → (s : Bool) (q : ℕ) → P k s q → ⊥
