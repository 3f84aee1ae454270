-- Connectors with the numbers of their positions.
use Rattle.std.proofs.Common.{◌≡◌, ℕ, zero, suc, ◌+◌, inl, inr, ap, subst, List, [], ◌∷◌, ◌++◌, map, get_or, Contains, arith}
use Rattle.std.proofs.lemmas.List.Elements.{Contains-append_left, Contains-append_right, Contains-append_cases}
use Rattle.lg_gram.specs.Connectors.{Connector}
use Rattle.lg_base.proofs.Elements.{contains_none, map_in, map_out}

-- the connectors of each element, from the number n on
abbrev pub numbered : {X : Type 0} → (X → List Connector) → ℕ → List X → List (ℕ × Connector)
numbered f n [] = []
numbered f n (x ∷ xs) = map (λ (c : Connector). (n, c)) (f x) ++ numbered f (suc n) xs

abbrev at_number : ℕ → Connector → ℕ × Connector
at_number n c = (n, c)

pub numbered_in : {X : Type 0} (f : X → List Connector) (d : X) → f d ≡ [] → (n : ℕ) (xs : List X) (k : ℕ) (c : Connector) → Contains (f (get_or xs k d)) c → Contains (numbered f n xs) (n + k, c)
numbered_in f d none n [] k c m = absurd (contains_none c (subst (λ cs. Contains cs c) none m))
numbered_in {X} f d none n (x ∷ xs) zero c m =
    let same : n ≡ n + zero = omega arith in
    subst (λ j. Contains (numbered f n (x ∷ xs)) (j, c)) same (Contains-append_left (map (at_number n) (f x)) (numbered f (suc n) xs) (n, c) (map_in (at_number n) (f x) c m))
numbered_in {X} f d none n (x ∷ xs) (suc k) c m =
    let same : suc n + k ≡ n + suc k = omega arith in
    subst (λ j. Contains (numbered f n (x ∷ xs)) (j, c)) same
    (Contains-append_right (map (at_number n) (f x)) (numbered f (suc n) xs) (suc n + k, c) (numbered_in f d none (suc n) xs k c m))

pub numbered_out : {X : Type 0} (f : X → List Connector) (d : X) (n : ℕ) (xs : List X) (m : ℕ × Connector) → Contains (numbered f n xs) m → (k : ℕ) × (m.0 ≡ n + k) × Contains (f (get_or xs k d)) m.1
numbered_out f d n [] m h = absurd (contains_none m h)
numbered_out f d n (x ∷ xs) m h =
    elim (Contains-append_cases (map (at_number n) (f x)) (numbered f (suc n) xs) m h) [
      | inl here ↦ (
          let (c, is, same) = map_out (at_number n) (f x) m here in
          let number : n ≡ m.0 = ap (λ p. p.0) same in
          (zero, omega arith, subst (λ e. Contains (f x) e) (ap (λ p. p.1) same) is))
      | inr later ↦ (
          let (k, is, has) = numbered_out f d (suc n) xs m later in
          (suc k, omega arith, has))
    ]

-- from 0 on
pub number_in : {X : Type 0} (f : X → List Connector) (d : X) → f d ≡ [] → (xs : List X) (k : ℕ) (c : Connector) → Contains (f (get_or xs k d)) c → Contains (numbered f 0 xs) (k, c)
number_in f d none xs k c m = let same : 0 + k ≡ k = omega arith in subst (λ j. Contains (numbered f 0 xs) (j, c)) same (numbered_in f d none 0 xs k c m)
