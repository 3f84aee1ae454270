-- Lists in which one element has changed.
use Rattle.std.proofs.Common.{◌≡◌, ◌≢◌, ℕ, zero, suc, ◌<◌, List, [], ◌∷◌, length, set, get_or, map, Some, slice_get, refl, sym, ap, ◌∙◌, arith}

pub set_here : {V : Type 0} (xs : List V) (m : ℕ) (v : V) → m < length xs → slice_get (set xs m v) m ≡ Some v
set_here [] m v less = absurd (omega arith)
set_here (x ∷ xs) zero v less = refl
set_here (x ∷ xs) (suc m) v less = set_here xs m v (omega arith)

pub set_other : {V : Type 0} (xs : List V) (m k : ℕ) (v : V) → k ≢ m → slice_get (set xs m v) k ≡ slice_get xs k
set_other [] m k v other = refl
set_other (x ∷ xs) zero zero v other = absurd (other refl)
set_other (x ∷ xs) zero (suc k) v other = refl
set_other (x ∷ xs) (suc m) zero v other = refl
set_other (x ∷ xs) (suc m) (suc k) v other = set_other xs m k v (λ e. other (ap suc e))

-- a change of one element that a map does not see
pub map_set : {V W : Type 0} (f : V → W) (xs : List V) (m : ℕ) (v x : V) → slice_get xs m ≡ Some x → f v ≡ f x → map f (set xs m v) ≡ map f xs
map_set f [] m v x h e = absurd cc
map_set f (y ∷ xs) zero v x h e = (let g : y ≡ x = cc in λ i. (e ∙ ap f (sym g)) i ∷ map f xs)
map_set f (y ∷ xs) (suc m) v x h e = ap (λ z. f y ∷ z) (map_set f xs m v x h e)

pub map_some : {V W : Type 0} (f : V → W) (xs : List V) (m : ℕ) (x : V) → slice_get xs m ≡ Some x → slice_get (map f xs) m ≡ Some (f x)
map_some f [] m x h = absurd cc
map_some f (y ∷ xs) zero x h = (let g : y ≡ x = cc in ap (λ t. Some (f t)) g)
map_some f (y ∷ xs) (suc m) x h = map_some f xs m x h

pub map_at : {V W : Type 0} (f : V → W) (xs : List V) (m : ℕ) (x : V) (d : W) → slice_get xs m ≡ Some x → get_or (map f xs) m d ≡ f x
map_at f [] m x d h = absurd cc
map_at f (y ∷ xs) zero x d h = (let g : y ≡ x = cc in ap f g)
map_at f (y ∷ xs) (suc m) x d h = map_at f xs m x d h

pub set_long : {V : Type 0} (xs : List V) (m : ℕ) (v : V) → length (set xs m v) ≡ length xs
set_long [] m v = refl
set_long (x ∷ xs) zero v = refl
set_long (x ∷ xs) (suc m) v = ap suc (set_long xs m v)
