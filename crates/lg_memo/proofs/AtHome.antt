-- The shards of a memo that is closed.
use Rattle.std.proofs.Common.{◌≡◌, ℕ, zero, suc, ◌+◌, ◌<◌, true, List, [], ◌∷◌, length, map, get_or, refl, ap, sym, ◌∙◌, subst, arith}
use Rattle.std.proofs.lemmas.List.{length-map}
use Rattle.std.specs.Prelude.{None, Some, IsSomeAnd, is_some}
use Rattle.std.specs.List.{range_with_len}
use mathlib.Core.Option.{some, some-injective, some-ne-none}
use lib.ListN.{get_elem?}
use Rattle.lg_memo.specs.declared.view.Count.{Count}
use Rattle.lg_memo.specs.Views.{NoFewer}
use Rattle.lg_memo.proofs.Keeping.{Maybe}

pub element_is : {X : Type 0} (xs : List X) (k : ℕ) (x d : X) → get_elem? xs k ≡ some x → get_or xs k d ≡ x
element_is [] k x d e = absurd (some-ne-none x (sym e))
element_is (y ∷ ys) zero x d e = some-injective y x e
element_is (y ∷ ys) (suc k) x d e = element_is ys k x d e

pub some_is : {X : Type 0} (Q : X → Type 0) (x : Maybe X) → IsSomeAnd x Q → is_some x ≡ true
some_is Q None is = absurd is
some_is Q (Some s) is = refl

element_of_somes : {X : Type 0} (xs : List X) (k : ℕ) (d : X) → k < length xs → get_elem? (map (λ (x : X). Some x) xs) k ≡ some (Some (get_or xs k d))
element_of_somes [] k d less = absurd (omega arith)
element_of_somes (x ∷ xs) zero d less = refl
element_of_somes (x ∷ xs) (suc k) d less = element_of_somes xs k d (omega arith)

-- what holds of each content holds of each shard
pub each_shard : {X : Type 0} (Q : ℕ → ℕ → X → Type 0) (known : List Count) (count : ℕ) (contents : List (Maybe X)) (shards : List X) → map (λ (x : X). Some x) shards ≡ contents → length contents ≡ count
    → ((k : ℕ) → k < count → (content : Maybe X) × (n : ℕ) × (get_elem? contents k ≡ some content) × IsSomeAnd content (λ s. Q k n s) × NoFewer known k n)
    → (k : ℕ) (d : X) → k < length shards → (n : ℕ) × Q k n (get_or shards k d) × NoFewer known k n
each_shard {X} Q known count contents shards are size all k d less =
    let long : length shards ≡ length contents = sym (length-map shards (λ (x : X). Some x)) ∙ ap (λ l. length l) are in
    let t = all k (omega arith) in
    let same : t.0 ≡ Some (get_or shards k d) = some-injective t.0 (Some (get_or shards k d)) (sym t.2 ∙ ap (λ l. get_elem? l k) (sym are) ∙ element_of_somes shards k d less) in
    (t.1, subst (λ o. IsSomeAnd o (λ s. Q k t.1 s)) same t.3, t.4)

-- numbers that rise by one
pub numbers_rise : {X : Type 0} (f : X → ℕ) (xs : List X) (from : ℕ) → ((k : ℕ) (d : X) → k < length xs → f (get_or xs k d) ≡ from + k) → map f xs ≡ range_with_len from (length xs)
numbers_rise f [] from each = refl
numbers_rise f (x ∷ xs) from each =
    let here : f x ≡ from = each 0 x (omega arith) ∙ omega arith in
    let rest' = numbers_rise f xs (from + 1) (λ k d less. each (suc k) d (omega arith) ∙ omega arith) in
    λ i. here i ∷ rest' i
