-- Choices of several expressions, one after another.
use Rattle.std.proofs.Common.{◌≡◌, ℕ, zero, suc, set, drop, ◌<◌, ℤ, pos, ◌+ℤ◌, List, [], ◌∷◌, ◌++◌, map, length, take, get_or, refl, sym, ap, ◌∙◌, arith, append_assoc, append-nil}
use Rattle.std.proofs.lemmas.Int.{ints}
use Rattle.std.proofs.lemmas.List.{map-append}
use Rattle.std.proofs.lemmas.Grind.{flat_map-append}
use Rattle.lg_gram.specs.declared.expr.Expr.{Expr}
use Rattle.lg_gram.specs.Trees.{trees_in, tree_of}
use Rattle.lg_gram.specs.Measures.{Choice, no_connectors, joined, choices_of, picks_of, choices_of_any}
use Rattle.lg_disj.specs.Choices.{products}

zero_cost : (x : ℤ) → pos 0 +ℤ x ≡ x
zero_cost x = omega (arith, ints)

cost_zero : (x : ℤ) → x +ℤ pos 0 ≡ x
cost_zero x = omega (arith, ints)

cost_assoc : (x y z : ℤ) → (x +ℤ y) +ℤ z ≡ x +ℤ (y +ℤ z)
cost_assoc x y z = omega (arith, ints)

joined_none : (c : Choice) → joined no_connectors c ≡ c
joined_none c = λ i. record { left = c.left; right = c.right; cost = zero_cost c.cost i }

none_joined : (c : Choice) → joined c no_connectors ≡ c
none_joined c = λ i. record { left = append-nil c.left i; right = append-nil c.right i; cost = cost_zero c.cost i }

joined_assoc : (a b c : Choice) → joined (joined a b) c ≡ joined a (joined b c)
joined_assoc a b c = λ i. record {
  left = append_assoc a.left b.left c.left i;
  right = append_assoc a.right b.right c.right i;
  cost = cost_assoc a.cost b.cost c.cost i;
}

map_joined_none : (cs : List Choice) → map (joined no_connectors) cs ≡ cs
map_joined_none [] = refl
map_joined_none (c ∷ cs) = λ i. joined_none c i ∷ map_joined_none cs i

map_joined_twice : (a b : Choice) (cs : List Choice) → map (joined (joined a b)) cs ≡ map (joined a) (map (joined b) cs)
map_joined_twice a b [] = refl
map_joined_twice a b (c ∷ cs) = λ i. joined_assoc a b c i ∷ map_joined_twice a b cs i

pub products_none : (cs : List Choice) → products (no_connectors ∷ []) cs ≡ cs
products_none cs = append-nil (map (joined no_connectors) cs) ∙ map_joined_none cs

none_products : (cs : List Choice) → products cs (no_connectors ∷ []) ≡ cs
none_products [] = refl
none_products (c ∷ cs) = λ i. none_joined c i ∷ none_products cs i

products_map : (a : Choice) (ys cs : List Choice) → products (map (joined a) ys) cs ≡ map (joined a) (products ys cs)
products_map a [] cs = refl
products_map a (b ∷ ys) cs =
    (λ i. map_joined_twice a b cs i ++ products_map a ys cs i) ∙ sym (map-append (joined a) (map (joined b) cs) (products ys cs))

pub products_append : (xs ys cs : List Choice) → products (xs ++ ys) cs ≡ products xs cs ++ products ys cs
products_append xs ys cs = flat_map-append (λ a. map (joined a) cs) xs ys

products_assoc : (xs ys cs : List Choice) → products (products xs ys) cs ≡ products xs (products ys cs)
products_assoc [] ys cs = refl
products_assoc (a ∷ xs) ys cs =
    products_append (map (joined a) ys) (products xs ys) cs ∙ (λ i. products_map a ys cs i ++ products_assoc xs ys cs i)

-- one more member
pub picks_push : (es : List Expr) (e : Expr) → picks_of (trees_in (es ++ e ∷ [])) ≡ products (picks_of (trees_in es)) (choices_of (tree_of e))
picks_push [] e = none_products (choices_of (tree_of e)) ∙ sym (products_none (choices_of (tree_of e)))
picks_push (x ∷ es) e =
    ap (products (choices_of (tree_of x))) (picks_push es e) ∙ sym (products_assoc (choices_of (tree_of x)) (picks_of (trees_in es)) (choices_of (tree_of e)))

pub any_push : (es : List Expr) (e : Expr) → choices_of_any (trees_in (es ++ e ∷ [])) ≡ choices_of_any (trees_in es) ++ choices_of (tree_of e)
any_push [] e = append-nil (choices_of (tree_of e))
any_push (x ∷ es) e =
    ap (λ cs. choices_of (tree_of x) ++ cs) (any_push es e) ∙ sym (append_assoc (choices_of (tree_of x)) (choices_of_any (trees_in es)) (choices_of (tree_of e)))

-- one more choice that has got its price
pub one_dearer : {A : Type 0} (f : A → A) (all : List A) (i : ℕ) (d : A) → i < length all →
    set (map f (take i all) ++ drop i all) i (f (get_or (map f (take i all) ++ drop i all) i d)) ≡ map f (take (suc i) all) ++ drop (suc i) all
one_dearer f [] i d h = absurd (omega arith)
one_dearer f (c ∷ all) zero d h = refl
one_dearer f (c ∷ all) (suc i) d h = ap (λ cs. f c ∷ cs) (one_dearer f all i d (omega arith))
