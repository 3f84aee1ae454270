-- The members of a small expression are small.
use Rattle.std.proofs.Common.{◌≡◌, ℤ, ℕ, zero, suc, ◌+◌, ◌<◌, ◌≤◌, true, List, [], ◌∷◌, length, ◌++◌, get_or, take, refl, sym, ap, ◌∙◌, arith}
use Rattle.std.proofs.Math.Seq.{take-nil}
use Rattle.std.proofs.lemmas.List.{take_more}
use Rattle.std.proofs.lemmas.Bool.{and_parts}
use Rattle.std.specs.Cmp.Derive.{both_true}
use Rattle.lg_gram.specs.declared.expr.Expr.{Expr}
use Rattle.lg_gram.specs.Trees.{Tree, priced, trees_in, tree_of}
use Rattle.lg_gram.specs.Measures.{nodes_in, node_count}
use Rattle.lg_gram.specs.Formulas.{prices_are_small, prices_in_are_small, is_small_price}

pub member_nodes : (es : List Expr) (i : ℕ) (d : Expr) → i < length es → node_count (tree_of (get_or es i d)) ≤ nodes_in (trees_in es)
member_nodes [] i d within = absurd (omega arith)
member_nodes (e ∷ es) zero d within = omega arith
member_nodes (e ∷ es) (suc i) d within = omega (arith, member_nodes es i d (omega arith))

pub member_prices : (es : List Expr) (i : ℕ) (d : Expr) → i < length es → prices_in_are_small (trees_in es) ≡ true → prices_are_small (tree_of (get_or es i d)) ≡ true
member_prices [] i d within h = absurd (omega arith)
member_prices (e ∷ es) zero d within h = (and_parts (prices_are_small (tree_of e)) (prices_in_are_small (trees_in es)) h).0
member_prices (e ∷ es) (suc i) d within h = member_prices es i d (omega arith) (and_parts (prices_are_small (tree_of e)) (prices_in_are_small (trees_in es)) h).1

-- the first members
pub fewer_nodes : (es : List Expr) (i : ℕ) → nodes_in (trees_in (take i es)) ≤ nodes_in (trees_in es)
fewer_nodes [] i = rw take-nil (omega arith)
fewer_nodes (e ∷ es) zero = omega arith
fewer_nodes (e ∷ es) (suc i) = omega (arith, fewer_nodes es i)

pub fewer_prices : (es : List Expr) (i : ℕ) → prices_in_are_small (trees_in es) ≡ true → prices_in_are_small (trees_in (take i es)) ≡ true
fewer_prices [] i h = rw take-nil refl
fewer_prices (e ∷ es) zero h = refl
fewer_prices (e ∷ es) (suc i) h =
    let parts = and_parts (prices_are_small (tree_of e)) (prices_in_are_small (trees_in es)) h in
    both_true parts.0 (fewer_prices es i parts.1)

-- a member that was read at its place
pub read_nodes : (es all : List Expr) (i : ℕ) (e : Expr) → i < length es → e ≡ get_or es i e → es ≡ all → node_count (tree_of e) ≤ nodes_in (trees_in all)
read_nodes es all i e within read same = rw (← same) (rw read (member_nodes es i e within))

pub read_prices : (es all : List Expr) (i : ℕ) (e : Expr) → i < length es → e ≡ get_or es i e → es ≡ all → prices_in_are_small (trees_in all) ≡ true →
    prices_are_small (tree_of e) ≡ true
read_prices es all i e within read same small = rw read (member_prices es i e within (rw same small))

pub read_more : (es : List Expr) (i : ℕ) (e : Expr) → i < length es → e ≡ get_or es i e → take i es ++ e ∷ [] ≡ take (i + 1) es
read_more es i e within read = ap (λ x. take i es ++ x ∷ []) read ∙ sym (take_more es i e within)

-- what stands in square brackets
pub inner_nodes : (t inner : Tree) (price : ℤ) → t ≡ priced inner price → node_count inner ≤ node_count t
inner_nodes t inner price is = rw is (omega arith)

pub inner_prices : (t inner : Tree) (price : ℤ) → t ≡ priced inner price → prices_are_small t ≡ true → prices_are_small inner ≡ true
inner_prices t inner price is small = (and_parts (is_small_price price) (prices_are_small inner) (rw is at small)).1
