-- A formula that was narrowed is no larger: it stays within the limits.
use Rattle.std.proofs.Common.{◌≡◌, ℕ, ◌+◌, ◌*◌, ◌<◌, ◌≤◌, Bool, true, false, ◌&&◌, if◌then◌else◌, List, [], ◌∷◌, ◌++◌, length, get_or, map, take, refl, ap, sym, ◌∙◌, arith}
use Rattle.std.proofs.Math.Nat.{mul-le-mul_left}
use Rattle.std.proofs.lemmas.Bool.{and_parts, and_from}
use Rattle.std.proofs.lemmas.List.{take_more, take_all, map-append}
use Rattle.lg_gram.specs.Connectors.{Connector}
use Rattle.lg_gram.specs.Trees.{Tree, Trees, empty, leaf, all_of, one_of, priced, no_trees, tree, tree_of, trees_of, trees_in}
use Rattle.lg_gram.specs.declared.expr.Expr.{Expr}
use Rattle.lg_gram.specs.Measures.{node_count, nodes_in, choice_count, product_in, choices_in, side_count, side_in, longest_in, depth_of, depth_in}
use Rattle.lg_gram.specs.Formulas.{IsFormula, is_small_price, prices_are_small, prices_in_are_small}
use Rattle.lg_audit.specs.Printed.{narrowed, all_narrowed}

record Within (old new : Tree) : Type 0 where
  nodes : node_count new ≤ node_count old
  choices : choice_count new ≤ choice_count old
  side : (right : Bool) → side_count right new ≤ side_count right old
  depth : depth_of new ≤ depth_of old
  prices : prices_are_small old ≡ true → prices_are_small new ≡ true

record AllWithin (olds news : Trees) : Type 0 where
  nodes : nodes_in news ≤ nodes_in olds
  product : product_in news ≤ product_in olds
  choices : choices_in news ≤ choices_in olds
  side : (right : Bool) → side_in right news ≤ side_in right olds
  longest : (right : Bool) → longest_in right news ≤ longest_in right olds
  depth : depth_in news ≤ depth_in olds
  prices : prices_in_are_small olds ≡ true → prices_in_are_small news ≡ true

products : (a b c d : ℕ) → a ≤ b → c ≤ d → a * c ≤ b * d
products a b c d h g = omega (arith, mul-le-mul_left a g, mul-le-mul_left d h)

both_small : (a b c d : Bool) → (a ≡ true → b ≡ true) → (c ≡ true → d ≡ true) → (a && c) ≡ true → (b && d) ≡ true
both_small a b c d h g is = let (one, two) = and_parts a c is in and_from b d (h one) (g two)

leaf_within : (b : Bool) (c : Connector) → Within (leaf c) (if b then leaf c else one_of no_trees)
leaf_within true c = record { nodes = omega arith; choices = omega arith; side = λ right. omega arith; depth = omega arith; prices = λ h. h }
leaf_within false c = record { nodes = omega arith; choices = omega arith; side = λ right. omega arith; depth = omega arith; prices = λ h. h }

mutual
  within : (test : Connector → Bool) (t : Tree) → Within t (narrowed test t)
  within test empty = record { nodes = omega arith; choices = omega arith; side = λ right. omega arith; depth = omega arith; prices = λ h. h }
  within test (leaf c) = leaf_within (test c) c
  within test (all_of ts) =
      let h = all_within test ts in
      record { nodes = let nodes = h.nodes in omega arith; choices = h.product; side = h.side; depth = h.depth; prices = h.prices }
  within test (one_of ts) =
      let h = all_within test ts in
      record { nodes = let nodes = h.nodes in omega arith; choices = h.choices; side = h.longest; depth = h.depth; prices = h.prices }
  within test (priced t price) =
      let h = within test t in
      record {
        nodes = let nodes = h.nodes in omega arith;
        choices = h.choices;
        side = h.side;
        depth = let depth = h.depth in omega arith;
        prices = both_small (is_small_price price) (is_small_price price) (prices_are_small t) (prices_are_small (narrowed test t)) (λ is. is) h.prices;
      }

  all_within : (test : Connector → Bool) (ts : Trees) → AllWithin ts (all_narrowed test ts)
  all_within test no_trees = record {
    nodes = omega arith;
    product = omega arith;
    choices = omega arith;
    side = λ right. omega arith;
    longest = λ right. omega arith;
    depth = omega arith;
    prices = λ h. h;
  }
  all_within test (tree t ts) =
      let h = within test t in
      let g = all_within test ts in
      record {
        nodes = let a = h.nodes in let b = g.nodes in omega arith;
        product = products (choice_count (narrowed test t)) (choice_count t) (product_in (all_narrowed test ts)) (product_in ts) h.choices g.product;
        choices = let a = h.choices in let b = g.choices in omega arith;
        side = λ right. (let a = h.side right in let b = g.side right in omega arith);
        longest = λ right. (let a = h.side right in let b = g.longest right in omega arith);
        depth = let a = h.depth in let b = g.depth in omega arith;
        prices = both_small (prices_are_small t) (prices_are_small (narrowed test t)) (prices_in_are_small ts) (prices_in_are_small (all_narrowed test ts)) h.prices g.prices;
      }

-- a formula stays a formula
pub narrowed_formula : (test : Connector → Bool) (t : Tree) → IsFormula t → IsFormula (narrowed test t)
narrowed_formula test t is =
    let h = within test t in
    record {
      nodes = let a = h.nodes in let b = is.nodes in omega arith;
      choices = let a = h.choices in let b = is.choices in omega arith;
      left_side = let a = h.side false in let b = is.left_side in omega arith;
      right_side = let a = h.side true in let b = is.right_side in omega arith;
      depth = let a = h.depth in let b = is.depth in omega arith;
      prices = h.prices is.prices;
    }

-- ---- members, one after another

module _ (test : Connector → Bool) where
  -- one member more
  pub pushed_narrowed : (es : List Expr) (i : ℕ) (e : Expr) → i < length es → e ≡ get_or es i e → (kept new : List Expr) (left : Expr) → new ≡ kept ++ left ∷ []
      → tree_of left ≡ narrowed test (tree_of e) → map tree_of kept ≡ map (λ (x : Expr). narrowed test (tree_of x)) (take i es)
      → map tree_of new ≡ map (λ (x : Expr). narrowed test (tree_of x)) (take (i + 1) es)
  pushed_narrowed es i e within read kept new left grown is before =
      let more : take (i + 1) es ≡ take i es ++ e ∷ [] = take_more es i e within ∙ ap (λ (x : Expr). take i es ++ x ∷ []) (sym read) in
      ap (map tree_of) grown ∙ map-append tree_of kept (left ∷ []) ∙ (λ k. before k ++ is k ∷ [])
      ∙ sym (ap (map (λ (x : Expr). narrowed test (tree_of x))) more ∙ map-append (λ (x : Expr). narrowed test (tree_of x)) (take i es) (e ∷ []))

  all_members : (es : List Expr) → trees_of (map (λ (x : Expr). narrowed test (tree_of x)) es) ≡ all_narrowed test (trees_in es)
  all_members [] = refl
  all_members (e ∷ es) = ap (tree (narrowed test (tree_of e))) (all_members es)

  -- all members
  pub members_narrowed : (es : List Expr) (i : ℕ) → length es ≤ i → (kept : List Expr) → map tree_of kept ≡ map (λ (x : Expr). narrowed test (tree_of x)) (take i es)
      → trees_in kept ≡ all_narrowed test (trees_in es)
  members_narrowed es i past kept is =
      ap trees_of (is ∙ ap (map (λ (x : Expr). narrowed test (tree_of x))) (take_all i es past)) ∙ all_members es
