-- A formula that was cut is no larger: it stays within the limits, and a sweep that takes something makes it smaller.
use Rattle.std.proofs.Common.{◌≡◌, ℤ, ℕ, ◌*◌, ◌<◌, ◌≤◌, inl, inr, refl, sym, ap, Bool, true, false, ◌&&◌, Option, Some, None, IfSome, if◌then◌else◌, true≢false, arith}
use Rattle.std.proofs.Math.Nat.{mul-le-mul_left}
use Rattle.std.specs.Option.{option_map}
use Rattle.std.proofs.lemmas.Bool.{cases_Bool, and_parts, and_from, and_cases}
use Rattle.lg_gram.specs.Connectors.{Connector}
use Rattle.lg_gram.specs.Trees.{Tree, Trees, empty, leaf, all_of, one_of, priced, no_trees, tree}
use Rattle.lg_gram.specs.Measures.{node_count, nodes_in, choice_count, product_in, choices_in, side_count, side_in, longest_in, depth_of, depth_in}
use Rattle.lg_gram.specs.Formulas.{IsFormula, is_small_price, prices_are_small, prices_in_are_small}
use Rattle.lg_eprune.specs.Cuts.{any_of, both, in_front, cut, cut_all, cut_any, is_whole, are_whole}

record Within (old new : Tree) : Type 0 where
  nodes : node_count new ≤ node_count old
  choices : choice_count new ≤ choice_count old
  side : (right : Bool) → side_count right new ≤ side_count right old
  depth : depth_of new ≤ depth_of old
  prices : prices_are_small old ≡ true → prices_are_small new ≡ true

record AllWithin (olds news : Trees) : Type 0 where
  nodes : nodes_in news ≤ nodes_in olds
  choices : product_in news ≤ product_in olds
  side : (right : Bool) → side_in right news ≤ side_in right olds
  depth : depth_in news ≤ depth_in olds
  prices : prices_in_are_small olds ≡ true → prices_in_are_small news ≡ true

record AnyWithin (olds news : Trees) : Type 0 where
  nodes : nodes_in news ≤ nodes_in olds
  choices : choices_in news ≤ choices_in olds
  side : (right : Bool) → longest_in right news ≤ longest_in right olds
  depth : depth_in news ≤ depth_in olds
  prices : prices_in_are_small olds ≡ true → prices_in_are_small news ≡ true

itself : (t : Tree) → Within t t
itself t = record {
  nodes = omega arith;
  choices = omega arith;
  side = λ right. omega arith;
  depth = omega arith;
  prices = λ h. h;
}

products : (a b c d : ℕ) → a ≤ b → c ≤ d → a * c ≤ b * d
products a b c d h g = omega (arith, mul-le-mul_left a g, mul-le-mul_left d h)

both_small : (a b c d : Bool) → (a ≡ true → b ≡ true) → (c ≡ true → d ≡ true) → (a && c) ≡ true → (b && d) ≡ true
both_small a b c d h g is = let (one, two) = and_parts a c is in and_from b d (h one) (g two)

all_step : (ts : Trees) (o : Option Trees) → IfSome o (AllWithin ts) → IfSome (option_map all_of o) (Within (all_of ts))
all_step ts None h = tt
all_step ts (Some new) h = record {
  nodes = let nodes = h.nodes in omega arith;
  choices = h.choices;
  side = h.side;
  depth = h.depth;
  prices = h.prices;
}

any_step : (ts new : Trees) → AnyWithin ts new → IfSome (any_of new) (Within (one_of ts))
any_step ts no_trees h = tt
any_step ts (tree t new) h = record {
  nodes = let nodes = h.nodes in omega arith;
  choices = h.choices;
  side = h.side;
  depth = h.depth;
  prices = h.prices;
}

priced_step : (t : Tree) (price : ℤ) (o : Option Tree) → IfSome o (Within t) → IfSome (option_map (λ x. priced x price) o) (Within (priced t price))
priced_step t price None h = tt
priced_step t price (Some new) h = record {
  nodes = let nodes = h.nodes in omega arith;
  choices = h.choices;
  side = h.side;
  depth = let depth = h.depth in omega arith;
  prices = both_small (is_small_price price) (is_small_price price) (prices_are_small t) (prices_are_small new) (λ is. is) h.prices;
}

both_step : (t : Tree) (ts : Trees) (o : Option Tree) (os : Option Trees) → IfSome o (Within t) → IfSome os (AllWithin ts) → IfSome (both o os) (AllWithin (tree t ts))
both_step t ts None os h g = tt
both_step t ts (Some new) None h g = tt
both_step t ts (Some new) (Some news) h g = record {
  nodes = let a = h.nodes in let b = g.nodes in omega arith;
  choices = products (choice_count new) (choice_count t) (product_in news) (product_in ts) h.choices g.choices;
  side = λ right. (let a = h.side right in let b = g.side right in omega arith);
  depth = let a = h.depth in let b = g.depth in omega arith;
  prices = both_small (prices_are_small t) (prices_are_small new) (prices_in_are_small ts) (prices_in_are_small news) h.prices g.prices;
}

front_step : (t : Tree) (ts : Trees) (o : Option Tree) (news : Trees) → IfSome o (Within t) → AnyWithin ts news → AnyWithin (tree t ts) (in_front o news)
front_step t ts None news h g = record {
  nodes = let b = g.nodes in omega arith;
  choices = let b = g.choices in omega arith;
  side = λ right. (let b = g.side right in omega arith);
  depth = let b = g.depth in omega arith;
  prices = λ is. g.prices (and_parts (prices_are_small t) (prices_in_are_small ts) is).1;
}
front_step t ts (Some new) news h g = record {
  nodes = let a = h.nodes in let b = g.nodes in omega arith;
  choices = let a = h.choices in let b = g.choices in omega arith;
  side = λ right. (let a = h.side right in let b = g.side right in omega arith);
  depth = let a = h.depth in let b = g.depth in omega arith;
  prices = both_small (prices_are_small t) (prices_are_small new) (prices_in_are_small ts) (prices_in_are_small news) h.prices g.prices;
}

leaf_step : (b : Bool) (c : Connector) → IfSome (if b then Some (leaf c) else None) (Within (leaf c))
leaf_step true c = itself (leaf c)
leaf_step false c = tt

mutual
  cut_within : (test : Connector → Bool) (t : Tree) → IfSome (cut test t) (Within t)
  cut_within test empty = itself empty
  cut_within test (leaf c) = leaf_step (test c) c
  cut_within test (all_of ts) = all_step ts (cut_all test ts) (all_within test ts)
  cut_within test (one_of ts) = any_step ts (cut_any test ts) (any_within test ts)
  cut_within test (priced t price) = priced_step t price (cut test t) (cut_within test t)

  all_within : (test : Connector → Bool) (ts : Trees) → IfSome (cut_all test ts) (AllWithin ts)
  all_within test no_trees = record {
    nodes = omega arith;
    choices = omega arith;
    side = λ right. omega arith;
    depth = omega arith;
    prices = λ h. h;
  }
  all_within test (tree t ts) = both_step t ts (cut test t) (cut_all test ts) (cut_within test t) (all_within test ts)

  any_within : (test : Connector → Bool) (ts : Trees) → AnyWithin ts (cut_any test ts)
  any_within test no_trees = record {
    nodes = omega arith;
    choices = omega arith;
    side = λ right. omega arith;
    depth = omega arith;
    prices = λ h. h;
  }
  any_within test (tree t ts) = front_step t ts (cut test t) (cut_any test ts) (cut_within test t) (any_within test ts)

only_nodes : (t : Tree) (o : Option Tree) → IfSome o (Within t) → IfSome o (λ new. node_count new ≤ node_count t)
only_nodes t None h = tt
only_nodes t (Some new) h = h.nodes

pub cut_no_more : (test : Connector → Bool) (t : Tree) → IfSome (cut test t) (λ new. node_count new ≤ node_count t)
cut_no_more test t = only_nodes t (cut test t) (cut_within test t)

formula_within : (t new : Tree) → IsFormula t → Within t new → IsFormula new
formula_within t new is h = record {
  nodes = let a = h.nodes in let b = is.nodes in omega arith;
  choices = let a = h.choices in let b = is.choices in omega arith;
  left_side = let a = h.side false in let b = is.left_side in omega arith;
  right_side = let a = h.side true in let b = is.right_side in omega arith;
  depth = let a = h.depth in let b = is.depth in omega arith;
  prices = h.prices is.prices;
}

-- a formula stays a formula
pub cut_formula : (test : Connector → Bool) (t new : Tree) → IsFormula t → cut test t ≡ Some new → IsFormula new
cut_formula test t new is same = formula_within t new is (rw same at (cut_within test t))

pub positive : (t : Tree) → 0 < node_count t
positive empty = omega arith
positive (leaf c) = omega arith
positive (all_of ts) = omega arith
positive (one_of ts) = omega arith
positive (priced t price) = omega arith

-- of a formula that is not whole something goes
abbrev pub IsLess : Tree → Option Tree → Type 0
IsLess t o = IfSome o (λ new. node_count new < node_count t)

all_less : (ts : Trees) (o : Option Trees) → IfSome o (λ new. nodes_in new < nodes_in ts) → IsLess (all_of ts) (option_map all_of o)
all_less ts None h = tt
all_less ts (Some new) h = omega arith

any_less : (ts new : Trees) → nodes_in new < nodes_in ts → IsLess (one_of ts) (any_of new)
any_less ts no_trees h = tt
any_less ts (tree t new) h = omega arith

priced_less : (t : Tree) (price : ℤ) (o : Option Tree) → IsLess t o → IsLess (priced t price) (option_map (λ x. priced x price) o)
priced_less t price None h = tt
priced_less t price (Some new) h = omega arith

first_less : (t : Tree) (ts : Trees) (o : Option Tree) (os : Option Trees) → IsLess t o → IfSome os (AllWithin ts) → IfSome (both o os) (λ new. nodes_in new < nodes_in (tree t ts))
first_less t ts None os h g = tt
first_less t ts (Some new) None h g = tt
first_less t ts (Some new) (Some news) h g = let b = g.nodes in omega arith

others_less : (t : Tree) (ts : Trees) (o : Option Tree) (os : Option Trees) → IfSome o (Within t) → IfSome os (λ new. nodes_in new < nodes_in ts) → IfSome (both o os) (λ new. nodes_in new < nodes_in (tree t ts))
others_less t ts None os h g = tt
others_less t ts (Some new) None h g = tt
others_less t ts (Some new) (Some news) h g = let b = h.nodes in omega arith

front_less : (t : Tree) (ts : Trees) (o : Option Tree) (news : Trees) → IsLess t o → AnyWithin ts news → nodes_in (in_front o news) < nodes_in (tree t ts)
front_less t ts None news h g = let a = positive t in let b = g.nodes in omega arith
front_less t ts (Some new) news h g = let b = g.nodes in omega arith

later_less : (t : Tree) (ts : Trees) (o : Option Tree) (news : Trees) → IfSome o (Within t) → nodes_in news < nodes_in ts → nodes_in (in_front o news) < nodes_in (tree t ts)
later_less t ts None news h g = omega arith
later_less t ts (Some new) news h g = let a = h.nodes in omega arith

mutual
  pub cut_less : (test : Connector → Bool) (t : Tree) → is_whole test t ≡ false → IsLess t (cut test t)
  cut_less test empty h = absurd (true≢false h)
  cut_less test (leaf c) h = rw h tt
  cut_less test (all_of ts) h = all_less ts (cut_all test ts) (cut_all_less test ts h)
  cut_less test (one_of no_trees) h = tt
  cut_less test (one_of (tree t ts)) h = any_less (tree t ts) (cut_any test (tree t ts)) (cut_any_less test (tree t ts) h)
  cut_less test (priced t price) h = priced_less t price (cut test t) (cut_less test t h)

  cut_all_less : (test : Connector → Bool) (ts : Trees) → are_whole test ts ≡ false → IfSome (cut_all test ts) (λ new. nodes_in new < nodes_in ts)
  cut_all_less test no_trees h = absurd (true≢false h)
  cut_all_less test (tree t ts) h =
      elim (and_cases (is_whole test t) (are_whole test ts) h) [
        | inl here ↦ first_less t ts (cut test t) (cut_all test ts) (cut_less test t here) (all_within test ts)
        | inr later ↦ others_less t ts (cut test t) (cut_all test ts) (cut_within test t) (cut_all_less test ts later)
      ]

  cut_any_less : (test : Connector → Bool) (ts : Trees) → are_whole test ts ≡ false → nodes_in (cut_any test ts) < nodes_in ts
  cut_any_less test no_trees h = absurd (true≢false h)
  cut_any_less test (tree t ts) h =
      elim (and_cases (is_whole test t) (are_whole test ts) h) [
        | inl here ↦ front_less t ts (cut test t) (cut_any test ts) (cut_less test t here) (any_within test ts)
        | inr later ↦ later_less t ts (cut test t) (cut_any test ts) (cut_within test t) (cut_any_less test ts later)
      ]

-- of a whole formula nothing goes
mutual
  pub cut_keeps : (test : Connector → Bool) (t : Tree) → is_whole test t ≡ true → cut test t ≡ Some t
  cut_keeps test empty h = refl
  cut_keeps test (leaf c) h = rw h refl
  cut_keeps test (all_of ts) h = ap (option_map all_of) (cut_all_keeps test ts h)
  cut_keeps test (one_of no_trees) h = absurd (true≢false (sym h))
  cut_keeps test (one_of (tree t ts)) h = ap any_of (cut_any_keeps test (tree t ts) h)
  cut_keeps test (priced t price) h = ap (option_map (λ x. priced x price)) (cut_keeps test t h)

  cut_all_keeps : (test : Connector → Bool) (ts : Trees) → are_whole test ts ≡ true → cut_all test ts ≡ Some ts
  cut_all_keeps test no_trees h = refl
  cut_all_keeps test (tree t ts) h =
      let (here, later) = and_parts (is_whole test t) (are_whole test ts) h in (λ i. both (cut_keeps test t here i) (cut_all_keeps test ts later i))

  cut_any_keeps : (test : Connector → Bool) (ts : Trees) → are_whole test ts ≡ true → cut_any test ts ≡ ts
  cut_any_keeps test no_trees h = refl
  cut_any_keeps test (tree t ts) h =
      let (here, later) = and_parts (is_whole test t) (are_whole test ts) h in (λ i. in_front (cut_keeps test t here i) (cut_any_keeps test ts later i))

-- what is left is whole
abbrev LeftWhole : (Connector → Bool) → Option Tree → Type 0
LeftWhole test o = IfSome o (λ new. is_whole test new ≡ true)

all_whole : (test : Connector → Bool) (o : Option Trees) → IfSome o (λ new. are_whole test new ≡ true) → LeftWhole test (option_map all_of o)
all_whole test None h = tt
all_whole test (Some ts) h = h

any_whole : (test : Connector → Bool) (ts : Trees) → are_whole test ts ≡ true → LeftWhole test (any_of ts)
any_whole test no_trees h = tt
any_whole test (tree t ts) h = h

priced_whole : (test : Connector → Bool) (price : ℤ) (o : Option Tree) → LeftWhole test o → LeftWhole test (option_map (λ x. priced x price) o)
priced_whole test price None h = tt
priced_whole test price (Some t) h = h

both_whole : (test : Connector → Bool) (o : Option Tree) (os : Option Trees) → LeftWhole test o → IfSome os (λ new. are_whole test new ≡ true) → IfSome (both o os) (λ new. are_whole test new ≡ true)
both_whole test None os h g = tt
both_whole test (Some t) None h g = tt
both_whole test (Some t) (Some ts) h g = and_from (is_whole test t) (are_whole test ts) h g

front_whole : (test : Connector → Bool) (o : Option Tree) (ts : Trees) → LeftWhole test o → are_whole test ts ≡ true → are_whole test (in_front o ts) ≡ true
front_whole test None ts h g = g
front_whole test (Some t) ts h g = and_from (is_whole test t) (are_whole test ts) h g

leaf_whole : (test : Connector → Bool) (c : Connector) → LeftWhole test (cut test (leaf c))
leaf_whole test c = elim (cases_Bool (test c)) [ inl t ↦ rw t t | inr t ↦ rw t tt ]

mutual
  pub cut_whole : (test : Connector → Bool) (t : Tree) → LeftWhole test (cut test t)
  cut_whole test empty = refl
  cut_whole test (leaf c) = leaf_whole test c
  cut_whole test (all_of ts) = all_whole test (cut_all test ts) (cut_all_whole test ts)
  cut_whole test (one_of ts) = any_whole test (cut_any test ts) (cut_any_whole test ts)
  cut_whole test (priced t price) = priced_whole test price (cut test t) (cut_whole test t)

  cut_all_whole : (test : Connector → Bool) (ts : Trees) → IfSome (cut_all test ts) (λ new. are_whole test new ≡ true)
  cut_all_whole test no_trees = refl
  cut_all_whole test (tree t ts) = both_whole test (cut test t) (cut_all test ts) (cut_whole test t) (cut_all_whole test ts)

  cut_any_whole : (test : Connector → Bool) (ts : Trees) → are_whole test (cut_any test ts) ≡ true
  cut_any_whole test no_trees = refl
  cut_any_whole test (tree t ts) = front_whole test (cut test t) (cut_any test ts) (cut_whole test t) (cut_any_whole test ts)
