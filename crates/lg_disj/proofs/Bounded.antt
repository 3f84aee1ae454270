-- How dear the choices of an expression are, and how many connectors they have.
use Rattle.std.proofs.Common.{◌≡◌, ◌≤◌, ◌+◌, ◌*◌, ℕ, max, ℤ, pos, neg_ℤ, ◌+ℤ◌, ◌≤ℤ◌, Bool, true, false, List, [], ◌∷◌, map, length, sym, subst, arith, length-append, int_le}
use lib.Dec.{T}
use Rattle.std.specs.Prelude.{if◌then◌else◌}
use Rattle.std.specs.Bool.{beq}
use Rattle.std.specs.List.{All}
use Rattle.std.proofs.lemmas.Int.{ints}
use Rattle.std.proofs.lemmas.Bool.{and_parts}
use Rattle.std.proofs.lemmas.List.Elements.{All-nil, All-cons, All-append, All-map, All-head, All-tail, All-weaker}
use Rattle.lg_base.specs.Costs.{IsWithinCosts}
use Rattle.lg_gram.specs.Problems.{IsDisjunctCost}
use Rattle.lg_gram.specs.Limits.{PRICE, FORMULA_NODES}
use Rattle.lg_gram.specs.Connectors.{Connector}
use Rattle.lg_gram.specs.Trees.{Tree, Trees, empty, leaf, all_of, one_of, priced, no_trees, tree}
use Rattle.lg_gram.specs.Measures.{Choice, no_connectors, single, joined, dearer, choices_of, picks_of, choices_of_any, node_count, nodes_in, side_count, side_in, longest_in}
use Rattle.lg_gram.specs.Formulas.{prices_are_small, prices_in_are_small, is_small_price}
use Rattle.lg_disj.specs.Choices.{products, HasSmallCost}

-- the sum of two small costs is within costs
pub small_sum : (x y : ℤ) → IsDisjunctCost x → IsDisjunctCost y → IsWithinCosts (x +ℤ y)
small_sum x y p q = (omega (arith, ints), omega (arith, ints))

-- the cost of n nodes at the most, and so many connectors on each side
pub record IsBounded (n l r : ℕ) (c : Choice) : Type 0 where
  pub low : neg_ℤ (pos (PRICE * n)) ≤ℤ c.cost
  pub high : c.cost ≤ℤ pos (PRICE * n)
  pub left : length c.left ≤ l
  pub right : length c.right ≤ r

low_sum : (m n : ℕ) (x y : ℤ) → neg_ℤ (pos (PRICE * m)) ≤ℤ x → neg_ℤ (pos (PRICE * n)) ≤ℤ y → neg_ℤ (pos (PRICE * (m + n))) ≤ℤ (x +ℤ y)
low_sum m n x y p q = omega (arith, ints)

high_sum : (m n : ℕ) (x y : ℤ) → x ≤ℤ pos (PRICE * m) → y ≤ℤ pos (PRICE * n) → (x +ℤ y) ≤ℤ pos (PRICE * (m + n))
high_sum m n x y p q = omega (arith, ints)

wider_low : (m n : ℕ) (x : ℤ) → m ≤ n → neg_ℤ (pos (PRICE * m)) ≤ℤ x → neg_ℤ (pos (PRICE * n)) ≤ℤ x
wider_low m n x h p = omega (arith, ints)

wider_high : (m n : ℕ) (x : ℤ) → m ≤ n → x ≤ℤ pos (PRICE * m) → x ≤ℤ pos (PRICE * n)
wider_high m n x h p = omega (arith, ints)

wider : (m n l k r s : ℕ) (c : Choice) → m ≤ n → l ≤ k → r ≤ s → IsBounded m l r c → IsBounded n k s c
wider m n l k r s c f g h p = record {
  low = wider_low m n c.cost f p.low;
  high = wider_high m n c.cost f p.high;
  left = omega (arith, p.left);
  right = omega (arith, p.right);
}

joined_bounded : (m n l k r s : ℕ) (a b : Choice) → IsBounded m l r a → IsBounded n k s b → IsBounded (m + n) (l + k) (r + s) (joined a b)
joined_bounded m n l k r s a b p q = record {
  low = low_sum m n a.cost b.cost p.low q.low;
  high = high_sum m n a.cost b.cost p.high q.high;
  left = omega (arith, length-append a.left b.left, p.left, q.left);
  right = omega (arith, length-append a.right b.right, p.right, q.right);
}

products_bounded : (m n l k r s : ℕ) (xs ys : List Choice) → All (IsBounded m l r) xs → All (IsBounded n k s) ys → All (IsBounded (m + n) (l + k) (r + s)) (products xs ys)
products_bounded m n l k r s [] ys p q = All-nil (IsBounded (m + n) (l + k) (r + s))
products_bounded m n l k r s (a ∷ xs) ys p q =
    let P : Choice → Type 0 = IsBounded (m + n) (l + k) (r + s) in
    All-append P (map (joined a) ys) (products xs ys)
    (All-map P (joined a) ys (All-weaker (IsBounded n k s) (λ b. P (joined a b)) (λ b h. joined_bounded m n l k r s a b (All-head (IsBounded m l r) a xs p) h) ys q))
    (products_bounded m n l k r s xs ys (All-tail (IsBounded m l r) a xs p) q)

no_connectors_bounded : IsBounded 0 0 0 no_connectors
no_connectors_bounded = record { low = omega (arith, ints); high = omega (arith, ints); left = omega arith; right = omega arith }

side_bounded : (right : Bool) (c : Connector) → IsBounded 1 (if beq right false then 1 else 0) (if beq right true then 1 else 0)
    (if right then record { left = []; right = c ∷ []; cost = pos 0 } else record { left = c ∷ []; right = []; cost = pos 0 })
side_bounded true c = record { low = omega (arith, ints); high = omega (arith, ints); left = omega arith; right = omega arith }
side_bounded false c = record { low = omega (arith, ints); high = omega (arith, ints); left = omega arith; right = omega arith }

is_true : {b : Bool} → b ≡ true → T b
is_true {b} h = subst T (sym h) tt

small_parts : (price : ℤ) → is_small_price price ≡ true → (neg_ℤ (pos PRICE) ≤ℤ price) × (price ≤ℤ pos PRICE)
small_parts price h =
    let parts = and_parts (int_le (neg_ℤ (pos PRICE)) price) (int_le price (pos PRICE)) h in
    let low : int_le (neg_ℤ (pos PRICE)) price ≡ true = parts.0 in
    let high : int_le price (pos PRICE) ≡ true = parts.1 in
    (record { le = is_true low }, record { le = is_true high })

dearer_bounded : (n l r : ℕ) (price : ℤ) (c : Choice) → is_small_price price ≡ true → IsBounded n l r c → IsBounded (1 + n) l r (dearer price c)
dearer_bounded n l r price c small p =
    let parts = small_parts price small in
    record {
      low = omega (arith, ints, p.low, parts.0);
      high = omega (arith, ints, p.high, parts.1);
      left = p.left;
      right = p.right;
    }

mutual
  pub bounded : (t : Tree) → prices_are_small t ≡ true → All (IsBounded (node_count t) (side_count false t) (side_count true t)) (choices_of t)
  bounded empty small = All-cons (IsBounded 1 0 0) no_connectors [] (wider 0 1 0 0 0 0 no_connectors (omega arith) (omega arith) (omega arith) no_connectors_bounded) (All-nil (IsBounded 1 0 0))
  bounded (leaf c) small =
      let P : Choice → Type 0 = IsBounded 1 (side_count false (leaf c)) (side_count true (leaf c)) in
      All-cons P (single c) [] (side_bounded c.right c) (All-nil P)
  bounded (all_of ts) small =
      All-weaker (IsBounded (nodes_in ts) (side_in false ts) (side_in true ts)) (IsBounded (1 + nodes_in ts) (side_in false ts) (side_in true ts))
      (λ c h. wider (nodes_in ts) (1 + nodes_in ts) _ _ _ _ c (omega arith) (omega arith) (omega arith) h) (picks_of ts) (picks_bounded ts small)
  bounded (one_of ts) small =
      All-weaker (IsBounded (nodes_in ts) (longest_in false ts) (longest_in true ts)) (IsBounded (1 + nodes_in ts) (longest_in false ts) (longest_in true ts))
      (λ c h. wider (nodes_in ts) (1 + nodes_in ts) _ _ _ _ c (omega arith) (omega arith) (omega arith) h) (choices_of_any ts) (any_bounded ts small)
  bounded (priced t price) small =
      let parts = and_parts (is_small_price price) (prices_are_small t) small in
      let P : Choice → Type 0 = IsBounded (1 + node_count t) (side_count false t) (side_count true t) in
      All-map P (dearer price) (choices_of t)
      (All-weaker (IsBounded (node_count t) (side_count false t) (side_count true t)) (λ c. P (dearer price c))
      (λ c h. dearer_bounded (node_count t) _ _ price c parts.0 h) (choices_of t) (bounded t parts.1))

  pub picks_bounded : (ts : Trees) → prices_in_are_small ts ≡ true → All (IsBounded (nodes_in ts) (side_in false ts) (side_in true ts)) (picks_of ts)
  picks_bounded no_trees small = All-cons (IsBounded 0 0 0) no_connectors [] no_connectors_bounded (All-nil (IsBounded 0 0 0))
  picks_bounded (tree t ts) small =
      let parts = and_parts (prices_are_small t) (prices_in_are_small ts) small in
      products_bounded (node_count t) (nodes_in ts) (side_count false t) (side_in false ts) (side_count true t) (side_in true ts) (choices_of t) (picks_of ts)
      (bounded t parts.0) (picks_bounded ts parts.1)

  any_bounded : (ts : Trees) → prices_in_are_small ts ≡ true → All (IsBounded (nodes_in ts) (longest_in false ts) (longest_in true ts)) (choices_of_any ts)
  any_bounded no_trees small = All-nil (IsBounded 0 0 0)
  any_bounded (tree t ts) small =
      let parts = and_parts (prices_are_small t) (prices_in_are_small ts) small in
      let P : Choice → Type 0 = IsBounded (node_count t + nodes_in ts) (max (side_count false t) (longest_in false ts)) (max (side_count true t) (longest_in true ts)) in
      All-append P (choices_of t) (choices_of_any ts)
      (All-weaker (IsBounded (node_count t) (side_count false t) (side_count true t)) P
      (λ c h. wider (node_count t) _ _ _ _ _ c (omega arith) (omega arith) (omega arith) h) (choices_of t) (bounded t parts.0))
      (All-weaker (IsBounded (nodes_in ts) (longest_in false ts) (longest_in true ts)) P
      (λ c h. wider (nodes_in ts) _ _ _ _ _ c (omega arith) (omega arith) (omega arith) h) (choices_of_any ts) (any_bounded ts parts.1))

-- the cost of at most a formula's nodes is small
pub few_nodes : (n l r : ℕ) → n ≤ FORMULA_NODES → (c : Choice) → IsBounded n l r c → HasSmallCost c
few_nodes n l r few c h = (omega (arith, ints, h.low), omega (arith, ints, h.high))

-- no choice of a small expression is dear
pub small_costs : (t : Tree) → node_count t ≤ FORMULA_NODES → prices_are_small t ≡ true → All HasSmallCost (choices_of t)
small_costs t nodes prices = All-weaker _ HasSmallCost (few_nodes (node_count t) _ _ nodes) (choices_of t) (bounded t prices)

pub small_picks : (ts : Trees) → nodes_in ts ≤ FORMULA_NODES → prices_in_are_small ts ≡ true → All HasSmallCost (picks_of ts)
small_picks ts nodes prices = All-weaker _ HasSmallCost (few_nodes (nodes_in ts) _ _ nodes) (picks_of ts) (picks_bounded ts prices)
