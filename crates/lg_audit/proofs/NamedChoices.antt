-- In a choice of an expression whose connectors have names each connector is in the list of its direction.
use Rattle.std.proofs.Common.{◌≡◌, ℤ, pos, Bool, true, false, List, [], ◌∷◌, map, Contains, refl, if◌then◌else◌}
use Rattle.std.specs.List.{All, flat_map, AllByRecursion}
use Rattle.std.proofs.lemmas.List.Elements.{All-nil, All-cons, All-append, All-map, All-head, All-tail, All-weaker, All-contains, recursion_from_All}
use Rattle.lg_gram.specs.Names.{IsName}
use Rattle.lg_gram.specs.Connectors.{Connector, name_of}
use Rattle.lg_gram.specs.Measures.{Choice, no_connectors, single, joined, dearer, choices_of, picks_of, choices_of_any}
use Rattle.lg_gram.specs.Trees.{Tree, Trees, empty, leaf, all_of, one_of, priced, no_trees, tree}
use Rattle.lg_disj.specs.Exist.{HasNames, HaveNames}
use Rattle.lg_audit.proofs.SideTexts.{IsOn}

pub record IsSided (c : Choice) : Type 0 where
  pub left : All (IsOn false) c.left
  pub right : All (IsOn true) c.right

none_sided : IsSided no_connectors
none_sided = record { left = All-nil (IsOn false); right = All-nil (IsOn true) }

one_sided : (c : Connector) → IsName (name_of c) → (b : Bool) → c.right ≡ b
    → IsSided (if b then record { left = []; right = c ∷ []; cost = pos 0 } else record { left = c ∷ []; right = []; cost = pos 0 })
one_sided c named true side = record { left = All-nil (IsOn false); right = All-cons (IsOn true) c [] (record { named = named; side = side }) (All-nil (IsOn true)) }
one_sided c named false side = record { left = All-cons (IsOn false) c [] (record { named = named; side = side }) (All-nil (IsOn false)); right = All-nil (IsOn true) }

joined_sided : (a b : Choice) → IsSided a → IsSided b → IsSided (joined a b)
joined_sided a b p q = record {
  left = All-append (IsOn false) a.left b.left p.left q.left;
  right = All-append (IsOn true) a.right b.right p.right q.right;
}

products_sided : (xs ys : List Choice) → All IsSided xs → All IsSided ys → All IsSided (flat_map (λ a. map (joined a) ys) xs)
products_sided [] ys p q = All-nil IsSided
products_sided (a ∷ xs) ys p q =
    All-append IsSided (map (joined a) ys) (flat_map (λ b. map (joined b) ys) xs)
    (All-map IsSided (joined a) ys (All-weaker IsSided (λ b. IsSided (joined a b)) (λ b h. joined_sided a b (All-head IsSided a xs p) h) ys q))
    (products_sided xs ys (All-tail IsSided a xs p) q)

dearer_sided : (price : ℤ) (cs : List Choice) → All IsSided cs → All IsSided (map (dearer price) cs)
dearer_sided price cs p = All-map IsSided (dearer price) cs (All-weaker IsSided (λ c. IsSided (dearer price c)) (λ c h. record { left = h.left; right = h.right }) cs p)

mutual
  all_sided : (t : Tree) → HasNames t → All IsSided (choices_of t)
  all_sided empty h = All-cons IsSided no_connectors [] none_sided (All-nil IsSided)
  all_sided (leaf c) h = All-cons IsSided (single c) [] (one_sided c h c.right refl) (All-nil IsSided)
  all_sided (all_of ts) h = picks_sided ts h
  all_sided (one_of ts) h = any_sided ts h
  all_sided (priced t price) h = dearer_sided price (choices_of t) (all_sided t h)

  picks_sided : (ts : Trees) → HaveNames ts → All IsSided (picks_of ts)
  picks_sided no_trees h = All-cons IsSided no_connectors [] none_sided (All-nil IsSided)
  picks_sided (tree t ts) h = products_sided (choices_of t) (picks_of ts) (all_sided t h.0) (picks_sided ts h.1)

  any_sided : (ts : Trees) → HaveNames ts → All IsSided (choices_of_any ts)
  any_sided no_trees h = All-nil IsSided
  any_sided (tree t ts) h = All-append IsSided (choices_of t) (choices_of_any ts) (all_sided t h.0) (any_sided ts h.1)

-- each list of a choice
pub lefts_on : (t : Tree) (c : Choice) → HasNames t → Contains (choices_of t) c → AllByRecursion (IsOn false) c.left
lefts_on t c named h = recursion_from_All (IsOn false) c.left (All-contains IsSided (choices_of t) c (all_sided t named) h).left

pub rights_on : (t : Tree) (c : Choice) → HasNames t → Contains (choices_of t) c → AllByRecursion (IsOn true) c.right
rights_on t c named h = recursion_from_All (IsOn true) c.right (All-contains IsSided (choices_of t) c (all_sided t named) h).right
