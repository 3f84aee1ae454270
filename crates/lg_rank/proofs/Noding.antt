-- The nodes of a forest, made one key after another, parts before wholes.
use Rattle.std.proofs.Common.{◌≡◌, ℕ, suc, ◌≤◌, Bool, true, false, List, [], ◌∷◌, ◌++◌, length, get_or, Option, Some, None, slice_get, ◌⊎◌, inl, inr, refl, sym, ap, ◌∙◌, subst, arith, length-append}
use Rattle.std.specs.Global.{Vec}
use Rattle.std.proofs.lemmas.Bool.{cases_lt}
use Rattle.std.proofs.lemmas.Option.{slice_get_within, slice_get-get_or}
use Rattle.lg_gram.specs.declared.disjunct.Disjunct.{Disjunct}
use Rattle.lg_region.specs.declared.key.Key.{Key}
use Rattle.lg_region.specs.declared.key.Key.TheVariants.{Whole}
use Rattle.lg_region.specs.declared.alternative.Alt.{Alt}
use Rattle.lg_region.specs.Laws.{HasKey, RegionsAreCutOnce}
use Rattle.lg_forest.specs.Forests.{Forest, IsForest}
use Rattle.lg_rank.specs.Fronts.{IsIn, Extends}
use Rattle.lg_rank.specs.Keyed.{subjects_of, AddsKey, AreInOrder, AreMade, AreNodesOf, EachPart, GetsNode, HasWays, IsAltFor, IsFresh, IsNothing, IsNumberFor, IsWayOf, PutsNode}
use Rattle.lg_rank.specs.Nodes.{no_way}
use Rattle.lg_rank.specs.declared.node.Node.{Node}
use Rattle.lg_rank.specs.declared.part.Way.{Way}
use Rattle.lg_rank.proofs.Building.{Laws, StandsFor, ways_all, ways_none}
use Rattle.lg_rank.proofs.Keyed.{way_for}
use Rattle.lg_rank.proofs.Walking.{alt_of, at_cases, at_end, at_front, contains_map, extends_all, placed_pushed}

-- ---- what is known of some keys is known of more
pub long_more : (old new : List Key) → Extends old new → length old ≤ length new
long_more old new more = elim (cases_lt (length new) (length old)) [
  | inl less ↦ absurd (let e = slice_get_within new (length new) (get_or old (length new) (Whole 0)) (more (length new) _ (slice_get-get_or old (length new) (Whole 0) less)) in omega arith)
  | inr h ↦ h
]

pub number_more : (old new : List Key) (k l : ℕ) (key : Option Key) (o : Option ℕ) → Extends old new → k ≤ l → IsNumberFor old k key o → IsNumberFor new l key o
number_more old new k l None o more less is = is
number_more old new k l (Some key) None more less is = is
number_more old new k l (Some key) (Some j) more less is = (let p = is.0 in omega arith, more j key is.1)

module _ (positions : List (List Disjunct)) where
  pub way_more : (old new : List Key) (k l : ℕ) (key : Key) (a : Alt) (w : Way) → Extends old new → k ≤ l → IsWayOf positions old k key a w → IsWayOf positions new l key a w
  way_more old new k l key a w more less is = record {
    word = is.word;
    number = is.number;
    to_left = is.to_left;
    to_right = is.to_right;
    lkey = is.lkey;
    rkey = is.rkey;
    is = is.is;
    has_word = is.has_word;
    left = number_more old new k l is.lkey w.left more less is.left;
    right = number_more old new k l is.rkey w.right more less is.right;
  }

  order_by : (S T : Alt → Way → Type 0) (alts : List Alt) (n : ℕ) (ways : List Way) → ((a : Alt) (w : Way) → S a w → T a w) → AreInOrder S alts n ways → AreInOrder T alts n ways
  order_by S T alts n ways f is = record {
    long = is.long;
    each = λ p w at. let r = is.each p w at in (r.0, r.1, f r.0 w r.2);
  }

  pub order_more : (old new : List Key) (k l : ℕ) (key : Key) (alts : List Alt) (n : ℕ) (ways : List Way) → Extends old new → k ≤ l → AreInOrder (IsWayOf positions old k key) alts n ways → AreInOrder (IsWayOf positions new l key) alts n ways
  order_more old new k l key alts n ways more less = order_by (IsWayOf positions old k key) (IsWayOf positions new l key) alts n ways (λ a w. way_more old new k l key a w more less)

  has_more : (forest : Forest) (old new : List Key) (k : ℕ) (key : Key) (ways : List Way) → Extends old new → HasWays positions forest old k key ways → HasWays positions forest new k key ways
  has_more forest old new k key ways more h = elim h [
    | inl n ↦ inl n
    | inr r ↦ inr (r.0, r.1, order_more old new k k key r.0 (length r.0) ways more (omega arith) r.2)
  ]

-- one way more
pub order_push : (S : Alt → Way → Type 0) (alts : List Alt) (n m : ℕ) (ways new : List Way) (a : Alt) (w : Way) → m ≡ suc n → slice_get alts n ≡ Some a → S a w → new ≡ ways ++ w ∷ [] → AreInOrder S alts n ways → AreInOrder S alts m new
order_push S alts n m ways new a w next at stands e is = subst (λ z. AreInOrder S alts m z) (sym e) (record {
  long = (let l = length-append ways (w ∷ []) in let f = is.long in omega arith);
  each = λ p v here. elim (at_cases ways w p v here) [
    | inl f ↦ is.each p v f
    | inr f ↦ (a, subst (λ z. slice_get alts z ≡ Some a) (sym is.long ∙ sym f.0) at, subst (λ z. S a z) f.1 stands)
  ];
})

number_in : (keys : List Key) (k : ℕ) (part : Key) (o : Option ℕ) → IsNumberFor keys k (Some part) o → IsNothing part ⊎ IsIn keys part
number_in keys k part None is = inl is
number_in keys k part (Some j) is = inr (j, is.1)

part_in : (positions : List (List Disjunct)) (keys : List Key) (k : ℕ) (key : Key) (a : Alt) (w : Way) (part : Key) → IsWayOf positions keys k key a w → HasKey a part → IsNothing part ⊎ IsIn keys part
part_in positions keys k key a w part is has = elim (subst (λ z. HasKey z part) is.is has) [
  | inl e ↦ number_in keys k part w.left (subst (λ z. IsNumberFor keys k z w.left) e is.left)
  | inr e ↦ number_in keys k part w.right (subst (λ z. IsNumberFor keys k z w.right) e is.right)
]

-- a key whose alternatives have ways has its parts in the list
parts_in : (positions : List (List Disjunct)) (from : ℕ) (forest : Forest) → IsForest positions from forest → (keys : List Key) (k : ℕ) (key : Key) (ways : List Way) → HasWays positions forest keys k key ways → EachPart forest key (IsIn keys)
parts_in positions from forest is keys k key ways h a part at has = elim h [
  | inl none ↦ absurd (none.0 (contains_map (λ p. p.0) forest.entries (key, at.0) at.1))
  | inr (alts, here, order) ↦ (
      let i = ((is.alts key alts here).exactly a).1 (alt_of positions from forest is key a at) in
      let less = i.1 in
      let long = order.long in
      let e : slice_get alts i.0 ≡ Some a = slice_get-get_or alts i.0 a i.1 ∙ ap Some i.2 in
      let w = get_or ways i.0 no_way in
      let s = order.each i.0 w (slice_get-get_or ways i.0 no_way (omega arith)) in
      let same : s.0 ≡ a = (let f = s.1 in cc) in
      part_in positions keys k key a w part (subst (λ z. IsWayOf positions keys k key z w) same s.2) has)
]

-- ---- a key more, with its node
module _ (positions : List (List Disjunct)) (from : ℕ) (forest : Forest) (is : IsForest positions from forest) (old : List Key) (old_nodes : List Node) (made : AreMade positions forest old old_nodes)
    (key : Key) (gets : GetsNode positions forest key) (ways : Vec Way) (has : HasWays positions forest old (length old) key ways.items) where
  abbrev IsPut : List Key → List Node → ℕ → Type 0
  IsPut keys nodes number = AreMade positions forest keys nodes × Extends old keys × (slice_get keys number ≡ Some key)

  pushed : (node : Node) → node.ways ≡ ways → IsFresh node → IsPut (old ++ key ∷ []) (old_nodes ++ node ∷ []) (length old)
  pushed node e fresh =
      let more : Extends old (old ++ key ∷ []) = λ i x at. at_front old (key ∷ []) i x at in
      let long = made.long in (
        record {
          placed = placed_pushed positions forest old key made.placed gets (parts_in positions from forest is old (length old) key ways.items has);
          long = (let a = length-append old (key ∷ []) in let b = length-append old_nodes (node ∷ []) in omega arith);
          ways = λ k m n at_key at_node. elim (at_cases old key k m at_key) [
            | inl f ↦ elim (at_cases old_nodes node k n at_node) [
              | inl g ↦ has_more positions forest old (old ++ key ∷ []) k m n.ways.items more (made.ways k m n f g)
              | inr g ↦ absurd (let less = slice_get_within old k m f in let same = g.0 in omega arith)
            ]
            | inr f ↦ elim (at_cases old_nodes node k n at_node) [
              | inl g ↦ absurd (let less = slice_get_within old_nodes k n g in let same = f.0 in omega arith)
              | inr g ↦ (
                  let own : n.ways.items ≡ ways.items = ap (λ (z : Node). z.ways.items) (sym g.1) ∙ ap (λ (z : Vec Way). z.items) e in
                  subst (λ z. HasWays positions forest (old ++ key ∷ []) k m z) (sym own)
                  (subst (λ z. HasWays positions forest (old ++ key ∷ []) k z ways.items) f.1
                  (subst (λ z. HasWays positions forest (old ++ key ∷ []) z key ways.items) (sym f.0) (has_more positions forest old (old ++ key ∷ []) (length old) key ways.items more has))))
            ]
          ];
          fresh = λ k n at. elim (at_cases old_nodes node k n at) [ inl g ↦ made.fresh k n g | inr g ↦ subst (λ z. IsFresh z) g.1 fresh ];
        },
        more,
        at_end old key,
      )

  pub put : (keys : List Key) (nodes : List Node) (number : ℕ) → PutsNode old old_nodes key ways keys nodes number → IsPut keys nodes number
  put keys nodes number puts = by puts.is_new refl
    where
      by : (b : Bool) → puts.is_new ≡ b → IsPut keys nodes number
      by true t =
          let adds = subst (λ b. AddsKey old key keys number b) t puts.adds in
          let (node, is_nodes, own, fresh) = puts.made t in
          subst (λ z. IsPut z nodes number) (sym adds.0) (subst (λ z. IsPut (old ++ key ∷ []) z number) (sym is_nodes) (subst (λ z. IsPut (old ++ key ∷ []) (old_nodes ++ node ∷ []) z) (sym adds.1) (pushed node own fresh)))
      by false t =
          let adds = subst (λ b. AddsKey old key keys number b) t puts.adds in
          subst (λ z. IsPut z nodes number) (sym adds.0) (subst (λ z. IsPut old z number) (sym (puts.known t)) (made, extends_all old, adds.1))

-- ---- the ways of all nodes are those of the cuts
stands : RegionsAreCutOnce → (positions : List (List Disjunct)) (keys : List Key) (k : ℕ) (key : Key) (a : Alt) (w : Way) → IsWayOf positions keys k key a w → StandsFor positions keys k key a w
stands regions positions keys k key a w is lists c for cut =
    way_for regions positions lists keys k key c is.word is.number is.to_left is.to_right is.lkey is.rkey w is.has_word is.left is.right (subst (λ z. IsAltFor positions lists key c z) is.is for) cut

pub nodes_are : RegionsAreCutOnce → (positions : List (List Disjunct)) (from : ℕ) (forest : Forest) (is : IsForest positions from forest) → Laws positions is.lists → (keys : List Key) (nodes : List Node) → AreMade positions forest keys nodes
    → AreNodesOf positions (subjects_of is.lists keys) (length keys) nodes
nodes_are regions positions from forest is laws keys nodes made = record {
  long = made.long;
  fresh = made.fresh;
  ways = λ k node at.
      let long = made.long in
      let less = slice_get_within nodes k node at in
      let key = get_or keys k (Whole 0) in
      let here = slice_get-get_or keys k (Whole 0) (omega arith) in
      elim (made.ways k key node here at) [
        | inl none ↦ ways_none positions from forest is laws keys k key here made.placed node.ways.items none.1 none.0
        | inr (alts, there, order) ↦
            ways_all positions from forest is laws keys k key here made.placed alts (length alts) node.ways.items there (omega arith)
            (order_by positions (IsWayOf positions keys k key) (StandsFor positions keys k key) alts (length alts) node.ways.items (stands regions positions keys k key) order)
      ];
}
