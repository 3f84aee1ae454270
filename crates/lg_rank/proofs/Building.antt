-- The nodes of the keys of a forest make a listing.
use Rattle.std.proofs.Common.{◌≡◌, ℕ, zero, suc, ◌<◌, ◌≤◌, true≢false, List, [], ◌∷◌, ◌++◌, length, map, replicate, get_or, Option, Some, None, slice_get, Contains, refl, sym, ap, ◌∙◌, subst, arith, pos, ◌+ℤ◌}
use Rattle.std.specs.Map.{keys_of}
use Rattle.std.proofs.lemmas.List.{length-map, length-replicate}
use Rattle.std.proofs.lemmas.Option.{slice_get_within, get_or_from_slice_get, slice_get-get_or}
use Rattle.lg_gram.specs.Connectors.{Connector}
use Rattle.lg_gram.specs.Linkages.{cost_sum}
use Rattle.lg_gram.specs.Problems.{IsProblem}
use Rattle.lg_gram.specs.declared.disjunct.Disjunct.{Disjunct}
use Rattle.lg_region.specs.declared.key.Key.{Key}
use Rattle.lg_region.specs.declared.key.Key.TheVariants.{Whole}
use Rattle.lg_region.specs.declared.alternative.Alt.{Alt}
use Rattle.lg_region.specs.Laws.{CutsAreValid, AlternativesDecide, WholeAlternativesDecide, NumbersTellListsApart}
use Rattle.lg_forest.specs.Drafts.{HasAlt}
use Rattle.lg_forest.specs.Forests.{Forest, IsForest}
use Rattle.lg_rank.specs.Keyed.{subject_of, subjects_of, GetsNodeBy, ArePlaced, IsRootKey, IsAltFor, AreInOrder, AreWaysOf, IsFresh, AreNodesOf}
use Rattle.lg_rank.specs.Meanings.{IsCodeOf, IsPacked, unlinked_of, Subject, IsSubject, Cutting, IsWayFor, IsCutting, IsForestOf}
use Rattle.lg_rank.specs.Nodes.{Has, no_way, ways_of, way_at}
use Rattle.lg_rank.specs.Queues.{least_part}
use Rattle.lg_rank.specs.Rankings.{IsRoot, IsListing}
use Rattle.lg_rank.specs.Tables.{forest_of, ready_of, IsTable}
use Rattle.lg_rank.proofs.Forests.{empty_front}
use Rattle.lg_rank.specs.Values.{Value, value_of, nothing_of}
use Rattle.lg_rank.specs.declared.node.Node.{Node}
use Rattle.lg_rank.specs.declared.part.Way.{Way}
use Rattle.lg_rank.proofs.Gluing.{none_at}
use Rattle.lg_rank.proofs.Keyed.{alt_for, live_cutting, cutting_live, cutting_has, one_alt, one_cutting, subject_at}
use Rattle.lg_rank.proofs.Meaning.{in_forest}
use Rattle.lg_rank.proofs.Places.{map_at}
use Rattle.lg_rank.proofs.Walking.{alt_of}

-- ---- the ways of one node
-- a way stands for each cut that its alternative stands for
abbrev pub StandsFor : List (List Disjunct) → List Key → ℕ → Key → Alt → Way → Type 0
StandsFor positions keys k key a w = (lists : List (List Connector)) (c : Cutting) → IsAltFor positions lists key c a → IsCutting positions (subject_of lists key) c → IsWayFor positions (subjects_of lists keys) k (subject_of lists key) w c

-- the laws that are needed
pub record Laws (positions : List (List Disjunct)) (lists : List (List Connector)) : Type 0 where
  pub problem : IsProblem positions
  pub valid : CutsAreValid
  pub regions : AlternativesDecide
  pub wholes : WholeAlternativesDecide
  pub numbers : NumbersTellListsApart positions lists

module _ (positions : List (List Disjunct)) (from : ℕ) (forest : Forest) (is : IsForest positions from forest) (laws : Laws positions is.lists) (keys : List Key) (k : ℕ) (key : Key) (at : slice_get keys k ≡ Some key) (placed : ArePlaced positions forest keys) where
  abbrev Subjects : ℕ → Subject
  Subjects = subjects_of is.lists keys

  abbrev Own : Subject
  Own = subject_of is.lists key

  gets : GetsNodeBy positions is.lists from forest.unused key
  gets = placed.each k key at from is

  own : Subjects k ≡ Own
  own = subject_at is.lists keys k key at

  abbrev ForWay : Way → Cutting → Type 0
  ForWay w c = IsWayFor positions Subjects k Own w c

  -- a way stands for the cut of its alternative
  for_way : (a : Alt) (w : Way) → HasAlt forest key a → StandsFor positions keys k key a w → (c : Cutting) × IsAltFor positions is.lists key c a × ForWay w c
  for_way a w has stands =
      let alt = alt_of positions from forest is key a has in
      let c = alt_for positions is.lists key a gets.links alt.0 in
      (c.0, c.1, stands is.lists c.0 c.1 (live_cutting positions is.lists key c.0 a c.1 alt.1))

  -- and for no other
  own_cut : (a : Alt) (w : Way) (c : Cutting) → HasAlt forest key a → StandsFor positions keys k key a w → ForWay w c → IsAltFor positions is.lists key c a
  own_cut a w c has stands way =
      let r = for_way a w has stands in
      subst (λ z. IsAltFor positions is.lists key z a) (one_cutting positions Subjects k Own w r.0 c r.2 way) r.1

  pub ways_all : (alts : List Alt) (n : ℕ) (ways : List Way) → Contains forest.entries (key, alts) → length alts ≤ n → AreInOrder (StandsFor positions keys k key) alts n ways → AreWaysOf positions (subjects_of is.lists keys) k ways
  ways_all alts n ways here end all =
      let live = is.alts key alts here in
      let alt_at : (p : ℕ) (a : Alt) → slice_get alts p ≡ Some a → HasAlt forest key a = λ p a e. (alts, here, (p, slice_get_within alts p a e, get_or_from_slice_get alts p a a e)) in record {
        each = λ p w e.
            let s = all.each p w e in
            let r = for_way s.0 w (alt_at p s.0 s.1) s.2 in
            (r.0, subst (λ z. IsWayFor positions Subjects k z w r.0) (sym own) r.2);
        once = λ p q v w c ep eq cp cq.
            let s = all.each p v ep in
            let t = all.each q w eq in
            let a = own_cut s.0 v c (alt_at p s.0 s.1) s.2 (subst (λ z. IsWayFor positions Subjects k z v c) own cp) in
            let b = own_cut t.0 w c (alt_at q t.0 t.1) t.2 (subst (λ z. IsWayFor positions Subjects k z w c) own cq) in
            let same = one_alt positions is.lists laws.problem laws.numbers key c s.0 t.0 a b in
            live.once p q s.0 s.1 (subst (λ z. slice_get alts q ≡ Some z) (sym same) t.1);
        all = λ c cut.
            let cut_own = subst (λ z. IsCutting positions z c) own cut in
            let a = cutting_live laws.valid positions is.lists laws.numbers key c gets.links cut_own in
            let i = (live.exactly a.alt).1 (a.one, a.live) in
            let lt = i.1 in
            let long = all.long in
            let e = slice_get-get_or ways i.0 no_way (omega arith) in
            let w = get_or ways i.0 no_way in
            let s = all.each i.0 w e in
            let f : slice_get alts i.0 ≡ Some a.alt = slice_get-get_or alts i.0 a.alt i.1 ∙ ap Some i.2 in
            let same : a.alt ≡ s.0 = (let g = s.1 in cc) in
            let for : IsAltFor positions is.lists key c s.0 = subst (λ z. IsAltFor positions is.lists key c z) {y = s.0} same a.for in
            let r = s.2 is.lists c for cut_own in
            (i.0, w, e, subst (λ z. IsWayFor positions Subjects k z w c) (sym own) r);
      }

  -- a key that is not in the forest has no cut
  pub ways_none : (ways : List Way) → ways ≡ [] → (Contains (keys_of forest.entries) key → ⊥) → AreWaysOf positions (subjects_of is.lists keys) k ways
  ways_none ways e none = subst (λ z. AreWaysOf positions (subjects_of is.lists keys) k z) (sym e) (record {
    each = λ p w h. absurd cc;
    once = λ p q v w c h. absurd cc;
    all = λ c cut. absurd (none ((is.nodes key).1 (gets.demanded, cutting_has laws.regions laws.wholes positions is.lists key c gets.links (subst (λ z. IsCutting positions z c) own cut))));
  })

-- ---- the part in which nothing is linked
no_costs : (n : ℕ) → cost_sum (replicate n None) ≡ pos 0
no_costs zero = refl
no_costs (suc n) = ap (λ z. pos 0 +ℤ z) (no_costs n)

zero_at : (n i : ℕ) → ◌≡◌ {A = ℕ} (get_or (replicate n 0) i 0) 0
zero_at zero i = refl
zero_at (suc n) zero = refl
zero_at (suc n) (suc i) = zero_at n i

packs_nothing : (positions : List (List Disjunct)) → IsPacked positions (unlinked_of (length positions)) (nothing_of (length positions))
packs_nothing positions = record {
  cost = sym (no_costs (length positions));
  span = refl;
  long = length-replicate (length positions) 0 ∙ sym (length-replicate {A = Option Disjunct} (length positions) None);
  choices = λ i. subst (λ o. IsCodeOf (get_or positions i []) o (get_or (replicate (length positions) 0) i 0)) (sym (none_at (length positions) i)) (zero_at (length positions) i);
  links = refl;
}

-- ---- the listing
some_at : {A : Type 0} (xs : List A) (k : ℕ) → k < length xs → (x : A) × (slice_get xs k ≡ Some x)
some_at [] k less = absurd (omega arith)
some_at (x ∷ xs) zero less = (x, refl)
some_at (x ∷ xs) (suc k) less = some_at xs k (omega arith)

node_ways : (nodes : List Node) (k : ℕ) (node : Node) → slice_get nodes k ≡ Some node → ways_of (forest_of nodes) k ≡ node.ways.items
node_ways nodes k node at = map_at (λ (n : Node). n.ways.items) nodes k node [] at

fresh_ready : (node : Node) → IsFresh node → ready_of node ≡ []
fresh_ready node is = λ i. map value_of (is.made i) ++ least_part (is.waiting i)

fresh_table : (positions : List (List Disjunct)) (subjects : ℕ → Subject) (count : ℕ) (z : Value) (nodes : List Node) → AreNodesOf positions subjects count nodes → IsTable z nodes
fresh_table positions subjects count z nodes is k node at = record {
  ways = sym (node_ways nodes k node at);
  idle = λ e. ap (map value_of) (is.fresh k node at).made;
  busy = λ e. absurd (true≢false (sym e ∙ (is.fresh k node at).idle));
  queue = λ e. absurd (true≢false (sym e ∙ (is.fresh k node at).idle));
  front = empty_front (Has z (forest_of nodes) (Some k)) (ready_of node) (fresh_ready node (is.fresh k node at));
}

module _ (positions : List (List Disjunct)) (from : ℕ) (forest : Forest) (is : IsForest positions from forest) (problem : IsProblem positions) (keys : List Key) (placed : ArePlaced positions forest keys) (nodes : List Node)
    (are : AreNodesOf positions (subjects_of is.lists keys) (length keys) nodes) where
  -- node k, and the key at k
  at_node : (k : ℕ) → k < length (forest_of nodes) → (node : Node) × (slice_get nodes k ≡ Some node) × (ways_of (forest_of nodes) k ≡ node.ways.items)
  at_node k less = let l = length-map nodes (λ (n : Node). n.ways.items) in let n = some_at nodes k (omega arith) in (n.0, n.1, node_ways nodes k n.0 n.1)

  subject_is : (k : ℕ) → k < length (forest_of nodes) → IsSubject positions (subjects_of is.lists keys k)
  subject_is k less =
      let l = length-map nodes (λ (n : Node). n.ways.items) in
      let m = are.long in
      let key = some_at keys k (omega arith) in
      subst (λ z. IsSubject positions z) (sym (subject_at is.lists keys k key.0 key.1)) (placed.each k key.0 key.1 from is).links

  way_here : (k p : ℕ) (node : Node) → ways_of (forest_of nodes) k ≡ node.ways.items → p < length (ways_of (forest_of nodes) k) → slice_get node.ways.items p ≡ Some (way_at (forest_of nodes) k p)
  way_here k p node e less = subst (λ z. slice_get z p ≡ Some (way_at (forest_of nodes) k p)) e (slice_get-get_or (ways_of (forest_of nodes) k) p no_way less)

  pub forest_is : (z : Value) → z ≡ nothing_of (length positions) → IsForestOf positions z (forest_of nodes) (subjects_of is.lists keys)
  forest_is z e = record {
    problem = problem;
    nothing = subst (λ v. IsPacked positions (unlinked_of (length positions)) v) (sym e) (packs_nothing positions);
    each = subject_is;
    ways = λ k p less.
        let n = at_node k (in_forest (forest_of nodes) k p less) in
        (are.ways k n.0 n.1).each p (way_at (forest_of nodes) k p) (way_here k p n.0 n.2 less);
    once = λ k p q c lp lq cp cq.
        let n = at_node k (in_forest (forest_of nodes) k p lp) in
        (are.ways k n.0 n.1).once p q (way_at (forest_of nodes) k p) (way_at (forest_of nodes) k q) c (way_here k p n.0 n.2 lp) (way_here k q n.0 n.2 lq) cp cq;
    all = λ k c less cut.
        let n = at_node k less in
        let r = (are.ways k n.0 n.1).all c cut in
        let at : slice_get (ways_of (forest_of nodes) k) r.0 ≡ Some r.1 = subst (λ l. slice_get l r.0 ≡ Some r.1) (sym n.2) r.2 in
        (r.0, slice_get_within (ways_of (forest_of nodes) k) r.0 r.1 at, subst (λ w. IsWayFor positions (subjects_of is.lists keys) k (subjects_of is.lists keys k) w c) (sym (get_or_from_slice_get (ways_of (forest_of nodes) k) r.0 r.1 no_way at)) r.3);
  }

  root_is : (nulls : ℕ) (root : Option ℕ) → IsRootKey positions keys nulls root → IsRoot positions (forest_of nodes) (subjects_of is.lists keys) nulls root
  root_is nulls None e = e
  root_is nulls (Some k) e =
      let l = length-map nodes (λ (n : Node). n.ways.items) in
      let m = are.long in
      let less = slice_get_within keys k (Whole nulls) e in
      (omega arith, subject_at is.lists keys k (Whole nulls) e)

  pub listing : (z : Value) (nulls : ℕ) (root : Option ℕ) → z ≡ nothing_of (length positions) → IsRootKey positions keys nulls root → IsListing positions z nodes nulls root
  listing z nulls root e r = record {
    subjects = subjects_of is.lists keys;
    forest = forest_is z e;
    table = fresh_table positions (subjects_of is.lists keys) (length keys) z nodes are;
    root_is = root_is nulls root r;
  }
