-- The linkage after the first ones of a level.
use Rattle.std.proofs.Common.{◌≡◌, ℕ, zero, suc, Bool, true, false, List, [], ◌∷◌, ◌++◌, length, get_or, Option, None, Some, slice_get, inl, inr, refl, sym, ap, ◌∙◌, subst, Less}
use Rattle.std.proofs.lemmas.Option.{slice_get-get_or}
use Rattle.lg_gram.specs.Linkages.{Linkage, linkage_cmp}
use Rattle.lg_gram.specs.declared.disjunct.Disjunct.{Disjunct}
use Rattle.lg_region.specs.Parts.{UnderWhole}
use Rattle.lg_rank.specs.Fronts.{IsFront, IsAll, IsNext}
use Rattle.lg_rank.specs.Meanings.{IsPacked}
use Rattle.lg_rank.specs.Nodes.{Has}
use Rattle.lg_rank.specs.Rankings.{IsListing, IsThere}
use Rattle.lg_rank.specs.Tables.{forest_of, parts, IsNth}
use Rattle.lg_rank.specs.Values.{Value, value_cmp}
use Rattle.lg_rank.specs.declared.node.Node.{Node}
use Rattle.lg_rank.proofs.Forests.{parts_front}
use Rattle.lg_rank.proofs.Listing.{Laws, root_values, Paired, paired_some, numbers_of, IsEntry}
use Rattle.lg_rank.proofs.Nexts.{next_some, next_none}
use Rattle.lg_rank.proofs.Orders.{linkages_total}
use Rattle.lg_rank.proofs.Packing.{packed_order, packed_apart}

all_linkages : (P : Linkage → Value → Type 0) (vs : List Value) → ((i : ℕ) (v : Value) → slice_get vs i ≡ Some v → (g : Linkage) × P g v) → (gs : List Linkage) × Paired P gs vs
all_linkages P [] h = ([], tt)
all_linkages P (v ∷ vs) h = (let a = h 0 v refl in let r = all_linkages P vs (λ i w e. h (suc i) w e) in (a.0 ∷ r.0, (a.1, r.1)))

paired_value : (P : Linkage → Value → Type 0) (gs : List Linkage) (vs : List Value) → Paired P gs vs → (i : ℕ) (g : Linkage) → slice_get gs i ≡ Some g → (v : Value) × (slice_get vs i ≡ Some v) × P g v
paired_value P [] vs h i g e = absurd cc
paired_value P (t ∷ gs) [] h i g e = absurd h
paired_value P (t ∷ gs) (w ∷ vs) h zero g e = (let f : t ≡ g = cc in (w, refl, subst (λ s. P s w) f h.0))
paired_value P (t ∷ gs) (w ∷ vs) h (suc i) g e = paired_value P gs vs h.1 i g e

-- the first linkages of the level, as many as values were made
pub record Made (positions : List (List Disjunct)) (z : Value) (nodes : List Node) (nulls : ℕ) (root : Option ℕ) : Type 0 where
  pub gs : List Linkage
  pub paired : Paired (IsEntry positions nulls) gs (parts z nodes root)
  pub front : IsFront linkage_cmp (UnderWhole positions nulls) gs
  pub find : (g : Linkage) (i : ℕ) (v : Value) → UnderWhole positions nulls g → IsPacked positions g v → slice_get (parts z nodes root) i ≡ Some v → slice_get gs i ≡ Some g

-- the value of a linkage of the level
pub value_of_one : Laws → (positions : List (List Disjunct)) (z : Value) (nodes : List Node) (nulls : ℕ) (root : Option ℕ) (g : Linkage) → IsListing positions z nodes nulls root → UnderWhole positions nulls g → (v : Value) × IsPacked positions g v × Has z (forest_of nodes) root v
value_of_one laws positions z nodes nulls root g is u =
    let v = numbers_of laws positions z nodes nulls root g is u in (v.0, v.1, (root_values laws positions z nodes nulls root is v.0).1 (g, u, v.1))

pub linkages_made : Laws → (positions : List (List Disjunct)) (z : Value) (nodes : List Node) (nulls : ℕ) (root : Option ℕ) → IsListing positions z nodes nulls root → Made positions z nodes nulls root
linkages_made laws positions z nodes nulls root is =
    let values = parts z nodes root in
    let made = parts_front z nodes is.table root in
    let r = all_linkages (IsEntry positions nulls) values (λ i v e. let p = (root_values laws positions z nodes nulls root is v).0 (made.sound i v e) in (p.0, (p.1, p.2))) in
    let value = paired_value (IsEntry positions nulls) r.0 values r.1 in
    let less : (g h : Linkage) (v w : Value) → IsEntry positions nulls g v → IsEntry positions nulls h w → value_cmp v w ≡ Less → linkage_cmp g h ≡ Less = λ g h v w p q e. (
    sym (packed_order positions g h v w is.forest.problem p.1 q.1 (p.0.good.belongs.same_length ∙ sym q.0.good.belongs.same_length) (p.0.count ∙ sym q.0.count)) ∙ e) in
    let find : (g : Linkage) (i : ℕ) (v : Value) → UnderWhole positions nulls g → IsPacked positions g v → slice_get values i ≡ Some v → slice_get r.0 i ≡ Some g = λ g i v u p e. (
    let h = paired_some (IsEntry positions nulls) r.0 values r.1 i v e in
    h.1 ∙ ap Some (packed_apart positions h.0 g v h.2.1 p (h.2.0.good.belongs.same_length ∙ sym u.good.belongs.same_length))) in
    record {
      gs = r.0;
      paired = r.1;
      front = record {
        rise = λ i j a b l p q. (let v = value i a p in let w = value j b q in less a b v.0 w.0 v.2 w.2 (made.rise i j v.0 w.0 l v.1 w.1));
        sound = λ i a p. (value i a p).2.0;
        below = λ g u. (let w = value_of_one laws positions z nodes nulls root g is u in elim (made.below w.0 w.2) [
          | inl k ↦ inl (k.0, find g k.0 w.0 u w.1 k.1)
          | inr before ↦ inr (λ i a p. let v = value i a p in less a g v.0 w.0 v.2 (u, w.1) (before i v.0 v.1))
        ]);
      };
      find = find;
    }

-- the linkage of the value at the length of a front comes next
pub front_some : Laws → (positions : List (List Disjunct)) (z : Value) (nodes : List Node) (nulls : ℕ) (root : Option ℕ) (gs : List Linkage) (v : Value) (r : Linkage) → IsListing positions z nodes nulls root → IsFront linkage_cmp (UnderWhole positions nulls) gs
    → slice_get (parts z nodes root) (length gs) ≡ Some v → ((g : Linkage) → IsPacked positions g v → length g.chosen ≡ length positions → r ≡ g) → IsFront linkage_cmp (UnderWhole positions nulls) (gs ++ r ∷ [])
front_some laws positions z nodes nulls root gs v r is front at that =
    let m = linkages_made laws positions z nodes nulls root is in
    let g = paired_some (IsEntry positions nulls) m.gs (parts z nodes root) m.paired (length gs) v at in
    next_some linkages_total (UnderWhole positions nulls) gs m.gs r front m.front (g.1 ∙ ap Some (sym (that g.0 g.2.1 g.2.0.good.belongs.same_length)))

-- where each value stands before that place, the front has all
pub front_none : Laws → (positions : List (List Disjunct)) (z : Value) (nodes : List Node) (nulls : ℕ) (root : Option ℕ) (gs : List Linkage) → IsListing positions z nodes nulls root → IsFront linkage_cmp (UnderWhole positions nulls) gs
    → IsNth z nodes root (length gs) false → IsAll (UnderWhole positions nulls) gs
front_none laws positions z nodes nulls root gs is front nth =
    let m = linkages_made laws positions z nodes nulls root is in
    next_none linkages_total (UnderWhole positions nulls) gs m.gs front m.front (λ g u. let v = value_of_one laws positions z nodes nulls root g is u in let j = nth v.0 v.2 in (j.0, j.1, m.find g j.0 v.0 u v.1 j.2))

-- whether there is one
pub front_there : Laws → (positions : List (List Disjunct)) (z : Value) (nodes : List Node) (nulls : ℕ) (root : Option ℕ) (gs : List Linkage) (there : Bool) → IsListing positions z nodes nulls root → IsFront linkage_cmp (UnderWhole positions nulls) gs
    → IsNth z nodes root (length gs) there → IsThere (IsNext linkage_cmp (UnderWhole positions nulls) gs) there
front_there laws positions z nodes nulls root gs false is front nth = (None, front_none laws positions z nodes nulls root gs is front nth, refl)
front_there laws positions z nodes nulls root gs true is front less =
    let values = parts z nodes root in
    let m = linkages_made laws positions z nodes nulls root is in
    let g = paired_some (IsEntry positions nulls) m.gs values m.paired (length gs) (get_or values (length gs) z) (slice_get-get_or values (length gs) z less) in
    (Some g.0, next_some linkages_total (UnderWhole positions nulls) gs m.gs g.0 front m.front g.1, refl)
