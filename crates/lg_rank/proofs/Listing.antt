-- The values of the whole sentence are its good linkages, in order.
use Rattle.std.proofs.Common.{◌≡◌, ◌↔◌, ℕ, zero, suc, ◌<◌, Bool, true, false, List, [], ◌∷◌, length, get_or, Option, Some, None, is_some, Contains, inl, inr, slice_get, refl, sym, ap, ◌∙◌, subst, arith, Less}
use Rattle.std.specs.Cmp.{IsTotalOrder}
use Rattle.std.specs.List.Sorted.{IsStrictlySortedBy}
use Rattle.std.proofs.lemmas.List.{get_or_default}
use Rattle.std.proofs.lemmas.List.Elements.{All-from_recursion, recursion_from_All, All-contains, Contains-get_or}
use Rattle.std.proofs.lemmas.Option.{slice_get-get_or}
use Rattle.lg_gram.specs.Levels.{IsLevel}
use Rattle.lg_gram.specs.Linkages.{Linkage, linkage_cmp, IsLinkage, HasSmallCost}
use Rattle.lg_gram.specs.Problems.{IsProblem}
use Rattle.lg_gram.specs.Rules.{Good}
use Rattle.lg_gram.specs.declared.disjunct.Disjunct.{Disjunct}
use Rattle.lg_region.specs.Parts.{UnderWhole}
use Rattle.lg_region.specs.Whole.{WholeAlternative, nothing as no_word, first, IsWholeAlternative, WholeSpelledBy}
use Rattle.lg_rank.specs.Fronts.{IsListOf}
use Rattle.lg_rank.specs.Meanings.{IsPacked, unlinked_of, Subject, whole, IsUnder, IsForestOf, ForestsStandForLinkages}
use Rattle.lg_rank.specs.Nodes.{Has}
use Rattle.lg_rank.specs.Nodes.Has.{nothing}
use Rattle.lg_rank.specs.Rankings.{IsRoot, IsListing}
use Rattle.lg_rank.specs.Tables.{forest_of, parts, IsTable, IsNth}
use Rattle.lg_rank.specs.Values.{Value, value_cmp}
use Rattle.lg_rank.specs.declared.node.Node.{Node}
use Rattle.lg_rank.specs.declared.part.Way.{Way}
use Rattle.lg_rank.proofs.Forests.{parts_front}
use Rattle.lg_base.proofs.Elements.{contains_here, contains_later, contains_cases, contains_none}
use Rattle.lg_rank.proofs.Meaning.{Packs, empty_is, has_nothing, unlinked_part, unlinked_empty}
use Rattle.lg_rank.proofs.Ordered.{good_end}
use Rattle.lg_rank.proofs.Packing.{packed_order, packed_same}
use Rattle.lg_rank.proofs.Sizes.{disjunct_cost, count_links}
use Rattle.lg_rank.proofs.Taking.{one_place}
use Rattle.lg_region.specs.Laws.{SentencesAreCutOnce}

-- the laws that are needed
pub record Laws : Type 0 where
  pub stand : ForestsStandForLinkages
  pub sentences : SentencesAreCutOnce

-- ---- where all positions are unlinked
only_one : (positions : List (List Disjunct)) (nulls : ℕ) (g : Linkage) (a : WholeAlternative) → nulls ≡ length positions → IsWholeAlternative positions nulls a → WholeSpelledBy positions a g → g ≡ unlinked_of (length positions)
only_one positions nulls g no_word e alt s = empty_is positions g s.0 s.1
only_one positions nulls g (first c) e alt s = absurd (let a = alt.few in let b = alt.before in omega arith)

pub root_values : Laws → (positions : List (List Disjunct)) (z : Value) (nodes : List Node) (nulls : ℕ) (root : Option ℕ) → (is : IsListing positions z nodes nulls root) → (v : Value) → Has z (forest_of nodes) root v ↔ Packs positions (whole nulls) v
root_values laws positions z nodes nulls (Some k) is v =
    let w = laws.stand.values positions z (forest_of nodes) is.subjects k v is.forest is.root_is.0 in
    subst (λ (s : Subject). Has z (forest_of nodes) (Some k) v ↔ Packs positions s v) is.root_is.1 w
root_values laws positions z nodes nulls None is v = (
  (λ h. (
    unlinked_of (length positions),
    laws.sentences.sound positions nulls (unlinked_of (length positions)) no_word is.root_is ((unlinked_part positions 0 0).belongs, unlinked_empty positions),
    subst (λ t. IsPacked positions (unlinked_of (length positions)) t) (sym (has_nothing z (forest_of nodes) None v h refl)) is.forest.nothing,
  )),
  (λ p. (
      let a = laws.sentences.some positions nulls p.0 p.1 in
      let e = only_one positions nulls p.0 a.0 is.root_is a.1 a.2 in
      nothing None v refl (packed_same positions (unlinked_of (length positions)) v z is.forest.problem (subst (λ t. IsPacked positions t v) e p.2) is.forest.nothing))),
)

-- ---- the level in numbers
-- each linkage of the first list is a value of the second at its place
abbrev pub Paired : (Linkage → Value → Type 0) → List Linkage → List Value → Type 0
Paired P [] [] = Unit {0}
Paired P [] (v ∷ vs) = ⊥
Paired P (g ∷ gs) [] = ⊥
Paired P (g ∷ gs) (v ∷ vs) = P g v × Paired P gs vs

all_paired : (P : Linkage → Value → Type 0) (gs : List Linkage) → ((g : Linkage) → Contains gs g → (v : Value) × P g v) → (vs : List Value) × Paired P gs vs
all_paired P [] h = ([], tt)
all_paired P (g ∷ gs) h = (let a = h g (contains_here g gs) in let r = all_paired P gs (λ t i. h t (contains_later g gs t i)) in (a.0 ∷ r.0, (a.1, r.1)))

paired_in : (P : Linkage → Value → Type 0) (gs : List Linkage) (vs : List Value) → Paired P gs vs → (v : Value) → Contains vs v → (g : Linkage) × Contains gs g × P g v
paired_in P [] [] h v i = absurd (contains_none v i)
paired_in P [] (w ∷ vs) h v i = absurd h
paired_in P (g ∷ gs) [] h v i = absurd h
paired_in P (g ∷ gs) (w ∷ vs) h v i =
    elim (contains_cases w vs v i) [
      | inl e ↦ (g, contains_here g gs, subst (λ t. P g t) e h.0)
      | inr j ↦ (let r = paired_in P gs vs h.1 v j in (r.0, contains_later g gs r.0 r.1, r.2))
    ]

paired_out : (P : Linkage → Value → Type 0) (gs : List Linkage) (vs : List Value) → Paired P gs vs → (g : Linkage) → Contains gs g → (v : Value) × Contains vs v × P g v
paired_out P [] vs h g i = absurd (contains_none g i)
paired_out P (t ∷ gs) [] h g i = absurd h
paired_out P (t ∷ gs) (w ∷ vs) h g i =
    elim (contains_cases t gs g i) [
      | inl e ↦ (w, contains_here w vs, subst (λ s. P s w) e h.0)
      | inr j ↦ (let r = paired_out P gs vs h.1 g j in (r.0, contains_later w vs r.0 r.1, r.2))
    ]

pub paired_some : (P : Linkage → Value → Type 0) (gs : List Linkage) (vs : List Value) → Paired P gs vs → (i : ℕ) (v : Value) → slice_get vs i ≡ Some v → (g : Linkage) × (slice_get gs i ≡ Some g) × P g v
paired_some P [] [] h i v e = absurd cc
paired_some P [] (w ∷ vs) h i v e = absurd h
paired_some P (g ∷ gs) [] h i v e = absurd h
paired_some P (g ∷ gs) (w ∷ vs) h zero v e = (let f : w ≡ v = cc in (g, refl, subst (λ t. P g t) f h.0))
paired_some P (g ∷ gs) (w ∷ vs) h (suc i) v e = paired_some P gs vs h.1 i v e

paired_none : (P : Linkage → Value → Type 0) (gs : List Linkage) (vs : List Value) → Paired P gs vs → (i : ℕ) → slice_get vs i ≡ None → slice_get gs i ≡ None
paired_none P [] vs h i e = refl
paired_none P (g ∷ gs) [] h i e = absurd h
paired_none P (g ∷ gs) (w ∷ vs) h zero e = absurd cc
paired_none P (g ∷ gs) (w ∷ vs) h (suc i) e = paired_none P gs vs h.1 i e

paired_rise : (P : Linkage → Value → Type 0) → ((g h : Linkage) (v w : Value) → P g v → P h w → linkage_cmp g h ≡ Less → value_cmp v w ≡ Less) → (gs : List Linkage) (vs : List Value) → Paired P gs vs → IsStrictlySortedBy linkage_cmp gs → IsStrictlySortedBy value_cmp vs
unfolding IsStrictlySortedBy
paired_rise P order [] [] h up = tt
paired_rise P order [] (v ∷ vs) h up = absurd h
paired_rise P order (g ∷ gs) [] h up = absurd h
paired_rise P order (g ∷ gs) (v ∷ vs) h up =
    let first : (w : Value) → Contains vs w → value_cmp v w ≡ Less = λ w i. (
    let r = paired_in P gs vs h.1 w i in
    order g r.0 v w h.0 r.2 (All-contains (λ t. linkage_cmp g t ≡ Less) gs r.0 (All-from_recursion (λ t. linkage_cmp g t ≡ Less) gs up.0) r.1)) in
    (recursion_from_All (λ w. value_cmp v w ≡ Less) vs (λ k d l. first (get_or vs k d) (Contains-get_or vs k d l)), paired_rise P order gs vs h.1 up.1)

pub numbers_of : Laws → (positions : List (List Disjunct)) (z : Value) (nodes : List Node) (nulls : ℕ) (root : Option ℕ) (g : Linkage) → IsListing positions z nodes nulls root → UnderWhole positions nulls g → (v : Value) × IsPacked positions g v
numbers_of laws positions z nodes nulls (Some k) g is u = laws.stand.numbers positions z (forest_of nodes) is.subjects k g is.forest is.root_is.0 (subst (λ (s : Subject). IsUnder positions s g) (sym is.root_is.1) u)
numbers_of laws positions z nodes nulls None g is u = (let a = laws.sentences.some positions nulls g u in (z, subst (λ t. IsPacked positions t z) (sym (only_one positions nulls g a.0 is.root_is a.1 a.2)) is.forest.nothing))

-- a linkage of the level with its value
abbrev pub IsEntry : List (List Disjunct) → ℕ → Linkage → Value → Type 0
IsEntry positions nulls g v = UnderWhole positions nulls g × IsPacked positions g v

-- the values of the whole sentence, one for each linkage of its level
pub record Packed (positions : List (List Disjunct)) (z : Value) (nodes : List Node) (nulls : ℕ) (root : Option ℕ) (level : List Linkage) : Type 0 where
  pub all : List Value
  pub paired : Paired (IsEntry positions nulls) level all
  pub list : IsListOf value_cmp (Has z (forest_of nodes) root) all

pub level_packed : Laws → (positions : List (List Disjunct)) (z : Value) (nodes : List Node) (nulls : ℕ) (root : Option ℕ) (level : List Linkage) → IsListing positions z nodes nulls root → IsLevel positions nulls level → Packed positions z nodes nulls root level
level_packed laws positions z nodes nulls root level is lev =
    let problem = is.forest.problem in
    let values = root_values laws positions z nodes nulls root is in
    let entry : (g : Linkage) → Contains level g → (v : Value) × IsEntry positions nulls g v = λ g i. (
    let good = (lev.exactly g).0 i in
    let u : UnderWhole positions nulls g = record { good = good.0; count = good.1 } in
    let p = numbers_of laws positions z nodes nulls root g is u in
    (p.0, (u, p.1))) in
    let r = all_paired (IsEntry positions nulls) level entry in
    record {
      all = r.0;
      paired = r.1;
      list = record {
        rise = paired_rise (IsEntry positions nulls) (λ g h v w p q less. packed_order positions g h v w problem p.1 q.1 (p.0.good.belongs.same_length ∙ sym q.0.good.belongs.same_length) (p.0.count ∙ sym q.0.count) ∙ less) level r.0 r.1 lev.rise;
        exactly = λ v. (
          (λ i. let t = paired_in (IsEntry positions nulls) level r.0 r.1 v i in (values v).1 (t.0, t.2.0, t.2.1)),
          (λ h. let p = (values v).0 h in
              let i = (lev.exactly p.0).1 (p.1.good, p.1.count) in
              let t = paired_out (IsEntry positions nulls) level r.0 r.1 p.0 i in
              subst (λ w. Contains r.0 w) (packed_same positions p.0 t.0 v problem t.2.1 p.2) t.1),
        );
      };
    }

-- ---- what is given
small_choice : (positions : List (List Disjunct)) (i : ℕ) (o : Option Disjunct) → IsProblem positions → ((d : Disjunct) → o ≡ Some d → Contains (get_or positions i []) d) → HasSmallCost o
small_choice positions i None problem h = tt
small_choice positions i (Some d) problem h = disjunct_cost positions problem i d (h d refl)

-- a good linkage of a problem is within the limits
pub good_fits : (positions : List (List Disjunct)) (g : Linkage) → IsProblem positions → Good positions g → IsLinkage g
good_fits positions g problem good =
    let few = problem.few in
    let same = good.belongs.same_length in
    let links = count_links g.links good.belongs.set good.rules.exclusive (λ l i. (good.rules.matched.forward l i, (let e = good_end positions g l good i in omega arith))) in
    record {
      few = omega arith;
      few_links = omega arith;
      forward = λ k d l. good.rules.matched.forward (get_or g.links k d) (Contains-get_or g.links k d l);
      rise = good.belongs.set;
      costs = λ k d l. subst (λ (o : Option Disjunct). HasSmallCost o) (get_or_default g.chosen k None d l) (small_choice positions k (get_or g.chosen k None) problem (λ e f. good.belongs.listed k e f));
    }

-- a value that was made is that of one linkage
pub made_packs : Laws → (positions : List (List Disjunct)) (z : Value) (nodes : List Node) (nulls : ℕ) (root : Option ℕ) (i : ℕ) (v : Value) → IsListing positions z nodes nulls root → slice_get (parts z nodes root) i ≡ Some v → Packs positions (whole nulls) v × Unit {0}
made_packs laws positions z nodes nulls root i v is at = ((root_values laws positions z nodes nulls root is v).0 ((parts_front z nodes is.table root).sound i v at), tt)

-- the linkage at i of the level
pub level_some : Laws → (positions : List (List Disjunct)) (z : Value) (old new : List Node) (nulls : ℕ) (root : Option ℕ) (level : List Linkage) (i : ℕ) (v : Value) (r : Linkage) → IsListing positions z old nulls root → IsLevel positions nulls level
    → ((all : List Value) → IsListOf value_cmp (Has z (forest_of old) root) all → slice_get all i ≡ slice_get (parts z new root) i) → slice_get (parts z new root) i ≡ Some v → ((g : Linkage) → IsPacked positions g v → length g.chosen ≡ length positions → r ≡ g) → Some r ≡ slice_get level i
level_some laws positions z old new nulls root level i v r is lev listed at that =
    let p = level_packed laws positions z old nulls root level is lev in
    let g = paired_some (IsEntry positions nulls) level p.all p.paired i v (listed p.all p.list ∙ at) in
    ap Some (that g.0 g.2.1 g.2.0.good.belongs.same_length) ∙ sym g.1

-- or none
pub level_none : Laws → (positions : List (List Disjunct)) (z : Value) (old new : List Node) (nulls : ℕ) (root : Option ℕ) (level : List Linkage) (i : ℕ) → IsListing positions z old nulls root → IsLevel positions nulls level → IsTable z new → IsTotalOrder value_cmp
    → ((all : List Value) → IsListOf value_cmp (Has z (forest_of old) root) all → slice_get all i ≡ slice_get (parts z new root) i) → IsNth z new root i false → None ≡ slice_get level i
level_none laws positions z old new nulls root level i is lev table total listed nth =
    let p = level_packed laws positions z old nulls root level is lev in
    sym (paired_none (IsEntry positions nulls) level p.all p.paired i (listed p.all p.list ∙ no_value (slice_get (parts z new root) i) refl))
  where
    no_value : (o : Option Value) → slice_get (parts z new root) i ≡ o → o ≡ None
    no_value None e = refl
    no_value (Some v) e =
        let front = parts_front z new table root in
        let j = nth v (front.sound i v e) in
        absurd (let same = one_place total (parts z new root) front i j.0 v e j.2 in let less = j.1 in omega arith)

-- whether there is one
pub level_there : Laws → (positions : List (List Disjunct)) (z : Value) (old new : List Node) (nulls : ℕ) (root : Option ℕ) (level : List Linkage) (i : ℕ) (there : Bool) → IsListing positions z old nulls root → IsLevel positions nulls level → IsTable z new → IsTotalOrder value_cmp
    → ((all : List Value) → IsListOf value_cmp (Has z (forest_of old) root) all → slice_get all i ≡ slice_get (parts z new root) i) → IsNth z new root i there → there ≡ is_some (slice_get level i)
level_there laws positions z old new nulls root level i false is lev table total listed nth = ap is_some (level_none laws positions z old new nulls root level i is lev table total listed nth)
level_there laws positions z old new nulls root level i true is lev table total listed less =
    let values = parts z new root in
    let p = level_packed laws positions z old nulls root level is lev in
    let g = paired_some (IsEntry positions nulls) level p.all p.paired i (get_or values i z) (listed p.all p.list ∙ slice_get-get_or values i z less) in
    ap is_some (sym g.1)

pub still_listing : (positions : List (List Disjunct)) (z : Value) (old new : List Node) (nulls : ℕ) (root : Option ℕ) → IsTable z new → forest_of new ≡ forest_of old → IsListing positions z old nulls root → IsListing positions z new nulls root
still_listing positions z old new nulls root table same is = record {
  subjects = is.subjects;
  forest = subst (λ (f : List (List Way)). IsForestOf positions z f is.subjects) (sym same) is.forest;
  table = table;
  root_is = subst (λ (f : List (List Way)). IsRoot positions f is.subjects nulls root) (sym same) is.root_is;
}

map_long : (nodes : List Node) → length (forest_of nodes) ≡ length nodes
map_long [] = refl
map_long (n ∷ nodes) = ap suc (map_long nodes)

pub root_in : (positions : List (List Disjunct)) (z : Value) (nodes : List Node) (nulls : ℕ) (root : Option ℕ) → IsListing positions z nodes nulls root → (j : ℕ) → root ≡ Some j → j < length nodes
root_in positions z nodes nulls None is j e = absurd cc
root_in positions z nodes nulls (Some k) is j e = (let f : k ≡ j = cc in let a = is.root_is.0 in let b = map_long nodes in omega arith)
