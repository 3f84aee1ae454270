-- A forest that stands for regions keeps the laws of the merge.
use Rattle.std.proofs.Common.{◌≡◌, ℕ, ◌^◌, ◌<◌, ◌≤◌, Bool, false, cond, ◌==◌, IsSome, List, [], length, get_or, Option, Some, None, Contains, inl, inr, slice_get, refl, sym, ap, ◌∙◌, subst, arith, Less, ℤ, pos, neg_ℤ, ◌≤ℤ◌}
use Rattle.std.specs.Cmp.{IsTotalOrder}
use Rattle.std.proofs.lemmas.Bool.{cases_lt}
use Rattle.std.proofs.lemmas.Bool.Decides.{nat_tests}
use Rattle.std.proofs.lemmas.Cmp.{on_total, then_total, nat_cmp_total, int_cmp_total, lists_total, tied_itself}
use Rattle.std.proofs.lemmas.Int.{ints}
use Rattle.std.proofs.lemmas.List.{length-replicate, get_or_past}
use Rattle.std.proofs.lemmas.Option.{slice_get_within}
use Rattle.lg_gram.specs.Limits.{DISJUNCT_COST}
use Rattle.lg_gram.specs.Linkages.{Linkage, linkage_cmp}
use Rattle.lg_gram.specs.Problems.{IsProblem}
use Rattle.lg_gram.specs.Connectors.{Connector}
use Rattle.lg_gram.specs.Rules.{HasLink, Good, chosen_at, left_list}
use Rattle.lg_gram.specs.declared.disjunct.Disjunct.{Disjunct}
use Rattle.lg_gram.specs.declared.linkage.Link.{Link}
use Rattle.lg_region.specs.declared.key.Joint.{Joint}
use Rattle.lg_region.specs.Cuts.{Split, IsValid, Spells, Alternative, all_null, split}
use Rattle.lg_region.specs.Parts.{Region, Under, part_of, lefts_in}
use Rattle.lg_region.specs.Whole.{First, SpellsFirst, WholeAlternative, nothing as no_word, first}
use Rattle.lg_rank.specs.Meanings.{IsPacked, IsWord, joint_link, length_of, unlinked_of, Subject, whole, region, IsUnder, IsSubject, IsPartFor, IsSplitWay, IsFirstWay, Cutting, split_at, begins_at, IsWayFor, IsForestOf, ForestsStandForLinkages}
use Rattle.lg_rank.specs.Merges.{Laws as MergeLaws}
use Rattle.lg_rank.specs.Nodes.{Has, ways_of, way_at, setting, IsForest}
use Rattle.lg_rank.specs.Nodes.Has.{nothing, made}
use Rattle.lg_rank.specs.Values.{Value, value_cmp, combine, IsSmall, IsSmallWay}
use Rattle.lg_rank.specs.declared.part.Way.{Way}
use Rattle.lg_rank.proofs.Choosing.{same_value}
use Rattle.lg_base.proofs.Elements.{contains_none}
use Rattle.lg_rank.proofs.Meaning.{Laws, Packs, split_packed, first_packed, part_sound, has_nothing, in_forest, sound, complete, unlinked_part}
use Rattle.lg_rank.proofs.Orders.{ties_total}
use Rattle.lg_rank.proofs.Packing.{packed_order, packed_apart, packed_same}
use Rattle.lg_rank.proofs.Sizes.{same_unlinked, small_packed, disjunct_cost}

pub value_total : IsTotalOrder value_cmp
value_total =
    then_total (on_total (λ v. v.cost) int_cmp_total)
    (then_total (on_total (λ v. v.span) nat_cmp_total)
    (then_total (on_total (λ v. v.choices) (lists_total nat_cmp_total)) (on_total (λ v. v.links) (lists_total ties_total))))

-- all that is known of a forest
record Known (positions : List (List Disjunct)) (z : Value) (forest : List (List Way)) (subjects : ℕ → Subject) : Type 0 where
  laws : Laws
  is : IsForestOf positions z forest subjects

-- ---- linkages of one region, in numbers
region_order : Laws → (positions : List (List Disjunct)) (r : Region) (g h : Linkage) (v w : Value) → IsProblem positions → IsValid positions r → Under positions r g → Under positions r h → IsPacked positions g v → IsPacked positions h w → value_cmp v w ≡ linkage_cmp g h
region_order laws positions r g h v w problem valid u t p q =
    packed_order positions g h v w problem p q (u.part.belongs.same_length ∙ sym t.part.belongs.same_length) (same_unlinked positions r g h valid.ends valid.within u t)

-- what the two parts of a cut make
record Two (positions : List (List Disjunct)) (r : Region) (c : Split) (w : Way) (x y : Value) : Type 0 where
  a : Linkage
  b : Linkage
  g : Linkage
  under_a : Under positions c.lkey a
  under_b : Under positions c.rkey b
  under : Under positions r g
  spells : Spells positions r c g
  part_a : part_of r.left c.word g ≡ a
  part_b : part_of c.word r.right g ≡ b
  packed_a : IsPacked positions a x
  packed_b : IsPacked positions b y
  packed : IsPacked positions g (combine w x y)

two : (positions : List (List Disjunct)) (z : Value) (forest : List (List Way)) (subjects : ℕ → Subject) → Known positions z forest subjects → (k : ℕ) (r : Region) (c : Split) (w : Way) (x y : Value) → IsValid positions r → IsSplitWay positions subjects k r w c → Has z forest w.left x → Has z forest w.right y → Two positions r c w x y
two positions z forest subjects known k r c w x y valid way hx hy =
    let laws = known.laws in
    let v = laws.valid.split positions r c valid way.cut in
    let p = part_sound laws positions z forest subjects known.is k w.left x c.lkey v.0 hx way.left (sound laws positions z forest subjects known.is w.left x hx) in
    let q = part_sound laws positions z forest subjects known.is k w.right y c.rkey v.1 hy way.right (sound laws positions z forest subjects known.is w.right y hy) in
    let m = laws.parts.some positions r c p.0 q.0 valid way.cut p.1 q.1 in
    record {
      a = p.0;
      b = q.0;
      g = m.0;
      under_a = p.1;
      under_b = q.1;
      under = laws.regions.sound positions r m.0 valid.ends (split c) way.cut m.1;
      spells = m.1;
      part_a = m.2;
      part_b = m.3;
      packed_a = p.2;
      packed_b = q.2;
      packed = split_packed laws positions subjects k r w c m.0 p.0 q.0 x y valid way m.1 m.2 m.3 (record { one = p.2; other = q.2 });
    }

-- what a first word makes of its one part
record One (positions : List (List Disjunct)) (nulls : ℕ) (c : First) (w : Way) (z x y : Value) : Type 0 where
  left : x ≡ z
  b : Linkage
  g : Linkage
  under_b : Under positions c.rkey b
  under : IsUnder positions (whole nulls) g
  spells : SpellsFirst positions c g
  part_b : part_of c.word (length positions) g ≡ b
  packed_b : IsPacked positions b y
  packed : IsPacked positions g (combine w x y)

one : (positions : List (List Disjunct)) (z : Value) (forest : List (List Way)) (subjects : ℕ → Subject) → Known positions z forest subjects → (k nulls : ℕ) (c : First) (w : Way) (x y : Value) → IsFirstWay positions subjects k nulls w c → Has z forest w.left x → Has z forest w.right y → One positions nulls c w z x y
one positions z forest subjects known k nulls c w x y way hx hy =
    let laws = known.laws in
    let q = part_sound laws positions z forest subjects known.is k w.right y c.rkey (laws.valid.first positions nulls c way.first) hy way.right (sound laws positions z forest subjects known.is w.right y hy) in
    let m = laws.parts.some_first positions nulls c q.0 way.first q.1 in
    let e = has_nothing z forest w.left x hx way.left in
    record {
      left = e;
      b = q.0;
      g = m.0;
      under_b = q.1;
      under = laws.sentences.sound positions nulls m.0 (first c) way.first m.1;
      spells = m.1;
      part_b = m.2;
      packed_b = q.2;
      packed = first_packed positions subjects k nulls w c m.0 q.0 x y way m.1 m.2 (subst (λ t. IsPacked positions (unlinked_of (length positions)) t) (sym e) known.is.nothing) q.2;
    }

-- ---- the order follows that of the left part
left_grows : (positions : List (List Disjunct)) (z : Value) (forest : List (List Way)) (subjects : ℕ → Subject) → Known positions z forest subjects → (k : ℕ) (s : Subject) (c : Cutting) (w : Way) (x u y : Value) → IsSubject positions s → IsWayFor positions subjects k s w c
    → Has z forest w.left x → Has z forest w.left u → Has z forest w.right y → value_cmp x u ≡ Less → value_cmp (combine w x y) (combine w u y) ≡ Less
left_grows positions z forest subjects known k (whole nulls) (split_at c) w x u y sub way hx hu hy less = absurd way
left_grows positions z forest subjects known k (region r) (begins_at c) w x u y sub way hx hu hy less = absurd way
left_grows positions z forest subjects known k (whole nulls) (begins_at c) w x u y sub way hx hu hy less =
    let e = has_nothing z forest w.left x hx way.left ∙ sym (has_nothing z forest w.left u hu way.left) in
    absurd (let f = tied_itself value_total u in let g : value_cmp u u ≡ Less = subst (λ (t : Value). value_cmp t u ≡ Less) e less in cc)
left_grows positions z forest subjects known k (region r) (split_at c) w x u y sub way hx hu hy less =
    let v = known.laws.valid.split positions r c sub.0 way.cut in
    let m = two positions z forest subjects known k r c w x y sub.0 way hx hy in
    let n = two positions z forest subjects known k r c w u y sub.0 way hu hy in
    let problem = known.is.problem in
    let parts : linkage_cmp m.a n.a ≡ Less = sym (region_order known.laws positions c.lkey m.a n.a x u problem v.0 m.under_a n.under_a m.packed_a n.packed_a) ∙ less in
    let same : m.b ≡ n.b = packed_apart positions m.b n.b y m.packed_b n.packed_b (m.under_b.part.belongs.same_length ∙ sym n.under_b.part.belongs.same_length) in
    region_order known.laws positions r m.g n.g (combine w x y) (combine w u y) problem sub.0 m.under n.under m.packed n.packed
    ∙ known.laws.keep.left positions r c m.g n.g way.cut m.spells n.spells (m.part_b ∙ same ∙ sym n.part_b) ((λ i. linkage_cmp (m.part_a i) (n.part_a i)) ∙ parts)

right_grows : (positions : List (List Disjunct)) (z : Value) (forest : List (List Way)) (subjects : ℕ → Subject) → Known positions z forest subjects → (k : ℕ) (s : Subject) (c : Cutting) (w : Way) (x y u : Value) → IsSubject positions s → IsWayFor positions subjects k s w c
    → Has z forest w.left x → Has z forest w.right y → Has z forest w.right u → value_cmp y u ≡ Less → value_cmp (combine w x y) (combine w x u) ≡ Less
right_grows positions z forest subjects known k (whole nulls) (split_at c) w x y u sub way hx hy hu less = absurd way
right_grows positions z forest subjects known k (region r) (begins_at c) w x y u sub way hx hy hu less = absurd way
right_grows positions z forest subjects known k (whole nulls) (begins_at c) w x y u sub way hx hy hu less =
    let v = known.laws.valid.first positions nulls c way.first in
    let m = one positions z forest subjects known k nulls c w x y way hx hy in
    let n = one positions z forest subjects known k nulls c w x u way hx hu in
    let problem = known.is.problem in
    let parts : linkage_cmp m.b n.b ≡ Less = sym (region_order known.laws positions c.rkey m.b n.b y u problem v m.under_b n.under_b m.packed_b n.packed_b) ∙ less in
    packed_order positions m.g n.g (combine w x y) (combine w x u) problem m.packed n.packed (m.spells.belongs.same_length ∙ sym n.spells.belongs.same_length) (m.under.count ∙ sym n.under.count)
    ∙ known.laws.keep.first positions nulls c m.g n.g way.first m.spells n.spells ((λ i. linkage_cmp (m.part_b i) (n.part_b i)) ∙ parts)
right_grows positions z forest subjects known k (region r) (split_at c) w x y u sub way hx hy hu less =
    let v = known.laws.valid.split positions r c sub.0 way.cut in
    let m = two positions z forest subjects known k r c w x y sub.0 way hx hy in
    let n = two positions z forest subjects known k r c w x u sub.0 way hx hu in
    let problem = known.is.problem in
    let parts : linkage_cmp m.b n.b ≡ Less = sym (region_order known.laws positions c.rkey m.b n.b y u problem v.1 m.under_b n.under_b m.packed_b n.packed_b) ∙ less in
    let same : m.a ≡ n.a = packed_apart positions m.a n.a x m.packed_a n.packed_a (m.under_a.part.belongs.same_length ∙ sym n.under_a.part.belongs.same_length) in
    region_order known.laws positions r m.g n.g (combine w x y) (combine w x u) problem sub.0 m.under n.under m.packed n.packed
    ∙ known.laws.keep.right positions r c m.g n.g way.cut m.spells n.spells (m.part_a ∙ same ∙ sym n.part_a) ((λ i. linkage_cmp (m.part_b i) (n.part_b i)) ∙ parts)

-- ---- each value is made in one way
split_in : Alternative → Split → Split
split_in (split c) d = c
split_in all_null d = d

first_in : WholeAlternative → First → First
first_in (first c) d = c
first_in no_word d = d

-- the same cutting, and the same parts
record SameWay (p q : ℕ) (x y u v : Value) : Type 0 where
  way : p ≡ q
  left : x ≡ u
  right : y ≡ v

same_way : (positions : List (List Disjunct)) (z : Value) (forest : List (List Way)) (subjects : ℕ → Subject) → Known positions z forest subjects → (k p q : ℕ) (s : Subject) (c d : Cutting) (x y u v : Value) → p < length (ways_of forest k) → q < length (ways_of forest k) → subjects k ≡ s → IsSubject positions s
    → IsWayFor positions subjects k s (way_at forest k p) c → IsWayFor positions subjects k s (way_at forest k q) d → Has z forest (way_at forest k p).left x → Has z forest (way_at forest k p).right y → Has z forest (way_at forest k q).left u → Has z forest (way_at forest k q).right v
    → combine (way_at forest k p) x y ≡ combine (way_at forest k q) u v → SameWay p q x y u v
unfolding split_in first_in
same_way positions z forest subjects known k p q (whole nulls) (split_at c) d x y u v p_in q_in es sub way way' hx hy hu hv e = absurd way
same_way positions z forest subjects known k p q (whole nulls) (begins_at c) (split_at d) x y u v p_in q_in es sub way way' hx hy hu hv e = absurd way'
same_way positions z forest subjects known k p q (region r) (begins_at c) d x y u v p_in q_in es sub way way' hx hy hu hv e = absurd way
same_way positions z forest subjects known k p q (region r) (split_at c) (begins_at d) x y u v p_in q_in es sub way way' hx hy hu hv e = absurd way'
same_way positions z forest subjects known k p q (whole nulls) (begins_at c) (begins_at d) x y u v p_in q_in es sub way way' hx hy hu hv e =
    let m = one positions z forest subjects known k nulls c (way_at forest k p) x y way hx hy in
    let n = one positions z forest subjects known k nulls d (way_at forest k q) u v way' hu hv in
    let g : m.g ≡ n.g = packed_apart positions m.g n.g (combine (way_at forest k p) x y) m.packed (subst (λ t. IsPacked positions n.g t) (sym e) n.packed) (m.spells.belongs.same_length ∙ sym n.spells.belongs.same_length) in
    let cuts : c ≡ d = ap (λ t. first_in t c) (known.laws.sentences.one positions nulls n.g (first c) (first d) way.first (subst (λ t. SpellsFirst positions c t) g m.spells) way'.first n.spells) in
    let way'' = subst (λ (t : First). IsFirstWay positions subjects k nulls (way_at forest k q) t) (sym cuts) way' in
    let b : m.b ≡ n.b = sym m.part_b ∙ (λ i. part_of (cuts i).word (length positions) (g i)) ∙ n.part_b in
    record {
      way = known.is.once k p q (begins_at c) p_in q_in (subst (λ (t : Subject). IsWayFor positions subjects k t (way_at forest k p) (begins_at c)) (sym es) way) (subst (λ (t : Subject). IsWayFor positions subjects k t (way_at forest k q) (begins_at c)) (sym es) way'');
      left = m.left ∙ sym n.left;
      right = packed_same positions m.b y v known.is.problem m.packed_b (subst (λ t. IsPacked positions t v) (sym b) n.packed_b);
    }
same_way positions z forest subjects known k p q (region r) (split_at c) (split_at d) x y u v p_in q_in es sub way way' hx hy hu hv e =
    let m = two positions z forest subjects known k r c (way_at forest k p) x y sub.0 way hx hy in
    let n = two positions z forest subjects known k r d (way_at forest k q) u v sub.0 way' hu hv in
    let g : m.g ≡ n.g = packed_apart positions m.g n.g (combine (way_at forest k p) x y) m.packed (subst (λ t. IsPacked positions n.g t) (sym e) n.packed) (m.under.part.belongs.same_length ∙ sym n.under.part.belongs.same_length) in
    let cuts : c ≡ d = ap (λ t. split_in t c) (known.laws.regions.one positions r n.g (split c) (split d) way.cut (subst (λ t. Spells positions r c t) g m.spells) way'.cut n.spells) in
    let way'' = subst (λ (t : Split). IsSplitWay positions subjects k r (way_at forest k q) t) (sym cuts) way' in
    let a : m.a ≡ n.a = sym m.part_a ∙ (λ i. part_of r.left (cuts i).word (g i)) ∙ n.part_a in
    let b : m.b ≡ n.b = sym m.part_b ∙ (λ i. part_of (cuts i).word r.right (g i)) ∙ n.part_b in
    record {
      way = known.is.once k p q (split_at c) p_in q_in (subst (λ (t : Subject). IsWayFor positions subjects k t (way_at forest k p) (split_at c)) (sym es) way) (subst (λ (t : Subject). IsWayFor positions subjects k t (way_at forest k q) (split_at c)) (sym es) way'');
      left = packed_same positions m.a x u known.is.problem m.packed_a (subst (λ t. IsPacked positions t u) (sym a) n.packed_a);
      right = packed_same positions m.b y v known.is.problem m.packed_b (subst (λ t. IsPacked positions t v) (sym b) n.packed_b);
    }

merge_laws : (positions : List (List Disjunct)) (z : Value) (forest : List (List Way)) (subjects : ℕ → Subject) → Known positions z forest subjects → (k : ℕ) → MergeLaws (setting z forest k) (length (ways_of forest k))
merge_laws positions z forest subjects known k = record {
  total = value_total;
  same = λ v w p q e. same_value v w e;
  grows_left = λ p x u y less hx hu hy lt. (let c = known.is.ways k p less in left_grows positions z forest subjects known k (subjects k) c.0 (way_at forest k p) x u y (known.is.each k (in_forest forest k p less)) c.1 hx hu hy lt);
  grows_right = λ p x y u less hx hy hu lt. (let c = known.is.ways k p less in right_grows positions z forest subjects known k (subjects k) c.0 (way_at forest k p) x y u (known.is.each k (in_forest forest k p less)) c.1 hx hy hu lt);
  one = λ p q x y u v p_in q_in hx hy hu hv e. (
      let c = known.is.ways k p p_in in
      let d = known.is.ways k q q_in in
      let s = same_way positions z forest subjects known k p q (subjects k) c.0 d.0 x y u v p_in q_in refl (known.is.each k (in_forest forest k p p_in)) c.1 d.1 hx hy hu hv e in
      (s.way, s.left, s.right));
}

-- ---- numbers far from the ends of their types
part_below : (subjects : ℕ → Subject) (k : ℕ) (o : Option ℕ) (r : Region) (j : ℕ) → IsPartFor subjects k o r → o ≡ Some j → j < k
part_below subjects k None r j p e = absurd cc
part_below subjects k (Some i) r j p e = (let f : i ≡ j = cc in let a = p.0 in omega arith)

left_under : (positions : List (List Disjunct)) (subjects : ℕ → Subject) (k : ℕ) (s : Subject) (c : Cutting) (w : Way) (j : ℕ) → IsWayFor positions subjects k s w c → w.left ≡ Some j → j < k
left_under positions subjects k (whole nulls) (split_at c) w j way e = absurd way
left_under positions subjects k (whole nulls) (begins_at c) w j way e = absurd (let f : ◌≡◌ {A = Option ℕ} None (Some j) = sym way.left ∙ e in cc)
left_under positions subjects k (region r) (begins_at c) w j way e = absurd way
left_under positions subjects k (region r) (split_at c) w j way e = part_below subjects k w.left c.lkey j way.left e

right_under : (positions : List (List Disjunct)) (subjects : ℕ → Subject) (k : ℕ) (s : Subject) (c : Cutting) (w : Way) (j : ℕ) → IsWayFor positions subjects k s w c → w.right ≡ Some j → j < k
right_under positions subjects k (whole nulls) (split_at c) w j way e = absurd way
right_under positions subjects k (whole nulls) (begins_at c) w j way e = part_below subjects k w.right c.rkey j way.right e
right_under positions subjects k (region r) (begins_at c) w j way e = absurd way
right_under positions subjects k (region r) (split_at c) w j way e = part_below subjects k w.right c.rkey j way.right e

joint_length : (o : Option Joint) (L R : ℕ) → R < 256 → length_of (joint_link o L R) < 256
joint_length None L R less = omega arith
joint_length (Some j) L R less = omega arith

wider_below : (m n : ℕ) (a : ℤ) → m ≤ n → neg_ℤ (pos m) ≤ℤ a → neg_ℤ (pos n) ≤ℤ a
wider_below m n a l p = omega (arith, ints)

wider_above : (m n : ℕ) (a : ℤ) → m ≤ n → a ≤ℤ pos m → a ≤ℤ pos n
wider_above m n a l p = omega (arith, ints)

word_small : (positions : List (List Disjunct)) (w : Way) (word : ℕ) (d : Disjunct) (near far : Option Link) → IsProblem positions → IsWord positions w word d near far → word < length positions → Contains (get_or positions word []) d → length_of near < 256 → length_of far < 256 → IsSmallWay (length positions) w
word_small positions w word d near far problem is less listed a b =
    let c = disjunct_cost positions problem word d listed in
    record {
      above = subst (λ (t : ℤ). neg_ℤ (pos (2 ^ 60)) ≤ℤ t) (sym is.cost) (wider_below DISJUNCT_COST (2 ^ 60) d.cost (omega arith) c.0);
      below = subst (λ (t : ℤ). t ≤ℤ pos (2 ^ 60)) (sym is.cost) (wider_above DISJUNCT_COST (2 ^ 60) d.cost (omega arith) c.1);
      span = (let e = is.span in omega arith);
      word = (let e = is.word_is in omega arith);
    }

way_small : (positions : List (List Disjunct)) (subjects : ℕ → Subject) (k : ℕ) (s : Subject) (c : Cutting) (w : Way) → IsProblem positions → IsSubject positions s → IsWayFor positions subjects k s w c → IsSmallWay (length positions) w
way_small positions subjects k (whole nulls) (split_at c) w problem sub way = absurd way
way_small positions subjects k (region r) (begins_at c) w problem sub way = absurd way
way_small positions subjects k (whole nulls) (begins_at c) w problem sub way =
    word_small positions w c.word c.disjunct None None problem way.word way.first.before way.first.listed (omega arith) (omega arith)
way_small positions subjects k (region r) (split_at c) w problem sub way =
    let few = problem.few in
    let within = sub.0.within in
    let before = way.cut.before in
    word_small positions w c.word c.disjunct (joint_link c.to_left r.left c.word) (joint_link c.to_right c.word r.right) problem way.word (omega arith) way.cut.listed (joint_length c.to_left r.left c.word (omega arith)) (joint_length c.to_right c.word r.right (omega arith))

left_linked : (o : Option Disjunct) (p : ℕ) (c : Connector) → slice_get (left_list o) p ≡ Some c → IsSome o
left_linked None p c e = absurd cc
left_linked (Some d) p c e = refl

linked_within : (os : List (Option Disjunct)) (i : ℕ) → IsSome (get_or os i None) → i < length os
linked_within os i s =
    elim (cases_lt i (length os)) [
      | inl h ↦ h
      | inr h ↦ absurd (let e = subst (λ (o : Option Disjunct). IsSome o) (get_or_past os i None h) s in cc)
    ]

not_same : (a b : ℕ) → (a ≡ b → ⊥) → (a == b) ≡ false
not_same a b h = grind (arith, nat_tests)

-- a link of a good linkage, or of one under a region, ends within the sentence, or at its end
pub good_end : (positions : List (List Disjunct)) (g : Linkage) (l : Link) → Good positions g → HasLink g l → l.right < length positions
good_end positions g l good i =
    let j = good.rules.matched.joins l i in
    let e = good.belongs.same_length in
    let w = linked_within g.chosen l.right (left_linked (chosen_at g l.right) l.rplace j.1 j.3) in
    omega arith

region_end : (positions : List (List Disjunct)) (r : Region) (g : Linkage) (l : Link) → Under positions r g → HasLink g l → l.right ≤ r.right
region_end positions r g l u i =
    elim (cases_lt r.right l.right) [
      | inr h ↦ h
      | inl h ↦ (
          let j = u.rules.matched.joins l i in
          let e : lefts_in r g l.right ≡ left_list (chosen_at g l.right) = ap (λ (b : Bool). cond b r.rlist (left_list (chosen_at g l.right))) (not_same l.right r.right (λ f. omega arith)) in
          let s = left_linked (chosen_at g l.right) l.rplace j.1 (ap (λ (t : List Connector). slice_get t l.rplace) (sym e) ∙ j.3) in
          let b = u.part.inside l.right s in omega arith)
    ]

under_small : (positions : List (List Disjunct)) (s : Subject) (g : Linkage) (v : Value) → IsProblem positions → IsSubject positions s → IsUnder positions s g → IsPacked positions g v → IsSmall (length positions) v
under_small positions (whole nulls) g v problem sub u p =
    let few = problem.few in
    small_packed positions g v problem u.good.belongs u.good.rules.exclusive (λ l i. (u.good.rules.matched.forward l i, (let e = good_end positions g l u.good i in omega arith))) p
under_small positions (region r) g v problem sub u p =
    let few = problem.few in
    let within = sub.0.within in
    small_packed positions g v problem u.part.belongs u.rules.exclusive (λ l i. (u.rules.matched.forward l i, (let e = region_end positions r g l u i in omega arith))) p

values_small : (positions : List (List Disjunct)) (z : Value) (forest : List (List Way)) (subjects : ℕ → Subject) → Known positions z forest subjects → (o : Option ℕ) (v : Value) → Has z forest o v → IsSmall (length positions) v
values_small positions z forest subjects known o v (nothing q w e i) =
    subst (λ (t : Value). IsSmall (length positions) t) (sym i)
    (small_packed positions (unlinked_of (length positions)) z known.is.problem (unlinked_part positions 0 0).belongs (λ k l h. absurd (contains_none k h)) (λ l h. absurd (contains_none l h)) known.is.nothing)
values_small positions z forest subjects known o v (made q u k p w x y e at hl hr v_is) =
    let within = in_forest forest k p (slice_get_within (ways_of forest k) p w at) in
    let g = sound known.laws positions z forest subjects known.is (Some k) v (made (Some k) v k p w x y refl at hl hr v_is) k refl in
    under_small positions (subjects k) g.0 v known.is.problem (known.is.each k within) g.1 g.2

-- ---- the forest
forest_is : Laws → (positions : List (List Disjunct)) (z : Value) (forest : List (List Way)) (subjects : ℕ → Subject) → IsForestOf positions z forest subjects → IsForest z forest
forest_is laws positions z forest subjects is =
    let known : Known positions z forest subjects = record { laws = laws; is = is } in
    let n : length positions ≡ length z.choices = sym (is.nothing.long ∙ length-replicate {A = Option Disjunct} (length positions) None) in
    record {
      left_below = λ k p j less e. (let c = is.ways k p less in left_under positions subjects k (subjects k) c.0 (way_at forest k p) j c.1 e);
      right_below = λ k p j less e. (let c = is.ways k p less in right_under positions subjects k (subjects k) c.0 (way_at forest k p) j c.1 e);
      small = λ o v h. subst (λ (t : ℕ). IsSmall t v) n (values_small positions z forest subjects known o v h);
      small_ways = λ k p less. (let c = is.ways k p less in subst (λ (t : ℕ). IsSmallWay t (way_at forest k p)) n (way_small positions subjects k (subjects k) c.0 (way_at forest k p) is.problem (is.each k (in_forest forest k p less)) c.1));
      laws = merge_laws positions z forest subjects known;
    }

packed_values : Laws → (positions : List (List Disjunct)) (z : Value) (forest : List (List Way)) (subjects : ℕ → Subject) (k : ℕ) (v : Value) → IsForestOf positions z forest subjects → k < length forest → Packs positions (subjects k) v → Has z forest (Some k) v
packed_values laws positions z forest subjects k v is within p =
    let m = complete laws positions z forest subjects is k p.0 within p.1 in
    subst (λ (t : Value). Has z forest (Some k) t) (packed_same positions p.0 m.0 v is.problem m.2 p.2) m.1

pub forests_stand : Laws → ForestsStandForLinkages
forests_stand laws = record {
  forest = forest_is laws;
  values = λ positions z forest subjects k v is within. ((λ h. sound laws positions z forest subjects is (Some k) v h k refl), packed_values laws positions z forest subjects k v is within);
  numbers = λ positions z forest subjects k g is within u. (let m = complete laws positions z forest subjects is k g within u in (m.0, m.2));
}
