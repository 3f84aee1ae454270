-- Ways of the alternatives of a key stand for its cuts.
use Rattle.std.proofs.Common.{◌≡◌, ℕ, suc, ◌-◌, ◌<◌, List, [], length, get_or, Option, Some, None, slice_get, Contains, inl, inr, refl, sym, ap, ◌∙◌, subst, arith}
use Rattle.std.proofs.lemmas.Bool.{cases_lt}
use Rattle.std.proofs.lemmas.Cmp.{tied_itself}
use Rattle.std.proofs.lemmas.List.{get_or_past, get_or_default}
use Rattle.std.proofs.lemmas.Option.{same_Some, slice_get_within, get_or_from_slice_get, slice_get-get_or}
use Rattle.lg_gram.specs.Connectors.{Connector}
use Rattle.lg_gram.specs.Problems.{IsProblem}
use Rattle.lg_gram.specs.declared.disjunct.Disjunct.{Disjunct}
use Rattle.lg_gram.specs.declared.linkage.Link.{Link}
use Rattle.lg_region.specs.declared.key.Joint.{Joint}
use Rattle.lg_region.specs.declared.key.Key.{Key}
use Rattle.lg_region.specs.declared.key.Key.TheVariants.{Whole, Region as Between}
use Rattle.lg_region.specs.declared.alternative.Alt.{Alt}
use Rattle.lg_region.specs.declared.alternative.Alt.TheVariants.{AllNull, Split as At}
use Rattle.lg_region.specs.Cuts.{Split, Alternative, all_null, split, IsAlternative}
use Rattle.lg_region.specs.Fronts.{list_of}
use Rattle.lg_region.specs.Keys.{IsKeyOf, IsDisjunctAt, IsFirstOf, IsSplitOf, IsAltOf, IsAltOfWhole, IsAltOfRegion, region_of_numbers}
use Rattle.lg_region.specs.Laws.{RegionsAreCutOnce, CutsAreValid, AlternativesDecide, WholeAlternativesDecide, NumbersTellListsApart, HasLinkage}
use Rattle.lg_region.specs.Parts.{Region}
use Rattle.lg_region.specs.Whole.{First, first}
use Rattle.lg_forest.specs.Demands.{HasLinkageUnder}
use Rattle.lg_forest.specs.Forests.{IsLive}
use Rattle.lg_rank.specs.Keyed.{subject_of, subjects_of, IsNumberFor, near_link, far_link, IsFirstAlt, IsSplitAlt, IsAltFor}
use Rattle.lg_rank.specs.Meanings.{IsCodeOf, Subject, whole, region, IsSubject, joint_link, IsPartFor, IsWord, Cutting, split_at, begins_at, IsWayFor, IsCutting}
use Rattle.lg_rank.specs.declared.part.Way.{Way}
use Rattle.lg_rank.proofs.Meaning.{no_cut}
use Rattle.lg_rank.proofs.Orders.{choices_total}
use Rattle.lg_rank.proofs.Packing.{code_apart, later_greater, rise_at}

-- ---- what an alternative stands for
for_whole : (positions : List (List Disjunct)) (lists : List (List Connector)) (nulls : ℕ) (a : Alt) → nulls < length positions → IsAltOfWhole positions lists nulls a → (c : First) × IsFirstAlt positions lists nulls c a
for_whole positions lists nulls AllNull less is = absurd (omega arith)
for_whole positions lists nulls (At word number None None None (Some rkey)) less (c, is) = (c, record { word = word; number = number; rkey = rkey; is = refl; means = is })
for_whole positions lists nulls (At word number None None None None) less is = absurd is
for_whole positions lists nulls (At word number None None (Some lkey) rkey) less is = absurd is
for_whole positions lists nulls (At word number None (Some j) lkey rkey) less is = absurd is
for_whole positions lists nulls (At word number (Some j) to_right lkey rkey) less is = absurd is

for_region : (positions : List (List Disjunct)) (lists : List (List Connector)) (r : Region) (a : Alt) → (r.llist ≡ [] → r.rlist ≡ [] → ⊥) → IsAltOfRegion positions lists r a → (c : Split) × IsSplitAlt positions lists r c a
for_region positions lists r AllNull some is = absurd (some is.0 is.1)
for_region positions lists r (At word number to_left to_right (Some lkey) (Some rkey)) some (c, is) =
    (c, record { word = word; number = number; to_left = to_left; to_right = to_right; lkey = lkey; rkey = rkey; is = refl; means = is })
for_region positions lists r (At word number to_left to_right (Some lkey) None) some is = absurd is
for_region positions lists r (At word number to_left to_right None rkey) some is = absurd is

pub alt_for : (positions : List (List Disjunct)) (lists : List (List Connector)) (key : Key) (a : Alt) → IsSubject positions (subject_of lists key) → IsAltOf positions lists key a → (c : Cutting) × IsAltFor positions lists key c a
alt_for positions lists (Whole nulls) a sub is = let r = for_whole positions lists nulls a sub is in (begins_at r.0, r.1)
alt_for positions lists (Between left right llist rlist nulls) a sub is = let r = for_region positions lists (region_of_numbers lists left right llist rlist nulls) a sub.1 is in (split_at r.0, r.1)

-- a key and the region that it stands for have the same linkages
key_has : (positions : List (List Disjunct)) (lists : List (List Connector)) (m : Key) (k : Region) → IsKeyOf lists m k → HasLinkage positions k → HasLinkageUnder positions lists m
key_has positions lists (Whole nulls) k is = absurd is
key_has positions lists (Between left right llist rlist nulls) k is = subst (λ z. HasLinkage positions z) is.2

has_key : (positions : List (List Disjunct)) (lists : List (List Connector)) (m : Key) (k : Region) → IsKeyOf lists m k → HasLinkageUnder positions lists m → HasLinkage positions k
has_key positions lists (Whole nulls) k is = absurd is
has_key positions lists (Between left right llist rlist nulls) k is = subst (λ z. HasLinkage positions z) (sym is.2)

-- a live alternative stands for a cut that some linkage has
pub live_cutting : (positions : List (List Disjunct)) (lists : List (List Connector)) (key : Key) (c : Cutting) (a : Alt) → IsAltFor positions lists key c a → IsLive positions lists a → IsCutting positions (subject_of lists key) c
live_cutting positions lists (Whole nulls) (split_at c) a is live = absurd is
live_cutting positions lists (Whole nulls) (begins_at c) a is live =
    let l = subst (λ z. IsLive positions lists z) is.is live in
    (is.means.first, has_key positions lists is.rkey c.rkey is.means.behind l.right)
live_cutting positions lists (Between left right llist rlist nulls) (begins_at c) a is live = absurd is
live_cutting positions lists (Between left right llist rlist nulls) (split_at c) a is live =
    let l = subst (λ z. IsLive positions lists z) is.is live in
    (is.means.cut, has_key positions lists is.lkey c.lkey is.means.before l.left, has_key positions lists is.rkey c.rkey is.means.behind l.right)

-- the number of a listed disjunct
numbered : (positions : List (List Disjunct)) (word : ℕ) (d : Disjunct) → Contains (get_or positions word []) d → (number : ℕ) × IsDisjunctAt positions word number d
numbered positions word d (i, lt, at) = (i, subst (λ z. slice_get (get_or positions word []) i ≡ Some z) at (slice_get-get_or (get_or positions word []) i d lt))

-- and each such cut has a live alternative
pub record LiveAlt (positions : List (List Disjunct)) (lists : List (List Connector)) (key : Key) (c : Cutting) : Type 0 where
  pub alt : Alt
  pub one : IsAltOf positions lists key alt
  pub live : IsLive positions lists alt
  pub for : IsAltFor positions lists key c alt

pub cutting_live : CutsAreValid → (positions : List (List Disjunct)) (lists : List (List Connector)) → NumbersTellListsApart positions lists → (key : Key) (c : Cutting) → IsSubject positions (subject_of lists key) → IsCutting positions (subject_of lists key) c → LiveAlt positions lists key c
cutting_live valid positions lists numbers (Whole nulls) (split_at c) sub is = absurd is
cutting_live valid positions lists numbers (Whole nulls) (begins_at c) sub is =
    let n = numbered positions c.word c.disjunct is.0.listed in
    let r = numbers.some_key c.rkey (valid.first positions nulls c is.0) in
    let means : IsFirstOf positions lists nulls c.word n.0 r.0 c = record { first = is.0; place = refl; chosen = n.1; behind = r.1 } in record {
      alt = At c.word n.0 None None None (Some r.0);
      one = (c, means);
      live = record { left = tt; right = key_has positions lists r.0 c.rkey r.1 is.1 };
      for = record { word = c.word; number = n.0; rkey = r.0; is = refl; means = means };
    }
cutting_live valid positions lists numbers (Between left right llist rlist nulls) (begins_at c) sub is = absurd is
cutting_live valid positions lists numbers (Between left right llist rlist nulls) (split_at c) sub is =
    let k = region_of_numbers lists left right llist rlist nulls in
    let n = numbered positions c.word c.disjunct is.0.listed in
    let s = valid.split positions k c sub.0 is.0 in
    let l = numbers.some_key c.lkey s.0 in
    let r = numbers.some_key c.rkey s.1 in
    let means : IsSplitOf positions lists k c.word n.0 c.to_left c.to_right l.0 r.0 c = record { cut = is.0; place = refl; chosen = n.1; joint_left = refl; joint_right = refl; before = l.1; behind = r.1 } in record {
      alt = At c.word n.0 c.to_left c.to_right (Some l.0) (Some r.0);
      one = (c, means);
      live = record { left = key_has positions lists l.0 c.lkey l.1 is.1; right = key_has positions lists r.0 c.rkey r.1 is.2 };
      for = record { word = c.word; number = n.0; to_left = c.to_left; to_right = c.to_right; lkey = l.0; rkey = r.0; is = refl; means = means };
    }

-- a key with such a cut has a linkage
pub cutting_has : AlternativesDecide → WholeAlternativesDecide → (positions : List (List Disjunct)) (lists : List (List Connector)) (key : Key) (c : Cutting) → IsSubject positions (subject_of lists key) → IsCutting positions (subject_of lists key) c → HasLinkageUnder positions lists key
cutting_has regions wholes positions lists (Whole nulls) (split_at c) sub is = absurd is
cutting_has regions wholes positions lists (Whole nulls) (begins_at c) sub is = (wholes positions nulls).1 (first c, is.0, is.1)
cutting_has regions wholes positions lists (Between left right llist rlist nulls) (begins_at c) sub is = absurd is
cutting_has regions wholes positions lists (Between left right llist rlist nulls) (split_at c) sub is = (regions positions (region_of_numbers lists left right llist rlist nulls) sub.0).1 (split c, is.0, (is.1, is.2))

-- ---- an alternative stands for one cut, and a way for one
-- a disjunct has one number
number_apart : (positions : List (List Disjunct)) → IsProblem positions → (word i j : ℕ) (d : Disjunct) → IsDisjunctAt positions word i d → IsDisjunctAt positions word j d → i ≡ j
number_apart positions problem word i j d p q =
    let tied = tied_itself choices_total (Some d) in
    elim (cases_lt i j) [
      | inl less ↦ absurd (let x = later_greater (get_or positions word []) i j d d (rise_at positions problem word) less p q in cc)
      | inr h ↦ elim (cases_lt j i) [
        | inl less ↦ absurd (let x = later_greater (get_or positions word []) j i d d (rise_at positions problem word) less q p in cc)
        | inr g ↦ omega arith
      ]
    ]

pub one_alt : (positions : List (List Disjunct)) (lists : List (List Connector)) → IsProblem positions → NumbersTellListsApart positions lists → (key : Key) (c : Cutting) (a b : Alt) → IsAltFor positions lists key c a → IsAltFor positions lists key c b → a ≡ b
one_alt positions lists problem numbers (Whole nulls) (split_at c) a b x y = absurd x
one_alt positions lists problem numbers (Whole nulls) (begins_at c) a b x y =
    let word = sym x.means.place ∙ y.means.place in
    let number = number_apart positions problem c.word x.number y.number c.disjunct (subst (λ z. IsDisjunctAt positions z x.number c.disjunct) (sym x.means.place) x.means.chosen) (subst (λ z. IsDisjunctAt positions z y.number c.disjunct) (sym y.means.place) y.means.chosen) in
    let rkey = numbers.keys_apart x.rkey y.rkey c.rkey x.means.behind y.means.behind in
    x.is ∙ (λ i. At (word i) (number i) None None None (Some (rkey i))) ∙ sym y.is
one_alt positions lists problem numbers (Between left right llist rlist nulls) (begins_at c) a b x y = absurd x
one_alt positions lists problem numbers (Between left right llist rlist nulls) (split_at c) a b x y =
    let word = sym x.means.place ∙ y.means.place in
    let number = number_apart positions problem c.word x.number y.number c.disjunct (subst (λ z. IsDisjunctAt positions z x.number c.disjunct) (sym x.means.place) x.means.chosen) (subst (λ z. IsDisjunctAt positions z y.number c.disjunct) (sym y.means.place) y.means.chosen) in
    let to_left = sym x.means.joint_left ∙ y.means.joint_left in
    let to_right = sym x.means.joint_right ∙ y.means.joint_right in
    let lkey = numbers.keys_apart x.lkey y.lkey c.lkey x.means.before y.means.before in
    let rkey = numbers.keys_apart x.rkey y.rkey c.rkey x.means.behind y.means.behind in
    x.is ∙ (λ i. At (word i) (number i) (to_left i) (to_right i) (Some (lkey i)) (Some (rkey i))) ∙ sym y.is

joint_one : (a b : Option Joint) (L R L' R' : ℕ) → joint_link a L R ≡ joint_link b L' R' → a ≡ b
joint_one None None L R L' R' e = refl
joint_one None (Some b) L R L' R' e = absurd cc
joint_one (Some a) None L R L' R' e = absurd cc
joint_one (Some a) (Some b) L R L' R' e =
    let same = same_Some _ _ e in
    let n = ap (λ (l : Link). l.lplace) same in
    let f = ap (λ (l : Link). l.rplace) same in
    λ i. Some (record { near = n i; far = f i })

region_is : (r s : Region) → r.left ≡ s.left → r.right ≡ s.right → r.llist ≡ s.llist → r.rlist ≡ s.rlist → r.nulls ≡ s.nulls → r ≡ s
region_is r s a b c d e = λ i. record { left = a i; right = b i; llist = c i; rlist = d i; nulls = e i }

-- the region of a part, whose ends are known
part_one : (subjects : ℕ → Subject) (k : ℕ) (o : Option ℕ) (r s : Region) → r.left ≡ s.left → r.right ≡ s.right → IsPartFor subjects k o r → IsPartFor subjects k o s → r ≡ s
part_one subjects k None r s a b p q = region_is r s a b (p.0 ∙ sym q.0) (p.1 ∙ sym q.1) (p.2 ∙ (λ i. b i - suc (a i)) ∙ sym q.2)
part_one subjects k (Some j) r s a b p q = (let e : region r ≡ region s = sym p.1 ∙ q.1 in cc)

word_one : (positions : List (List Disjunct)) (w : Way) (m n : ℕ) (d e : Disjunct) (near far near' far' : Option Link) → IsWord positions w m d near far → IsWord positions w n e near' far' → (m ≡ n) × (d ≡ e) × (near ≡ near') × (far ≡ far')
word_one positions w m n d e near far near' far' p q =
    let same : m ≡ n = sym p.word_is ∙ q.word_is in
    let f = code_apart (get_or positions m []) (Some d) (Some e) w.choice p.choice (subst (λ z. IsCodeOf (get_or positions z []) (Some e) w.choice) (sym same) q.choice) in
    (same, cc, sym p.near_is ∙ q.near_is, sym p.far_is ∙ q.far_is)

pub one_cutting : (positions : List (List Disjunct)) (subjects : ℕ → Subject) (k : ℕ) (s : Subject) (w : Way) (c d : Cutting) → IsWayFor positions subjects k s w c → IsWayFor positions subjects k s w d → c ≡ d
one_cutting positions subjects k (whole nulls) w (split_at c) d p q = absurd p
one_cutting positions subjects k (whole nulls) w (begins_at c) (split_at d) p q = absurd q
one_cutting positions subjects k (whole nulls) w (begins_at c) (begins_at d) p q =
    let word = word_one positions w c.word d.word c.disjunct d.disjunct None None None None p.word q.word in
    let n = length positions in
    let e = p.first.rkey in
    let f = q.first.rkey in
    let rkey : c.rkey ≡ d.rkey = e ∙ (λ i. record { left = word.0 i; right = n; llist = (word.1 i).right; rlist = []; nulls = nulls - word.0 i }) ∙ sym f in
    λ i. begins_at (record { word = word.0 i; disjunct = word.1 i; rkey = rkey i })
one_cutting positions subjects k (region r) w (begins_at c) d p q = absurd p
one_cutting positions subjects k (region r) w (split_at c) (begins_at d) p q = absurd q
one_cutting positions subjects k (region r) w (split_at c) (split_at d) p q =
    let word = word_one positions w c.word d.word c.disjunct d.disjunct _ _ _ _ p.word q.word in
    let to_left = joint_one c.to_left d.to_left r.left c.word r.left d.word word.2 in
    let to_right = joint_one c.to_right d.to_right c.word r.right d.word r.right word.3 in
    let lkey = part_one subjects k w.left c.lkey d.lkey (p.cut.ends_left.0 ∙ sym q.cut.ends_left.0) (p.cut.ends_left.1 ∙ word.0 ∙ sym q.cut.ends_left.1) p.left q.left in
    let rkey = part_one subjects k w.right c.rkey d.rkey (p.cut.ends_right.0 ∙ word.0 ∙ sym q.cut.ends_right.0) (p.cut.ends_right.1 ∙ sym q.cut.ends_right.1) p.right q.right in
    λ i. split_at (record { word = word.0 i; disjunct = word.1 i; to_left = to_left i; to_right = to_right i; lkey = lkey i; rkey = rkey i })

-- ---- the way of an alternative
-- a region with empty lists that has a linkage leaves all unlinked
full_nulls : RegionsAreCutOnce → (positions : List (List Disjunct)) (r : Region) → r.left < r.right → r.llist ≡ [] → r.rlist ≡ [] → HasLinkage positions r → r.nulls ≡ r.right - suc r.left
full_nulls laws positions r lr p q (g, u) = by_kind (laws.some positions r g lr u).0 (laws.some positions r g lr u).1
  where
    by_kind : (a : Alternative) → IsAlternative positions r a → r.nulls ≡ r.right - suc r.left
    by_kind all_null is = is.2
    by_kind (split c) is = absurd (no_cut c.to_right c.disjunct.right r.rlist c.rkey.llist c.rkey.rlist q is.at_right (is.by_rlist p))

pub subject_at : (lists : List (List Connector)) (keys : List Key) (j : ℕ) (m : Key) → slice_get keys j ≡ Some m → subjects_of lists keys j ≡ subject_of lists m
subject_at lists keys j m at = ap (subject_of lists) (get_or_from_slice_get keys j m (Whole 0) at)

part_for : RegionsAreCutOnce → (positions : List (List Disjunct)) (lists : List (List Connector)) (keys : List Key) (k : ℕ) (m : Key) (o : Option ℕ) (r : Region) → r.left < r.right → IsKeyOf lists m r → HasLinkage positions r → IsNumberFor keys k (Some m) o → IsPartFor (subjects_of lists keys) k o r
part_for laws positions lists keys k (Whole nulls) o r lr is has number = absurd is
part_for laws positions lists keys k (Between left right llist rlist nulls) None r lr is has number =
    let a : r.llist ≡ [] = ap (λ (z : Region). z.llist) is.2 ∙ ap (list_of lists) number.0 in
    let b : r.rlist ≡ [] = ap (λ (z : Region). z.rlist) is.2 ∙ ap (list_of lists) number.1 in
    (a, b, full_nulls laws positions r lr a b has)
part_for laws positions lists keys k (Between left right llist rlist nulls) (Some j) r lr is has number =
    (number.0, subject_at lists keys j (Between left right llist rlist nulls) number.1 ∙ ap region (sym is.2))

abbrev SplitIs : ℕ → ℕ → Option Joint → Option Joint → Option Key → Option Key → ℕ → ℕ → Option Joint → Option Joint → Option Key → Option Key → Type 0
SplitIs w n a b l r w' n' a' b' l' r' = (w ≡ w') × (n ≡ n') × (a ≡ a') × (b ≡ b') × (l ≡ l') × (r ≡ r')

same_split : (w n w' n' : ℕ) (a b a' b' : Option Joint) (l r l' r' : Option Key) → At w n a b l r ≡ At w' n' a' b' l' r' → SplitIs w n a b l r w' n' a' b' l' r'
same_split w n w' n' a b a' b' l r l' r' e = (cc, cc, cc, cc, cc, cc)

pub way_for : RegionsAreCutOnce → (positions : List (List Disjunct)) (lists : List (List Connector)) (keys : List Key) (k : ℕ) (key : Key) (c : Cutting) (word number : ℕ) (to_left to_right : Option Joint) (lkey rkey : Option Key) (w : Way)
    → ((d : Disjunct) → IsDisjunctAt positions word number d → IsWord positions w word d (near_link key word to_left) (far_link key word to_right)) → IsNumberFor keys k lkey w.left → IsNumberFor keys k rkey w.right
    → IsAltFor positions lists key c (At word number to_left to_right lkey rkey) → IsCutting positions (subject_of lists key) c → IsWayFor positions (subjects_of lists keys) k (subject_of lists key) w c
way_for laws positions lists keys k (Whole nulls) (split_at c) word number to_left to_right lkey rkey w is_word l r is cut = absurd is
way_for laws positions lists keys k (Whole nulls) (begins_at c) word number to_left to_right lkey rkey w is_word l r is cut =
    let e = same_split word number is.word is.number to_left to_right None None lkey rkey None (Some is.rkey) is.is in
    let place : c.word ≡ word = is.means.place ∙ sym e.0 in
    let at : IsDisjunctAt positions word number c.disjunct = subst (λ z. IsDisjunctAt positions word z c.disjunct) (sym e.1) (subst (λ z. IsDisjunctAt positions z is.number c.disjunct) (sym e.0) is.means.chosen) in
    let key = is.means.first.rkey in
    let before = is.means.first.before in
    let lr : c.rkey.left < c.rkey.right = (let p = ap (λ (z : Region). z.left) key in let q = ap (λ (z : Region). z.right) key in omega arith) in record {
      first = is.means.first;
      word = subst (λ z. IsWord positions w z c.disjunct None None) (sym place) (is_word c.disjunct at);
      left = subst (λ z. IsNumberFor keys k z w.left) e.4 l;
      right = part_for laws positions lists keys k is.rkey w.right c.rkey lr is.means.behind cut.1 (subst (λ z. IsNumberFor keys k z w.right) e.5 r);
    }
way_for laws positions lists keys k (Between left right llist rlist nulls) (begins_at c) word number to_left to_right lkey rkey w is_word l r is cut = absurd is
way_for laws positions lists keys k (Between left right llist rlist nulls) (split_at c) word number to_left to_right lkey rkey w is_word l r is cut =
    let e = same_split word number is.word is.number to_left to_right is.to_left is.to_right lkey rkey (Some is.lkey) (Some is.rkey) is.is in
    let place : c.word ≡ word = is.means.place ∙ sym e.0 in
    let at : IsDisjunctAt positions word number c.disjunct = subst (λ z. IsDisjunctAt positions word z c.disjunct) (sym e.1) (subst (λ z. IsDisjunctAt positions z is.number c.disjunct) (sym e.0) is.means.chosen) in
    let a : to_left ≡ c.to_left = e.2 ∙ sym is.means.joint_left in
    let b : to_right ≡ c.to_right = e.3 ∙ sym is.means.joint_right in
    let cut_is = is.means.cut in
    let x = cut_is.after in
    let y = cut_is.before in
    let p = cut_is.ends_left in
    let q = cut_is.ends_right in
    let l_wide : c.lkey.left < c.lkey.right = (let f = p.0 in let g = p.1 in omega arith) in
    let r_wide : c.rkey.left < c.rkey.right = (let f = q.0 in let g = q.1 in omega arith) in
    let flat : IsWord positions w c.word c.disjunct (joint_link c.to_left left c.word) (joint_link c.to_right c.word right) =
    subst (λ z. IsWord positions w c.word c.disjunct (joint_link c.to_left left c.word) (joint_link z c.word right)) b
    (subst (λ z. IsWord positions w c.word c.disjunct (joint_link z left c.word) (joint_link to_right c.word right)) a
    (subst (λ z. IsWord positions w z c.disjunct (joint_link to_left left z) (joint_link to_right z right)) (sym place) (is_word c.disjunct at))) in record {
      cut = cut_is;
      word = flat;
      left = part_for laws positions lists keys k is.lkey w.left c.lkey l_wide is.means.before cut.1 (subst (λ z. IsNumberFor keys k z w.left) e.4 l);
      right = part_for laws positions lists keys k is.rkey w.right c.rkey r_wide is.means.behind cut.2 (subst (λ z. IsNumberFor keys k z w.right) e.5 r);
    }

-- the disjunct of an alternative is listed
pub number_within : (positions : List (List Disjunct)) (lists : List (List Connector)) (key : Key) (c : Cutting) (a : Alt) (word number : ℕ) (to_left to_right : Option Joint) (lkey rkey : Option Key) → a ≡ At word number to_left to_right lkey rkey → IsAltFor positions lists key c a → number < length (get_or positions word [])
number_within positions lists (Whole nulls) (split_at c) a word number to_left to_right lkey rkey e is = absurd is
number_within positions lists (Whole nulls) (begins_at c) a word number to_left to_right lkey rkey e is =
    let s = same_split word number is.word is.number to_left to_right None None lkey rkey None (Some is.rkey) (sym e ∙ is.is) in
    let less = slice_get_within (get_or positions is.word []) is.number c.disjunct is.means.chosen in
    subst (λ z. number < length (get_or positions z [])) (sym s.0) (subst (λ z. z < length (get_or positions is.word [])) (sym s.1) less)
number_within positions lists (Between left right llist rlist nulls) (begins_at c) a word number to_left to_right lkey rkey e is = absurd is
number_within positions lists (Between left right llist rlist nulls) (split_at c) a word number to_left to_right lkey rkey e is =
    let s = same_split word number is.word is.number to_left to_right is.to_left is.to_right lkey rkey (Some is.lkey) (Some is.rkey) (sym e ∙ is.is) in
    let less = slice_get_within (get_or positions is.word []) is.number c.disjunct is.means.chosen in
    subst (λ z. number < length (get_or positions z [])) (sym s.0) (subst (λ z. z < length (get_or positions is.word [])) (sym s.1) less)

-- what is found by index
pub disjunct_at : (positions ps : List (List Disjunct)) (ds row : List Disjunct) (word number : ℕ) (r d : Disjunct) → ps ≡ positions → row ≡ get_or ps word row → ds ≡ row → r ≡ get_or ds number r → IsDisjunctAt positions word number d → r ≡ d
disjunct_at positions ps ds row word number r d ep er ed e at = elim (cases_lt word (length positions)) [
  | inl less ↦ (
      let same : ds ≡ get_or positions word [] = ed ∙ er ∙ ap (λ (z : List (List Disjunct)). get_or z word row) ep ∙ get_or_default positions word row [] less in
      e ∙ ap (λ z. get_or z number r) same ∙ get_or_from_slice_get (get_or positions word []) number d r at)
  | inr past ↦ absurd (let x = ap (λ (z : List Disjunct). slice_get z number) (get_or_past positions word [] past) in let y : ◌≡◌ {A = Option Disjunct} None (Some d) = sym x ∙ at in cc)
]
