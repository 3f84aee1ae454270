-- A region: every linkage under it has a cut, and what a cut spells lies under it.
use Rattle.std.proofs.Common.{◌≡◌, ◌≢◌, ℕ, suc, ◌-◌, ◌<◌, ◌≤◌, ◌⊎◌, ◌↔◌, inl, inr, refl, sym, ap, ◌∙◌, subst, Bool, true, false, ◌&&◌, List, [], ◌∷◌, length, Option, Some, None, IsSome, slice_get, ◌==◌, nat_le, arith}
use Rattle.std.proofs.lemmas.Bool.{cases_lt, cases_Bool}
use Rattle.std.proofs.lemmas.Bool.Decides.{nat_tests}
use Rattle.std.proofs.lemmas.Option.{slice_get_within}
use Rattle.lg_gram.specs.Connectors.{Connector}
use Rattle.lg_gram.specs.Linkages.{Linkage}
use Rattle.lg_gram.specs.Rules.{Belongs, chosen_at, left_list, right_list, HasLink, IsLinked}
use Rattle.lg_gram.specs.Walks.{Walk}
use Rattle.lg_gram.specs.Walks.Walk.{stay, forth, back}
use Rattle.lg_gram.specs.declared.disjunct.Disjunct.{Disjunct}
use Rattle.lg_gram.specs.declared.linkage.Link.{Link}
use Rattle.lg_region.specs.Parts.{EdgeWith, Region, but_at, rights_in, lefts_in, nulls_from, IsPart, IsCounted, Under, part_of}
use Rattle.lg_region.specs.Cuts.{IsJoint, IsCutAt, Split, IsCut, Spells}
use Rattle.lg_region.specs.declared.key.Joint.{Joint}
use Rattle.lg_region.proofs.Fits.{Fits}
use Rattle.lg_region.proofs.Walks.{walk_then, walk_back}
use Rattle.lg_region.proofs.Elements.{greatest}
use Rattle.lg_region.proofs.Parts.{in_part, from_part, part_chosen, part_inside, part_linked, part_belongs, nulls_few, nulls_cut}
use Rattle.lg_region.proofs.Joints.{get_in}
use Rattle.lg_region.proofs.Glue.{Splits, fits_left, fits_right, fits_together}
use Rattle.lg_region.proofs.Sides.{Searchable, OpenOf, Taken, take_side, put_side, but_here, but_else, fits_same}

pub right_linked : (o : Option Disjunct) (p : ℕ) (c : Connector) → slice_get (right_list o) p ≡ Some c → IsSome o
right_linked None p c h = cc
right_linked (Some d) p c h = refl

pub left_linked : (o : Option Disjunct) (p : ℕ) (c : Connector) → slice_get (left_list o) p ≡ Some c → IsSome o
left_linked None p c h = cc
left_linked (Some d) p c h = refl

pub some_of : (o : Option Disjunct) → IsSome o → (d : Disjunct) × (o ≡ Some d)
some_of None h = absurd cc
some_of (Some d) h = (d, refl)

pub eq_or_not : (a b : ℕ) → (a ≡ b) ⊎ (a ≡ b → ⊥)
eq_or_not a b = elim (cases_Bool (a == b)) [ inl t ↦ inl (grind (arith, nat_tests)) | inr t ↦ inr (λ e. grind (arith, nat_tests)) ]

pub rights_else : (k : Region) (g : Linkage) (i : ℕ) → (i ≡ k.left → ⊥) → rights_in k g i ≡ right_list (chosen_at g i)
rights_else k g i h = but_else k.left k.llist (λ i. right_list (chosen_at g i)) i h

pub lefts_else : (k : Region) (g : Linkage) (i : ℕ) → (i ≡ k.right → ⊥) → lefts_in k g i ≡ left_list (chosen_at g i)
lefts_else k g i h = but_else k.right k.rlist (λ i. left_list (chosen_at g i)) i h

-- a position with a connector on its right lies from the left end on, before the right end
has_right : (positions : List (List Disjunct)) (k : Region) (g : Linkage) (i p : ℕ) (c : Connector) → k.left < k.right → IsPart positions k.left k.right g → slice_get (rights_in k g i) p ≡ Some c → (k.left ≤ i) × (i < k.right)
has_right positions k g i p c lr part h =
    elim (eq_or_not i k.left) [
      | inl e ↦ (omega arith, omega arith)
      | inr n ↦ (let b = part.inside i (right_linked (chosen_at g i) p c (subst (λ z. slice_get z p ≡ Some c) (rights_else k g i n) h)) in (omega arith, b.1))
    ]

has_left : (positions : List (List Disjunct)) (k : Region) (g : Linkage) (i p : ℕ) (c : Connector) → k.left < k.right → IsPart positions k.left k.right g → slice_get (lefts_in k g i) p ≡ Some c → (k.left < i) × (i ≤ k.right)
has_left positions k g i p c lr part h =
    elim (eq_or_not i k.right) [
      | inl e ↦ (omega arith, omega arith)
      | inr n ↦ (let b = part.inside i (left_linked (chosen_at g i) p c (subst (λ z. slice_get z p ≡ Some c) (lefts_else k g i n) h)) in (b.0, omega arith))
    ]

pub under_fits : (positions : List (List Disjunct)) (k : Region) (g : Linkage) → k.left < k.right → Under positions k g → Fits k.left k.right (rights_in k g) (lefts_in k g) (IsLinked g) (HasLink g)
under_fits positions k g lr u = record {
  within = λ l h.
      let m = u.rules.matched.joins l h in
      let a = has_right positions k g l.left l.lplace m.0 lr u.part m.2 in
      let b = has_left positions k g l.right l.rplace m.1 lr u.part m.3 in
      (a.0, u.rules.matched.forward l h, b.1);
  matched = u.rules.matched.joins;
  served_right = λ i p c li ir at. u.rules.satisfied.on_right i p c at;
  served_left = λ j q c lj jr at. u.rules.satisfied.on_left j q c at;
  planar = u.rules.planar;
  ordered_right = u.rules.ordered.on_right;
  ordered_left = u.rules.ordered.on_left;
  exclusive = u.rules.exclusive;
  connected = λ i li ir h. u.connected k.left i (inr (inl refl)) (inl h);
}

pub fits_under : (positions : List (List Disjunct)) (k : Region) (g : Linkage) → k.left < k.right → IsPart positions k.left k.right g → ((l : Link) → HasLink g l → l.left ≡ k.left → l.right ≡ k.right → ⊥)
    → nulls_from g (suc k.left) (k.right - suc k.left) ≡ k.nulls → Fits k.left k.right (rights_in k g) (lefts_in k g) (IsLinked g) (HasLink g) → Under positions k g
fits_under positions k g lr part apart nulls f =
    let E = EdgeWith k.left k.right (HasLink g) in
    let from_left : (i : ℕ) → IsCounted k.left k.right g i → Walk E k.left i = λ i h. elim h [
      | inl x ↦ (let b = part.inside i x in f.connected i (omega arith) (omega arith) x)
      | inr x ↦ elim x [ inl y ↦ subst (λ z. Walk E k.left z) (sym y) (stay k.left) | inr y ↦ forth k.left i i (inr (refl, y)) (stay i) ]
    ] in
    record {
      part = part;
      rules = record {
        matched = record { forward = λ l h. (f.within l h).1; joins = f.matched };
        satisfied = record {
          on_right = λ i p c at. let b = has_right positions k g i p c lr part at in f.served_right i p c b.0 b.1 at;
          on_left = λ j q c at. let b = has_left positions k g j q c lr part at in f.served_left j q c b.0 b.1 at;
        };
        planar = f.planar;
        ordered = record { on_right = f.ordered_right; on_left = f.ordered_left };
        exclusive = f.exclusive;
      };
      apart = apart;
      connected = λ i j hi hj. walk_then E i k.left j (walk_back E k.left i (from_left i hi)) (from_left j hj);
      nulls = nulls;
    }

-- a word at which the linkage is cut
pub record Found (k : Region) (g : Linkage) : Type 0 where
  pub word : ℕ
  pub disjunct : Disjunct
  pub after : k.left < word
  pub before : word < k.right
  pub chosen : chosen_at g word ≡ Some disjunct
  pub splits : Splits word (HasLink g)
  pub joined : ((k.llist ≢ []) × ((l : Link) × HasLink g l × (l.left ≡ k.left) × (l.right ≡ word))) ⊎ ((k.llist ≡ []) × ((l : Link) × HasLink g l × (l.left ≡ word) × (l.right ≡ k.right)))

pub nil_cases : (cs : List Connector) → (cs ≡ []) ⊎ ((p : ℕ) × (suc p ≡ length cs))
nil_cases [] = inl refl
nil_cases (x ∷ xs) = inr (length xs, refl)

pub not_nil : (cs : List Connector) (p : ℕ) → suc p ≡ length cs → cs ≢ []
not_nil cs p e f = let x = ap length f in omega arith

at_place : ℕ → ℕ → ℕ → ℕ → Bool
at_place a b i p = (a == i) && (b == p)

at_true : (a b i p : ℕ) → at_place a b i p ≡ true → (a ≡ i) × (b ≡ p)
unfolding at_place
at_true a b i p e = (grind (arith, nat_tests), grind (arith, nat_tests))

at_from : (a b i p : ℕ) → a ≡ i → b ≡ p → at_place a b i p ≡ true
unfolding at_place
at_from a b i p e f = grind (arith, nat_tests)

true_false : (b : Bool) → b ≡ true → b ≡ false → ⊥
true_false b e f = let x : ◌≡◌ {A = Bool} true false = sym e ∙ f in absurd cc

-- W is the farthest word at the last place of llist
pub find_by_llist : (positions : List (List Disjunct)) (k : Region) (g : Linkage) (p : ℕ) → k.left < k.right → suc p ≡ length k.llist → Under positions k g → Found k g
find_by_llist positions k g p lr e u =
    let f = under_fits positions k g lr u in
    let here : rights_in k g k.left ≡ k.llist = but_here k.left k.llist (λ i. right_list (chosen_at g i)) k.left refl in
    let c = get_in (rights_in k g k.left) p (let x = ap length here in omega arith) in
    let s = f.served_right k.left p c.0 (omega arith) lr c.1 in
    elim (greatest (λ l. at_place l.left l.lplace k.left p) (λ l. l.right) g.links) [
      | inr n ↦ absurd (true_false (at_place s.some.0.left s.some.0.lplace k.left p) (at_from s.some.0.left s.some.0.lplace k.left p s.some.2 s.some.3) (n s.some.0 s.some.1))
      | inl w ↦ (let l0 : Link = w.0 in
          let h0 : HasLink g l0 = w.1 in
          let t = at_true l0.left l0.lplace k.left p w.2 in
          let b = f.within l0 h0 in
          let m = f.matched l0 h0 in
          let before : l0.right < k.right = elim (cases_lt l0.right k.right) [ inl x ↦ x | inr x ↦ absurd (u.apart l0 h0 t.0 (omega arith)) ] in
          let linked = left_linked (chosen_at g l0.right) l0.rplace m.1 (subst (λ z. slice_get z l0.rplace ≡ Some m.1) (lefts_else k g l0.right (λ x. absurd (omega arith))) m.3) in
          let d = some_of (chosen_at g l0.right) linked in
          record {
            word = l0.right;
            disjunct = d.0;
            after = omega arith;
            before = before;
            chosen = d.1;
            splits = λ l h. elim (cases_lt l0.right l.right) [
              | inr x ↦ inl x
              | inl x ↦ elim (cases_lt l.left l0.right) [
                | inr y ↦ inr y
                | inl y ↦ elim (cases_lt k.left l.left) [
                  | inl z ↦ absurd (f.planar l0 l h0 h (omega arith) y x)
                  | inr z ↦ (let v = f.within l h in let at : l.left ≡ k.left = omega arith in
                      let q = f.matched l h in
                      let r = slice_get_within (rights_in k g l.left) l.lplace q.0 q.2 in
                      let len = ap length (subst (λ z. rights_in k g z ≡ k.llist) (sym at) here) in
                      elim (cases_lt l.lplace p) [
                        | inl lt ↦ (let o = f.ordered_right l l0 h h0 (at ∙ sym t.0) (omega arith) in absurd (omega arith))
                        | inr ge ↦ (let o = w.3 l h (at_from l.left l.lplace k.left p at (omega arith)) in absurd (omega arith))
                      ])
                ]
              ]
            ];
            joined = inl (not_nil k.llist p e, (l0, h0, t.0, refl));
          })
    ]

-- the same from the other end, where llist is empty
pub find_by_rlist : (positions : List (List Disjunct)) (k : Region) (g : Linkage) (p : ℕ) → k.left < k.right → k.llist ≡ [] → suc p ≡ length k.rlist → Under positions k g → Found k g
find_by_rlist positions k g p lr nil e u =
    let f = under_fits positions k g lr u in
    let here : lefts_in k g k.right ≡ k.rlist = but_here k.right k.rlist (λ i. left_list (chosen_at g i)) k.right refl in
    let c = get_in (lefts_in k g k.right) p (let x = ap length here in omega arith) in
    let s = f.served_left k.right p c.0 lr (omega arith) c.1 in
    elim (greatest (λ l. at_place l.right l.rplace k.right p) (λ l. k.right - l.left) g.links) [
      | inr n ↦ absurd (true_false (at_place s.some.0.right s.some.0.rplace k.right p) (at_from s.some.0.right s.some.0.rplace k.right p s.some.2 s.some.3) (n s.some.0 s.some.1))
      | inl w ↦ (let l0 : Link = w.0 in
          let h0 : HasLink g l0 = w.1 in
          let t = at_true l0.right l0.rplace k.right p w.2 in
          let b = f.within l0 h0 in
          let m = f.matched l0 h0 in
          let after : k.left < l0.left = elim (cases_lt k.left l0.left) [ inl x ↦ x | inr x ↦ absurd (u.apart l0 h0 (omega arith) t.0) ] in
          let linked = right_linked (chosen_at g l0.left) l0.lplace m.0 (subst (λ z. slice_get z l0.lplace ≡ Some m.0) (rights_else k g l0.left (λ x. absurd (omega arith))) m.2) in
          let d = some_of (chosen_at g l0.left) linked in
          record {
            word = l0.left;
            disjunct = d.0;
            after = after;
            before = omega arith;
            chosen = d.1;
            splits = λ l h. elim (cases_lt l.left l0.left) [
              | inr x ↦ inr x
              | inl x ↦ elim (cases_lt l0.left l.right) [
                | inr y ↦ inl y
                | inl y ↦ elim (cases_lt l.right k.right) [
                  | inl z ↦ absurd (f.planar l l0 h h0 x y (omega arith))
                  | inr z ↦ (let v = f.within l h in let at : l.right ≡ k.right = omega arith in
                      let q = f.matched l h in
                      let r = slice_get_within (lefts_in k g l.right) l.rplace q.1 q.3 in
                      let len = ap length (subst (λ z. lefts_in k g z ≡ k.rlist) (sym at) here) in
                      elim (cases_lt l.rplace p) [
                        | inl lt ↦ (let o = f.ordered_left l l0 h h0 (at ∙ sym t.0) (omega arith) in absurd (omega arith))
                        | inr ge ↦ (let o = w.3 l h (at_from l.right l.rplace k.right p at (omega arith)) in absurd (omega arith))
                      ])
                ]
              ]
            ];
            joined = inr (nil, (l0, h0, refl, t.0));
          })
    ]

-- a search over the links of g is one over those of a part of them
search_left : (g : Linkage) (W : ℕ) → Searchable (λ l. HasLink g l × (l.right ≤ W))
search_left g W p =
    elim (greatest (λ l. p l && nat_le l.right W) (λ l. 0) g.links) [
      | inl s ↦ inl (s.0, (s.1, grind (arith, nat_tests)), grind (arith, nat_tests))
      | inr n ↦ inr (λ l (h, b). let e = n l h in grind (arith, nat_tests))
    ]

search_right : (g : Linkage) (W : ℕ) → Searchable (λ l. HasLink g l × (W ≤ l.left))
search_right g W p =
    elim (greatest (λ l. p l && nat_le W l.left) (λ l. 0) g.links) [
      | inl s ↦ inl (s.0, (s.1, grind (arith, nat_tests)), grind (arith, nat_tests))
      | inr n ↦ inr (λ l (h, b). let e = n l h in grind (arith, nat_tests))
    ]

abbrev pub region_of : ℕ → ℕ → List Connector → List Connector → ℕ → Region
region_of L R ll rl n = record { left = L; right = R; llist = ll; rlist = rl; nulls = n }

-- the lists of a part of the linkage are those of the linkage, but at the part's own end
part_rights : (k : Region) (g : Linkage) (L R : ℕ) (near : List Connector) → k.left ≤ L → (i : ℕ) → L ≤ i → i < R
    → but_at L near (λ i. right_list (chosen_at (part_of L R g) i)) i ≡ but_at L near (rights_in k g) i
part_rights k g L R near kl i li ir =
    elim (eq_or_not i L) [
      | inl e ↦ but_here L near (λ i. right_list (chosen_at (part_of L R g) i)) i e ∙ sym (but_here L near (rights_in k g) i e)
      | inr n ↦ but_else L near (λ i. right_list (chosen_at (part_of L R g) i)) i n ∙ ap right_list (part_chosen L R g i (omega arith) ir)
          ∙ sym (rights_else k g i (λ e. absurd (omega arith))) ∙ sym (but_else L near (rights_in k g) i n)
    ]

part_lefts : (k : Region) (g : Linkage) (L R : ℕ) (far : List Connector) → R ≤ k.right → (j : ℕ) → L < j → j ≤ R
    → but_at R far (λ i. left_list (chosen_at (part_of L R g) i)) j ≡ but_at R far (lefts_in k g) j
part_lefts k g L R far kr j lj jr =
    elim (eq_or_not j R) [
      | inl e ↦ but_here R far (λ i. left_list (chosen_at (part_of L R g) i)) j e ∙ sym (but_here R far (lefts_in k g) j e)
      | inr n ↦ but_else R far (λ i. left_list (chosen_at (part_of L R g) i)) j n ∙ ap left_list (part_chosen L R g j lj (omega arith))
          ∙ sym (lefts_else k g j (λ e. absurd (omega arith))) ∙ sym (but_else R far (lefts_in k g) j n)
    ]

-- of the linkage's links those from L to R, but none of these two
part_links : (g : Linkage) (L R : ℕ) (A : Link → Type 0) → ((l : Link) → A l → HasLink g l × (L ≤ l.left) × (l.right ≤ R)) → ((l : Link) → HasLink g l → L ≤ l.left → l.right ≤ R → A l) → (l : Link) → HasLink (part_of L R g) l ↔ OpenOf L R A l
part_links g L R A out in' l = (
  (λ h. let r = from_part L R g l h in (in' l r.0 r.1.from r.1.to, r.1.apart)),
  (λ o. let r = out l o.0 in in_part L R g l r.0 (record { from = r.1; to = r.2; apart = o.1 })),
)

-- a part that was taken lies under its key
under_part : (positions : List (List Disjunct)) (k : Region) (g : Linkage) (L R : ℕ) (A : Link → Type 0) (near far : List Connector) → k.left ≤ L → L < R → R ≤ k.right → Belongs positions g
    → ((l : Link) → A l → HasLink g l × (L ≤ l.left) × (l.right ≤ R)) → ((l : Link) → HasLink g l → L ≤ l.left → l.right ≤ R → A l)
    → Fits L R (but_at L near (rights_in k g)) (but_at R far (lefts_in k g)) (IsLinked g) (OpenOf L R A)
    → Under positions (region_of L R near far (nulls_from (part_of L R g) (suc L) (R - suc L))) (part_of L R g)
under_part positions k g L R A near far kl lr kr b out in' f =
    let key = region_of L R near far (nulls_from (part_of L R g) (suc L) (R - suc L)) in
    fits_under positions key (part_of L R g) lr (part_belongs positions L R g b) (λ l h. (from_part L R g l h).1.apart) refl
    (fits_same L R (but_at L near (rights_in k g)) (but_at R far (lefts_in k g)) (rights_in key (part_of L R g)) (lefts_in key (part_of L R g)) (IsLinked g) (IsLinked (part_of L R g)) (OpenOf L R A) (HasLink (part_of L R g))
    (part_rights k g L R near kl) (part_lefts k g L R far kr) (λ i a c h. (part_inside L R g i h).1.1) (part_links g L R A out in') f)

pub is_some_joint : (o : Option Joint) (L R : ℕ) → ((l : Link) × IsJoint o L R l) → IsSome o
is_some_joint None L R h = absurd h.1
is_some_joint (Some j) L R h = refl

-- a linkage under a region is spelled by a cut
pub take_apart : (positions : List (List Disjunct)) (k : Region) (g : Linkage) → k.left < k.right → Under positions k g → Found k g → (c : Split) × IsCut positions k c × Spells positions k c g
take_apart positions k g lr u w =
    let L = k.left in
    let R = k.right in
    let W = w.word in
    let d = w.disjunct in
    let lw = w.after in
    let wr = w.before in
    let f = under_fits positions k g lr u in
    let b = u.part.belongs in
    let A : Link → Type 0 = λ l. HasLink g l × (l.right ≤ W) in
    let B : Link → Type 0 = λ l. HasLink g l × (W ≤ l.left) in
    let outA : (l : Link) → A l → HasLink g l × (L ≤ l.left) × (l.right ≤ W) = λ l a. let v = f.within l a.0 in (a.0, v.0, a.1) in
    let outB : (l : Link) → B l → HasLink g l × (W ≤ l.left) × (l.right ≤ R) = λ l a. let v = f.within l a.0 in (a.0, a.1, v.2) in
    let inA : (l : Link) → HasLink g l → L ≤ l.left → l.right ≤ W → A l = λ l h x y. (h, y) in
    let inB : (l : Link) → HasLink g l → W ≤ l.left → l.right ≤ R → B l = λ l h x y. (h, x) in
    let fa : Fits L W (rights_in k g) (lefts_in k g) (IsLinked g) A = fits_left L R W (rights_in k g) (lefts_in k g) (IsLinked g) (HasLink g) A lw (omega arith) w.splits (λ l. ((λ x. x), (λ x. x))) f in
    let fb : Fits W R (rights_in k g) (lefts_in k g) (IsLinked g) B = fits_right L R W (rights_in k g) (lefts_in k g) (IsLinked g) (HasLink g) B (omega arith) wr w.splits (λ l. ((λ x. x), (λ x. x))) f in
    let ta : Taken L W (rights_in k g) (lefts_in k g) (IsLinked g) A = take_side L W (rights_in k g) (lefts_in k g) (IsLinked g) A lw (search_left g W) fa in
    let tb : Taken W R (rights_in k g) (lefts_in k g) (IsLinked g) B = take_side W R (rights_in k g) (lefts_in k g) (IsLinked g) B wr (search_right g W) fb in
    let ga = part_of L W g in
    let gb = part_of W R g in
    let lkey = region_of L W ta.near ta.far (nulls_from ga (suc L) (W - suc L)) in
    let rkey = region_of W R tb.near tb.far (nulls_from gb (suc W) (R - suc W)) in
    let atL : rights_in k g L ≡ k.llist = but_here L k.llist (λ i. right_list (chosen_at g i)) L refl in
    let atR : lefts_in k g R ≡ k.rlist = but_here R k.rlist (λ i. left_list (chosen_at g i)) R refl in
    let lefts_w : lefts_in k g W ≡ d.left = lefts_else k g W (λ e. absurd (omega arith)) ∙ ap left_list w.chosen in
    let rights_w : rights_in k g W ≡ d.right = rights_else k g W (λ e. absurd (omega arith)) ∙ ap right_list w.chosen in
    let c : Split = record { word = W; disjunct = d; to_left = ta.joint; to_right = tb.joint; lkey = lkey; rkey = rkey } in
    let la = part_links g L W A outA inA in
    let lb = part_links g W R B outB inB in (
      c,
      record {
        after = lw;
        before = wr;
        listed = b.listed W d w.chosen;
        ends_left = (refl, refl);
        ends_right = (refl, refl);
        at_left = subst (λ z. IsCutAt ta.joint z d.left ta.near ta.far) atL (subst (λ z. IsCutAt ta.joint (rights_in k g L) z ta.near ta.far) lefts_w ta.cut);
        at_right = subst (λ z. IsCutAt tb.joint z k.rlist tb.near tb.far) rights_w (subst (λ z. IsCutAt tb.joint (rights_in k g W) z tb.near tb.far) atR tb.cut);
        by_llist = λ ne. elim w.joined [
          | inl x ↦ (let l = x.1 in elim (ta.rest l.0 (l.1, omega arith)) [ inl o ↦ absurd (o.1 l.2 l.3) | inr j ↦ is_some_joint ta.joint L W (l.0, j) ])
          | inr x ↦ absurd (ne x.0)
        ];
        by_rlist = λ nil. elim w.joined [
          | inl x ↦ absurd (x.0 nil)
          | inr x ↦ (let l = x.1 in elim (tb.rest l.0 (l.1, omega arith)) [ inl o ↦ absurd (o.1 l.2 l.3) | inr j ↦ is_some_joint tb.joint W R (l.0, j) ])
        ];
        few_left = nulls_few ga (suc L) (W - suc L);
        few_right = nulls_few gb (suc W) (R - suc W);
        nulls = sym (nulls_cut L W R g d lw wr w.chosen) ∙ u.nulls;
      },
      record {
        part = u.part;
        chosen = w.chosen;
        left = under_part positions k g L W A ta.near ta.far (omega arith) lw (omega arith) b outA inA ta.fits;
        right = under_part positions k g W R B tb.near tb.far (omega arith) wr (omega arith) b outB inB tb.fits;
        joint_left = λ l j. (ta.joined l j).0;
        joint_right = λ l j. (tb.joined l j).0;
        rest = λ l h. elim (w.splits l h) [
          | inl x ↦ elim (ta.rest l (h, x)) [ inl o ↦ inl ((la l).1 o) | inr j ↦ inr (inr (inl j)) ]
          | inr x ↦ elim (tb.rest l (h, x)) [ inl o ↦ inr (inl ((lb l).1 o)) | inr j ↦ inr (inr (inr j)) ]
        ];
      },
    )

pub key_is : (a : Region) (L R : ℕ) → a.left ≡ L → a.right ≡ R → a ≡ region_of L R a.llist a.rlist a.nulls
key_is a L R e f =
    let x : a ≡ region_of a.left a.right a.llist a.rlist a.nulls = refl in
    subst (λ z. a ≡ region_of z R a.llist a.rlist a.nulls) e (subst (λ z. a ≡ region_of a.left z a.llist a.rlist a.nulls) f x)

-- a part that lies under its key fits with the lists of the whole
part_fits : (positions : List (List Disjunct)) (k : Region) (g : Linkage) (L R : ℕ) (near far : List Connector) (n : ℕ) → k.left ≤ L → L < R → R ≤ k.right
    → Under positions (region_of L R near far n) (part_of L R g) → Fits L R (but_at L near (rights_in k g)) (but_at R far (lefts_in k g)) (IsLinked g) (HasLink (part_of L R g))
part_fits positions k g L R near far n kl lr kr u =
    let key = region_of L R near far n in
    fits_same L R (rights_in key (part_of L R g)) (lefts_in key (part_of L R g)) (but_at L near (rights_in k g)) (but_at R far (lefts_in k g)) (IsLinked (part_of L R g)) (IsLinked g) (HasLink (part_of L R g)) (HasLink (part_of L R g))
    (λ i x y. sym (part_rights k g L R near kl i x y)) (λ j x y. sym (part_lefts k g L R far kr j x y)) (λ i x y h. part_linked L R g i x y h) (λ l. ((λ h. h), (λ h. h)))
    (under_fits positions key (part_of L R g) lr u)

pub joint_ends : (o : Option Joint) (L R : ℕ) (l : Link) → IsJoint o L R l → (l.left ≡ L) × (l.right ≡ R)
joint_ends None L R l h = absurd h
joint_ends (Some j) L R l h = (ap (λ z. z.left) h, ap (λ z. z.right) h)

pub joint_link : (o : Option Joint) (L R : ℕ) → IsSome o → (l : Link) × IsJoint o L R l
joint_link None L R h = absurd cc
joint_link (Some j) L R h = (record { left = L; lplace = j.near; right = R; rplace = j.far }, refl)

-- the two parts, as Spells gives them
pub record Halves (positions : List (List Disjunct)) (k : Region) (c : Split) (g : Linkage) : Type 0 where
  pub fits_left : Fits k.left c.word (but_at k.left c.lkey.llist (rights_in k g)) (but_at c.word c.lkey.rlist (lefts_in k g)) (IsLinked g) (HasLink (part_of k.left c.word g))
  pub fits_right : Fits c.word k.right (but_at c.word c.rkey.llist (rights_in k g)) (but_at k.right c.rkey.rlist (lefts_in k g)) (IsLinked g) (HasLink (part_of c.word k.right g))
  pub nulls_left : nulls_from (part_of k.left c.word g) (suc k.left) (c.word - suc k.left) ≡ c.lkey.nulls
  pub nulls_right : nulls_from (part_of c.word k.right g) (suc c.word) (k.right - suc c.word) ≡ c.rkey.nulls

pub halves : (positions : List (List Disjunct)) (k : Region) (c : Split) (g : Linkage) → IsCut positions k c → Spells positions k c g → Halves positions k c g
halves positions k c g cut s =
    let lw = cut.after in
    let wr = cut.before in
    let ul = subst (λ z. Under positions z (part_of k.left c.word g)) (key_is c.lkey k.left c.word cut.ends_left.0 cut.ends_left.1) s.left in
    let ur = subst (λ z. Under positions z (part_of c.word k.right g)) (key_is c.rkey c.word k.right cut.ends_right.0 cut.ends_right.1) s.right in
    record {
      fits_left = part_fits positions k g k.left c.word c.lkey.llist c.lkey.rlist c.lkey.nulls (omega arith) lw (omega arith) ul;
      fits_right = part_fits positions k g c.word k.right c.rkey.llist c.rkey.rlist c.rkey.nulls (omega arith) wr (omega arith) ur;
      nulls_left = ul.nulls;
      nulls_right = ur.nulls;
    }

-- no link of what a cut spells passes over its word
pub spelled_splits : (positions : List (List Disjunct)) (k : Region) (c : Split) (g : Linkage) → Spells positions k c g → Splits c.word (HasLink g)
spelled_splits positions k c g s l h =
    elim (s.rest l h) [
      | inl x ↦ inl (from_part k.left c.word g l x).1.to
      | inr x ↦ elim x [
        | inl y ↦ inr (from_part c.word k.right g l y).1.from
        | inr y ↦ elim y [
          | inl z ↦ (let e = joint_ends c.to_left k.left c.word l z in inl (omega arith))
          | inr z ↦ (let e = joint_ends c.to_right c.word k.right l z in inr (omega arith))
        ]
      ]
    ]

-- what a cut spells lies under the region
pub put_together : (positions : List (List Disjunct)) (k : Region) (c : Split) (g : Linkage) → k.left < k.right → IsCut positions k c → Spells positions k c g → Under positions k g
put_together positions k c g lr cut s =
    let L = k.left in
    let R = k.right in
    let W = c.word in
    let d = c.disjunct in
    let lw = cut.after in
    let wr = cut.before in
    let A : Link → Type 0 = λ l. HasLink g l × (l.right ≤ W) in
    let B : Link → Type 0 = λ l. HasLink g l × (W ≤ l.left) in
    let ga = part_of L W g in
    let gb = part_of W R g in
    let h2 = halves positions k c g cut s in
    let splits : Splits W (HasLink g) = spelled_splits positions k c g s in
    let atL : rights_in k g L ≡ k.llist = but_here L k.llist (λ i. right_list (chosen_at g i)) L refl in
    let atR : lefts_in k g R ≡ k.rlist = but_here R k.rlist (λ i. left_list (chosen_at g i)) R refl in
    let lefts_w : lefts_in k g W ≡ d.left = lefts_else k g W (λ e. absurd (omega arith)) ∙ ap left_list s.chosen in
    let rights_w : rights_in k g W ≡ d.right = rights_else k g W (λ e. absurd (omega arith)) ∙ ap right_list s.chosen in
    let cut_l : IsCutAt c.to_left (rights_in k g L) (lefts_in k g W) c.lkey.llist c.lkey.rlist =
    subst (λ z. IsCutAt c.to_left z (lefts_in k g W) c.lkey.llist c.lkey.rlist) (sym atL) (subst (λ z. IsCutAt c.to_left k.llist z c.lkey.llist c.lkey.rlist) (sym lefts_w) cut.at_left) in
    let cut_r : IsCutAt c.to_right (rights_in k g W) (lefts_in k g R) c.rkey.llist c.rkey.rlist =
    subst (λ z. IsCutAt c.to_right z (lefts_in k g R) c.rkey.llist c.rkey.rlist) (sym rights_w) (subst (λ z. IsCutAt c.to_right d.right z c.rkey.llist c.rkey.rlist) (sym atR) cut.at_right) in
    let rest_l : (l : Link) → A l → HasLink ga l ⊎ IsJoint c.to_left L W l = λ l a. elim (s.rest l a.0) [
      | inl x ↦ inl x
      | inr x ↦ elim x [
        | inl y ↦ (let v = h2.fits_right.within l y in let t = a.1 in absurd (omega arith))
        | inr y ↦ elim y [
          | inl z ↦ inr z
          | inr z ↦ (let e = joint_ends c.to_right W R l z in let t = a.1 in absurd (omega arith))
        ]
      ]
    ] in
    let rest_r : (l : Link) → B l → HasLink gb l ⊎ IsJoint c.to_right W R l = λ l a. elim (s.rest l a.0) [
      | inl x ↦ (let v = h2.fits_left.within l x in let t = a.1 in absurd (omega arith))
      | inr x ↦ elim x [
        | inl y ↦ inl y
        | inr y ↦ elim y [
          | inl z ↦ (let e = joint_ends c.to_left L W l z in let t = a.1 in absurd (omega arith))
          | inr z ↦ inr z
        ]
      ]
    ] in
    let fa : Fits L W (rights_in k g) (lefts_in k g) (IsLinked g) A =
    put_side L W (rights_in k g) (lefts_in k g) (IsLinked g) A (HasLink ga) c.to_left c.lkey.llist c.lkey.rlist lw cut_l rest_l
    (λ l o. let r = from_part L W g l o in (r.0, r.1.to)) (λ l o. (from_part L W g l o).1.apart)
    (λ l j. let e = joint_ends c.to_left L W l j in (s.joint_left l j, omega arith)) h2.fits_left in
    let fb : Fits W R (rights_in k g) (lefts_in k g) (IsLinked g) B =
    put_side W R (rights_in k g) (lefts_in k g) (IsLinked g) B (HasLink gb) c.to_right c.rkey.llist c.rkey.rlist wr cut_r rest_r
    (λ l o. let r = from_part W R g l o in (r.0, r.1.from)) (λ l o. (from_part W R g l o).1.apart)
    (λ l j. let e = joint_ends c.to_right W R l j in (s.joint_right l j, omega arith)) h2.fits_right in
    let E = EdgeWith L R (HasLink g) in
    let join : Walk E L W = elim (nil_cases k.llist) [
      | inr ne ↦ (let j = joint_link c.to_left L W (cut.by_llist (not_nil k.llist ne.0 ne.1)) in
          let e = joint_ends c.to_left L W j.0 j.1 in forth L W W (inl (j.0, s.joint_left j.0 j.1, e.0, e.1)) (stay W))
      | inl nil ↦ (let j = joint_link c.to_right W R (cut.by_rlist nil) in
          let e = joint_ends c.to_right W R j.0 j.1 in forth L R W (inr (refl, refl)) (back R W W (inl (j.0, s.joint_right j.0 j.1, e.0, e.1)) (stay W)))
    ] in
    fits_under positions k g lr s.part
    (λ l h el er. elim (splits l h) [ inl x ↦ omega arith | inr x ↦ omega arith ])
    (nulls_cut L W R g d lw wr s.chosen ∙ (let a = h2.nulls_left in let b = h2.nulls_right in let t = cut.nulls in omega arith))
    (fits_together L R W (rights_in k g) (lefts_in k g) (IsLinked g) (HasLink g) A B lw wr splits (λ l. ((λ x. x), (λ x. x))) (λ l. ((λ x. x), (λ x. x))) join fa fb)
