-- A linkage under a region is spelled by one cut alone.
use Rattle.std.proofs.Common.{◌≡◌, ◌≢◌, ℕ, suc, ◌-◌, ◌<◌, ◌≤◌, ◌⊎◌, inl, inr, refl, sym, ap, ◌∙◌, subst, List, [], length, Option, Some, None, IsSome, slice_get, arith}
use Rattle.std.proofs.lemmas.Option.{same_Some}
use Rattle.lg_gram.specs.Connectors.{Connector}
use Rattle.lg_gram.specs.Linkages.{Linkage}
use Rattle.lg_gram.specs.Rules.{chosen_at, HasLink, IsLinked}
use Rattle.lg_gram.specs.declared.disjunct.Disjunct.{Disjunct}
use Rattle.lg_gram.specs.declared.linkage.Link.{Link}
use Rattle.lg_region.specs.Parts.{Region, but_at, rights_in, lefts_in, nulls_from, part_of}
use Rattle.lg_region.specs.Cuts.{IsJoint, IsCutAt, Split, IsCut, Spells}
use Rattle.lg_region.specs.declared.key.Joint.{Joint}
use Rattle.lg_region.proofs.Fits.{Fits}
use Rattle.lg_region.proofs.Parts.{from_part}
use Rattle.lg_region.proofs.Joints.{get_in, take_get}
use Rattle.lg_region.proofs.Glue.{Splits}
use Rattle.lg_region.proofs.Sides.{but_here, OnlyMulti}
use Rattle.lg_region.proofs.Region.{halves, spelled_splits, joint_ends, joint_link, is_some_joint, nil_cases, not_nil, region_of, key_is}

one_way : (cs : List Connector) (p : ℕ) (n n' : List Connector) → suc p ≡ length cs → OnlyMulti cs p n → OnlyMulti cs p n'
    → ((c : Connector) → slice_get n p ≡ Some c → (b : Connector) × (slice_get n' p ≡ Some b)) → ((c : Connector) → slice_get n' p ≡ Some c → (b : Connector) × (slice_get n p ≡ Some b)) → n ≡ n'
one_way cs p n n' last (inl e) (inl f) there back' = e ∙ sym f
one_way cs p n n' last (inr e) (inr f) there back' = e.0 ∙ sym f.0
one_way cs p n n' last (inl e) (inr f) there back' =
    let c = get_in cs p (omega arith) in
    let b = back' c.0 (subst (λ z. slice_get z p ≡ Some c.0) (sym f.0) c.1) in
    let r = take_get cs p p b.0 (subst (λ z. slice_get z p ≡ Some b.0) e b.1) in absurd (omega arith)
one_way cs p n n' last (inr e) (inl f) there back' =
    let c = get_in cs p (omega arith) in
    let b = there c.0 (subst (λ z. slice_get z p ≡ Some c.0) (sym e.0) c.1) in
    let r = take_get cs p p b.0 (subst (λ z. slice_get z p ≡ Some b.0) f b.1) in absurd (omega arith)

-- two parts of the same links have the same places at their ends
same_near : (L R : ℕ) (rights lefts : ℕ → List Connector) (Linked : ℕ → Type 0) (H : Link → Type 0) (near far near' far' : List Connector) → L < R
    → Fits L R (but_at L near rights) (but_at R far lefts) Linked H → Fits L R (but_at L near' rights) (but_at R far' lefts) Linked H
    → (p : ℕ) (c : Connector) → slice_get near p ≡ Some c → (b : Connector) × (slice_get near' p ≡ Some b)
same_near L R rights lefts Linked H near far near' far' lr f f' p c h =
    let s = f.served_right L p c (omega arith) lr (subst (λ z. slice_get z p ≡ Some c) (sym (but_here L near rights L refl)) h) in
    let m = f'.matched s.some.0 s.some.1 in
    (m.0, subst (λ z. slice_get z p ≡ Some m.0) (but_here L near' rights s.some.0.left s.some.2) (subst (λ z. slice_get (but_at L near' rights s.some.0.left) z ≡ Some m.0) s.some.3 m.2))

same_far : (L R : ℕ) (rights lefts : ℕ → List Connector) (Linked : ℕ → Type 0) (H : Link → Type 0) (near far near' far' : List Connector) → L < R
    → Fits L R (but_at L near rights) (but_at R far lefts) Linked H → Fits L R (but_at L near' rights) (but_at R far' lefts) Linked H
    → (p : ℕ) (c : Connector) → slice_get far p ≡ Some c → (b : Connector) × (slice_get far' p ≡ Some b)
same_far L R rights lefts Linked H near far near' far' lr f f' p c h =
    let s = f.served_left R p c lr (omega arith) (subst (λ z. slice_get z p ≡ Some c) (sym (but_here R far lefts R refl)) h) in
    let m = f'.matched s.some.0 s.some.1 in
    (m.1, subst (λ z. slice_get z p ≡ Some m.1) (but_here R far' lefts s.some.0.right s.some.2) (subst (λ z. slice_get (but_at R far' lefts s.some.0.right) z ≡ Some m.1) s.some.3 m.3))

ends_same : (L R : ℕ) (rights lefts : ℕ → List Connector) (Linked : ℕ → Type 0) (H : Link → Type 0) (o : Option Joint) (cs ds near far near' far' : List Connector) → L < R
    → IsCutAt o cs ds near far → IsCutAt o cs ds near' far'
    → Fits L R (but_at L near rights) (but_at R far lefts) Linked H → Fits L R (but_at L near' rights) (but_at R far' lefts) Linked H → (near ≡ near') × (far ≡ far')
ends_same L R rights lefts Linked H None cs ds near far near' far' lr cut cut' f f' = (cut.0 ∙ sym cut'.0, cut.1 ∙ sym cut'.1)
ends_same L R rights lefts Linked H (Some j) cs ds near far near' far' lr cut cut' f f' = (
  one_way cs j.near near near' cut.0.0 cut.0.1 cut'.0.1 (same_near L R rights lefts Linked H near far near' far' lr f f' j.near) (same_near L R rights lefts Linked H near' far' near far lr f' f j.near),
  one_way ds j.far far far' cut.1.0 cut.1.1 cut'.1.1 (same_far L R rights lefts Linked H near far near' far' lr f f' j.far) (same_far L R rights lefts Linked H near' far' near far lr f' f j.far),
)

joint_made : ℕ → ℕ → Joint
joint_made a b = record { near = a; far = b }

joint_made_same : (a b c d : ℕ) → a ≡ c → b ≡ d → joint_made a b ≡ joint_made c d
joint_made_same a b c d e f = cc

joint_same : (o o' : Option Joint) (cs ds near far near' far' : List Connector) → IsCutAt o cs ds near far → IsCutAt o' cs ds near' far' → (IsSome o → IsSome o') → (IsSome o' → IsSome o) → o ≡ o'
unfolding joint_made
joint_same None None cs ds near far near' far' cut cut' there back' = refl
joint_same None (Some j) cs ds near far near' far' cut cut' there back' = let e = back' refl in absurd cc
joint_same (Some j) None cs ds near far near' far' cut cut' there back' = let e = there refl in absurd cc
joint_same (Some j) (Some i) cs ds near far near' far' cut cut' there back' =
    let a = cut.0.0 in let b = cut'.0.0 in let x = cut.1.0 in let y = cut'.1.0 in
    ap (λ z. Some z) (joint_made_same j.near j.far i.near i.far (omega arith) (omega arith))

-- what is known of a cut that spells g, at its word and disjunct
pub record CutAt (k : Region) (W : ℕ) (d : Disjunct) (to_left to_right : Option Joint) (lkey rkey : Region) (g : Linkage) : Type 0 where
  pub fits_left : Fits k.left W (but_at k.left lkey.llist (rights_in k g)) (but_at W lkey.rlist (lefts_in k g)) (IsLinked g) (HasLink (part_of k.left W g))
  pub fits_right : Fits W k.right (but_at W rkey.llist (rights_in k g)) (but_at k.right rkey.rlist (lefts_in k g)) (IsLinked g) (HasLink (part_of W k.right g))
  pub left_is : lkey ≡ region_of k.left W lkey.llist lkey.rlist (nulls_from (part_of k.left W g) (suc k.left) (W - suc k.left))
  pub right_is : rkey ≡ region_of W k.right rkey.llist rkey.rlist (nulls_from (part_of W k.right g) (suc W) (k.right - suc W))
  pub at_left : IsCutAt to_left k.llist d.left lkey.llist lkey.rlist
  pub at_right : IsCutAt to_right d.right k.rlist rkey.llist rkey.rlist
  pub joint_left : (l : Link) → IsJoint to_left k.left W l → HasLink g l
  pub joint_right : (l : Link) → IsJoint to_right W k.right l → HasLink g l
  pub rest : (l : Link) → HasLink g l → HasLink (part_of k.left W g) l ⊎ (HasLink (part_of W k.right g) l ⊎ (IsJoint to_left k.left W l ⊎ IsJoint to_right W k.right l))

cut_at : (positions : List (List Disjunct)) (k : Region) (c : Split) (g : Linkage) → IsCut positions k c → Spells positions k c g → CutAt k c.word c.disjunct c.to_left c.to_right c.lkey c.rkey g
cut_at positions k c g cut s =
    let h = halves positions k c g cut s in
    record {
      fits_left = h.fits_left;
      fits_right = h.fits_right;
      left_is = subst (λ z. c.lkey ≡ region_of k.left c.word c.lkey.llist c.lkey.rlist z) (sym h.nulls_left) (key_is c.lkey k.left c.word cut.ends_left.0 cut.ends_left.1);
      right_is = subst (λ z. c.rkey ≡ region_of c.word k.right c.rkey.llist c.rkey.rlist z) (sym h.nulls_right) (key_is c.rkey c.word k.right cut.ends_right.0 cut.ends_right.1);
      at_left = cut.at_left;
      at_right = cut.at_right;
      joint_left = s.joint_left;
      joint_right = s.joint_right;
      rest = s.rest;
    }

some_left : (k : Region) (W : ℕ) (d : Disjunct) (o p o' p' : Option Joint) (l r l' r' : Region) (g : Linkage) → k.left < W → CutAt k W d o p l r g → CutAt k W d o' p' l' r' g → IsSome o → IsSome o'
some_left k W d o p o' p' l r l' r' g lw a b h =
    let j = joint_link o k.left W h in
    let e = joint_ends o k.left W j.0 j.1 in
    elim (b.rest j.0 (a.joint_left j.0 j.1)) [
      | inl x ↦ absurd ((from_part k.left W g j.0 x).1.apart e.0 e.1)
      | inr x ↦ elim x [
        | inl y ↦ (let t = (from_part W k.right g j.0 y).1.from in absurd (omega arith))
        | inr y ↦ elim y [
          | inl z ↦ is_some_joint o' k.left W (j.0, z)
          | inr z ↦ (let t = joint_ends p' W k.right j.0 z in absurd (omega arith))
        ]
      ]
    ]

some_right : (k : Region) (W : ℕ) (d : Disjunct) (o p o' p' : Option Joint) (l r l' r' : Region) (g : Linkage) → W < k.right → CutAt k W d o p l r g → CutAt k W d o' p' l' r' g → IsSome p → IsSome p'
some_right k W d o p o' p' l r l' r' g wr a b h =
    let j = joint_link p W k.right h in
    let e = joint_ends p W k.right j.0 j.1 in
    elim (b.rest j.0 (a.joint_right j.0 j.1)) [
      | inl x ↦ (let t = (from_part k.left W g j.0 x).1.to in absurd (omega arith))
      | inr x ↦ elim x [
        | inl y ↦ absurd ((from_part W k.right g j.0 y).1.apart e.0 e.1)
        | inr y ↦ elim y [
          | inl z ↦ (let t = joint_ends o' k.left W j.0 z in absurd (omega arith))
          | inr z ↦ is_some_joint p' W k.right (j.0, z)
        ]
      ]
    ]

split_made : ℕ → Disjunct → Option Joint → Option Joint → Region → Region → Split
split_made W d o p l r = record { word = W; disjunct = d; to_left = o; to_right = p; lkey = l; rkey = r }

split_made_same : (W W' : ℕ) (d d' : Disjunct) (o o' p p' : Option Joint) (l l' r r' : Region) → W ≡ W' → d ≡ d' → o ≡ o' → p ≡ p' → l ≡ l' → r ≡ r' → split_made W d o p l r ≡ split_made W' d' o' p' l' r'
split_made_same W W' d d' o o' p p' l l' r r' a b c e f h = cc

region_same : (L R n : ℕ) (a b a' b' : List Connector) → a ≡ a' → b ≡ b' → region_of L R a b n ≡ region_of L R a' b' n
region_same L R n a b a' b' e f = subst (λ z. region_of L R a b n ≡ region_of L R z b' n) e (subst (λ z. region_of L R a b n ≡ region_of L R a z n) f refl)

same_at : (k : Region) (W : ℕ) (d : Disjunct) (o p o' p' : Option Joint) (l r l' r' : Region) (g : Linkage) → k.left < W → W < k.right → CutAt k W d o p l r g → CutAt k W d o' p' l' r' g
    → (o ≡ o') × (p ≡ p') × (l ≡ l') × (r ≡ r')
same_at k W d o p o' p' l r l' r' g lw wr a b =
    let eo = joint_same o o' k.llist d.left l.llist l.rlist l'.llist l'.rlist a.at_left b.at_left (some_left k W d o p o' p' l r l' r' g lw a b) (some_left k W d o' p' o p l' r' l r g lw b a) in
    let ep = joint_same p p' d.right k.rlist r.llist r.rlist r'.llist r'.rlist a.at_right b.at_right (some_right k W d o p o' p' l r l' r' g wr a b) (some_right k W d o' p' o p l' r' l r g wr b a) in
    let el = ends_same k.left W (rights_in k g) (lefts_in k g) (IsLinked g) (HasLink (part_of k.left W g)) o k.llist d.left l.llist l.rlist l'.llist l'.rlist lw a.at_left
    (subst (λ z. IsCutAt z k.llist d.left l'.llist l'.rlist) (sym eo) b.at_left) a.fits_left b.fits_left in
    let er = ends_same W k.right (rights_in k g) (lefts_in k g) (IsLinked g) (HasLink (part_of W k.right g)) p d.right k.rlist r.llist r.rlist r'.llist r'.rlist wr a.at_right
    (subst (λ z. IsCutAt z d.right k.rlist r'.llist r'.rlist) (sym ep) b.at_right) a.fits_right b.fits_right in (
      eo,
      ep,
      a.left_is ∙ region_same k.left W (nulls_from (part_of k.left W g) (suc k.left) (W - suc k.left)) l.llist l.rlist l'.llist l'.rlist el.0 el.1 ∙ sym b.left_is,
      a.right_is ∙ region_same W k.right (nulls_from (part_of W k.right g) (suc W) (k.right - suc W)) r.llist r.rlist r'.llist r'.rlist er.0 er.1 ∙ sym b.right_is,
    )

-- the word is the farthest at the end with a list
same_word_le : (positions : List (List Disjunct)) (k : Region) (c c' : Split) (g : Linkage) → IsCut positions k c → Spells positions k c g → IsCut positions k c' → Spells positions k c' g
    → ((k.llist ≢ []) → c'.word ≤ c.word) × ((k.llist ≡ []) → c.word ≤ c'.word)
same_word_le positions k c c' g cut s cut' s' =
    let splits : Splits c.word (HasLink g) = spelled_splits positions k c g s in
    let lw = cut.after in
    let wr = cut.before in (
      (λ ne. let j = joint_link c'.to_left k.left c'.word (cut'.by_llist ne) in
          let e = joint_ends c'.to_left k.left c'.word j.0 j.1 in
          elim (splits j.0 (s'.joint_left j.0 j.1)) [ inl x ↦ omega arith | inr x ↦ absurd (omega arith) ]),
      (λ nil. let j = joint_link c'.to_right c'.word k.right (cut'.by_rlist nil) in
          let e = joint_ends c'.to_right c'.word k.right j.0 j.1 in
          elim (splits j.0 (s'.joint_right j.0 j.1)) [ inl x ↦ absurd (omega arith) | inr x ↦ omega arith ]),
    )

pub same_cut : (positions : List (List Disjunct)) (k : Region) (c c' : Split) (g : Linkage) → IsCut positions k c → Spells positions k c g → IsCut positions k c' → Spells positions k c' g → c ≡ c'
unfolding split_made
same_cut positions k c c' g cut s cut' s' =
    let a = same_word_le positions k c c' g cut s cut' s' in
    let b = same_word_le positions k c' c g cut' s' cut s in
    let ew : c.word ≡ c'.word = elim (nil_cases k.llist) [
      | inl nil ↦ (let x = a.1 nil in let y = b.1 nil in omega arith)
      | inr ne ↦ (let x = a.0 (not_nil k.llist ne.0 ne.1) in let y = b.0 (not_nil k.llist ne.0 ne.1) in omega arith)
    ] in
    let ed : c.disjunct ≡ c'.disjunct = same_Some c.disjunct c'.disjunct (sym s.chosen ∙ ap (λ z. chosen_at g z) ew ∙ s'.chosen) in
    let y = cut_at positions k c' g cut' s' in
    let z = same_at k c.word c.disjunct c.to_left c.to_right c'.to_left c'.to_right c.lkey c.rkey c'.lkey c'.rkey g cut.after cut.before (cut_at positions k c g cut s)
    (subst (λ d. CutAt k c.word d c'.to_left c'.to_right c'.lkey c'.rkey g) (sym ed) (subst (λ w. CutAt k w c'.disjunct c'.to_left c'.to_right c'.lkey c'.rkey g) (sym ew) y)) in
    split_made_same c.word c'.word c.disjunct c'.disjunct c.to_left c'.to_left c.to_right c'.to_right c.lkey c'.lkey c.rkey c'.rkey ew ed z.0 z.1 z.2 z.3
