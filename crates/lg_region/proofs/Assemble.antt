-- Two parts, a word with its disjunct, and the joints make one linkage, and only one.
use Rattle.std.proofs.Common.{◌≡◌, ◌≢◌, ℕ, suc, zero, ◌<◌, List, [], ◌∷◌, length, get_or, set, refl, sym, ap, ◌∙◌, subst, inl, inr, ◌⊎◌, Contains, Option, Some, None, IsSome, arith}
use Rattle.std.proofs.lemmas.Bool.{cases_lt}
use Rattle.std.proofs.lemmas.List.{get_or-set_same, get_or-set_other, length-set}
use Rattle.lg_gram.specs.Connectors.{Connector}
use Rattle.lg_gram.specs.Linkages.{Linkage}
use Rattle.lg_gram.specs.Rules.{chosen_at, HasLink, Belongs}
use Rattle.lg_gram.specs.declared.disjunct.Disjunct.{Disjunct}
use Rattle.lg_gram.specs.declared.linkage.Link.{Link}
use Rattle.lg_region.specs.Parts.{Region, IsPart, Under, part_of}
use Rattle.lg_region.specs.Cuts.{IsJoint, Split, IsCut, Spells}
use Rattle.lg_region.specs.declared.key.Joint.{Joint}
use Rattle.lg_base.proofs.Elements.{contains_here, contains_none, contains_cases}
use Rattle.lg_region.proofs.Parts.{in_part, from_part, part_chosen, part_none, part_belongs}
use Rattle.lg_region.proofs.Region.{under_fits, joint_ends, region_of, key_is}
use Rattle.lg_gram.proofs.LinkSets.{same_set, insert_all, union_set, union_left, union_right, union_out}
use Rattle.lg_region.proofs.Empty.{none_of}

same_list : (xs ys : List (Option Disjunct)) → length xs ≡ length ys → ((i : ℕ) → get_or xs i None ≡ get_or ys i None) → xs ≡ ys
same_list [] [] e h = refl
same_list [] (y ∷ ys) e h = absurd (omega arith)
same_list (x ∷ xs) [] e h = absurd (omega arith)
same_list (x ∷ xs) (y ∷ ys) e h =
    let a : x ≡ y = h zero in
    let t : xs ≡ ys = same_list xs ys (omega arith) (λ i. h (suc i)) in
    subst (λ z. x ∷ xs ≡ z ∷ ys) a (ap (λ z. x ∷ z) t)

same_linkage : (g h : Linkage) → g.chosen ≡ h.chosen → g.links ≡ h.links → g ≡ h
same_linkage g h a b =
    let e : g ≡ record { chosen = g.chosen; links = g.links } = refl in
    subst (λ z. g ≡ record { chosen = z; links = h.links }) a (subst (λ z. g ≡ record { chosen = g.chosen; links = z }) b e)

-- linkages of one problem are one where they choose the same and have the same links
pub same_by : (positions : List (List Disjunct)) (g h : Linkage) → Belongs positions g → Belongs positions h → ((i : ℕ) → chosen_at g i ≡ chosen_at h i) → ((l : Link) → HasLink g l → HasLink h l) → ((l : Link) → HasLink h l → HasLink g l) → g ≡ h
same_by positions g h bg bh c there back' =
    same_linkage g h (same_list g.chosen h.chosen (bg.same_length ∙ sym bh.same_length) c) (same_set g.links h.links bg.set bh.set there back')

-- g is what the parts, the word and the joints of a cut make
pub record Glued (positions : List (List Disjunct)) (k : Region) (c : Split) (ga gb g : Linkage) : Type 0 where
  pub belongs : Belongs positions g
  pub word : chosen_at g c.word ≡ Some c.disjunct
  pub before : (i : ℕ) → i < c.word → chosen_at g i ≡ chosen_at ga i
  pub after : (i : ℕ) → c.word < i → chosen_at g i ≡ chosen_at gb i
  pub out : (l : Link) → HasLink g l → HasLink ga l ⊎ (HasLink gb l ⊎ (IsJoint c.to_left k.left c.word l ⊎ IsJoint c.to_right c.word k.right l))
  pub in_left : (l : Link) → HasLink ga l → HasLink g l
  pub in_right : (l : Link) → HasLink gb l → HasLink g l
  pub in_joint_left : (l : Link) → IsJoint c.to_left k.left c.word l → HasLink g l
  pub in_joint_right : (l : Link) → IsJoint c.to_right c.word k.right l → HasLink g l

pub none_outside : (positions : List (List Disjunct)) (L R : ℕ) (g : Linkage) (i : ℕ) → IsPart positions L R g → (L < i → i < R → ⊥) → chosen_at g i ≡ None
none_outside positions L R g i part out = none_of (chosen_at g i) (λ h. let b = part.inside i h in out b.0 b.1)

-- a part of what was made is the part that it was made of
left_is : (positions : List (List Disjunct)) (k : Region) (c : Split) (ga gb g : Linkage) (near far near' far' : List Connector) (m n : ℕ) → k.left < c.word → c.word < k.right
    → Under positions (region_of k.left c.word near far m) ga → Under positions (region_of c.word k.right near' far' n) gb → Glued positions k c ga gb g → part_of k.left c.word g ≡ ga
left_is positions k c ga gb g near far near' far' m n lw wr ua ub x =
    let fa = under_fits positions (region_of k.left c.word near far m) ga lw ua in
    let fb = under_fits positions (region_of c.word k.right near' far' n) gb wr ub in
    same_by positions (part_of k.left c.word g) ga (part_belongs positions k.left c.word g x.belongs).belongs ua.part.belongs
    (λ i. elim (cases_lt k.left i) [
      | inl p ↦ elim (cases_lt i c.word) [
        | inl q ↦ part_chosen k.left c.word g i p q ∙ x.before i q
        | inr q ↦ part_none k.left c.word g i (λ a b. absurd (omega arith)) ∙ sym (none_outside positions k.left c.word ga i ua.part (λ a b. absurd (omega arith)))
      ]
      | inr p ↦ part_none k.left c.word g i (λ a b. absurd (omega arith)) ∙ sym (none_outside positions k.left c.word ga i ua.part (λ a b. absurd (omega arith)))
    ])
    (λ l h. let r = from_part k.left c.word g l h in let t = r.1.to in elim (x.out l r.0) [
      | inl y ↦ y
      | inr y ↦ elim y [
        | inl z ↦ (let v = fb.within l z in absurd (omega arith))
        | inr z ↦ elim z [
          | inl j ↦ (let e = joint_ends c.to_left k.left c.word l j in absurd (r.1.apart e.0 e.1))
          | inr j ↦ (let e = joint_ends c.to_right c.word k.right l j in absurd (omega arith))
        ]
      ]
    ])
    (λ l h. let v = fa.within l h in in_part k.left c.word g l (x.in_left l h) (record { from = v.0; to = v.2; apart = ua.apart l h }))

right_is : (positions : List (List Disjunct)) (k : Region) (c : Split) (ga gb g : Linkage) (near far near' far' : List Connector) (m n : ℕ) → k.left < c.word → c.word < k.right
    → Under positions (region_of k.left c.word near far m) ga → Under positions (region_of c.word k.right near' far' n) gb → Glued positions k c ga gb g → part_of c.word k.right g ≡ gb
right_is positions k c ga gb g near far near' far' m n lw wr ua ub x =
    let fa = under_fits positions (region_of k.left c.word near far m) ga lw ua in
    let fb = under_fits positions (region_of c.word k.right near' far' n) gb wr ub in
    same_by positions (part_of c.word k.right g) gb (part_belongs positions c.word k.right g x.belongs).belongs ub.part.belongs
    (λ i. elim (cases_lt c.word i) [
      | inl p ↦ elim (cases_lt i k.right) [
        | inl q ↦ part_chosen c.word k.right g i p q ∙ x.after i p
        | inr q ↦ part_none c.word k.right g i (λ a b. absurd (omega arith)) ∙ sym (none_outside positions c.word k.right gb i ub.part (λ a b. absurd (omega arith)))
      ]
      | inr p ↦ part_none c.word k.right g i (λ a b. absurd (omega arith)) ∙ sym (none_outside positions c.word k.right gb i ub.part (λ a b. absurd (omega arith)))
    ])
    (λ l h. let r = from_part c.word k.right g l h in let t = r.1.from in elim (x.out l r.0) [
      | inl y ↦ (let v = fa.within l y in absurd (omega arith))
      | inr y ↦ elim y [
        | inl z ↦ z
        | inr z ↦ elim z [
          | inl j ↦ (let e = joint_ends c.to_left k.left c.word l j in absurd (omega arith))
          | inr j ↦ (let e = joint_ends c.to_right c.word k.right l j in absurd (r.1.apart e.0 e.1))
        ]
      ]
    ])
    (λ l h. let v = fb.within l h in in_part c.word k.right g l (x.in_right l h) (record { from = v.0; to = v.2; apart = ub.apart l h }))

-- what the parts make is spelled by the cut, and its parts are those
pub glued_spells : (positions : List (List Disjunct)) (k : Region) (c : Split) (ga gb g : Linkage) → IsCut positions k c → Under positions c.lkey ga → Under positions c.rkey gb → Glued positions k c ga gb g
    → Spells positions k c g × (part_of k.left c.word g ≡ ga) × (part_of c.word k.right g ≡ gb)
glued_spells positions k c ga gb g cut ua ub x =
    let lw = cut.after in
    let wr = cut.before in
    let W = c.word in
    let va = subst (λ z. Under positions z ga) (key_is c.lkey k.left W cut.ends_left.0 cut.ends_left.1) ua in
    let vb = subst (λ z. Under positions z gb) (key_is c.rkey W k.right cut.ends_right.0 cut.ends_right.1) ub in
    let el = left_is positions k c ga gb g c.lkey.llist c.lkey.rlist c.rkey.llist c.rkey.rlist c.lkey.nulls c.rkey.nulls lw wr va vb x in
    let er = right_is positions k c ga gb g c.lkey.llist c.lkey.rlist c.rkey.llist c.rkey.rlist c.lkey.nulls c.rkey.nulls lw wr va vb x in (
      record {
        part = record {
          belongs = x.belongs;
          inside = λ i h. elim (cases_lt i W) [
            | inl p ↦ (let b = va.part.inside i (subst (λ z. IsSome z) (x.before i p) h) in (b.0, omega arith))
            | inr p ↦ elim (cases_lt W i) [
              | inl q ↦ (let b = vb.part.inside i (subst (λ z. IsSome z) (x.after i q) h) in (omega arith, b.1))
              | inr q ↦ (omega arith, omega arith)
            ]
          ];
        };
        chosen = x.word;
        left = subst (λ z. Under positions c.lkey z) (sym el) ua;
        right = subst (λ z. Under positions c.rkey z) (sym er) ub;
        joint_left = x.in_joint_left;
        joint_right = x.in_joint_right;
        rest = λ l h. elim (x.out l h) [
          | inl y ↦ inl (subst (λ z. HasLink z l) (sym el) y)
          | inr y ↦ elim y [ inl z ↦ inr (inl (subst (λ w. HasLink w l) (sym er) z)) | inr z ↦ inr (inr z) ]
        ];
      },
      el,
      er,
    )

-- what a cut spells is made of its parts
pub spelled_glued : (positions : List (List Disjunct)) (k : Region) (c : Split) (g : Linkage) → k.left < c.word → c.word < k.right → Spells positions k c g → Glued positions k c (part_of k.left c.word g) (part_of c.word k.right g) g
spelled_glued positions k c g lw wr s = record {
  belongs = s.part.belongs;
  word = s.chosen;
  before = λ i p. elim (cases_lt k.left i) [
    | inl q ↦ sym (part_chosen k.left c.word g i q p)
    | inr q ↦ none_outside positions k.left k.right g i s.part (λ a b. absurd (omega arith)) ∙ sym (part_none k.left c.word g i (λ a b. absurd (omega arith)))
  ];
  after = λ i p. elim (cases_lt i k.right) [
    | inl q ↦ sym (part_chosen c.word k.right g i p q)
    | inr q ↦ none_outside positions k.left k.right g i s.part (λ a b. absurd (omega arith)) ∙ sym (part_none c.word k.right g i (λ a b. absurd (omega arith)))
  ];
  out = s.rest;
  in_left = λ l h. (from_part k.left c.word g l h).0;
  in_right = λ l h. (from_part c.word k.right g l h).0;
  in_joint_left = s.joint_left;
  in_joint_right = s.joint_right;
}

glued_out : (positions : List (List Disjunct)) (k : Region) (c : Split) (ga gb g h : Linkage) → Glued positions k c ga gb g → Glued positions k c ga gb h → (l : Link) → HasLink g l → HasLink h l
glued_out positions k c ga gb g h x y l m = elim (x.out l m) [
  | inl a ↦ y.in_left l a
  | inr a ↦ elim a [ inl b ↦ y.in_right l b | inr b ↦ elim b [ inl j ↦ y.in_joint_left l j | inr j ↦ y.in_joint_right l j ] ]
]

-- and they make nothing else
pub glued_same : (positions : List (List Disjunct)) (k : Region) (c : Split) (ga gb g h : Linkage) → Glued positions k c ga gb g → Glued positions k c ga gb h → g ≡ h
glued_same positions k c ga gb g h x y =
    same_by positions g h x.belongs y.belongs
    (λ i. elim (cases_lt i c.word) [
      | inl p ↦ x.before i p ∙ sym (y.before i p)
      | inr p ↦ elim (cases_lt c.word i) [
        | inl q ↦ x.after i q ∙ sym (y.after i q)
        | inr q ↦ (let e : c.word ≡ i = omega arith in subst (λ z. chosen_at g z ≡ chosen_at h z) e (x.word ∙ sym y.word))
      ]
    ])
    (glued_out positions k c ga gb g h x y) (glued_out positions k c ga gb h g y x)

-- the linkage that they make
first_some : Option Disjunct → Option Disjunct → Option Disjunct
first_some None b = b
first_some (Some d) b = Some d

both_choices : List (Option Disjunct) → List (Option Disjunct) → List (Option Disjunct)
both_choices [] bs = []
both_choices (a ∷ as') [] = []
both_choices (a ∷ as') (b ∷ bs) = first_some a b ∷ both_choices as' bs

both_at : (as' bs : List (Option Disjunct)) → length as' ≡ length bs → (i : ℕ) → get_or (both_choices as' bs) i None ≡ first_some (get_or as' i None) (get_or bs i None)
unfolding both_choices first_some
both_at [] [] e i = refl
both_at [] (b ∷ bs) e i = absurd (omega arith)
both_at (a ∷ as') [] e i = absurd (omega arith)
both_at (a ∷ as') (b ∷ bs) e zero = refl
both_at (a ∷ as') (b ∷ bs) e (suc i) = both_at as' bs (omega arith) i

both_length : (as' bs : List (Option Disjunct)) → length as' ≡ length bs → length (both_choices as' bs) ≡ length as'
unfolding both_choices
both_length [] bs e = refl
both_length (a ∷ as') [] e = absurd (omega arith)
both_length (a ∷ as') (b ∷ bs) e = ap suc (both_length as' bs (omega arith))

some_right : (a b : Option Disjunct) → a ≡ None → first_some a b ≡ b
unfolding first_some
some_right a b e = rw e refl

some_left : (a b : Option Disjunct) → b ≡ None → first_some a b ≡ a
unfolding first_some
some_left None b e = e
some_left (Some d) b e = refl

abbrev pub joint_links : Option Joint → ℕ → ℕ → List Link
joint_links None L R = []
joint_links (Some j) L R = record { left = L; lplace = j.near; right = R; rplace = j.far } ∷ []

joint_in : (o : Option Joint) (L R : ℕ) (l : Link) → IsJoint o L R l → Contains (joint_links o L R) l
joint_in None L R l h = absurd h
joint_in (Some j) L R l h = subst (λ z. Contains (joint_links (Some j) L R) z) (sym h) (contains_here (record { left = L; lplace = j.near; right = R; rplace = j.far }) [])

joint_out : (o : Option Joint) (L R : ℕ) (l : Link) → Contains (joint_links o L R) l → IsJoint o L R l
joint_out None L R l h = absurd (contains_none l h)
joint_out (Some j) L R l h = elim (contains_cases (record { left = L; lplace = j.near; right = R; rplace = j.far }) [] l h) [ inl e ↦ sym e | inr i ↦ absurd (contains_none l i) ]

pub assembled : Region → Split → Linkage → Linkage → Linkage
assembled k c ga gb = record {
  chosen = set (both_choices ga.chosen gb.chosen) c.word (Some c.disjunct);
  links = insert_all (joint_links c.to_left k.left c.word) (insert_all (joint_links c.to_right c.word k.right) (insert_all ga.links gb.links));
}

pub some_is : (d e : Disjunct) → ◌≡◌ {A = Option Disjunct} (Some d) (Some e) → d ≡ e
some_is d e h = cc

pub assembled_glued : (positions : List (List Disjunct)) (k : Region) (c : Split) (ga gb : Linkage) → IsCut positions k c → c.word < length positions → Under positions c.lkey ga → Under positions c.rkey gb → Glued positions k c ga gb (assembled k c ga gb)
unfolding assembled
assembled_glued positions k c ga gb cut wn ua ub =
    let W = c.word in
    let g = assembled k c ga gb in
    let ba = ua.part.belongs in
    let bb = ub.part.belongs in
    let same : length ga.chosen ≡ length gb.chosen = ba.same_length ∙ sym bb.same_length in
    let len : length (both_choices ga.chosen gb.chosen) ≡ length positions = both_length ga.chosen gb.chosen same ∙ ba.same_length in
    let el = cut.ends_left in
    let er = cut.ends_right in
    let word : chosen_at g W ≡ Some c.disjunct = get_or-set_same (both_choices ga.chosen gb.chosen) W (Some c.disjunct) None (omega arith) in
    let other : (i : ℕ) → i ≢ W → chosen_at g i ≡ first_some (chosen_at ga i) (chosen_at gb i) = λ i n.
    get_or-set_other (both_choices ga.chosen gb.chosen) W i (Some c.disjunct) None n ∙ both_at ga.chosen gb.chosen same i in
    let before : (i : ℕ) → i < W → chosen_at g i ≡ chosen_at ga i = λ i p. other i (λ e. omega arith) ∙ some_left (chosen_at ga i) (chosen_at gb i) (none_outside positions c.rkey.left c.rkey.right gb i ub.part (λ a b. absurd (omega arith))) in
    let after : (i : ℕ) → W < i → chosen_at g i ≡ chosen_at gb i = λ i p. other i (λ e. omega arith) ∙ some_right (chosen_at ga i) (chosen_at gb i) (none_outside positions c.lkey.left c.lkey.right ga i ua.part (λ a b. absurd (omega arith))) in
    let J = joint_links c.to_left k.left W in
    let K = joint_links c.to_right W k.right in
    record {
      belongs = record {
        same_length = length-set (both_choices ga.chosen gb.chosen) W (Some c.disjunct) ∙ len;
        listed = λ i d e. elim (cases_lt i W) [
          | inl p ↦ ba.listed i d (sym (before i p) ∙ e)
          | inr p ↦ elim (cases_lt W i) [
            | inl q ↦ bb.listed i d (sym (after i q) ∙ e)
            | inr q ↦ (let f : W ≡ i = omega arith in
                let s = some_is c.disjunct d (sym word ∙ ap (λ z. chosen_at g z) f ∙ e) in
                subst (λ z. Contains (get_or positions z []) d) f (subst (λ z. Contains (get_or positions W []) z) s cut.listed))
          ]
        ];
        set = union_set J (insert_all K (insert_all ga.links gb.links)) (union_set K (insert_all ga.links gb.links) (union_set ga.links gb.links bb.set));
      };
      word = word;
      before = before;
      after = after;
      out = λ l h. elim (union_out J (insert_all K (insert_all ga.links gb.links)) l h) [
        | inl j ↦ inr (inr (inl (joint_out c.to_left k.left W l j)))
        | inr x ↦ elim (union_out K (insert_all ga.links gb.links) l x) [
          | inl j ↦ inr (inr (inr (joint_out c.to_right W k.right l j)))
          | inr y ↦ elim (union_out ga.links gb.links l y) [ inl z ↦ inl z | inr z ↦ inr (inl z) ]
        ]
      ];
      in_left = λ l h. union_right J (insert_all K (insert_all ga.links gb.links)) l (union_right K (insert_all ga.links gb.links) l (union_left ga.links gb.links l h));
      in_right = λ l h. union_right J (insert_all K (insert_all ga.links gb.links)) l (union_right K (insert_all ga.links gb.links) l (union_right ga.links gb.links l h));
      in_joint_left = λ l h. union_left J (insert_all K (insert_all ga.links gb.links)) l (joint_in c.to_left k.left W l h);
      in_joint_right = λ l h. union_right J (insert_all K (insert_all ga.links gb.links)) l (union_left K (insert_all ga.links gb.links) l (joint_in c.to_right W k.right l h));
    }
