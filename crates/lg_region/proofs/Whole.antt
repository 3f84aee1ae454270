-- The sentence as a whole: the words before the first linked one, and a region from there to the end.
use Rattle.std.proofs.Common.{◌≡◌, ℕ, zero, suc, ◌+◌, ◌-◌, ◌<◌, ◌≤◌, ◌⊎◌, ◌↔◌, inl, inr, refl, sym, ap, ◌∙◌, subst, true, false, cond, List, [], ◌∷◌, length, get_or, Option, Some, None, IsSome, slice_get, ◌==◌, arith}
use Rattle.std.proofs.lemmas.Bool.{cases_lt}
use Rattle.std.proofs.lemmas.Bool.Decides.{nat_tests}
use Rattle.std.proofs.lemmas.Option.{same_Some}
use Rattle.lg_gram.specs.Connectors.{Connector}
use Rattle.lg_gram.specs.Linkages.{Linkage, unlinked}
use Rattle.lg_gram.specs.Rules.{Joins, Good, Belongs, chosen_at, left_list, right_list, HasLink, IsLinked}
use Rattle.lg_gram.specs.Walks.{Walk, LinkFrom}
use Rattle.lg_gram.specs.Walks.Walk.{stay, forth}
use Rattle.lg_gram.specs.declared.disjunct.Disjunct.{Disjunct}
use Rattle.lg_gram.specs.declared.linkage.Link.{Link}
use Rattle.lg_region.specs.Parts.{EdgeWith, Region, but_at, rights_in, lefts_in, null_at, nulls_from, Under, UnderWhole, part_of}
use Rattle.lg_region.specs.Cuts.{IsEmpty}
use Rattle.lg_region.specs.Whole.{First, IsFirst, SpellsFirst, WholeAlternative, IsWholeAlternative, WholeSpelledBy, nothing, first}
use Rattle.lg_region.proofs.Fits.{Fits}
use Rattle.lg_region.proofs.Walks.{walk_then, walk_back, walk_map}
use Rattle.lg_region.proofs.Parts.{in_part, from_part, part_chosen, part_inside, part_linked, part_belongs, nulls_add, nulls_same, nulls_few}
use Rattle.lg_region.proofs.Joints.{get_in}
use Rattle.lg_region.proofs.Sides.{but_here, but_else, fits_same}
use Rattle.lg_region.proofs.Region.{under_fits, fits_under, eq_or_not, right_linked, left_linked, region_of}
use Rattle.lg_region.proofs.Empty.{nulls_all, none_of}
use Rattle.lg_region.proofs.Counts.{nulls_count}

past : (os : List (Option Disjunct)) (i : ℕ) → length os ≤ i → get_or os i None ≡ None
past [] i h = refl
past (o ∷ os) zero h = absurd (omega arith)
past (o ∷ os) (suc i) h = past os i (omega arith)

-- the first linked word among n from s on
abbrev pub FirstOf : Linkage → ℕ → ℕ → Type 0
FirstOf g s n = ((i : ℕ) → s ≤ i → i < s + n → chosen_at g i ≡ None) ⊎ ((W : ℕ) × (d : Disjunct) × (s ≤ W) × (W < s + n) × (chosen_at g W ≡ Some d) × ((i : ℕ) → s ≤ i → i < W → chosen_at g i ≡ None))

option_cases : (o : Option Disjunct) → (o ≡ None) ⊎ ((d : Disjunct) × (o ≡ Some d))
option_cases None = inl refl
option_cases (Some d) = inr (d, refl)

at_or_after : (s i : ℕ) → s ≤ i → (s ≡ i) ⊎ (suc s ≤ i)
at_or_after s i h = grind arith

-- the number of unlinked positions, as it is counted from the first position on
count_of : (positions : List (List Disjunct)) (g : Linkage) → Belongs positions g → nulls_from g 0 (length positions) ≡ unlinked g
count_of positions g b = ap (λ n. nulls_from g 0 n) (sym b.same_length) ∙ nulls_count g

first_of_positions : (g : Linkage) (s n : ℕ) → FirstOf g s n
first_of_positions g s zero = inl (λ i x y. absurd (omega arith))
first_of_positions g s (suc n) =
    elim (option_cases (chosen_at g s)) [
      | inr d ↦ inr (s, d.0, omega arith, omega arith, d.1, λ i x y. absurd (omega arith))
      | inl e ↦ elim (first_of_positions g (suc s) n) [
        | inl none ↦ inl (λ i x y. elim (at_or_after s i x) [ inl f ↦ subst (λ z. chosen_at g z ≡ None) f e | inr f ↦ none i f (omega arith) ])
        | inr w ↦ inr (w.0, w.1, omega (arith, w.2), omega (arith, w.3), w.4, λ i x y. elim (at_or_after s i x) [ inl f ↦ subst (λ z. chosen_at g z ≡ None) f e | inr f ↦ w.5 i f y ])
      ]
    ]

none_not : (o : Option Disjunct) → o ≡ None → IsSome o → ⊥
none_not o e h = let x = subst (λ z. IsSome z) e h in cc

nil_or : (cs : List Connector) → (cs ≡ []) ⊎ (0 < length cs)
nil_or [] = inl refl
nil_or (x ∷ xs) = inr (omega arith)

right_of : Linkage → ℕ → List Connector
right_of g i = right_list (chosen_at g i)

not_past : (positions : List (List Disjunct)) (g : Linkage) (i : ℕ) → Belongs positions g → IsLinked g i → i < length positions
not_past positions g i b h =
    elim (cases_lt i (length positions)) [ inl x ↦ x | inr x ↦ absurd (none_not (chosen_at g i) (past g.chosen i (let e = b.same_length in omega arith)) h) ]

-- what a linkage is from its first linked word on
whole_fits : (positions : List (List Disjunct)) (g : Linkage) (W : ℕ) (d : Disjunct) → Good positions g → chosen_at g W ≡ Some d → ((i : ℕ) → i < W → chosen_at g i ≡ None)
    → Fits W (length positions) (λ i. right_list (chosen_at g i)) (λ i. left_list (chosen_at g i)) (IsLinked g) (HasLink g)
whole_fits positions g W d good e before =
    let n = length positions in
    let not_before : (i : ℕ) → IsLinked g i → W ≤ i = λ i h. elim (cases_lt i W) [ inl x ↦ absurd (none_not (chosen_at g i) (before i x) h) | inr x ↦ x ] in
    let r = good.rules in
    record {
      within = λ l h.
          let m = r.matched.joins l h in
          let a = right_linked (chosen_at g l.left) l.lplace m.0 m.2 in
          let b = left_linked (chosen_at g l.right) l.rplace m.1 m.3 in
          let c = not_past positions g l.right good.belongs b in
          (not_before l.left a, r.matched.forward l h, omega arith);
      matched = r.matched.joins;
      served_right = λ i p c li ir at. r.satisfied.on_right i p c at;
      served_left = λ j q c lj jr at. r.satisfied.on_left j q c at;
      planar = r.planar;
      ordered_right = r.ordered.on_right;
      ordered_left = r.ordered.on_left;
      exclusive = r.exclusive;
      connected = λ i li ir h. walk_map (LinkFrom (HasLink g)) (EdgeWith W n (HasLink g)) (λ x. x) (λ a b x. forth a b b (inl x) (stay b)) W i
          (good.connected W i (subst (λ z. IsSome z) (sym e) refl) h);
    }

-- the lists of the region from W on
whole_rights : (g : Linkage) (W n : ℕ) (d : Disjunct) → chosen_at g W ≡ Some d → (i : ℕ) → W ≤ i → i < n
    → but_at W d.right (λ i. right_list (chosen_at (part_of W n g) i)) i ≡ right_list (chosen_at g i)
whole_rights g W n d e i wi ir =
    elim (eq_or_not i W) [
      | inl f ↦ but_here W d.right (λ i. right_list (chosen_at (part_of W n g) i)) i f ∙ ap right_list (sym e) ∙ ap (λ z. right_list (chosen_at g z)) (sym f)
      | inr f ↦ but_else W d.right (λ i. right_list (chosen_at (part_of W n g) i)) i f ∙ ap right_list (part_chosen W n g i (omega arith) ir)
    ]

whole_lefts : (g : Linkage) (W n : ℕ) → length g.chosen ≡ n → (j : ℕ) → W < j → j ≤ n
    → but_at n [] (λ i. left_list (chosen_at (part_of W n g) i)) j ≡ left_list (chosen_at g j)
whole_lefts g W n e j wj jr =
    elim (eq_or_not j n) [
      | inl f ↦ but_here n [] (λ i. left_list (chosen_at (part_of W n g) i)) j f ∙ ap left_list (sym (past g.chosen j (omega arith)))
      | inr f ↦ but_else n [] (λ i. left_list (chosen_at (part_of W n g) i)) j f ∙ ap left_list (part_chosen W n g j wj (omega arith))
    ]

whole_nulls : (g : Linkage) (W n : ℕ) (d : Disjunct) → W < n → chosen_at g W ≡ Some d → ((i : ℕ) → i < W → chosen_at g i ≡ None)
    → nulls_from g 0 n ≡ W + nulls_from (part_of W n g) (suc W) (n - suc W)
whole_nulls g W n d wn e before =
    let m : n ≡ W + suc (n - suc W) = omega arith in
    let t : 0 + W ≡ W = omega arith in
    let a = nulls_add g 0 W (suc (n - suc W)) in
    let b = nulls_all g 0 W (λ i x y. before i (omega arith)) in
    let z = ap null_at e in
    let c = nulls_same (part_of W n g) g (suc W) (n - suc W) (λ i x y. part_chosen W n g i (omega arith) (omega arith)) in
    ap (λ z. nulls_from g 0 z) m ∙ omega (arith, a, ap (λ x. nulls_from g x (suc (n - suc W))) t, z, b, c)

no_end : (positions : List (List Disjunct)) (g : Linkage) (l : Link) → Belongs positions g → Joins (λ i. right_list (chosen_at g i)) (λ i. left_list (chosen_at g i)) l → l.right ≡ length positions → ⊥
no_end positions g l b m e =
    let x = not_past positions g l.right b (left_linked (chosen_at g l.right) l.rplace m.1 m.3) in omega arith

pub whole_complete : (positions : List (List Disjunct)) (nulls : ℕ) (g : Linkage) → UnderWhole positions nulls g → (a : WholeAlternative) × IsWholeAlternative positions nulls a × WholeSpelledBy positions a g
whole_complete positions nulls g u =
    let n = length positions in
    let b = u.good.belongs in
    elim (first_of_positions g 0 n) [
      | inl none ↦ (
          let none' : (i : ℕ) → IsLinked g i → ⊥ = λ i h. none_not (chosen_at g i) (none i (omega arith) (let x = not_past positions g i b h in omega arith)) h in (
            nothing,
            sym (count_of positions g b ∙ u.count) ∙ nulls_all g 0 n none,
            (b, record { unlinked = none'; no_links = λ l h. let m = u.good.rules.matched.joins l h in none' l.left (right_linked (chosen_at g l.left) l.lplace m.0 m.2) }),
          ))
      | inr w ↦ (
          let W = w.0 in
          let d = w.1 in
          let e : chosen_at g W ≡ Some d = w.4 in
          let before : (i : ℕ) → i < W → chosen_at g i ≡ None = λ i x. w.5 i (omega arith) x in
          let wn : W < n = omega (arith, w.3) in
          let f = whole_fits positions g W d u.good e before in
          let count = whole_nulls g W n d wn e before in
          let total = count_of positions g b ∙ u.count in
          let key = region_of W n d.right [] (nulls - W) in
          let links : (l : Link) → HasLink (part_of W n g) l ↔ HasLink g l = λ l.
          ((λ h. (from_part W n g l h).0), (λ h. let v = f.within l h in in_part W n g l h (record { from = v.0; to = v.2; apart = λ x y. no_end positions g l b (u.good.rules.matched.joins l h) y }))) in
          let left_nil : d.left ≡ [] = elim (nil_or d.left) [
            | inl x ↦ x
            | inr x ↦ (let c = get_in d.left 0 x in
                let s = u.good.rules.satisfied.on_left W 0 c.0 (subst (λ z. slice_get (left_list z) 0 ≡ Some c.0) (sym e) c.1) in
                let v = f.within s.some.0 s.some.1 in let at : s.some.0.right ≡ W = s.some.2 in absurd (omega arith))
          ] in (
            first (record { word = W; disjunct = d; rkey = key }),
            record { before = wn; enough = omega arith; listed = b.listed W d e; left = left_nil; rkey = refl; few = (let x = nulls_few (part_of W n g) (suc W) (n - suc W) in omega arith) },
            record {
              belongs = b;
              chosen = e;
              before = λ i x h. none_not (chosen_at g i) (before i x) h;
              right = fits_under positions key (part_of W n g) wn (part_belongs positions W n g b) (λ l h. (from_part W n g l h).1.apart) (omega arith)
                  (fits_same W n (λ i. right_list (chosen_at g i)) (λ i. left_list (chosen_at g i)) (rights_in key (part_of W n g)) (lefts_in key (part_of W n g)) (IsLinked g) (IsLinked (part_of W n g)) (HasLink g) (HasLink (part_of W n g))
                  (whole_rights g W n d e) (whole_lefts g W n b.same_length) (λ i x y h. (part_inside W n g i h).1.1) links f);
              rest = λ l h. (links l).1 h;
            },
          ))
    ]

end_to : ℕ → ℕ → ℕ → ℕ
end_to n W x = cond (x == n) W x

end_at : (n W x : ℕ) → x ≡ n → end_to n W x ≡ W
unfolding end_to
end_at n W x e = let t : (x == n) ≡ true = grind (arith, nat_tests) in rw t refl

end_else : (n W x : ℕ) → (x ≡ n → ⊥) → end_to n W x ≡ x
unfolding end_to
end_else n W x e = let t : (x == n) ≡ false = grind (arith, nat_tests) in rw t refl

walk_shift : (F : ℕ → ℕ → Type 0) (a b x y : ℕ) → Walk F a b → a ≡ x → b ≡ y → Walk F x y
walk_shift F a b x y w e f = subst (λ z. Walk F x z) f (subst (λ z. Walk F z b) e w)

pub whole_sound : (positions : List (List Disjunct)) (nulls : ℕ) (g : Linkage) (c : First) → IsFirst positions nulls c → SpellsFirst positions c g → UnderWhole positions nulls g
whole_sound positions nulls g c is s =
    let n = length positions in
    let W = c.word in
    let d = c.disjunct in
    let b = s.belongs in
    let e = s.chosen in
    let wn = is.before in
    let key = region_of W n d.right [] (nulls - W) in
    let u : Under positions key (part_of W n g) = subst (λ z. Under positions z (part_of W n g)) is.rkey s.right in
    let links : (l : Link) → HasLink g l ↔ HasLink (part_of W n g) l = λ l. ((λ h. s.rest l h), (λ h. (from_part W n g l h).0)) in
    let f : Fits W n (λ i. right_list (chosen_at g i)) (λ i. left_list (chosen_at g i)) (IsLinked g) (HasLink g) =
    fits_same W n (rights_in key (part_of W n g)) (lefts_in key (part_of W n g)) (λ i. right_list (chosen_at g i)) (λ i. left_list (chosen_at g i)) (IsLinked (part_of W n g)) (IsLinked g) (HasLink (part_of W n g)) (HasLink g)
    (λ i x y. sym (whole_rights g W n d e i x y)) (λ j x y. sym (whole_lefts g W n b.same_length j x y)) (λ i x y h. part_linked W n g i x y h) links (under_fits positions key (part_of W n g) wn u) in
    let from : (i : ℕ) → IsLinked g i → W ≤ i = λ i h. elim (cases_lt i W) [ inl x ↦ absurd (s.before i x h) | inr x ↦ x ] in
    let to : (i : ℕ) → IsLinked g i → i < n = λ i h. not_past positions g i b h in
    let F = LinkFrom (HasLink g) in
    let edge : (x y : ℕ) → EdgeWith W n (HasLink g) x y → Walk F (end_to n W x) (end_to n W y) = λ x y k. elim k [
      | inl l ↦ (let v = f.within l.0 l.1 in let el = l.2 in let er = l.3 in
          let no = no_end positions g l.0 b (f.matched l.0 l.1) in
          walk_shift F x y (end_to n W x) (end_to n W y) (forth x y y l (stay y)) (sym (end_else n W x (λ q. absurd (omega arith)))) (sym (end_else n W y (λ q. no (er ∙ q)))))
      | inr l ↦ walk_shift F W W (end_to n W x) (end_to n W y) (stay W) (sym (end_else n W x (λ q. let h = l.0 in omega arith) ∙ l.0)) (sym (end_at n W y l.1))
    ] in
    let walk : (i : ℕ) → IsLinked g i → Walk F W i = λ i h. (let x = to i h in
    walk_shift F (end_to n W W) (end_to n W i) W i (walk_map (EdgeWith W n (HasLink g)) F (end_to n W) edge W i (f.connected i (from i h) (omega arith) h)) (end_else n W W (λ q. omega arith)) (end_else n W i (λ q. omega arith))) in
    record {
      good = record {
        belongs = b;
        rules = record {
          matched = record { forward = λ l h. (f.within l h).1; joins = f.matched };
          satisfied = record {
            on_right = λ i p c at. let h = right_linked (chosen_at g i) p c at in f.served_right i p c (from i h) (to i h) at;
            on_left = λ j q c at.
                let h = left_linked (chosen_at g j) q c at in
                let x = from j h in let y = to j h in
                elim (eq_or_not j W) [
                  | inl z ↦ (let nil : left_list (chosen_at g j) ≡ [] = ap (λ i. left_list (chosen_at g i)) z ∙ ap left_list e ∙ is.left in
                      let k = subst (λ z. slice_get z q ≡ Some c) nil at in absurd cc)
                  | inr z ↦ f.served_left j q c (omega arith) (omega arith) at
                ];
          };
          planar = f.planar;
          ordered = record { on_right = f.ordered_right; on_left = f.ordered_left };
          exclusive = f.exclusive;
        };
        connected = λ i j hi hj. walk_then F i W j (walk_back F W i (walk i hi)) (walk j hj);
      };
      count = sym (count_of positions g b) ∙ whole_nulls g W n d wn e (λ i x. none_of (chosen_at g i) (s.before i x)) ∙ (let x = u.nulls in let y = is.enough in omega arith);
    }

empty_good : (positions : List (List Disjunct)) (g : Linkage) → Belongs positions g → IsEmpty g → UnderWhole positions (length positions) g
empty_good positions g b e = record {
  good = record {
    belongs = b;
    rules = record {
      matched = record { forward = λ l h. absurd (e.no_links l h); joins = λ l h. absurd (e.no_links l h) };
      satisfied = record {
        on_right = λ i p c at. absurd (e.unlinked i (right_linked (chosen_at g i) p c at));
        on_left = λ i p c at. absurd (e.unlinked i (left_linked (chosen_at g i) p c at));
      };
      planar = λ k l h. absurd (e.no_links k h);
      ordered = record { on_right = λ k l h. absurd (e.no_links k h); on_left = λ k l h. absurd (e.no_links k h) };
      exclusive = λ k l h. absurd (e.no_links k h);
    };
    connected = λ i j h. absurd (e.unlinked i h);
  };
  count = sym (count_of positions g b) ∙ nulls_all g 0 (length positions) (λ i x y. none_of (chosen_at g i) (e.unlinked i));
}

pub whole_sound_all : (positions : List (List Disjunct)) (nulls : ℕ) (g : Linkage) (a : WholeAlternative) → IsWholeAlternative positions nulls a → WholeSpelledBy positions a g → UnderWhole positions nulls g
whole_sound_all positions nulls g nothing is s = subst (λ z. UnderWhole positions z g) (sym is) (empty_good positions g s.0 s.1)
whole_sound_all positions nulls g (first c) is s = whole_sound positions nulls g c is s

first_made : ℕ → Disjunct → Region → First
first_made w d k = record { word = w; disjunct = d; rkey = k }

first_made_same : (w w' : ℕ) (d d' : Disjunct) (k k' : Region) → w ≡ w' → d ≡ d' → k ≡ k' → first_made w d k ≡ first_made w' d' k'
first_made_same w w' d d' k k' e f h = cc

is_linked : (g : Linkage) (c : First) → chosen_at g c.word ≡ Some c.disjunct → IsLinked g c.word
is_linked g c e = subst (λ z. IsSome z) (sym e) refl

same_first : (positions : List (List Disjunct)) (nulls : ℕ) (g : Linkage) (c c' : First) → IsFirst positions nulls c → SpellsFirst positions c g → IsFirst positions nulls c' → SpellsFirst positions c' g → c ≡ c'
unfolding first_made
same_first positions nulls g c c' is s is' s' =
    let ew : c.word ≡ c'.word = elim (cases_lt c.word c'.word) [
      | inl x ↦ absurd (s'.before c.word x (is_linked g c s.chosen))
      | inr x ↦ elim (cases_lt c'.word c.word) [ inl y ↦ absurd (s.before c'.word y (is_linked g c' s'.chosen)) | inr y ↦ omega arith ]
    ] in
    let ed : c.disjunct ≡ c'.disjunct = same_Some c.disjunct c'.disjunct (sym s.chosen ∙ ap (λ z. chosen_at g z) ew ∙ s'.chosen) in
    first_made_same c.word c'.word c.disjunct c'.disjunct c.rkey c'.rkey ew ed
    (is.rkey ∙ ap (λ z. region_of z (length positions) c.disjunct.right [] (nulls - z)) ew ∙ ap (λ z. region_of c'.word (length positions) z.right [] (nulls - c'.word)) ed ∙ sym is'.rkey)

pub whole_unique : (positions : List (List Disjunct)) (nulls : ℕ) (g : Linkage) (a b : WholeAlternative) → IsWholeAlternative positions nulls a → WholeSpelledBy positions a g → IsWholeAlternative positions nulls b → WholeSpelledBy positions b g → a ≡ b
whole_unique positions nulls g nothing nothing ia sa ib sb = refl
whole_unique positions nulls g nothing (first c) ia sa ib sb = absurd (sa.1.unlinked c.word (is_linked g c sb.chosen))
whole_unique positions nulls g (first c) nothing ia sa ib sb = absurd (sb.1.unlinked c.word (is_linked g c sa.chosen))
whole_unique positions nulls g (first c) (first d) ia sa ib sb = ap (λ z. first z) (same_first positions nulls g c d ia sa ib sb)
