-- A good linkage of the problem with a compound as one word, with the joints of the compound's chain.
use Rattle.std.proofs.Common.{◌≡◌, ℕ, zero, suc, ◌+◌, ◌-◌, ◌<◌, ◌≤◌, true, false, inl, inr, List, [], ◌∷◌, slice_get, Option, Some, None, Contains, is_some, true≢false, refl, ap, sym, ◌∙◌, subst, arith, pos}
use Rattle.std.proofs.lemmas.Bool.{cases_lt}
use Rattle.std.proofs.lemmas.Option.{none-some}
use Rattle.lg_base.proofs.Elements.{contains_none}
use Rattle.lg_gram.specs.Connectors.{Connector, Match}
use Rattle.lg_gram.specs.Linkages.{Linkage}
use Rattle.lg_gram.specs.Rules.{Good, HasLink, IsLinked, Joins, Serves, Rules, chosen_at, left_list, right_list, rights_of, lefts_of}
use Rattle.lg_gram.specs.Walks.{Walk, LinkFrom}
use Rattle.lg_gram.specs.Walks.Walk.{stay, forth}
use Rattle.lg_gram.specs.declared.disjunct.Disjunct.{Disjunct}
use Rattle.lg_gram.specs.declared.linkage.Link.{Link}
use Rattle.lg_idiom.specs.Idioms.{Chain, joint_of}
use Rattle.lg_idiom.specs.Wholes.{IsEarlier, IsAsOneWord, last_of}
use Rattle.lg_idiom.proofs.Cutting.{onto, onto_last}
use Rattle.lg_idiom.proofs.Joints.{at_one}
use Rattle.lg_idiom.proofs.Spans.{Place, early, final, beside, place_of, not_last, shift, shift_last, shift_other, lift}
use Rattle.lg_idiom.proofs.Walking.{walk_then, walk_back, moved, sent}

-- ---- what is put in

-- what an earlier position has, by its number in the chain
abbrev pub part_at : Chain → ℕ → Disjunct
part_at c zero = record { word = c.word; left = []; right = joint_of c 0 true ∷ []; cost = pos 0 }
part_at c (suc k) = record { word = c.word; left = joint_of c k false ∷ []; right = joint_of c (suc k) true ∷ []; cost = pos 0 }

-- and the last one, for one of the compound's own
abbrev pub longer : Chain → Disjunct → Disjunct
longer c d = record d { left = joint_of c (c.count - 2) false ∷ d.left }

abbrev pub joint_at : Chain → ℕ → Link
joint_at c j = record { left = c.start + j; lplace = 0; right = c.start + suc j; rplace = 0 }

-- a link of the other linkage, or that of a joint
pub data Kind (c : Chain) (h : Linkage) (k : Link) : Type 0 where
  old : (l : Link) → HasLink h l → k ≡ lift c l → Kind c h k
  new : (j : ℕ) → j + 1 < c.count → k ≡ joint_at c j → Kind c h k

-- the linkage g is h with the joints of the chain
pub record IsMended (c : Chain) (h g : Linkage) : Type 0 where
  pub early_at : (j : ℕ) → j + 1 < c.count → chosen_at g (c.start + j) ≡ Some (part_at c j)
  pub final_at : (d : Disjunct) → chosen_at h (last_of c) ≡ Some d → chosen_at g (last_of c) ≡ Some (longer c d)
  pub beside_at : (i : ℕ) → (IsEarlier c i → ⊥) → (i ≡ last_of c → ⊥) → chosen_at g i ≡ chosen_at h i
  pub lifted : (l : Link) → HasLink h l → HasLink g (lift c l)
  pub joints : (j : ℕ) → j + 1 < c.count → HasLink g (joint_at c j)
  pub kinds : (k : Link) → HasLink g k → Kind c h k

right_part : (c : Chain) (j : ℕ) → (part_at c j).right ≡ joint_of c j true ∷ []
right_part c zero = refl
right_part c (suc k) = refl

pub number_of : (c : Chain) (i : ℕ) → IsEarlier c i → (j : ℕ) × (j + 1 < c.count) × (i ≡ c.start + j)
number_of c i (from, to) = (i - c.start, omega (arith, from, to), omega (arith, from))

pub early_number : (c : Chain) (i j : ℕ) → j + 1 < c.count → i ≡ c.start + j → IsEarlier c i
early_number c i j less is = (omega (arith, is), omega (arith, is, less))

same_joint : (c : Chain) (i j : ℕ) (k : Link) → i ≡ j → k ≡ joint_at c i → k ≡ joint_at c j
same_joint c i j k same is = is ∙ ap (joint_at c) same

joints_match : (c : Chain) (j : ℕ) → Match (joint_of c j true) (joint_of c j false)
joints_match c j = record { to_right = refl; to_left = refl; capitals = refl; subscripts = λ k low high. absurd (omega (arith, low)) }

some_there : (o : Option Disjunct) → is_some o ≡ true → (d : Disjunct) × (o ≡ Some d)
some_there None linked = absurd (true≢false (sym linked))
some_there (Some d) linked = (d, refl)

none_there : (o : Option Disjunct) → ((d : Disjunct) → o ≡ Some d → ⊥) → o ≡ None
none_there None free = refl
none_there (Some d) free = absurd (free d refl)

module _ (c : Chain) (several : 2 ≤ c.count) (positions one : List (List Disjunct)) (lone : IsAsOneWord c positions one) (h : Linkage) (good : Good one h) (linked : IsLinked h (last_of c)) where
  pub word_there : (d : Disjunct) × (chosen_at h (last_of c) ≡ Some d)
  word_there = some_there (chosen_at h (last_of c)) linked

  pub bare : (i : ℕ) → IsEarlier c i → chosen_at h i ≡ None
  bare i is = none_there (chosen_at h i) (λ d at. contains_none d (subst (λ l. Contains l d) (lone.earlier i is) (good.belongs.listed i d at)))

  pub not_left : (l : Link) → HasLink h l → IsEarlier c l.left → ⊥
  not_left l has is =
      let (a, b, first, second, match) = good.rules.matched.joins l has in
      none-some a (sym (ap (λ o. slice_get (right_list o) l.lplace) (bare l.left is)) ∙ first)

  pub not_right : (l : Link) → HasLink h l → IsEarlier c l.right → ⊥
  not_right l has is =
      let (a, b, first, second, match) = good.rules.matched.joins l has in
      none-some b (sym (ap (λ o. slice_get (left_list o) l.rplace) (bare l.right is)) ∙ second)

  module _ (g : Linkage) (w : IsMended c h g) where
    -- ---- what stands at a position

    early_right : (j : ℕ) → j + 1 < c.count → rights_of g (c.start + j) ≡ joint_of c j true ∷ []
    early_right j less = ap right_list (w.early_at j less) ∙ right_part c j

    joint_left : (j : ℕ) → j + 1 < c.count → slice_get (lefts_of g (c.start + suc j)) 0 ≡ Some (joint_of c j false)
    joint_left j less =
        elim (cases_lt (suc j + 1) c.count) [
          | inl more ↦ ap (λ o. slice_get (left_list o) 0) (w.early_at (suc j) more)
          | inr last ↦
              let (d, is) = word_there in
              let place : c.start + suc j ≡ last_of c = omega (arith, less, last) in
              let number : c.count - 2 ≡ j = omega (arith, less, last) in
              ap (λ n. slice_get (lefts_of g n) 0) place ∙ ap (λ o. slice_get (left_list o) 0) (w.final_at d is) ∙ ap (λ n. Some (joint_of c n false)) number
        ]

    right_same : (i : ℕ) → Place c i → (IsEarlier c i → ⊥) → rights_of g i ≡ rights_of h i
    right_same i (early is) free = absurd (free is)
    right_same i (final same) free =
        let (d, is) = word_there in
        ap (rights_of g) same ∙ ap right_list (w.final_at d is) ∙ sym (ap right_list is) ∙ ap (rights_of h) (sym same)
    right_same i (beside none other) free = ap right_list (w.beside_at i none other)

    left_last : (q : ℕ) → slice_get (lefts_of g (last_of c)) (suc q) ≡ slice_get (lefts_of h (last_of c)) q
    left_last q =
        let (d, is) = word_there in
        ap (λ o. slice_get (left_list o) (suc q)) (w.final_at d is) ∙ sym (ap (λ o. slice_get (left_list o) q) is)

    left_same : (i : ℕ) → Place c i → (IsEarlier c i → ⊥) → (q : ℕ) → slice_get (lefts_of g i) (shift c i + q) ≡ slice_get (lefts_of h i) q
    left_same i (early is) free q = absurd (free is)
    left_same i (final same) free q =
        let by_one = shift_last c i same in
        let place : shift c i + q ≡ suc q = omega (arith, by_one) in
        (λ t. slice_get (lefts_of g (same t)) (place t)) ∙ left_last q ∙ ap (λ n. slice_get (lefts_of h n) q) (sym same)
    left_same i (beside none other) free q =
        let by_none = shift_other c i other in
        let place : shift c i + q ≡ q = omega (arith, by_none) in
        ap (slice_get (lefts_of g i)) place ∙ ap (λ o. slice_get (left_list o) q) (w.beside_at i none other)

    -- ---- which link it is

    new_right : (k : Link) → Kind c h k → (j : ℕ) → j + 1 < c.count → k.left ≡ c.start + j → k ≡ joint_at c j
    new_right k (old l has is) j less at = absurd (not_left l has (early_number c l.left j less (sym (ap (λ (x : Link). x.left) is) ∙ at)))
    new_right k (new i low is) j less at =
        let left : k.left ≡ c.start + i = ap (λ (x : Link). x.left) is in
        same_joint c i j k (omega (arith, at, left)) is

    -- a link of h ends before the chain or behind its earlier positions, and not at the first place of the last one
    past_joints : (l : Link) → HasLink h l → Place c l.right → (j : ℕ) → j + 1 < c.count → l.right ≡ c.start + suc j → shift c l.right + l.rplace ≡ 0 → ⊥
    past_joints l has (early is) j less at first = not_right l has is
    past_joints l has (final same) j less at first = let by_one = shift_last c l.right same in omega (arith, by_one, first)
    past_joints l has (beside none other) j less at first =
        elim (cases_lt l.right (last_of c)) [
          | inl low ↦ none (omega (arith, at), low)
          | inr high ↦ other (omega (arith, at, less, high))
        ]

    new_left : (k : Link) → Kind c h k → (j : ℕ) → j + 1 < c.count → k.right ≡ c.start + suc j → k.rplace ≡ 0 → k ≡ joint_at c j
    new_left k (old l has is) j less at first =
        absurd (past_joints l has (place_of c l.right) j less (sym (ap (λ (x : Link). x.right) is) ∙ at) (sym (ap (λ (x : Link). x.rplace) is) ∙ first))
    new_left k (new i low is) j less at first =
        let right : k.right ≡ c.start + suc i = ap (λ (x : Link). x.right) is in
        same_joint c i j k (omega (arith, at, right)) is

    pub old_right : (k : Link) → Kind c h k → (IsEarlier c k.left → ⊥) → (l : Link) × HasLink h l × (k ≡ lift c l)
    old_right k (old l has is) free = (l, has, is)
    old_right k (new j less is) free = absurd (free (early_number c k.left j less (ap (λ (x : Link). x.left) is)))

    -- a joint does not come in behind itself
    behind_joint : (i : ℕ) → Place c i → (IsEarlier c i → ⊥) → (q j : ℕ) → j + 1 < c.count → i ≡ c.start + suc j → shift c i + q ≡ 0 → ⊥
    behind_joint i (early is) free q j less at first = free is
    behind_joint i (final same) free q j less at first = let by_one = shift_last c i same in omega (arith, by_one, first)
    behind_joint i (beside none other) free q j less at first =
        elim (cases_lt i (last_of c)) [
          | inl low ↦ none (omega (arith, at), low)
          | inr high ↦ other (omega (arith, at, less, high))
        ]

    old_left : (k : Link) → Kind c h k → (i : ℕ) → (IsEarlier c i → ⊥) → k.right ≡ i → (q : ℕ) → k.rplace ≡ shift c i + q → (l : Link) × HasLink h l × (k ≡ lift c l)
    old_left k (old l has is) i free at q place = (l, has, is)
    old_left k (new j less is) i free at q place =
        absurd (behind_joint i (place_of c i) free q j less (sym at ∙ ap (λ (x : Link). x.right) is) (sym place ∙ ap (λ (x : Link). x.rplace) is))

    -- ---- satisfaction

    early_on_right : (i j p : ℕ) (x : Connector) → j + 1 < c.count → i ≡ c.start + j → slice_get (rights_of g i) p ≡ Some x → Serves (HasLink g) (λ l. l.left) (λ l. l.lplace) i p x
    early_on_right i j p x less is at =
        let alone = at_one (joint_of c j true) x p (ap (λ xs. slice_get xs p) (sym (early_right j less)) ∙ ap (λ n. slice_get (rights_of g n) p) (sym is) ∙ at) in
        record {
          some = (joint_at c j, w.joints j less, sym is, sym alone.1);
          one = λ multi k l in_k in_l a b d e. new_right k (w.kinds k in_k) j less (a ∙ is) ∙ sym (new_right l (w.kinds l in_l) j less (d ∙ is));
        }

    late_on_right : (i p : ℕ) (x : Connector) → (IsEarlier c i → ⊥) → slice_get (rights_of g i) p ≡ Some x → Serves (HasLink g) (λ l. l.left) (λ l. l.lplace) i p x
    late_on_right i p x free at =
        let there = good.rules.satisfied.on_right i p x (ap (λ xs. slice_get xs p) (sym (right_same i (place_of c i) free)) ∙ at) in
        record {
          some = (let (l, has, from, place) = there.some in (lift c l, w.lifted l has, from, place));
          one = λ multi k l in_k in_l a b d e. (
              let (r, has_r, k_is) = old_right k (w.kinds k in_k) (λ is. free (subst (IsEarlier c) a is)) in
              let (s, has_s, l_is) = old_right l (w.kinds l in_l) (λ is. free (subst (IsEarlier c) d is)) in
              k_is
              ∙ ap (lift c) (there.one multi r s has_r has_s (sym (ap (λ (x : Link). x.left) k_is) ∙ a) (sym (ap (λ (x : Link). x.lplace) k_is) ∙ b) (sym (ap (λ (x : Link). x.left) l_is) ∙ d) (sym (ap (λ (x : Link). x.lplace) l_is) ∙ e))
              ∙ sym l_is
              );
        }

    on_right : (i p : ℕ) (x : Connector) → Place c i → slice_get (rights_of g i) p ≡ Some x → Serves (HasLink g) (λ l. l.left) (λ l. l.lplace) i p x
    on_right i p x (early is) at = (let (j, less, same) = number_of c i is in early_on_right i j p x less same at)
    on_right i p x (final same) at = late_on_right i p x (not_last c i same) at
    on_right i p x (beside none other) at = late_on_right i p x none at

    joint_on_left : (i j p : ℕ) (x : Connector) → j + 1 < c.count → i ≡ c.start + suc j → p ≡ 0 → Serves (HasLink g) (λ l. l.right) (λ l. l.rplace) i p x
    joint_on_left i j p x less is first = record {
      some = (joint_at c j, w.joints j less, sym is, sym first);
      one = λ multi k l in_k in_l a b d e. new_left k (w.kinds k in_k) j less (a ∙ is) (b ∙ first) ∙ sym (new_left l (w.kinds l in_l) j less (d ∙ is) (e ∙ first));
    }

    late_on_left : (i q : ℕ) (x : Connector) → (IsEarlier c i → ⊥) → slice_get (lefts_of h i) q ≡ Some x → Serves (HasLink g) (λ l. l.right) (λ l. l.rplace) i (shift c i + q) x
    late_on_left i q x free at =
        let there = good.rules.satisfied.on_left i q x at in
        record {
          some = (let (l, has, to, place) = there.some in (lift c l, w.lifted l has, to, λ t. shift c (to t) + place t));
          one = λ multi k l in_k in_l a b d e. (
              let (r, has_r, k_is) = old_left k (w.kinds k in_k) i free a q b in
              let (s, has_s, l_is) = old_left l (w.kinds l in_l) i free d q e in
              k_is ∙ ap (lift c) (there.one multi r s has_r has_s (sym (ap (λ (x : Link). x.right) k_is) ∙ a) (back_place k r k_is i q a b) (sym (ap (λ (x : Link). x.right) l_is) ∙ d) (back_place l s l_is i q d e)) ∙ sym l_is
              );
        }
      where
        back_place : (k l : Link) → k ≡ lift c l → (i q : ℕ) → k.right ≡ i → k.rplace ≡ shift c i + q → l.rplace ≡ q
        back_place k l is i q at place =
            let sum : k.rplace ≡ shift c l.right + l.rplace = ap (λ (x : Link). x.rplace) is in
            let shifts : shift c l.right ≡ shift c i = ap (shift c) (sym (ap (λ (x : Link). x.right) is) ∙ at) in
            omega (arith, sum, shifts, place)

    early_on_left : (i j p : ℕ) (x : Connector) → j + 1 < c.count → i ≡ c.start + j → slice_get (lefts_of g i) p ≡ Some x → Serves (HasLink g) (λ l. l.right) (λ l. l.rplace) i p x
    early_on_left i zero p x less is at =
        absurd (none-some x (ap (λ o. slice_get (left_list o) p) (sym (w.early_at 0 less)) ∙ ap (λ n. slice_get (lefts_of g n) p) (sym is) ∙ at))
    early_on_left i (suc j) p x less is at =
        let alone = at_one (joint_of c j false) x p (ap (λ o. slice_get (left_list o) p) (sym (w.early_at (suc j) less)) ∙ ap (λ n. slice_get (lefts_of g n) p) (sym is) ∙ at) in
        joint_on_left i j p x (omega (arith, less)) is alone.1

    final_on_left : (i p : ℕ) (x : Connector) → i ≡ last_of c → slice_get (lefts_of g i) p ≡ Some x → Serves (HasLink g) (λ l. l.right) (λ l. l.rplace) i p x
    final_on_left i zero x same at = joint_on_left i (c.count - 2) 0 x (omega (arith, several)) (omega (arith, same, several)) refl
    final_on_left i (suc q) x same at =
        let by_one = shift_last c i same in
        let place : shift c i + q ≡ suc q = omega (arith, by_one) in
        subst (λ n. Serves (HasLink g) (λ l. l.right) (λ l. l.rplace) i n x) place
        (late_on_left i q x (not_last c i same) (sym (left_same i (final same) (not_last c i same) q) ∙ ap (slice_get (lefts_of g i)) place ∙ at))

    on_left : (i p : ℕ) (x : Connector) → Place c i → slice_get (lefts_of g i) p ≡ Some x → Serves (HasLink g) (λ l. l.right) (λ l. l.rplace) i p x
    on_left i p x (early is) at = (let (j, less, same) = number_of c i is in early_on_left i j p x less same at)
    on_left i p x (final same) at = final_on_left i p x same at
    on_left i p x (beside none other) at =
        let by_none = shift_other c i other in
        let place : shift c i + p ≡ p = omega (arith, by_none) in
        subst (λ n. Serves (HasLink g) (λ l. l.right) (λ l. l.rplace) i n x) place
        (late_on_left i p x none (sym (left_same i (beside none other) none p) ∙ ap (slice_get (lefts_of g i)) place ∙ at))

    -- ---- the other rules

    forward : (k : Link) → Kind c h k → k.left < k.right
    forward k (old l has is) =
        let less = good.rules.matched.forward l has in
        let left : k.left ≡ l.left = ap (λ (x : Link). x.left) is in
        let right : k.right ≡ l.right = ap (λ (x : Link). x.right) is in
        omega (arith, less, left, right)
    forward k (new j low is) =
        let left : k.left ≡ c.start + j = ap (λ (x : Link). x.left) is in
        let right : k.right ≡ c.start + suc j = ap (λ (x : Link). x.right) is in
        omega (arith, left, right)

    joins : (k : Link) → Kind c h k → Joins (rights_of g) (lefts_of g) k
    joins k (old l has is) = subst (Joins (rights_of g) (lefts_of g)) (sym is) (
        let (a, b, first, second, match) = good.rules.matched.joins l has in
        (a, b, ap (λ xs. slice_get xs l.lplace) (right_same l.left (place_of c l.left) (not_left l has)) ∙ first, left_same l.right (place_of c l.right) (not_right l has) l.rplace ∙ second, match)
        )
    joins k (new j less is) = subst (Joins (rights_of g) (lefts_of g)) (sym is) (
      joint_of c j true,
      joint_of c j false,
      ap (λ xs. slice_get xs 0) (early_right j less),
      joint_left j less,
      joints_match c j,
    )

    planar : (k l : Link) → Kind c h k → Kind c h l → k.left < l.left → l.left < k.right → k.right < l.right → ⊥
    planar k l (old r has_r k_is) (old s has_s l_is) p q u =
        good.rules.planar r s has_r has_s (subst (λ (x : Link). x.left < s.left) k_is (subst (λ (x : Link). k.left < x.left) l_is p))
        (subst (λ (x : Link). s.left < x.right) k_is (subst (λ (x : Link). x.left < k.right) l_is q))
        (subst (λ (x : Link). x.right < s.right) k_is (subst (λ (x : Link). k.right < x.right) l_is u))
    planar k l (new j less is) at_l p q u =
        let left : k.left ≡ c.start + j = ap (λ (x : Link). x.left) is in
        let right : k.right ≡ c.start + suc j = ap (λ (x : Link). x.right) is in
        omega (arith, left, right, p, q)
    planar k l (old r has_r k_is) (new j less is) p q u =
        let left : l.left ≡ c.start + j = ap (λ (x : Link). x.left) is in
        let right : l.right ≡ c.start + suc j = ap (λ (x : Link). x.right) is in
        omega (arith, left, right, q, u)

    -- a link of h and a joint go out of different positions
    parted : (r : Link) → HasLink h r → (k l : Link) (j : ℕ) → j + 1 < c.count → k ≡ lift c r → l ≡ joint_at c j → k.left ≡ l.left → ⊥
    parted r has k l j less k_is l_is same = not_left r has (early_number c r.left j less (sym (ap (λ (x : Link). x.left) k_is) ∙ same ∙ ap (λ (x : Link). x.left) l_is))

    ordered_right : (k l : Link) → Kind c h k → Kind c h l → k.left ≡ l.left → k.lplace < l.lplace → k.right < l.right
    ordered_right k l (old r has_r k_is) (old s has_s l_is) same less =
        subst (λ (x : Link). k.right < x.right) (sym l_is) (subst (λ (x : Link). x.right < s.right) (sym k_is)
        (good.rules.ordered.on_right r s has_r has_s (sym (ap (λ (x : Link). x.left) k_is) ∙ same ∙ ap (λ (x : Link). x.left) l_is)
        (subst (λ (x : Link). x.lplace < s.lplace) k_is (subst (λ (x : Link). k.lplace < x.lplace) l_is less))))
    ordered_right k l (old r has_r k_is) (new j low l_is) same less = absurd (parted r has_r k l j low k_is l_is same)
    ordered_right k l (new j low k_is) at_l same less =
        let place : l.lplace ≡ 0 = ap (λ (x : Link). x.lplace) (new_right l at_l j low (sym same ∙ ap (λ (x : Link). x.left) k_is)) in
        absurd (omega (arith, place, less))

    ordered_left : (k l : Link) → Kind c h k → Kind c h l → k.right ≡ l.right → k.rplace < l.rplace → l.left < k.left
    ordered_left k l (old r has_r k_is) (old s has_s l_is) same less =
        let rights : r.right ≡ s.right = sym (ap (λ (x : Link). x.right) k_is) ∙ same ∙ ap (λ (x : Link). x.right) l_is in
        let shifts : shift c r.right ≡ shift c s.right = ap (shift c) rights in
        let first : k.rplace ≡ shift c r.right + r.rplace = ap (λ (x : Link). x.rplace) k_is in
        let second : l.rplace ≡ shift c s.right + s.rplace = ap (λ (x : Link). x.rplace) l_is in
        subst (λ (x : Link). l.left < x.left) (sym k_is) (subst (λ (x : Link). x.left < r.left) (sym l_is) (good.rules.ordered.on_left r s has_r has_s rights (omega (arith, less, shifts, first, second))))
    ordered_left k l (new j low k_is) (old s has_s l_is) same less =
        let ahead = good.rules.matched.forward s has_s in
        let left : k.left ≡ c.start + j = ap (λ (x : Link). x.left) k_is in
        let right : k.right ≡ c.start + suc j = ap (λ (x : Link). x.right) k_is in
        let from : l.left ≡ s.left = ap (λ (x : Link). x.left) l_is in
        let to : l.right ≡ s.right = ap (λ (x : Link). x.right) l_is in
        elim (cases_lt s.left c.start) [
          | inl before ↦ omega (arith, before, left, from)
          | inr behind ↦ absurd (not_left s has_s (behind, omega (arith, ahead, right, to, same, low)))
        ]
    ordered_left k l at_k (new j low l_is) same less =
        let place : l.rplace ≡ 0 = ap (λ (x : Link). x.rplace) l_is in
        absurd (omega (arith, place, less))

    exclusive : (k l : Link) → Kind c h k → Kind c h l → k.left ≡ l.left → k.right ≡ l.right → k ≡ l
    exclusive k l (old r has_r k_is) (old s has_s l_is) p q =
        k_is ∙ ap (lift c) (good.rules.exclusive r s has_r has_s (sym (ap (λ (x : Link). x.left) k_is) ∙ p ∙ ap (λ (x : Link). x.left) l_is) (sym (ap (λ (x : Link). x.right) k_is) ∙ q ∙ ap (λ (x : Link). x.right) l_is)) ∙ sym l_is
    exclusive k l (old r has_r k_is) (new j low l_is) p q = absurd (parted r has_r k l j low k_is l_is p)
    exclusive k l (new j low k_is) at_l p q = k_is ∙ sym (new_right l at_l j low (sym p ∙ ap (λ (x : Link). x.left) k_is))

    pub mended_rules : Rules (rights_of g) (lefts_of g) (HasLink g)
    mended_rules = record {
      matched = record { forward = λ k has. forward k (w.kinds k has); joins = λ k has. joins k (w.kinds k has) };
      satisfied = record { on_right = λ i p x at. on_right i p x (place_of c i) at; on_left = λ i p x at. on_left i p x (place_of c i) at };
      planar = λ k l in_k in_l p q r. planar k l (w.kinds k in_k) (w.kinds l in_l) p q r;
      ordered = record {
        on_right = λ k l in_k in_l same less. ordered_right k l (w.kinds k in_k) (w.kinds l in_l) same less;
        on_left = λ k l in_k in_l same less. ordered_left k l (w.kinds k in_k) (w.kinds l in_l) same less;
      };
      exclusive = λ k l in_k in_l p q. exclusive k l (w.kinds k in_k) (w.kinds l in_l) p q;
    }

    -- ---- walks

    abbrev Edge : ℕ → ℕ → Type 0
    Edge = LinkFrom (HasLink g)

    climb : (n j : ℕ) → j + n + 1 ≡ c.count → Walk Edge (c.start + j) (last_of c)
    climb zero j is = moved Edge (last_of c) (last_of c) (c.start + j) (last_of c) (omega (arith, is)) refl (stay (last_of c))
    climb (suc n) j is =
        let less : j + 1 < c.count = omega (arith, is) in
        forth (c.start + j) (c.start + suc j) (last_of c) (joint_at c j, w.joints j less, refl, refl) (climb n (suc j) (omega (arith, is)))

    to_last : (i : ℕ) (p : Place c i) → Walk Edge i (onto c i p)
    to_last i (early is) =
        let (j, less, same) = number_of c i is in
        moved Edge (c.start + j) (last_of c) i (last_of c) (sym same) refl (climb (c.count - 1 - j) j (omega (arith, less)))
    to_last i (final same) = stay i
    to_last i (beside none other) = stay i

    linked_there : (i : ℕ) (p : Place c i) → IsLinked g i → IsLinked h (onto c i p)
    linked_there i (early is) at = linked
    linked_there i (final same) at = subst (IsLinked h) (sym same) linked
    linked_there i (beside none other) at = ap is_some (sym (w.beside_at i none other)) ∙ at

    old_walk : (i j : ℕ) → Walk (LinkFrom (HasLink h)) i j → Walk Edge i j
    old_walk i j walk = sent (LinkFrom (HasLink h)) Edge (λ n. n) (λ a b edge. forth a b b (lift c edge.0, w.lifted edge.0 edge.1, edge.2, edge.3) (stay b)) i j walk

    pub mended_connected : (i j : ℕ) → IsLinked g i → IsLinked g j → Walk Edge i j
    mended_connected i j first second =
        walk_then Edge i (onto_last c i) j (to_last i (place_of c i))
        (walk_then Edge (onto_last c i) (onto_last c j) j
        (old_walk (onto_last c i) (onto_last c j) (good.connected (onto_last c i) (onto_last c j) (linked_there i (place_of c i) first) (linked_there j (place_of c j) second)))
        (walk_back Edge j (onto_last c j) (to_last j (place_of c j))))
