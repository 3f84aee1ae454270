-- The positions of a chain, and the links of a linkage that uses it.
use Rattle.std.proofs.Common.{◌≡◌, ℕ, zero, suc, ◌+◌, ◌-◌, ◌<◌, ◌≤◌, Bool, true, false, eqb-true, eq-eqb, inl, inr, List, [], ◌∷◌, length, get_or, slice_get, Some, Contains, refl, ap, sym, ◌∙◌, arith, rules}
use Rattle.std.specs.Prelude.{◌==◌, if◌then◌else◌}
use Rattle.std.specs.Cmp.{IsTotalOrder}
use Rattle.std.specs.Cmp.Rules.{comparing}
use Rattle.std.proofs.lemmas.Bool.{cases_eq, cases_lt}
use Rattle.std.proofs.lemmas.Option.{none-some}
use Rattle.lg_gram.specs.Linkages.{Linkage, link_cmp}
use Rattle.lg_gram.specs.Rules.{Good, HasLink, left_list, right_list, rights_of, lefts_of}
use Rattle.lg_gram.specs.declared.disjunct.Disjunct.{Disjunct}
use Rattle.lg_gram.specs.declared.linkage.Link.{Link}
use Rattle.lg_idiom.specs.Idioms.{Chain, joint_of}
use Rattle.lg_idiom.specs.Wholes.{AreChainsOfIdioms, AreLaidOver, UsesAll, IsEarlier, last_of, lowered_at}
use Rattle.lg_idiom.proofs.Joints.{at_one}
use Rattle.lg_idiom.proofs.Parts.{Part, begins, goes_on, ends, part_of}
use Rattle.lg_idiom.proofs.Using.{Joined, upward, before_first}

pub links_total : IsTotalOrder link_cmp
links_total = Prim.search (comparing, rules) depth 16

-- ---- a list by its positions

abbrev pub row : {X : Type 0} → ℕ → (ℕ → X) → List X
row zero f = []
row (suc n) f = f 0 ∷ row n (λ i. f (suc i))

pub length_row : {X : Type 0} (n : ℕ) (f : ℕ → X) → length (row n f) ≡ n
length_row zero f = refl
length_row (suc n) f = ap suc (length_row n (λ i. f (suc i)))

pub row_at : {X : Type 0} (n : ℕ) (f : ℕ → X) (d : X) → ((i : ℕ) → n ≤ i → f i ≡ d) → (i : ℕ) → get_or (row n f) i d ≡ f i
row_at zero f d past i = sym (past i (omega arith))
row_at (suc n) f d past zero = refl
row_at (suc n) f d past (suc i) = row_at n (λ i. f (suc i)) d (λ i low. past (suc i) (omega (arith, low))) i

-- ---- a position and a chain

-- before the chain's last position, the last one, or neither
pub data Place (c : Chain) (i : ℕ) : Type 0 where
  early : IsEarlier c i → Place c i
  final : i ≡ last_of c → Place c i
  beside : (IsEarlier c i → ⊥) → (i ≡ last_of c → ⊥) → Place c i

pub place_of : (c : Chain) (i : ℕ) → Place c i
place_of c i =
    elim (cases_eq i (last_of c)) [
      | inl same ↦ final same
      | inr other ↦ elim (cases_lt i c.start) [
        | inl less ↦ beside (λ h. (let from = h.0 in omega (arith, less, from))) other
        | inr from ↦ elim (cases_lt i (last_of c)) [
          | inl less ↦ early (from, less)
          | inr past ↦ beside (λ h. (let to = h.1 in omega (arith, past, to))) other
        ]
      ]
    ]

pub not_last : (c : Chain) (i : ℕ) → i ≡ last_of c → IsEarlier c i → ⊥
not_last c i same h = let to = h.1 in omega (arith, same, to)

-- ---- a link behind the joint at the last position

-- the joint stands first there
abbrev pub shift_if : Bool → ℕ
shift_if last = if last then 1 else 0

abbrev pub shift : Chain → ℕ → ℕ
shift c j = shift_if (j == last_of c)

pub shift_last : (c : Chain) (j : ℕ) → j ≡ last_of c → shift c j ≡ 1
shift_last c j same = ap shift_if (eq-eqb j (last_of c) same)

pub shift_other : (c : Chain) (j : ℕ) → (j ≡ last_of c → ⊥) → shift c j ≡ 0
shift_other c j other = by_test (j == last_of c) refl
  where
    by_test : (b : Bool) → (j == last_of c) ≡ b → shift_if b ≡ 0
    by_test true test = absurd (other (eqb-true j (last_of c) test))
    by_test false test = refl

abbrev pub lift : Chain → Link → Link
lift c l = record l { rplace = shift c l.right + l.rplace }

pub lift_same : (c : Chain) (k l : Link) → lift c k ≡ lift c l → k ≡ l
lift_same c k l is =
    let lefts : k.left ≡ l.left = ap (λ (x : Link). x.left) is in
    let rights : k.right ≡ l.right = ap (λ (x : Link). x.right) is in
    let lplaces : k.lplace ≡ l.lplace = ap (λ (x : Link). x.lplace) is in
    let sums : shift c k.right + k.rplace ≡ shift c l.right + l.rplace = ap (λ (x : Link). x.rplace) is in
    let shifts : shift c k.right ≡ shift c l.right = ap (shift c) rights in
    let rplaces : k.rplace ≡ l.rplace = omega (arith, sums, shifts) in
    λ i. record { left = lefts i; lplace = lplaces i; right = rights i; rplace = rplaces i }

positive : (n : ℕ) → (n ≡ 0 → ⊥) → n ≡ 1 + (n - 1)
positive zero some = absurd (some refl)
positive (suc n) some = omega arith

-- lowered and lifted again
pub lift_lowered : (c : Chain) (k : Link) → (k.right ≡ last_of c → k.rplace ≡ 0 → ⊥) → k ≡ lift c (lowered_at (last_of c) k)
lift_lowered c k some = by_test (k.right == last_of c) refl
  where
    by_test : (b : Bool) → (k.right == last_of c) ≡ b → k ≡ lift c (if b then record k { rplace = k.rplace - 1 } else k)
    by_test true test =
        let high : k.rplace ≡ 1 + (k.rplace - 1) = elim (cases_eq k.rplace 0) [
          | inl none ↦ absurd (some (eqb-true k.right (last_of c) test) none)
          | inr more ↦ positive k.rplace more
        ] in
        let is : k.rplace ≡ shift c k.right + (k.rplace - 1) = high ∙ ap (λ s. s + (k.rplace - 1)) (sym (ap shift_if test)) in
        λ i. record k { rplace = is i }
    by_test false test =
        let none : shift c k.right ≡ 0 = ap shift_if test in
        let is : k.rplace ≡ shift c k.right + k.rplace = omega (arith, none) in
        λ i. record k { rplace = is i }

pub lowered_lift : (c : Chain) (l : Link) → lowered_at (last_of c) (lift c l) ≡ l
lowered_lift c l = by_test (l.right == last_of c) refl
  where
    by_test : (b : Bool) → (l.right == last_of c) ≡ b → ◌≡◌ {A = Link} (if b then record l { rplace = (shift c l.right + l.rplace) - 1 } else record l { rplace = shift c l.right + l.rplace }) l
    by_test true test =
        let one : shift c l.right ≡ 1 = ap shift_if test in
        let is : (shift c l.right + l.rplace) - 1 ≡ l.rplace = omega (arith, one) in
        λ i. record l { rplace = is i }
    by_test false test =
        let none : shift c l.right ≡ 0 = ap shift_if test in
        let is : shift c l.right + l.rplace ≡ l.rplace = omega (arith, none) in
        λ i. record l { rplace = is i }

-- ---- the links of a good linkage that uses the chain

left_none : (c : Chain) (d : Disjunct) → Part c d zero → d.left ≡ []
left_none c d (begins l r cost) = l

left_only : (c : Chain) (d : Disjunct) (k : ℕ) → Part c d (suc k) → suc k + 1 < c.count → d.left ≡ joint_of c k false ∷ []
left_only c d k (goes_on _ more l r cost) less = l
left_only c d k (ends _ own last l is) less = absurd (omega (arith, last, less))

right_only : (c : Chain) (d : Disjunct) (i : ℕ) → Part c d i → i + 1 < c.count → d.right ≡ joint_of c i true ∷ []
right_only c d zero (begins l r cost) less = r
right_only c d (suc k) (goes_on _ more l r cost) less = r
right_only c d (suc k) (ends _ own last l is) less = absurd (omega (arith, last, less))

module _ (taken : List Chain) (plain positions : List (List Disjunct)) (are : AreChainsOfIdioms taken) (over : AreLaidOver taken plain positions) (g : Linkage) (good : Good positions g) (c : Chain) (m : Contains taken c) (uses : UsesAll g c) where
  pub joined : (j : ℕ) → j + 1 < c.count → Joined g c j
  joined j less = upward taken plain positions are over g good c m j less (uses j (omega (arith, less)))

  -- a link from an earlier position is a joint's
  pub leaves_as : (j : ℕ) (less : j + 1 < c.count) (k : Link) → HasLink g k → k.left ≡ c.start + j → k ≡ (joined j less).link
  leaves_as j less k has at =
      let (a, b, first, second, match) = good.rules.matched.joins k has in
      let (d, is, of) = uses j (omega (arith, less)) in
      let list : rights_of g (c.start + j) ≡ joint_of c j true ∷ [] = ap right_list is ∙ right_only c d j (part_of c j d of) less in
      let one = at_one (joint_of c j true) a k.lplace (sym (ap (λ xs. slice_get xs k.lplace) list) ∙ ap (λ p. slice_get (rights_of g p) k.lplace) (sym at) ∙ first) in
      (good.rules.satisfied.on_right (c.start + j) 0 (joint_of c j true) (ap (λ xs. slice_get xs 0) list)).one refl k (joined j less).link has (joined j less).has at one.1 (joined j less).from (joined j less).leaves

  -- and one that comes in at the first place of a later one
  enters_as : (j : ℕ) (less : j + 1 < c.count) (k : Link) → HasLink g k → k.right ≡ c.start + suc j → k.rplace ≡ 0 → k ≡ (joined j less).link
  enters_as j less k has at first =
      let (d, is, of) = uses (suc j) (omega (arith, less)) in
      let there : slice_get (lefts_of g (c.start + suc j)) 0 ≡ Some (joint_of c j false) = ap (λ o. slice_get (left_list o) 0) is ∙ before_first c d j (part_of c (suc j) d of) in
      (good.rules.satisfied.on_left (c.start + suc j) 0 (joint_of c j false) there).one refl k (joined j less).link has (joined j less).has at first (joined j less).to (joined j less).enters

  enters_by : (j : ℕ) → j + 1 < c.count → (k : Link) → HasLink g k → k.right ≡ c.start + j → IsEarlier c k.left
  enters_by zero less k has at =
      let (a, b, first, second, match) = good.rules.matched.joins k has in
      let (d, is, of) = uses 0 (omega (arith, less)) in
      let list : lefts_of g (c.start + 0) ≡ [] = ap left_list is ∙ left_none c d (part_of c 0 d of) in
      absurd (none-some b (sym (ap (λ xs. slice_get xs k.rplace) list) ∙ ap (λ p. slice_get (lefts_of g p) k.rplace) (sym at) ∙ second))
  enters_by (suc j) less k has at =
      let (a, b, first, second, match) = good.rules.matched.joins k has in
      let (d, is, of) = uses (suc j) (omega (arith, less)) in
      let list : lefts_of g (c.start + suc j) ≡ joint_of c j false ∷ [] = ap left_list is ∙ left_only c d j (part_of c (suc j) d of) less in
      let one = at_one (joint_of c j false) b k.rplace (sym (ap (λ xs. slice_get xs k.rplace) list) ∙ ap (λ p. slice_get (lefts_of g p) k.rplace) (sym at) ∙ second) in
      let same : k.left ≡ c.start + j = ap (λ (x : Link). x.left) (enters_as j (omega (arith, less)) k has at one.1) ∙ (joined j (omega (arith, less))).from in
      (omega (arith, same), omega (arith, same, less))

  -- what comes in at an earlier position comes from one
  pub comes_from : (k : Link) → HasLink g k → IsEarlier c k.right → IsEarlier c k.left
  comes_from k has right =
      let from = right.0 in
      let to = right.1 in
      enters_by (k.right - c.start) (omega (arith, from, to)) k has (omega (arith, from))

  -- and so does what comes in at the first place of the last one
  pub comes_first : (k : Link) → HasLink g k → k.right ≡ last_of c → k.rplace ≡ 0 → IsEarlier c k.left
  comes_first k has at first =
      let several = are.several c m in
      let less : (c.count - 2) + 1 < c.count = omega (arith, several) in
      let same : k.left ≡ c.start + (c.count - 2) = ap (λ (x : Link). x.left) (enters_as (c.count - 2) less k has (omega (arith, at, several)) first) ∙ (joined (c.count - 2) less).from in
      (omega (arith, same), omega (arith, same, several))

  -- what goes out of an earlier position comes in at the next one, first
  pub goes_to : (k : Link) → HasLink g k → IsEarlier c k.left → (k.right ≡ k.left + 1) × (k.lplace ≡ 0) × (k.rplace ≡ 0)
  goes_to k has left =
      let from = left.0 in
      let to = left.1 in
      let less : (k.left - c.start) + 1 < c.count = omega (arith, from, to) in
      let next = joined (k.left - c.start) less in
      let is : k ≡ next.link = leaves_as (k.left - c.start) less k has (omega (arith, from)) in
      let right : k.right ≡ c.start + suc (k.left - c.start) = ap (λ (x : Link). x.right) is ∙ next.to in
      (omega (arith, right, from), ap (λ (x : Link). x.lplace) is ∙ next.leaves, ap (λ (x : Link). x.rplace) is ∙ next.enters)
