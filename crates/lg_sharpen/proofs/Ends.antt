-- What the rules say of a link, seen from either end.
use Rattle.std.proofs.Common.{◌≡◌, ℕ, zero, suc, ◌+◌, ◌-◌, ◌<◌, ◌≤◌, ◌⊎◌, inl, inr, List, [], ◌∷◌, length, refl, sym, ap, ◌∙◌, subst, Some, Bool, true, false, not, Contains, arith}
use Rattle.std.specs.List.{slice_get}
use Rattle.std.proofs.lemmas.Bool.{cases_eq, cases_lt}
use Rattle.std.proofs.lemmas.Option.{same_Some, slice_get-get_or}
use Rattle.lg_gram.specs.Connectors.{Connector}
use Rattle.lg_gram.specs.Linkages.{Linkage, link_length}
use Rattle.lg_gram.specs.Rules.{chosen_at, left_list, right_list, HasLink}
use Rattle.lg_gram.specs.declared.disjunct.Disjunct.{Disjunct}
use Rattle.lg_gram.specs.declared.linkage.Link.{Link}
use Rattle.lg_sharpen.specs.Sites.{own, place_on, across, MatchOn, IsBeforeOf, IsBehindOf}
use Rattle.lg_member.specs.Members.{list_on}
use Rattle.lg_sharpen.specs.Bounds.{list_at, Fits, IsNearest, HasFarther, HasNearer, HasAway, Needs, Allows, Covers}
use Rattle.lg_sharpen.specs.declared.site.Site.{Site}
use Rattle.lg_member.proofs.Linked.{linked_at}
use Rattle.lg_sharpen.proofs.Apart.{is_short}

pub served : (most : ℕ) (g : Linkage) → Fits most g → (right : Bool) (i p : ℕ) (c : Connector) → slice_get (list_at right g i) p ≡ Some c → (l : Link) × HasLink g l × (own right l ≡ i) × (place_on right l ≡ p)
served most g f true i p c e = (f.rules.satisfied.on_right i p c e).some
served most g f false i p c e = (f.rules.satisfied.on_left i p c e).some

-- a connector that is not multi has one link
only : (most : ℕ) (g : Linkage) → Fits most g → (right : Bool) (l e : Link) → HasLink g l → HasLink g e → (c : Connector) → slice_get (list_at right g (own right l)) (place_on right l) ≡ Some c → c.multi ≡ false
    → own right e ≡ own right l → place_on right e ≡ place_on right l → l ≡ e
only most g f true l e h he c at m o p = (f.rules.satisfied.on_right l.left l.lplace c at).one m l e h he refl refl o p
only most g f false l e h he c at m o p = (f.rules.satisfied.on_left l.right l.rplace c at).one m l e h he refl refl o p

pub longer : (most : ℕ) (g : Linkage) → Fits most g → (right : Bool) (k l : Link) → HasLink g k → HasLink g l → own right k ≡ own right l → place_on right k < place_on right l → link_length k < link_length l
longer most g f true k l hk hl e p =
    let a = f.rules.ordered.on_right k l hk hl e p in
    let b = f.rules.matched.forward k hk in
    let r : k.right - k.left < l.right - l.left = (let e' : k.left ≡ l.left = e in omega arith) in
    r
longer most g f false k l hk hl e p =
    let a = f.rules.ordered.on_left k l hk hl e p in
    let b = f.rules.matched.forward l hl in
    let c = f.rules.matched.forward k hk in
    let r : k.right - k.left < l.right - l.left = (let e' : k.right ≡ l.right = e in omega arith) in
    r

pub joined : (most : ℕ) (g : Linkage) → Fits most g → (right : Bool) (l : Link) → HasLink g l
    → (a : Connector) × (b : Connector) × (slice_get (list_at right g (own right l)) (place_on right l) ≡ Some a) × (slice_get (list_at (not right) g (own (not right) l)) (place_on (not right) l) ≡ Some b) × MatchOn right a b
joined most g f true l h = f.rules.matched.joins l h
joined most g f false l h = let m = f.rules.matched.joins l h in (m.1, m.0, m.3, m.2, m.4)

pub is_across : (right : Bool) (l : Link) → l.left < l.right → own (not right) l ≡ across right (own right l) (link_length l)
is_across true l h = let e : l.right ≡ l.left + (l.right - l.left) = omega arith in e
is_across false l h = let e : l.left ≡ l.right - (l.right - l.left) = omega arith in e

pub short_on : (most : ℕ) (g : Linkage) → Fits most g → (right : Bool) (l : Link) → HasLink g l → IsNearest g right l → IsNearest g (not right) l → link_length l ≤ most
short_on most g f true l h a b = is_short most g f l h a b
short_on most g f false l h a b = is_short most g f l h b a

-- the only link of a connector at the first place is the nearest
pub only_is_nearest : (most : ℕ) (g : Linkage) → Fits most g → (right : Bool) (l : Link) → HasLink g l → (c : Connector) → slice_get (list_at right g (own right l)) (place_on right l) ≡ Some c → place_on right l ≡ 0
    → c.multi ≡ false → IsNearest g right l
only_is_nearest most g f right l h c at p m e he same =
    elim (cases_lt (place_on right l) (place_on right e)) [
      | inl far ↦ (let r = longer most g f right l e h he (sym same) far in omega arith)
      | inr near ↦ (let q : place_on right e ≡ place_on right l = omega arith in let r = ap link_length (only most g f right l e h he c at m same q) in omega arith)
    ]

pub chosen_of : (g : Linkage) (right : Bool) (i p : ℕ) (c : Connector) → slice_get (list_at right g i) p ≡ Some c → (d : Disjunct) × (chosen_at g i ≡ Some d) × (i < length g.chosen)
chosen_of g true i p c e = linked_at right_list refl g.chosen i p c e
chosen_of g false i p c e = linked_at left_list refl g.chosen i p c e

pub list_of : (g : Linkage) (right : Bool) (i : ℕ) (d : Disjunct) → chosen_at g i ≡ Some d → list_at right g i ≡ list_on right d
list_of g true i d e = ap right_list e
list_of g false i d e = ap left_list e

-- a site that covers has a link
pub covered : (most : ℕ) (g : Linkage) → Fits most g → (right : Bool) (i : ℕ) (sites : List Site) → Covers g right i sites → (q : ℕ) (t : Site) → slice_get sites q ≡ Some t → q < length sites
    → (k : Link) × HasLink g k × (own right k ≡ i) × (place_on right k ≡ q) × Allows g right k t
covered most g f right i sites c q t e w =
    let same = c.same_length in
    let at = slice_get-get_or (list_at right g i) q t.connector (omega arith) in
    let k = served most g f right i q _ at in
    let s = c.each k.0 k.1 k.2 in
    let es : s.0 ≡ t = same_Some s.0 t (sym s.1 ∙ subst (λ z. slice_get sites z ≡ Some t) (sym k.3) e) in
    (k.0, k.1, k.2, k.3, subst (λ z. Allows g right k.0 z) es s.2)

-- a link that is no longer than any other with the same end
record Nearest (right : Bool) (i : ℕ) (links : List Link) : Type 0 where
  pub link : Link
  pub has : Contains links link
  pub own_is : own right link ≡ i
  pub least : (e : Link) → Contains links e → own right e ≡ i → link_length link ≤ link_length e

abbrev Has : Bool → ℕ → List Link → Type 0
Has right i links = (e : Link) × Contains links e × (own right e ≡ i)

contains_tail : (y : Link) (ys : List Link) (x : Link) → Contains ys x → Contains (y ∷ ys) x
contains_tail y ys x (k, w, e) = (suc k, omega arith, e)

contains_cases : (y : Link) (ys : List Link) (x : Link) → Contains (y ∷ ys) x → (y ≡ x) ⊎ Contains ys x
contains_cases y ys x (zero, w, e) = inl e
contains_cases y ys x (suc k, w, e) = inr (k, omega arith, e)

-- the nearer of a link and the nearest of the others
nearer : (right : Bool) (i : ℕ) (x : Link) (xs : List Link) → own right x ≡ i → Nearest right i xs ⊎ (Has right i xs → ⊥) → Nearest right i (x ∷ xs)
nearer right i x xs o (inr none) = record {
  link = x;
  has = (0, omega arith, refl);
  own_is = o;
  least = λ e c q. elim (contains_cases x xs e c) [ inl same ↦ (let r = ap link_length same in omega arith) | inr h ↦ absurd (none (e, h, q)) ];
}
nearer right i x xs o (inl n) =
    elim (cases_lt (link_length x) (link_length n.link)) [
      | inl less ↦ record {
        link = x;
        has = (0, omega arith, refl);
        own_is = o;
        least = λ e c q. elim (contains_cases x xs e c) [ inl same ↦ (let r = ap link_length same in omega arith) | inr h ↦ (let r = n.least e h q in omega arith) ];
      }
      | inr more' ↦ record {
        link = n.link;
        has = contains_tail x xs n.link n.has;
        own_is = n.own_is;
        least = λ e c q. elim (contains_cases x xs e c) [ inl same ↦ (let r = ap link_length same in omega arith) | inr h ↦ n.least e h q ];
      }
    ]

passed : (right : Bool) (i : ℕ) (x : Link) (xs : List Link) → (own right x ≡ i → ⊥) → Nearest right i xs ⊎ (Has right i xs → ⊥) → Nearest right i (x ∷ xs) ⊎ (Has right i (x ∷ xs) → ⊥)
passed right i x xs o (inr none) = inr (λ h. elim (contains_cases x xs h.0 h.1) [ inl same ↦ o (ap (λ z. own right z) same ∙ h.2) | inr c ↦ none (h.0, c, h.2) ])
passed right i x xs o (inl n) = inl (record {
  link = n.link;
  has = contains_tail x xs n.link n.has;
  own_is = n.own_is;
  least = λ e c q. elim (contains_cases x xs e c) [ inl same ↦ absurd (o (ap (λ z. own right z) same ∙ q)) | inr h ↦ n.least e h q ];
})

nearest_of : (right : Bool) (i : ℕ) (links : List Link) → Nearest right i links ⊎ (Has right i links → ⊥)
nearest_of right i [] = inr (λ h. let w = h.1.1 in omega arith)
nearest_of right i (x ∷ xs) = elim (cases_eq (own right x) i) [ inl o ↦ inl (nearer right i x xs o (nearest_of right i xs)) | inr o ↦ passed right i x xs o (nearest_of right i xs) ]

-- a link of the same place that is no longer: the link itself, or the nearest where it is to be the nearest of a first place
pub near_link : (most : ℕ) (g : Linkage) → Fits most g → (right : Bool) (l : Link) → HasLink g l → (near : Bool) → (near ≡ true → place_on right l ≡ 0)
    → (n : Link) × HasLink g n × (own right n ≡ own right l) × (place_on right n ≡ place_on right l) × (link_length n ≤ link_length l) × (near ≡ true → IsNearest g right n)
near_link most g f right l h false p = (l, h, refl, refl, omega arith, λ e. absurd cc)
near_link most g f right l h true p =
    elim (nearest_of right (own right l) g.links) [
      | inr none ↦ absurd (none (l, h, refl))
      | inl n ↦ (
        n.link,
        n.has,
        n.own_is,
        elim (cases_lt (place_on right l) (place_on right n.link)) [
          | inl far ↦ absurd (let r = longer most g f right l n.link h n.has (sym n.own_is) far in let q = n.least l h refl in omega arith)
          | inr near ↦ (let q = p refl in omega arith)
        ],
        n.least l h refl,
        λ e x hx same. n.least x hx (same ∙ n.own_is),
      )
    ]

-- a link whose connector has another one behind it
pub has_farther : (most : ℕ) (g : Linkage) → Fits most g → (right : Bool) (n : ℕ) (l : Link) → HasLink g l → ((e : Link) → HasLink g e → own right e ≡ own right l → link_length e < n) → place_on right l + 1 < length (list_at right g (own right l)) → HasFarther g right n l
has_farther most g f right n l h short w =
    let j = joined most g f right l h in
    let at = slice_get-get_or (list_at right g (own right l)) (place_on right l + 1) j.0 w in
    let k = served most g f right (own right l) (place_on right l + 1) _ at in
    let kp = k.3 in
    (k.0, k.1, k.2, longer most g f right l k.0 h k.1 (sym k.2) (omega arith), short k.0 k.1 k.2)

pub fewer_before : (g : Linkage) (right : Bool) (l : Link) (n m : ℕ) → m ≤ n → (n ≡ 0) ⊎ HasNearer g right n l → (m ≡ 0) ⊎ HasNearer g right m l
fewer_before g right l n m le (inl z) = inl (omega arith)
fewer_before g right l n m le (inr e) = let a = e.3 in inr (e.0, e.1, e.2, omega arith, e.4)

-- links farther than both ends of a link would cross
both_farther : (most : ℕ) (g : Linkage) → Fits most g → (l : Link) → HasLink g l → (n m : ℕ) → HasFarther g true n l → HasFarther g false m l → ⊥
both_farther most g f l h n m a b =
    let w = f.rules.matched.forward l h in
    let wa = f.rules.matched.forward a.0 a.1 in
    let wb = f.rules.matched.forward b.0 b.1 in
    let ea : a.0.left ≡ l.left = a.2 in
    let eb : b.0.right ≡ l.right = b.2 in
    let la : l.right - l.left < a.0.right - a.0.left = a.3 in
    let lb : l.right - l.left < b.0.right - b.0.left = b.3 in
    f.rules.planar b.0 a.0 b.1 a.1 (omega arith) (omega arith) (omega arith)

pub farther_cross : (most : ℕ) (g : Linkage) → Fits most g → (right : Bool) (l : Link) → HasLink g l → (n m : ℕ) → HasFarther g right n l → HasFarther g (not right) m l → ⊥
farther_cross most g f true l h n m a b = both_farther most g f l h n m a b
farther_cross most g f false l h n m a b = both_farther most g f l h m n b a

-- under a farther link of one end, the links of the other end that lead away end no farther than that
away_under : (most : ℕ) (g : Linkage) → Fits most g → (right : Bool) (l : Link) → HasLink g l → (n m : ℕ) → HasFarther g right n l → HasAway g (not right) m (own (not right) l) → link_length l + m < n
away_under most g f true l h n m a b =
    let w = f.rules.matched.forward l h in
    let wa = f.rules.matched.forward a.0 a.1 in
    let wb = f.rules.matched.forward b.0 b.1 in
    let ea : a.0.left ≡ l.left = a.2 in
    let eb : b.0.left ≡ l.right = b.2 in
    let la : l.right - l.left < a.0.right - a.0.left = a.3 in
    let na : a.0.right - a.0.left < n = a.4 in
    let lb : m ≤ b.0.right - b.0.left = b.3 in
    let r : (l.right - l.left) + m < n = elim (cases_lt a.0.right b.0.right) [
      | inl cross ↦ absurd (f.rules.planar a.0 b.0 a.1 b.1 (omega arith) (omega arith) cross)
      | inr under ↦ omega arith
    ] in
    r
away_under most g f false l h n m a b =
    let w = f.rules.matched.forward l h in
    let wa = f.rules.matched.forward a.0 a.1 in
    let wb = f.rules.matched.forward b.0 b.1 in
    let ea : a.0.right ≡ l.right = a.2 in
    let eb : b.0.right ≡ l.left = b.2 in
    let la : l.right - l.left < a.0.right - a.0.left = a.3 in
    let na : a.0.right - a.0.left < n = a.4 in
    let lb : m ≤ b.0.right - b.0.left = b.3 in
    let r : (l.right - l.left) + m < n = elim (cases_lt b.0.left a.0.left) [
      | inl cross ↦ absurd (f.rules.planar b.0 a.0 b.1 a.1 cross (omega arith) (omega arith))
      | inr under ↦ omega arith
    ] in
    r

pub needs_fit : (most : ℕ) (g : Linkage) → Fits most g → (right : Bool) (l : Link) → HasLink g l → (n m : ℕ) → HasFarther g right n l → Needs g (not right) m (own (not right) l) → link_length l + m < n
needs_fit most g f right l h n m a (inl z) = let x = a.3 in let y = a.4 in omega arith
needs_fit most g f right l h n m a (inr b) = away_under most g f right l h n m a b

-- seen from the other end
pub needs_fit_other : (most : ℕ) (g : Linkage) → Fits most g → (right : Bool) (l : Link) → HasLink g l → (n m : ℕ) → HasFarther g (not right) n l → Needs g right m (own right l) → link_length l + m < n
needs_fit_other most g f true l h n m a b = needs_fit most g f false l h n m a b
needs_fit_other most g f false l h n m a b = needs_fit most g f true l h n m a b

pub fewer_needs : (g : Linkage) (right : Bool) (i n m : ℕ) → m ≤ n → Needs g right n i → Needs g right m i
fewer_needs g right i n m le (inl z) = inl (omega arith)
fewer_needs g right i n m le (inr e) = let a = e.3 in inr (e.0, e.1, e.2, omega arith)

-- links nearer than both ends of a link have room
nearer_fit : (most : ℕ) (g : Linkage) → Fits most g → (l : Link) → HasLink g l → (n m : ℕ) → HasNearer g true n l → HasNearer g false m l → n + m ≤ link_length l
nearer_fit most g f l h n m a b =
    let w = f.rules.matched.forward l h in
    let wa = f.rules.matched.forward a.0 a.1 in
    let wb = f.rules.matched.forward b.0 b.1 in
    let ea : a.0.left ≡ l.left = a.2 in
    let eb : b.0.right ≡ l.right = b.2 in
    let na : n ≤ a.0.right - a.0.left = a.3 in
    let nb : m ≤ b.0.right - b.0.left = b.3 in
    let la : a.0.right - a.0.left < l.right - l.left = a.4 in
    let lb : b.0.right - b.0.left < l.right - l.left = b.4 in
    let r : n + m ≤ l.right - l.left = elim (cases_lt b.0.left a.0.right) [
      | inl cross ↦ absurd (f.rules.planar a.0 b.0 a.1 b.1 (omega arith) cross (omega arith))
      | inr apart ↦ omega arith
    ] in
    r

pub before_fit : (most : ℕ) (g : Linkage) → Fits most g → (right : Bool) (l : Link) → HasLink g l → (n m : ℕ) → (n ≡ 0) ⊎ HasNearer g right n l → (m ≡ 0) ⊎ HasNearer g (not right) m l → n + m ≤ link_length l
before_fit most g f right l h n m (inl a) (inl b) = omega arith
before_fit most g f right l h n m (inl a) (inr b) = let x = b.3 in let y = b.4 in omega arith
before_fit most g f right l h n m (inr a) (inl b) = let x = a.3 in let y = a.4 in omega arith
before_fit most g f true l h n m (inr a) (inr b) = nearer_fit most g f l h n m a b
before_fit most g f false l h n m (inr a) (inr b) = let r = nearer_fit most g f l h m n b a in omega arith

-- what the place before says of a link
pub before_is : (most : ℕ) (g : Linkage) → Fits most g → (right : Bool) (i : ℕ) (sites : List Site) → Covers g right i sites → (l : Link) → HasLink g l → own right l ≡ i → (p r : ℕ) → place_on right l ≡ p → p < length sites
    → IsBeforeOf sites p r → (r ≡ 0) ⊎ HasNearer g right r l
before_is most g f right i sites c l h o zero r pl w is = inl (is.first refl)
before_is most g f right i sites c l h o (suc q) r pl w is =
    let s = c.each l h o in
    let at = slice_get-get_or sites q s.0 (omega arith) in
    let k = covered most g f right i sites c q _ at (omega arith) in
    let kf = k.4.from in
    let kp = k.3 in
    let low = is.other q _ (omega arith) at in
    inr (k.0, k.1, k.2 ∙ sym o, omega arith, longer most g f right k.0 l k.1 h (k.2 ∙ sym o) (omega arith))

-- what the place behind says of a link
pub behind_is : (most : ℕ) (g : Linkage) → Fits most g → (right : Bool) (i : ℕ) (sites : List Site) → Covers g right i sites → (l : Link) → HasLink g l → own right l ≡ i → (p r : ℕ) → place_on right l ≡ p → (s : Site) → slice_get sites p ≡ Some s
    → IsBehindOf sites p r → HasFarther g right s.behind l → HasFarther g right r l
behind_is most g f right i sites c l h o p r pl s at is a =
    elim (cases_lt (p + 1) (length sites)) [
      | inl w ↦ (let next = slice_get-get_or sites (p + 1) s w in
          let k = covered most g f right i sites c (p + 1) _ next w in
          let kp = k.3 in
          let ke = k.4.end in
          let le = is.other _ next in
          (k.0, k.1, k.2 ∙ sym o, longer most g f right l k.0 h k.1 (o ∙ sym k.2) (omega arith), omega arith))
      | inr w ↦ (let le = is.last s at w in let x = a.4 in (a.0, a.1, a.2, a.3, omega arith))
    ]
