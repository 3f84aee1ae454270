-- The words under the nearest link of a word link among themselves and with that link's other end alone, so that too few ways to link them shut a gap.
use Rattle.std.proofs.Common.{◌≡◌, ◌≢◌, ℕ, zero, suc, ◌+◌, ◌-◌, ◌<◌, ◌≤◌, inl, inr, List, [], ◌∷◌, ◌++◌, length, map, take, get_or, refl, sym, ap, ◌∙◌, subst, Option, Some, None, IsSome, is_none, Bool, true, false, cond, ltb, min, count_by, Contains, arith}
use Rattle.std.specs.List.{range_with_len}
use Rattle.std.proofs.lemmas.Bool.{cases_eq, cases_lt, ltb-true}
use Rattle.std.proofs.lemmas.Option.{get_or_from_slice_get}
use Rattle.std.proofs.lemmas.List.{take_more}
use Rattle.std.proofs.lemmas.List.Sums.{sum_by-append, sum_by-take-le}
use Rattle.std.proofs.lemmas.List.FromFn.{sum_by-map-range_with_len_more}
use Rattle.lg_gram.specs.Linkages.{Linkage, unlinked, link_length}
use Rattle.lg_gram.specs.Rules.{HasLink, chosen_at}
use Rattle.lg_gram.specs.declared.disjunct.Disjunct.{Disjunct}
use Rattle.lg_gram.specs.declared.linkage.Link.{Link}
use Rattle.lg_member.specs.Members.{formed, side_on}
use Rattle.lg_member.specs.declared.member.Member.{Member}
use Rattle.lg_sharpen.specs.Sites.{own}
use Rattle.lg_sharpen.specs.Filling.{Gaps, flag_at, need_of, need_at, least_at, AreLeast, under, first_of, last_of, stuck_under, behind_under, void_in, left_over, AreSpans, AreGaps, Shuts}
use Rattle.lg_sharpen.specs.Ways.{HasWay, IsMet, KnowsWays}
use Rattle.lg_sharpen.specs.Bounds.{Fits, IsNearest, AllowsGaps, Covers, CoversAll, Stands}
use Rattle.lg_sharpen.specs.declared.site.Site.{Site}
use Rattle.lg_sharpen.proofs.Apart.{none_since}
use Rattle.lg_sharpen.proofs.Ends.{covered}
use Rattle.lg_sharpen.proofs.Standing.{used_by, right_within}

-- a link that begins under a link ends no farther than the last position, and one that ends there begins no nearer than the first
stays_before : (most : ℕ) (g : Linkage) → Fits most g → (right : Bool) (l : Link) → HasLink g l → IsNearest g right l → (e : Link) → HasLink g e → l.left < e.left → e.left < l.right
    → e.right ≤ last_of right (own right l) (link_length l)
stays_before most g f true l h n e he a b =
    let w = f.rules.matched.forward e he in
    let r : e.right ≤ l.left + (l.right - l.left) = elim (cases_lt l.right e.right) [ inl far ↦ absurd (f.rules.planar l e h he a b far) | inr near ↦ omega arith ] in
    r
stays_before most g f false l h n e he a b =
    let w = f.rules.matched.forward e he in
    let r : e.right ≤ l.right - 1 = elim (cases_lt l.right e.right) [
      | inl far ↦ absurd (f.rules.planar l e h he a b far)
      | inr near ↦ elim (cases_lt e.right l.right) [
        | inl less ↦ omega arith
        | inr more' ↦ (let same : e.right ≡ l.right = omega arith in let q : l.right - l.left ≤ e.right - e.left = n e he same in absurd (omega arith))
      ]
    ] in
    r

stays_behind : (most : ℕ) (g : Linkage) → Fits most g → (right : Bool) (l : Link) → HasLink g l → IsNearest g right l → (e : Link) → HasLink g e → l.left < e.right → e.right < l.right
    → first_of right (own right l) (link_length l) ≤ e.left
stays_behind most g f true l h n e he a b =
    let w = f.rules.matched.forward e he in
    let r : l.left + 1 ≤ e.left = elim (cases_lt e.left l.left) [
      | inl far ↦ absurd (f.rules.planar e l he h far a b)
      | inr near ↦ elim (cases_lt l.left e.left) [
        | inl less ↦ omega arith
        | inr more' ↦ (let same : e.left ≡ l.left = omega arith in let q : l.right - l.left ≤ e.right - e.left = n e he same in absurd (omega arith))
      ]
    ] in
    r
stays_behind most g f false l h n e he a b =
    let w = f.rules.matched.forward l h in
    let r : l.right - (l.right - l.left) ≤ e.left = elim (cases_lt e.left l.left) [ inl far ↦ absurd (f.rules.planar e l he h far a b) | inr near ↦ omega arith ] in
    r

-- what a list needs at least, some link of it has
need_met : (most : ℕ) (g : Linkage) → Fits most g → (right : Bool) (i : ℕ) (sites : List Site) → Covers g right i sites → IsMet g right i (need_of sites)
need_met most g f right i [] c = inl refl
need_met most g f right i (s ∷ ss) c = let k = covered most g f right i (s ∷ ss) c 0 s refl (omega arith) in inr (k.0, k.1, k.2, k.4.from)

-- what a member that a linkage uses needs at least
member_needs : (most : ℕ) (g : Linkage) → Fits most g → (right : Bool) (lists : List (List Site)) (ms : List Member) (m : Member) → Contains ms m → chosen_at g m.position ≡ Some (formed m.form) → CoversAll g right lists ms
    → IsMet g right m.position (need_at lists (side_on right m))
member_needs most g f right lists ms m has e covers =
    let c = covers m has e in
    let same : get_or lists (side_on right m) [] ≡ c.0 = get_or_from_slice_get lists (side_on right m) c.0 [] c.1 in
    subst (λ z. IsMet g right m.position (need_of z)) (sym same) (need_met most g f right m.position c.0 c.2)

-- so a linkage's words have ways that the members' are
members_know : (most : ℕ) (g : Linkage) → Fits most g → (ll rl : List (List Site)) (ms : List Member) → Stands g ll rl ms → (rows : List (List ℕ)) → AreLeast ll rl ms rows → KnowsWays g rows
members_know most g f ll rl ms s rows least w d ew =
    let m = s.chosen w d ew in
    let u = used_by g w d m.0 ew m.2 m.3 in
    subst (λ z. HasWay g rows z) m.2 (record {
      left = need_at ll m.0.left;
      right = need_at rl m.0.right;
      noted = least m.0 m.1;
      left_met = member_needs most g f false ll ms m.0 m.1 u s.left;
      right_met = member_needs most g f true rl ms m.0 m.1 u s.right;
    })

-- a linked word whose links lie between two positions has a way to link noted
has_way : (most : ℕ) (g : Linkage) → Fits most g → (rows : List (List ℕ)) (w : ℕ) → HasWay g rows w → (a c : ℕ) → a ≤ w → w ≤ c
    → ((e : Link) → HasLink g e → e.right ≡ w → a ≤ e.left) → ((e : Link) → HasLink g e → e.left ≡ w → e.right ≤ c) → least_at rows w a ≤ c
has_way most g f rows w m a c la lc from end =
    let x : a ≤ w - m.left = elim m.left_met [
      | inl none ↦ (let z : m.left ≡ 0 = none in omega arith)
      | inr e ↦ (let o : e.0.right ≡ w = e.2 in let q = from e.0 e.1 o in let v = f.rules.matched.forward e.0 e.1 in let t : m.left ≤ e.0.right - e.0.left = e.3 in omega arith)
    ] in
    let y : w + m.right ≤ c = elim m.right_met [
      | inl none ↦ (let z : m.right ≡ 0 = none in omega arith)
      | inr e ↦ (let o : e.0.left ≡ w = e.2 in let q = end e.0 e.1 o in let v = f.rules.matched.forward e.0 e.1 in let t : m.right ≤ e.0.right - e.0.left = e.3 in omega arith)
    ] in
    let r = m.noted a x in
    omega arith

some_of : (o : Option Disjunct) → IsSome o → (d : Disjunct) × (o ≡ Some d)
some_of None n = absurd cc
some_of (Some d) n = (d, refl)

-- a word under a link that has no way to link is unlinked
none_under : (most : ℕ) (g : Linkage) → Fits most g → (rows : List (List ℕ)) → KnowsWays g rows → (right : Bool) (l : Link) → HasLink g l → IsNearest g right l → (w : ℕ) → l.left < w → w < l.right
    → first_of right (own right l) (link_length l) ≤ w → w ≤ last_of right (own right l) (link_length l) → last_of right (own right l) (link_length l) < least_at rows w (first_of right (own right l) (link_length l))
    → chosen_at g w ≡ None
none_under most g f rows know right l h n w a b lf lt far =
    none_since (chosen_at g w) (λ linked.
    let d = some_of (chosen_at g w) linked in
    let r = has_way most g f rows w (know w d.0 d.1) (first_of right (own right l) (link_length l)) (last_of right (own right l) (link_length l)) lf lt
    (λ e he q. stays_behind most g f right l h n e he (omega arith) (omega arith))
    (λ e he q. stays_before most g f right l h n e he (omega arith) (omega arith)) in
    omega arith)

counts_one : (b : Bool) (o : Option Disjunct) → (b ≡ true → o ≡ None) → cond b 1 0 ≤ count_by is_none (o ∷ [])
counts_one false o n = let z : 0 ≤ count_by is_none (o ∷ []) = omega arith in z
counts_one true o n = let e : count_by is_none (o ∷ []) ≡ 1 = ap (λ z. count_by is_none (z ∷ [])) (n refl) in let z : 1 ≤ count_by is_none (o ∷ []) = omega arith in z

-- numbers of a run that pass, and the positions before it that are unlinked, are no more than those up to its end
count_on : (os : List (Option Disjunct)) (p : ℕ → Bool) (f : ℕ → ℕ) (a n : ℕ) → a + n ≤ length os → ((w : ℕ) → a ≤ w → w < a + n → p (f w) ≡ true → get_or os w None ≡ None)
    → count_by is_none (take a os) + count_by p (map f (range_with_len a n)) ≤ count_by is_none (take (a + n) os)
count_on os p f a zero h none =
    let z : count_by p (map f (range_with_len a zero)) ≡ 0 = refl in
    let e : count_by is_none (take (a + zero) os) ≡ count_by is_none (take a os) = (let same : a + zero ≡ a = omega arith in ap (λ z. count_by is_none (take z os)) same) in
    omega arith
count_on os p f a (suc n) h none =
    let r = count_on os p f a n (omega arith) (λ w x y. none w x (omega arith)) in
    let j = a + n in
    let more' : count_by p (map f (range_with_len a (n + 1))) ≡ count_by p (map f (range_with_len a n)) + cond (p (f j)) 1 0 = sum_by-map-range_with_len_more (λ x. cond (p x) 1 0) f a n j refl in
    let one : take (j + 1) os ≡ take j os ++ get_or os j None ∷ [] = take_more os j None (omega arith) in
    let all : count_by is_none (take (j + 1) os) ≡ count_by is_none (take j os) + count_by is_none (get_or os j None ∷ []) =
    ap (λ z. count_by is_none z) one ∙ sum_by-append (λ x. cond (is_none x) 1 0) (take j os) (get_or os j None ∷ []) in
    let last = counts_one (p (f j)) (get_or os j None) (none j (omega arith) (omega arith)) in
    let e : suc n ≡ n + 1 = omega arith in
    let e' : a + suc n ≡ j + 1 = omega arith in
    subst (λ z. count_by is_none (take a os) + count_by p (map f (range_with_len a z)) ≤ count_by is_none (take (a + suc n) os)) (sym e)
    (subst (λ z. count_by is_none (take a os) + count_by p (map f (range_with_len a (n + 1))) ≤ count_by is_none (take z os)) (sym e') (omega arith))

is_true : (b : Bool) → (b ≡ false → ⊥) → b ≡ true
is_true true n = refl
is_true false n = absurd (n refl)

spans_on : (n most : ℕ) (rows : List (List ℕ)) (gaps : Gaps) → Shuts n most rows gaps → (right : Bool) → AreSpans right n most rows (cond right gaps.right gaps.left)
spans_on n most rows gaps a true = a.right
spans_on n most rows gaps a false = a.left

-- a word that has no way to link at all is unlinked
none_void : (most : ℕ) (g : Linkage) → Fits most g → (rows : List (List ℕ)) → KnowsWays g rows → (w : ℕ) → w < length g.chosen → length g.chosen < least_at rows w 0 → chosen_at g w ≡ None
none_void most g f rows know w within far =
    none_since (chosen_at g w) (λ linked.
    let d = some_of (chosen_at g w) linked in
    let r = has_way most g f rows w (know w d.0 d.1) 0 (length g.chosen) (omega arith) (omega arith) (λ e he q. omega arith) (λ e he q. let inside = right_within most g f e he in omega arith) in
    omega arith)

-- Where all words are counted, or none, those of the first ones that have no way to link are unlinked; and those from one on, beside what is unlinked before it.
module _ (most : ℕ) (g : Linkage) (f : Fits most g) (rows : List (List ℕ)) (know : KnowsWays g rows) (n : ℕ) (counted : n ≢ 0 → n ≡ length g.chosen) where
  void_run : (a c : ℕ) → n ≢ 0 → a + c ≤ n → count_by is_none (take a g.chosen) + void_in rows n a c ≤ count_by is_none (take (a + c) g.chosen)
  void_run a c some within =
      let all = counted some in
      count_on g.chosen (λ end. ltb n end) (λ w. least_at rows w 0) a c (omega arith)
      (λ w x y t. none_void most g f rows know w (omega arith) (let far = ltb-true n (least_at rows w 0) t in omega arith))

  first_void : (u : ℕ) → u ≤ length g.chosen → void_in rows n 0 (min u n) ≤ count_by is_none (take u g.chosen)
  first_void u within = elim (cases_eq n 0) [
    | inl none ↦ (let e : min u n ≡ 0 = omega arith in let z : void_in rows n 0 (min u n) ≡ 0 = ap (λ z. void_in rows n 0 z) e in omega arith)
    | inr some ↦ (
        let all = counted some in
        let e : min u n ≡ u = omega arith in
        let e' : 0 + u ≡ u = omega arith in
        let r = void_run 0 u some (omega arith) in
        let s : count_by is_none (take (0 + u) g.chosen) ≡ count_by is_none (take u g.chosen) = ap (λ z. count_by is_none (take z g.chosen)) e' in
        let t : void_in rows n 0 (min u n) ≡ void_in rows n 0 u = ap (λ z. void_in rows n 0 z) e in
        omega arith)
  ]

  last_void : (b : ℕ) → b ≤ length g.chosen → count_by is_none (take b g.chosen) + void_in rows n b (n - b) ≤ unlinked g
  last_void b within = elim (cases_eq n 0) [
    | inl none ↦ (
        let e : n - b ≡ 0 = omega arith in
        let z : void_in rows n b (n - b) ≡ 0 = ap (λ z. void_in rows n b z) e in
        let all : count_by is_none (take b g.chosen) ≤ unlinked g = sum_by-take-le (λ x. cond (is_none x) 1 0) g.chosen b in
        omega arith)
    | inr some ↦ (
        let whole = counted some in
        let r = void_run b (n - b) some (omega arith) in
        let all : count_by is_none (take (b + (n - b)) g.chosen) ≤ unlinked g = sum_by-take-le (λ x. cond (is_none x) 1 0) g.chosen (b + (n - b)) in
        omega arith)
  ]

-- where the words under a link lie
place_under : (right : Bool) (l : Link) → l.left < l.right → (under right (own right l) (link_length l) ≡ l.left + 1) × (first_of right (own right l) (link_length l) ≤ l.left + 1) × (l.right ≤ last_of right (own right l) (link_length l) + 1)
place_under true l h = let a : l.left + 1 ≡ l.left + 1 = refl in let b : l.left + 1 ≤ l.left + 1 = omega arith in let c : l.right ≤ (l.left + (l.right - l.left)) + 1 = omega arith in (a, b, c)
place_under false l h = let a : (l.right - (l.right - l.left)) + 1 ≡ l.left + 1 = omega arith in let b : l.right - (l.right - l.left) ≤ l.left + 1 = omega arith in let c : l.right ≤ (l.right - 1) + 1 = omega arith in (a, b, c)

left_few : (n most : ℕ) (g : Linkage) → Fits most g → (n ≢ 0 → n ≡ length g.chosen) → (rows : List (List ℕ)) → KnowsWays g rows → (right : Bool) (l : Link) → HasLink g l → IsNearest g right l
    → left_over right rows n (own right l) (link_length l) ≤ unlinked g
left_few n most g f counted rows know right l h near =
    let i = own right l in
    let d : ℕ = link_length l in
    let fwd = f.rules.matched.forward l h in
    let inside = right_within most g f l h in
    let at = place_under right l fwd in
    let at0 = at.0 in
    let at1 = at.1 in
    let at2 = at.2 in
    let long : l.right ≡ l.left + d = (let q : d ≡ l.right - l.left = refl in omega arith) in
    let before = first_void most g f rows know n counted (under right i d) (omega arith) in
    let c : count_by is_none (take (under right i d) g.chosen) + stuck_under right rows (own right l) (link_length l) ≤ count_by is_none (take (behind_under right i d) g.chosen) =
    count_on g.chosen (λ end. ltb (last_of right i d) end) (λ w. least_at rows w (first_of right i d)) (under right i d) (d - 1) (omega arith)
    (λ w x y t. none_under most g f rows know right l h near w (omega arith) (omega arith) (omega arith) (omega arith) (ltb-true (last_of right i d) (least_at rows w (first_of right i d)) t)) in
    let behind = last_void most g f rows know n counted (behind_under right i d) (omega arith) in
    omega arith

-- no nearest link spans a gap that is shut
pub ways_allow : (n most : ℕ) (g : Linkage) → Fits most g → (n ≢ 0 → n ≡ length g.chosen) → (rows : List (List ℕ)) → KnowsWays g rows → (gaps : Gaps) → Shuts n most rows gaps → AllowsGaps g gaps
ways_allow n most g f counted rows know gaps shuts right l h near =
    is_true (flag_at (cond right gaps.right gaps.left) (own right l) (link_length l)) (λ off.
    let many = spans_on n most rows gaps shuts right (own right l) (link_length l) off in
    let few' = left_few n most g f counted rows know right l h near in
    let few = f.few in
    omega arith)

pub allows_gaps : (n most : ℕ) (ll rl : List (List Site)) (ms : List Member) (gaps : Gaps) → AreGaps n most ll rl ms gaps → (g : Linkage) → Fits most g → length g.chosen ≡ n → Stands g ll rl ms → AllowsGaps g gaps
allows_gaps n most ll rl ms gaps a g f e s = ways_allow n most g f (λ some. sym e) a.rows (members_know most g f ll rl ms s a.rows a.least) gaps a.shuts
