-- The live starts of a group, of a word, and of a region.
use Rattle.std.proofs.Common.{◌≡◌, ◌↔◌, ℕ, suc, ◌+◌, ◌<◌, ◌≤◌, ◌⊎◌, inl, inr, refl, sym, ap, ◌∙◌, subst, List, [], ◌∷◌, ◌++◌, length, Option, Some, None, IfSome, Contains, slice_get, get_or, arith}
use Rattle.std.proofs.lemmas.Option.{slice_get_within}
use Rattle.lg_region.specs.Fronts.{AreOnce, Numbering}
use Rattle.lg_region.specs.Groups.{region_of_gap, IsGroup, StandsIn}
use Rattle.lg_region.specs.Keys.{IsAltOf, IsAltOfRegion}
use Rattle.lg_region.specs.Openings.{AreApart, AreBeginnings, BeginsSo, GroupsOfWord, IsIn, IsKeyOfGap, LeavesLeft, left_of}
use Rattle.lg_region.specs.Ways.{AddsExactly}
use Rattle.lg_region.specs.declared.key.Key.{Key}
use Rattle.lg_region.specs.declared.key.Key.TheVariants.{Whole, Region as Between}
use Rattle.lg_region.specs.declared.alternative.Alt.{Alt}
use Rattle.lg_region.specs.declared.alternative.Alt.TheVariants.{AllNull, Split as At}
use Rattle.lg_region.specs.declared.group.Gap.{Gap}
use Rattle.lg_region.specs.declared.group.Group.{Group}
use Rattle.lg_region.specs.declared.opening.Beginning.{Beginning}
use Rattle.lg_forest.specs.Demands.{HasLinkageUnder}
use Rattle.lg_forest.specs.Forests.{IsLive}
use Rattle.lg_forest.specs.Halves.{AddsLive, AsksAmong}
use Rattle.lg_forest.specs.Opened.{AddsStarts, AsksLeft, IsAltWith, IsAny, IsLiveLeft, IsLiveStart, OpensWord, StandsAt, StartsSo}
use Rattle.lg_forest.specs.Search.{Asked, AsksOf}
use Rattle.lg_forest.specs.Search.AsksOf.{left as asks_left, right as asks_right}
use Rattle.lg_forest.specs.declared.openings.Opening.{Opening}
use Rattle.lg_forest.specs.declared.openings.Start.{Start}
use Rattle.lg_forest.proofs.Asked.{asked_as, asked_then}
use Rattle.lg_forest.proofs.Among.{Among, In, adds_as, adds_one, adds_then, among_all, among_next, alt_in, alt_out, begins_same, ending_left}
use Rattle.lg_forest.proofs.Levels.{leaves, same_level}
use Rattle.lg_forest.proofs.Once.{contains_at}

abbrev Entries : Type 0
Entries = List (Key × List Alt)

-- ---- the left keys of some alternatives

module _ (n : Numbering) (key : Key) (nulls : ℕ) (P Q R : Alt → Type 0) (e : (a : Alt) → R a ↔ (P a ⊎ Q a)) where
  pub lefts_then : (old mid new : Entries) → Asked n (AsksLeft n key nulls P) old mid → Asked n (AsksLeft n key nulls Q) mid new → Asked n (AsksLeft n key nulls R) old new
  lefts_then old mid new x y =
      asked_then n (AsksLeft n key nulls P) (AsksLeft n key nulls Q) (AsksLeft n key nulls R) old mid new
      (λ k (a, is, p, q). (a, is, (e a).1 (inl p), q))
      (λ k (a, is, p, q). (a, is, (e a).1 (inr p), q))
      (λ k (a, is, r, q). elim ((e a).0 r) [ inl p ↦ inl (a, is, p, q) | inr p ↦ inr (a, is, p, q) ])
      x y

pub lefts_as : (n : Numbering) (key : Key) (nulls : ℕ) (P Q : Alt → Type 0) → ((a : Alt) → IsAltWith n key nulls a → P a ↔ Q a) → (old new : Entries) → Asked n (AsksLeft n key nulls P) old new → Asked n (AsksLeft n key nulls Q) old new
lefts_as n key nulls P Q e old new x =
    asked_as n (AsksLeft n key nulls P) (AsksLeft n key nulls Q) old new (λ k (a, is, p, q). (a, is, (e a is).0 p, q)) (λ k (a, is, p, q). (a, is, (e a is).1 p, q)) x

-- ---- the starts of a group

-- a live start of the group that leaves so many words unlinked on the left
abbrev pub IsOfGroup : Numbering → Gap → ℕ → Group → Start → Type 0
IsOfGroup n gap nulls g s = (s.group ≡ g) × ((a : Alt) × IsIn n gap g a × BeginsSo gap g s.begin a) × (s.begin.nulls ≡ nulls) × IsLiveStart n gap s

-- with one of the first beginnings
abbrev pub OfFirst : Numbering → Gap → Group → List Beginning → ℕ → Start → Type 0
OfFirst n gap g bs i s = (s.group ≡ g) × Among (λ (b c : Beginning). b ≡ c) bs i s.begin × IsLiveStart n gap s

-- the left keys of the first beginnings
abbrev pub LeftOfFirst : Gap → Group → List Beginning → ℕ → Key → Type 0
LeftOfFirst gap g bs i k = Among (λ (b : Beginning) (m : Key). left_of gap g b ≡ m) bs i k

module _ (n : Numbering) (gap : Gap) (g : Group) (bs : List Beginning) (i next : ℕ) (b : Beginning) (q : next ≡ suc i) (at : slice_get bs i ≡ Some b) where
  abbrev step : (c : Beginning) → Among (λ (b c : Beginning). b ≡ c) bs next c ↔ (Among (λ (b c : Beginning). b ≡ c) bs i c ⊎ (b ≡ c))
  step c = among_next (λ (b c : Beginning). b ≡ c) bs i next b q at c

  pub start_kept : (old mid new : List Start) (s : Start) → AreOnce bs → s.group ≡ g → s.begin ≡ b → IsLiveStart n gap s → new ≡ mid ++ s ∷ [] → AddsExactly old mid (OfFirst n gap g bs i) → AddsExactly old new (OfFirst n gap g bs next)
  start_kept old mid new s once of begins live e x =
      adds_then old mid new (OfFirst n gap g bs i) (λ z. s ≡ z) (OfFirst n gap g bs next) x (adds_one mid new s e)
      (λ z (u, (j, c, l, at', r), v) same. let p = once j i c at' (at ∙ ap Some (sym begins ∙ ap (λ (w : Start). w.begin) same ∙ sym r)) in omega arith)
      (λ z. (
        λ (u, m, v). elim ((step z.begin).0 m) [
          | inl m' ↦ inl (u, m', v)
          | inr same ↦ inr ((λ j. record { group = (of ∙ sym u) j; begin = (begins ∙ same) j }))
        ],
        λ h. elim h [
          | inl (u, m, v) ↦ (u, (step z.begin).1 (inl m), v)
          | inr same ↦ (sym (ap (λ (w : Start). w.group) same) ∙ of, (step z.begin).1 (inr (sym begins ∙ ap (λ (w : Start). w.begin) same)), subst (IsLiveStart n gap) same live)
        ],
      ))

  pub start_dropped : (old mid : List Start) → (HasLinkageUnder n.positions n.lists (left_of gap g b) → ⊥) → AddsExactly old mid (OfFirst n gap g bs i) → AddsExactly old mid (OfFirst n gap g bs next)
  start_dropped old mid dead x =
      adds_as old mid (OfFirst n gap g bs i) (OfFirst n gap g bs next)
      (λ z. (
        λ (u, m, v). (u, (step z.begin).1 (inl m), v),
        λ (u, m, v). elim ((step z.begin).0 m) [
          | inl m' ↦ (u, m', v)
          | inr same ↦ absurd (dead (subst (λ k. HasLinkageUnder n.positions n.lists k) (λ j. left_of gap (u j) (sym same j)) v))
        ],
      ))
      x

  pub left_asked : (old mid new : Entries) (lkey : Key) → lkey ≡ left_of gap g b → Asked n (LeftOfFirst gap g bs i) old mid → Asked n (λ k. k ≡ lkey) mid new → Asked n (LeftOfFirst gap g bs next) old new
  left_asked old mid new lkey e x y =
      let R : Beginning → Key → Type 0 = λ b m. left_of gap g b ≡ m in
      let here : (k : Key) → Among R bs next k ↔ (Among R bs i k ⊎ R b k) = λ k. among_next R bs i next b q at k in
      asked_then n (LeftOfFirst gap g bs i) (λ k. k ≡ lkey) (LeftOfFirst gap g bs next) old mid new
      (λ k m. (here k).1 (inl m))
      (λ k f. (here k).1 (inr (sym (f ∙ e))))
      (λ k m. elim ((here k).0 m) [ inl m' ↦ inl m' | inr f ↦ inr (sym (e ∙ f)) ])
      x y

module _ (n : Numbering) (key : Key) (gap : Gap) (g : Group) (nulls : ℕ) (is : IsKeyOfGap key gap) (bs : List Beginning) (are : AreBeginnings n gap g nulls bs) (i : ℕ) (end : length bs ≤ i) where
  -- all beginnings were looked at
  pub group_started : (old new : List Start) → AddsExactly old new (OfFirst n gap g bs i) → AddsStarts n gap nulls g old new
  group_started old new x =
      adds_as old new (OfFirst n gap g bs i) (IsOfGroup n gap nulls g)
      (λ s. (
        λ (u, (j, b, l, at, r), v). (let has = contains_at bs j b at in (u, subst (λ z. (a : Alt) × IsIn n gap g a × BeginsSo gap g z a) r (are.each b has), subst (λ (z : Beginning). z.nulls ≡ nulls) r (are.level b has), v)),
        λ (u, (a, h, p), level, v). let c = are.some a h (subst (λ z. LeavesLeft z a) level (leaves gap g s.begin a p)) in
            (u, among_all (λ (b c : Beginning). b ≡ c) bs i c.0 s.begin end c.1 (begins_same gap g c.0 s.begin a c.2 p), v),
      ))
      x

  pub group_asked : (old new : Entries) → Asked n (LeftOfFirst gap g bs i) old new → Asked n (AsksLeft n key nulls (In g)) old new
  group_asked old new x =
      asked_as n (LeftOfFirst gap g bs i) (AsksLeft n key nulls (In g)) old new
      (λ k (j, b, l, at, r). let has = contains_at bs j b at in let a = are.each b has in
      (a.0, (alt_in n key gap a.0 is a.1.0, subst (λ z. LeavesLeft z a.0) (are.level b has) (leaves gap g b a.0 a.2)), a.1.1, ending_left gap g b a.0 a.2 ∙ ap Some r))
      (λ k (a, alt, s, e). let c = are.some a (alt_out n key gap a is alt.0, s) alt.1 in
      among_all (λ (b : Beginning) (m : Key). left_of gap g b ≡ m) bs i c.0 k end c.1 (same (left_of gap g c.0) k (sym (ending_left gap g c.0 a c.2) ∙ e)))
      x
    where
      same : (l k : Key) → ◌≡◌ {A = Option Key} (Some l) (Some k) → l ≡ k
      same l k e = cc

-- ---- the starts of a word

module _ (n : Numbering) (gap : Gap) (nulls : ℕ) (gs : List Group) (apart : AreApart gs) (i next : ℕ) (g : Group) (q : next ≡ suc i) (at : slice_get gs i ≡ Some g) where
  pub groups_started : (old mid new : List Start) → AddsExactly old mid (Among (IsOfGroup n gap nulls) gs i) → AddsStarts n gap nulls g mid new → AddsExactly old new (Among (IsOfGroup n gap nulls) gs next)
  groups_started old mid new x y =
      adds_then old mid new (Among (IsOfGroup n gap nulls) gs i) (IsOfGroup n gap nulls g) (Among (IsOfGroup n gap nulls) gs next) x y
      (λ s (j, h, l, at', (u, v, lv, z)) (u', (a, inside, p), lw, w).
      let e = apart j i h g a at' at (subst (λ z. In z a) (sym u' ∙ u) inside.1) inside.1 in omega arith)
      (λ s. among_next (IsOfGroup n gap nulls) gs i next g q at s)

-- how an alternative of the region begins
begin_of : (n : Numbering) (gap : Gap) (g : Group) (a : Alt) → IsAltOfRegion n.positions n.lists (region_of_gap n.lists gap) a → In g a → (b : Beginning) × BeginsSo gap g b a
begin_of n gap g AllNull i s = absurd s
begin_of n gap g (At w m tl tr None rk) i s = absurd i
begin_of n gap g (At w m tl tr (Some lk) None) i s = absurd i
begin_of n gap g (At w m tl tr (Some (Whole z)) (Some rk)) (c, is) s = absurd is.before
begin_of n gap g (At w m tl tr (Some (Between l r ll rl z)) (Some rk)) (c, is) s =
    let k = is.before.2 in
    let e : l ≡ gap.left = sym (ap (λ v. v.left) k) ∙ is.cut.ends_left.0 in
    let f : r ≡ g.word = sym (ap (λ v. v.right) k) ∙ is.cut.ends_left.1 ∙ is.place ∙ s.0 in
    (record { nulls = z; way = record { joint = tl; near = ll; far = rl } }, (refl, λ j. Some (Between (e j) (f j) ll rl z)))

-- the number of an alternative's disjunct is one of the word's
number_in : (n : Numbering) (gap : Gap) (word : ℕ) (a : Alt) → IsAltOfRegion n.positions n.lists (region_of_gap n.lists gap) a → StandsAt word a → StandsIn word 0 (length (get_or n.positions word [])) a
number_in n gap word AllNull i s = absurd s
number_in n gap word (At w m tl tr None rk) i s = absurd i
number_in n gap word (At w m tl tr (Some lk) None) i s = absurd i
number_in n gap word (At w m tl tr (Some lk) (Some rk)) (c, is) s =
    (s, omega arith, subst (λ z. m < length (get_or n.positions z [])) s (slice_get_within (get_or n.positions w []) m c.disjunct is.chosen))

module _ (n : Numbering) (gap : Gap) (word : ℕ) (gs : List Group) (of : GroupsOfWord n gap word (length (get_or n.positions word [])) [] gs) where
  pub group_there : (g : Group) → Contains gs g → IsGroup n gap g × (g.word ≡ word)
  group_there g c = let r = of.each g (subst (λ z. Contains z g) of.added c) in (r.0, r.1)

  pub groups_apart : AreApart gs
  groups_apart = subst AreApart (sym of.added) of.apart

  pub at_word : (i : ℕ) → length gs ≤ i → (key : Key) → IsKeyOfGap key gap → (a : Alt) → IsAltOf n.positions n.lists key a → Among In gs i a ↔ StandsAt word a
  at_word i end key is a alt = (
    λ (j, g, l, at, s). subst (λ z. StandsAt z a) (group_there g (contains_at gs j g at)).1 (stands g a s),
    λ at. let alt' = alt_out n key gap a is alt in let h = of.some a alt' (number_in n gap word a alt' at) in among_all In gs i h.0 a end (subst (λ z. Contains z h.0) (sym of.added) h.1) h.2,
  )
    where
      stands : (g : Group) (a : Alt) → In g a → StandsAt g.word a
      stands g AllNull s = absurd s
      stands g (At w m tl tr lk rk) s = s.0

module _ (n : Numbering) (gap : Gap) (nulls word : ℕ) (gs : List Group) (of : GroupsOfWord n gap word (length (get_or n.positions word [])) [] gs) (i : ℕ) (end : length gs ≤ i) (old next : Opening) (d : next.done ≡ word + 1) where
  pub word_started : AddsExactly old.starts.items next.starts.items (Among (IsOfGroup n gap nulls) gs i) → OpensWord n gap nulls word old next
  word_started x = record {
    done = d;
    more = x.more;
    added = x.added;
    each = λ s c. (let m = (x.exactly.each s).0 c in
        let has = group_there n gap word gs of m.1 (contains_at gs m.0 m.1 m.3) in
        let e : s.group ≡ m.1 = m.4.0 in
        (ap (λ (z : Group). z.word) e ∙ has.1, m.4.2, record { group = subst (λ z. IsGroup n gap z) (sym e) has.0; some = subst (λ z. (a : Alt) × IsIn n gap z a × BeginsSo gap z s.begin a) (sym e) m.4.1 }, m.4.3));
    some = λ a alt at live. (let h = of.some a alt.0 (number_in n gap word a alt.0 at) in
        let g : Group = h.0 in
        let has : Contains gs g = subst (λ z. Contains z g) (sym of.added) h.1 in
        let b = begin_of n gap g a alt.0 h.2 in
        let s : Start = record { group = g; begin = b.0 } in
        let lives : IsLiveStart n gap s = subst (λ z. IfSome z (HasLinkageUnder n.positions n.lists)) (ending_left gap g b.0 a b.1) live in
        (s, (x.exactly.each s).1 (among_all (IsOfGroup n gap nulls) gs i g s end has (refl, (a, (alt.0, h.2), b.1), same_level b.0.nulls nulls a (leaves gap g b.0 a b.1) alt.1, lives)), (h.2, b.1)));
    apart = λ other j k s t a f g p r. (let u = (x.exactly.each s).0 (contains_at x.more j s f) in
        let v = (x.exactly.each t).0 (contains_at x.more k t g) in
        let e : s.group ≡ t.group = u.4.0 ∙ one_group u.0 v.0 u.1 v.1 u.3 v.3 (groups_apart n gap word gs of u.0 v.0 u.1 v.1 a u.3 v.3 (subst (λ z. In z a) u.4.0 p.0) (subst (λ z. In z a) v.4.0 r.0)) ∙ sym v.4.0 in
        let same : s.begin ≡ t.begin = begins_same other s.group s.begin t.begin a p.1 (subst (λ z. BeginsSo other z t.begin a) (sym e) r.1) in
        x.exactly.once j k s f (g ∙ ap Some (sym (λ m. record { group = e m; begin = same m }))));
  }
    where
      one_group : (j k : ℕ) (g h : Group) → slice_get gs j ≡ Some g → slice_get gs k ≡ Some h → j ≡ k → g ≡ h
      one_group j k g h e f same = let two : ◌≡◌ {A = Option Group} (Some g) (Some h) = sym e ∙ ap (slice_get gs) same ∙ f in cc

-- ---- the alternatives that leave so many words unlinked on the left, from the live starts

-- the left keys of all of them, and what the live ones ask for that start as one of the first
abbrev pub SoFar : Numbering → Key → ℕ → Gap → List Start → ℕ → Key → Type 0
SoFar n key nulls gap starts i k = AsksLeft n key nulls IsAny k ⊎ AsksAmong n key (Among (StartsSo gap) starts i) k

module _ (n : Numbering) (key : Key) (nulls : ℕ) (gap : Gap) (starts : List Start) (i : ℕ) (end : length starts ≤ i) (level : (s : Start) → Contains starts s → s.begin.nulls ≡ nulls)
    (some : (a : Alt) → IsAltWith n key nulls a → IsLiveLeft n a → (s : Start) × Contains starts s × StartsSo gap s a) where
  among_starts : (a : Alt) → IsAltWith n key nulls a → IsLiveLeft n a → Among (StartsSo gap) starts i a
  among_starts a alt live = let r = some a alt live in among_all (StartsSo gap) starts i r.0 a end r.1 r.2

  level_among : (a : Alt) → Among (StartsSo gap) starts i a → LeavesLeft nulls a
  level_among a (j, s, l, at, r) = subst (λ z. LeavesLeft z a) (level s (contains_at starts j s at)) (leaves gap s.group s.begin a r.1)

  pub opening_live : (old new : List Alt) → AddsLive n key (Among (StartsSo gap) starts i) old new → AddsLive n key (LeavesLeft nulls) old new
  opening_live old new x =
      adds_as old new (λ a. IsAltOf n.positions n.lists key a × Among (StartsSo gap) starts i a × IsLive n.positions n.lists a) (λ a. IsAltOf n.positions n.lists key a × LeavesLeft nulls a × IsLive n.positions n.lists a)
      (λ a. (λ (alt, m, l). (alt, level_among a m, l), λ (alt, lv, l). (alt, among_starts a (alt, lv) l.left, l)))
      x

  pub opening_asked : (old new : Entries) → Asked n (SoFar n key nulls gap starts i) old new → Asked n (AsksAmong n key (LeavesLeft nulls)) old new
  opening_asked old new x =
      asked_as n (SoFar n key nulls gap starts i) (AsksAmong n key (LeavesLeft nulls)) old new
      (λ k h. elim h [ inl (a, alt, t, e) ↦ (a, alt.0, alt.1, asks_left k e) | inr (a, alt, m, o) ↦ (a, alt, level_among a m, o) ])
      (λ k (a, alt, lv, o). by a k alt lv o)
      x
    where
      by : (a : Alt) (k : Key) → IsAltOf n.positions n.lists key a → LeavesLeft nulls a → AsksOf n a k → SoFar n key nulls gap starts i k
      by a _ alt lv (asks_left k q) = inl (a, (alt, lv), tt, q)
      by a _ alt lv (asks_right k q l) = inr (a, alt, among_starts a (alt, lv) l, asks_right k q l)

module _ (n : Numbering) (key : Key) (nulls : ℕ) (gap : Gap) (starts : List Start) (i next : ℕ) (s : Start) (q : next ≡ suc i) (at : slice_get starts i ≡ Some s) where
  pub start_asked : (old mid new : Entries) → Asked n (SoFar n key nulls gap starts i) old mid → Asked n (AsksAmong n key (StartsSo gap s)) mid new → Asked n (SoFar n key nulls gap starts next) old new
  start_asked old mid new x y =
      let here = among_next (StartsSo gap) starts i next s q at in
      asked_then n (SoFar n key nulls gap starts i) (AsksAmong n key (StartsSo gap s)) (SoFar n key nulls gap starts next) old mid new
      (λ k h. elim h [ inl l ↦ inl l | inr (a, alt, m, o) ↦ inr (a, alt, (here a).1 (inl m), o) ])
      (λ k (a, alt, r, o). inr (a, alt, (here a).1 (inr r), o))
      (λ k h. elim h [ inl l ↦ inl (inl l) | inr (a, alt, m, o) ↦ elim ((here a).0 m) [ inl m' ↦ inl (inr (a, alt, m', o)) | inr r ↦ inr (a, alt, r, o) ] ])
      x y
