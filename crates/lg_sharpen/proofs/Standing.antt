-- What rounds keep: a linkage with few unlinked words loses no member.
use Rattle.std.proofs.Common.{◌≡◌, ℕ, ◌+◌, ◌-◌, ◌<◌, ◌≤◌, List, [], ◌∷◌, ◌++◌, length, length-append, get_or, refl, sym, ap, ◌∙◌, subst, ◌↔◌, Some, inl, inr, Bool, true, false, not, Contains, arith}
use Rattle.std.specs.List.{slice_get, All}
use Rattle.std.proofs.lemmas.Bool.{cases_lt, and_from}
use Rattle.std.proofs.lemmas.Option.{same_Some, slice_get_within, slice_get_read, slice_get_cases, get_or_from_slice_get}
use Rattle.std.proofs.lemmas.Grind.{elements}
use Rattle.std.proofs.lemmas.List.Elements.{All-contains, All-weaker, All-contains_itself}
use Rattle.lg_gram.specs.Connectors.{Connector}
use Rattle.lg_gram.specs.Linkages.{Linkage, link_length}
use Rattle.lg_gram.specs.Rules.{HasLink, chosen_at}
use Rattle.lg_gram.specs.declared.disjunct.Disjunct.{Disjunct}
use Rattle.lg_gram.specs.declared.linkage.Link.{Link}
use Rattle.lg_sharpen.specs.Filling.{Gaps}
use Rattle.lg_sharpen.specs.Needs.{IsFar, AreNeeds}
use Rattle.lg_sharpen.specs.Sites.{own, place_on, Holds, IsOpen, IsWider, IsTableOf, IsReach, AreStarted, AreStartedAll}
use Rattle.lg_member.specs.Cells.{Table}
use Rattle.lg_member.specs.Laws.{MembersGoByRounds}
use Rattle.lg_member.specs.Members.{formed, list_on, side_on, IsSideAt, IsKnown, AreUsed, Keeps, are_on}
use Rattle.lg_sharpen.specs.Bounds.{list_at, Fits, Needs, SetsNeeds, AllowsGaps, Allows, Covers, CoversAt, AllowsAll, NarrowsAll, AreOpen, AreChosen, CoversAll, Stands, KeepsStanding, KeepsNeeds, KeepsChosen}
use Rattle.lg_member.specs.declared.side.Side.{Side}
use Rattle.lg_sharpen.specs.declared.site.Site.{Site}
use Rattle.lg_member.specs.declared.member.Member.{Member}
use Rattle.lg_sharpen.proofs.Ends.{joined, chosen_of, list_of, covered, only_is_nearest, fewer_before, fewer_needs, has_farther}

-- which lists are open
pub record OpenUpTo (lists : List (List Site)) (k : ℕ) (flags : List Bool) : Type 0 where
  pub long : length flags ≡ k
  pub each : (j : ℕ) (sites : List Site) → j < k → slice_get lists j ≡ Some sites → All IsOpen sites → slice_get flags j ≡ Some true

pub open_more : (lists : List (List Site)) (k : ℕ) (now new : List Bool) (sites : List Site) (b : Bool) → new ≡ now ++ b ∷ [] → slice_get lists k ≡ Some sites → ((b ≡ true) ↔ All IsOpen sites) → OpenUpTo lists k now
    → OpenUpTo lists (k + 1) new
open_more lists k now new sites b e at iff t = subst (λ z. OpenUpTo lists (k + 1) z) (sym e) (record {
  long = length-append now (b ∷ []) ∙ ap (λ z. z + 1) t.long;
  each = λ j s w atj all.
      let l = t.long in
      elim (cases_lt j k) [
        | inl h ↦ (let front : slice_get (now ++ b ∷ []) j ≡ slice_get now j = grind (arith, elements) in front ∙ t.each j s h atj all)
        | inr h ↦ (let q : j ≡ k = omega arith in
            let es : s ≡ sites = same_Some s sites (sym atj ∙ subst (λ z. slice_get lists z ≡ Some sites) (sym q) at) in
            let last : slice_get (now ++ b ∷ []) j ≡ Some b = grind (arith, elements) in
            last ∙ ap (λ z. Some z) (iff.1 (subst (λ z. All IsOpen z) es all)))
      ];
})

-- a table of the lists in use has a site for each link
allows_wider : (g : Linkage) (right : Bool) (l : Link) (s w : Site) → Allows g right l s → IsWider w s → Allows g right l w
allows_wider g right l s w a is =
    let x = is.from in
    let y = is.end in
    let u = a.from in
    let v = a.end in
    record {
      connector = a.connector ∙ ap (λ z. Some z) (sym is.connector);
      from = omega arith;
      end = omega arith;
      nearest = λ n. a.nearest (is.nearest n);
      later = λ n. let e = a.later (is.later n) in let x = e.4 in let y = is.behind in (e.0, e.1, e.2, e.3, omega arith);
      before = fewer_before g right l s.before w.before is.before a.before;
      need = fewer_needs g right (own right l) s.need w.need is.need a.need;
    }

-- a member that a linkage uses at a position
pub used_by : (g : Linkage) (i : ℕ) (d : Disjunct) (m : Member) → chosen_at g i ≡ Some d → m.position ≡ i → formed m.form ≡ d → chosen_at g m.position ≡ Some (formed m.form)
used_by g i d m e ei ed = ap (λ z. chosen_at g z) ei ∙ e ∙ ap (λ z. Some z) (sym ed)

-- sites that cover are open
all_open : (most : ℕ) (g : Linkage) → Fits most g → (right : Bool) (i : ℕ) (sites : List Site) → Covers g right i sites → All IsOpen sites
all_open most g f right i sites c =
    All-weaker (Contains sites) IsOpen (λ s w.
    let at = slice_get_read sites (length sites) w.0 s refl w.1 (sym w.2) in
    let k = covered most g f right i sites c w.0 s at w.1 in
    let x = k.4.from in
    let y = k.4.end in
    omega arith) sites (All-contains_itself sites)

allows_all : (most : ℕ) (g : Linkage) → Fits most g → (right : Bool) (sides : List Side) (lists : List (List Site)) (table : Table Site) (ms : List Member) (used : List Bool) → AreChosen g ms
    → ((m : Member) → Contains ms m → IsSideAt sides (side_on right m) m.position (list_on right (formed m.form))) → AreUsed right (length sides) ms used → IsTableOf sides used lists table → CoversAll g right lists ms
    → AllowsAll g right table
allows_all most g f right sides lists table ms used chosen known u t covers l h =
    let j = joined most g f right l h in
    let d = chosen_of g right (own right l) (place_on right l) j.0 j.2 in
    let m = chosen (own right l) d.0 d.1 in
    let s = known m.0 m.1 in
    let c = covers m.0 m.1 (used_by g (own right l) d.0 m.0 d.1 m.2 m.3) in
    let x = c.2.each l h (sym m.2) in
    let w = t (side_on right m.0) s.side c.0 (place_on right l) x.0 s.at ((u.each (side_on right m.0)).1 (m.0, m.1, refl)) c.1 (all_open most g f right m.0.position c.0 c.2) x.1 in
    (w.0, subst (λ z. Holds table z w.0) (s.position ∙ m.2) w.1, allows_wider g right l x.0 w.0 x.2 w.2)

is_flagged : (most : ℕ) (g : Linkage) → Fits most g → (right : Bool) (lists : List (List Site)) (flags : List Bool) (ms : List Member) (m : Member) → Contains ms m → chosen_at g m.position ≡ Some (formed m.form)
    → CoversAll g right lists ms → AreOpen lists flags → get_or flags (side_on right m) false ≡ true
is_flagged most g f right lists flags ms m has e covers are =
    let c = covers m has e in
    get_or_from_slice_get flags (side_on right m) true false (are.each (side_on right m) c.0 c.1 (all_open most g f right m.position c.0 c.2))

-- narrowed lists still cover
covers_narrowed : (most : ℕ) (g : Linkage) → Fits most g → (right : Bool) (gaps : Gaps) (sides : List Side) (table : Table Site) (old new : List (List Site)) (ms : List Member)
    → ((m : Member) → Contains ms m → IsSideAt sides (side_on right m) m.position (list_on right (formed m.form))) → NarrowsAll right most gaps sides table old new → AllowsGaps g gaps → AllowsAll g (not right) table
    → CoversAll g right old ms → CoversAll g right new ms
covers_narrowed most g f right gaps sides table old new ms known n spans all covers m has e =
    let s = known m has in
    subst (λ z. CoversAt g right z new (side_on right m)) s.position
    (n.each g f spans all (side_on right m) s.side s.at (subst (λ z. CoversAt g right z old (side_on right m)) (sym s.position) (covers m has e)))

pub round_keeps : (n most : ℕ) (lefts rights : List Side) (ll rl ll' rl' : List (List Site)) (gaps : Gaps) (lt rt : Table Site) (ms new : List Member) (lu ru lo ro : List Bool) → All (IsKnown lefts rights) ms
    → ((g : Linkage) → Fits most g → length g.chosen ≡ n → Stands g ll rl ms → AllowsGaps g gaps) → AreUsed false (length lefts) ms lu
    → AreUsed true (length rights) ms ru → IsTableOf lefts lu ll lt → NarrowsAll true most gaps rights lt rl rl' → IsTableOf rights ru rl' rt → NarrowsAll false most gaps lefts rt ll ll' → AreOpen ll' lo → AreOpen rl' ro
    → Keeps (are_on lo ro) ms new → KeepsStanding n most ll rl ms ll' rl' new
round_keeps n most lefts rights ll rl ll' rl' gaps lt rt ms new lu ru lo ro known spans ul ur tl nr tr nl ol or' keeps =
    let kl : (m : Member) → Contains ms m → IsSideAt lefts m.left m.position (formed m.form).left = λ m c. (All-contains (IsKnown lefts rights) ms m known c).left in
    let kr : (m : Member) → Contains ms m → IsSideAt rights m.right m.position (formed m.form).right = λ m c. (All-contains (IsKnown lefts rights) ms m known c).right in
    record {
      left = (are_on lo ro, keeps);
      long_left = nl.long;
      long_right = nr.long;
      stands = λ g f e s.
          let al = allows_all most g f false lefts ll lt ms lu s.chosen kl ul tl s.left in
          let cr = covers_narrowed most g f true gaps rights lt rl rl' ms kr nr (spans g f e s) al s.right in
          let ar = allows_all most g f true rights rl' rt ms ru s.chosen kr ur tr cr in
          let cl = covers_narrowed most g f false gaps lefts rt ll ll' ms kl nl (spans g f e s) ar s.left in
          record {
            chosen = λ i d c.
                let m = s.chosen i d c in
                let u = used_by g i d m.0 c m.2 m.3 in
                let x = is_flagged most g f false ll' lo ms m.0 m.1 u cl ol in
                let y = is_flagged most g f true rl' ro ms m.0 m.1 u cr or' in
                let t = and_from (get_or lo m.0.left false) (get_or ro m.0.right false) x y in
                (m.0, (keeps.exactly m.0).1 (m.1, t), m.2, m.3);
            left = λ m c. cl m ((keeps.exactly m).0 c).0;
            right = λ m c. cr m ((keeps.exactly m).0 c).0;
          };
    }

pub keeps_none : MembersGoByRounds → (n most : ℕ) (ll rl : List (List Site)) (ms : List Member) → KeepsStanding n most ll rl ms ll rl ms
keeps_none law n most ll rl ms = record { left = law.none ms; long_left = refl; long_right = refl; stands = λ g f e s. s }

pub keeps_more : MembersGoByRounds → (n most : ℕ) (ll rl ll' rl' ll'' rl'' : List (List Site)) (old now new : List Member) → KeepsStanding n most ll rl old ll' rl' now
    → KeepsStanding n most ll' rl' now ll'' rl'' new → KeepsStanding n most ll rl old ll'' rl'' new
keeps_more law n most ll rl ll' rl' ll'' rl'' old now new s k = record {
  left = law.more old now new s.left k.left;
  long_left = k.long_left ∙ s.long_left;
  long_right = k.long_right ∙ s.long_right;
  stands = λ g f e t. k.stands g f e (s.stands g f e t);
}

-- what a member that a linkage uses needs on one side, by its other list
needed : (most : ℕ) (g : Linkage) → Fits most g → (right : Bool) (i r : ℕ) (sites : List Site) → Covers g (not right) i sites → IsFar sites r → Needs g right r i
needed most g f right i r sites c (inl z) = inl z
needed most g f right i r sites c (inr (q, t, at, le)) =
    let k = covered most g f (not right) i sites c q t at (slice_get_within sites q t at) in
    let from = k.4.from in
    inr (k.0, k.1, k.2, omega arith)

covers_needs : (most : ℕ) (g : Linkage) → Fits most g → (right : Bool) (old new others : List (List Site)) (needs : List ℕ) (ms : List Member) → AreNeeds right others ms needs → SetsNeeds needs old new → CoversAll g (not right) others ms
    → CoversAll g right old ms → CoversAll g right new ms
covers_needs most g f right old new others needs ms are sets away covers m has e =
    let c = away m has e in
    let far : IsFar c.0 (get_or needs (side_on right m) 0) = subst (λ z. IsFar z (get_or needs (side_on right m) 0)) (get_or_from_slice_get others (side_on (not right) m) c.0 [] c.1) (are m has) in
    sets.each g right m.position (side_on right m) (needed most g f right m.position (get_or needs (side_on right m) 0) c.0 c.2 far) (covers m has e)

pub needs_kept : (ll rl ll' rl' : List (List Site)) (ln rn : List ℕ) (ms : List Member) → AreNeeds false rl ms ln → AreNeeds true ll ms rn → SetsNeeds ln ll ll' → SetsNeeds rn rl rl' → KeepsNeeds ll rl ms ll' rl'
needs_kept ll rl ll' rl' ln rn ms al ar sl sr = record {
  long_left = sl.long;
  long_right = sr.long;
  stands = λ most g f s. record {
    chosen = s.chosen;
    left = covers_needs most g f false ll ll' rl ln ms al sl s.right s.left;
    right = covers_needs most g f true rl rl' ll rn ms ar sr s.left s.right;
  };
}

pub keeps_needs : (n most : ℕ) (ll rl ll' rl' ll'' rl'' : List (List Site)) (old now : List Member) → KeepsStanding n most ll rl old ll' rl' now → KeepsNeeds ll' rl' now ll'' rl'' → KeepsStanding n most ll rl old ll'' rl'' now
keeps_needs n most ll rl ll' rl' ll'' rl'' old now s k = record {
  left = s.left;
  long_left = k.long_left ∙ s.long_left;
  long_right = k.long_right ∙ s.long_right;
  stands = λ g f e t. k.stands most g f (s.stands g f e t);
}

pub right_within : (most : ℕ) (g : Linkage) → Fits most g → (l : Link) → HasLink g l → l.right < length g.chosen
right_within most g f l h = let j = joined most g f true l h in (chosen_of g false l.right l.rplace j.1 j.3).2

-- at the start all links are allowed
starts_at : (most : ℕ) (g : Linkage) → Fits most g → (right : Bool) (n i end : ℕ) (cs : List Connector) (sites : List Site) → length g.chosen ≡ n → list_at right g i ≡ cs → IsReach right n i end → AreStarted cs end sites → Covers g right i sites
starts_at most g f right n i end cs sites en e reach a = record {
  same_length = a.same_length ∙ ap length (sym e);
  each = λ l h o.
      let same = a.same_length ∙ ap length (sym e) in
      let j = joined most g f right l h in
      let ej : slice_get (list_at right g i) (place_on right l) ≡ Some j.0 = subst (λ z. slice_get (list_at right g z) (place_on right l) ≡ Some j.0) o j.2 in
      let w = slice_get_within (list_at right g i) (place_on right l) j.0 ej in
      let p = place_on right l in
      let t : (t : Site) × (slice_get sites p ≡ Some t) = elim ((slice_get_cases sites p).1) [ inl x ↦ (x.0, x.2) | inr x ↦ absurd (let v = x.0 in omega arith) ] in
      let s = a.each (place_on right l) t.0 t.1 in
      let connector = subst (λ z. slice_get (list_at right g z) (place_on right l) ≡ Some t.0.connector) (sym o) (subst (λ z. slice_get z (place_on right l) ≡ Some t.0.connector) (sym e) s.connector) in
      let short : (k : Link) → HasLink g k → own right k ≡ i → link_length k < end = λ k hk ok. (let inside = right_within most g f k hk in reach k (f.rules.matched.forward k hk) (omega arith) ok) in
      let fwd = f.rules.matched.forward l h in
      let within : l.right - l.left < end = short l h o in
      let sf = s.from in
      let se = s.end_is in
      let sb = s.behind in
      let from : t.0.span.from ≤ l.right - l.left = omega arith in
      let high : l.right - l.left < t.0.span.end = omega arith in (
        t.0,
        t.1,
        record {
          connector = connector;
          from = from;
          end = high;
          nearest = λ n. let q = s.nearest n in only_is_nearest most g f right l h t.0.connector connector q.0 q.1;
          later = λ n. has_farther most g f right t.0.behind l h (λ k hk ok. let x = short k hk (ok ∙ o) in omega arith) (let q = s.later n in let x = ap length (ap (λ z. list_at right g z) o) in let y = ap length e in omega arith);
          before = inl s.before;
          need = inl s.need;
        },
      );
}

starts : (most : ℕ) (g : Linkage) → Fits most g → (right : Bool) (n : ℕ) (sides : List Side) (lists : List (List Site)) (ms : List Member) → length g.chosen ≡ n
    → ((m : Member) → Contains ms m → IsSideAt sides (side_on right m) m.position (list_on right (formed m.form))) → AreStartedAll right n sides lists → CoversAll g right lists ms
starts most g f right n sides lists ms en known a m has e =
    let s = known m has in
    let r = a.each (side_on right m) s.side s.at in
    (r.2, r.3, starts_at most g f right n m.position r.0 s.side.list.now r.2 en (list_of g right m.position (formed m.form) e ∙ sym s.list) (subst (λ z. IsReach right n z r.0) s.position r.1) r.4)

pub settled : (n most : ℕ) (lefts rights : List Side) (ll rl ll' rl' : List (List Site)) (old new : List Member) → All (IsKnown lefts rights) old → AreStartedAll false n lefts ll → AreStartedAll true n rights rl
    → KeepsStanding n most ll rl old ll' rl' new → KeepsChosen n most old new
settled n most lefts rights ll rl ll' rl' old new known a b k = record {
  left = k.left;
  chosen = λ g f e c. (k.stands g f e (record {
    chosen = c;
    left = starts most g f false n lefts ll old e (λ m h. (All-contains (IsKnown lefts rights) old m known h).left) a;
    right = starts most g f true n rights rl old e (λ m h. (All-contains (IsKnown lefts rights) old m known h).right) b;
  })).chosen;
}
