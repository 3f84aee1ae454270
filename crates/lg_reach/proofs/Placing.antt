-- The links of a position of a linkage, from near to far.
use Rattle.std.proofs.Common.{◌≡◌, ℕ, zero, suc, ◌-◌, ◌<◌, ◌≤◌, ◌⊎◌, inl, inr, refl, sym, ap, ◌∙◌, subst, Bool, true, false, cond, Some, List, [], ◌∷◌, slice_get, arith}
use Rattle.std.proofs.lemmas.Bool.{cases_eq}
use Rattle.std.proofs.lemmas.Option.{same_Some}
use Rattle.lg_gram.specs.Connectors.{Connector}
use Rattle.lg_gram.specs.Disjuncts.{choice_of}
use Rattle.lg_gram.specs.Linkages.{Linkage, link_length}
use Rattle.lg_gram.specs.Rules.{HasLink, Rules, chosen_at, lefts_of, rights_of, left_list, right_list}
use Rattle.lg_gram.specs.declared.disjunct.Disjunct.{Disjunct}
use Rattle.lg_gram.specs.declared.linkage.Link.{Link}
use Rattle.lg_sharpen.specs.Bounds as few
use Rattle.lg_sharpen.specs.Bounds.{IsNearest, list_at}
use Rattle.lg_sharpen.specs.Sites.{own, place_on}
use Rattle.lg_sharpen.specs.Ways.{IsMet}
use Rattle.lg_sharpen.proofs.Ends.{near_link}
use Rattle.lg_reach.specs.Climbs.{Climbs, at_end, at_first, beyond, up, Fits}
use Rattle.lg_reach.specs.Ends.{Ends, EndsSo}
use Rattle.lg_reach.specs.declared.walk.Next.{Next}
use Rattle.lg_reach.proofs.Joining.{no_farther_self}
use Rattle.lg_reach.specs.declared.walk.Least.{Least}

-- the connectors of a list have links of lengths that rise, each with what was asked of its place and its length; they end where they begin, or beyond the last of these links
record Climbed (Ok : Bool → Connector → ℕ → Type 0) (Asked : ℕ → ℕ → Type 0) (s : Next) (cs : List Connector) : Type 0 where
  end : Next
  lengths : List ℕ
  climbs : Climbs Ok s cs lengths end
  each : (k : ℕ) (c : Connector) → slice_get cs k ≡ Some c → (n : ℕ) × (slice_get lengths k ≡ Some n) × Asked k n
  ends : (end ≡ s) ⊎ ((k : ℕ) × (n : ℕ) × Asked k n × (end ≡ beyond n))

no_place : (k : ℕ) (c : Connector) → slice_get [] k ≡ Some c → ⊥
no_place zero c e = absurd cc
no_place (suc k) c e = absurd cc

put_first : (Asked : ℕ → ℕ → Type 0) (c : Connector) (cs : List Connector) (n : ℕ) (ns : List ℕ) → Asked 0 n
    → ((k : ℕ) (d : Connector) → slice_get cs k ≡ Some d → (m : ℕ) × (slice_get ns k ≡ Some m) × Asked (suc k) m)
    → (k : ℕ) (d : Connector) → slice_get (c ∷ cs) k ≡ Some d → (m : ℕ) × (slice_get (n ∷ ns) k ≡ Some m) × Asked k m
put_first Asked c cs n ns asked rest zero d e = (n, refl, asked)
put_first Asked c cs n ns asked rest (suc k) d e = rest k d e

-- a link more in front
climbed_on : (Ok : Bool → Connector → ℕ → Type 0) (c : Connector) (cs : List Connector) (Asked : ℕ → ℕ → Type 0) (s : Next) (n : ℕ) → s.least ≤ n → Ok s.first c n → Asked 0 n
    → Climbed Ok (λ k m. Asked (suc k) m) (beyond n) cs → Climbed Ok Asked s (c ∷ cs)
climbed_on Ok c cs Asked s n low ok asked rest = record {
  end = rest.end;
  lengths = n ∷ rest.lengths;
  climbs = up s c n cs rest.lengths rest.end low ok rest.climbs;
  each = put_first Asked c cs n rest.lengths asked rest.each;
  ends = inr (elim rest.ends [ inl is ↦ (0, n, asked, is) | inr more ↦ (suc more.0, more.1, more.2, more.3) ]);
}

climbed_none : (Ok : Bool → Connector → ℕ → Type 0) (Asked : ℕ → ℕ → Type 0) (s : Next) → Climbed Ok Asked s []
climbed_none Ok Asked s = record { end = s; lengths = []; climbs = at_end s s (no_farther_self s); each = λ k c e. absurd (no_place k c e); ends = inl refl }

-- each place has a length that is asked for, and those of later places are greater: beyond a link
climb_on : (Ok : Bool → Connector → ℕ → Type 0) (cs : List Connector) (Asked : ℕ → ℕ → Type 0) (s : ℕ)
    → ((k j n m : ℕ) → k < j → Asked k n → Asked j m → n < m) → ((n : ℕ) → Asked 0 n → s < n)
    → ((k : ℕ) (c : Connector) → slice_get cs k ≡ Some c → (n : ℕ) × Ok false c n × Asked k n) → Climbed Ok Asked (beyond s) cs
climb_on Ok [] Asked s rise low give = climbed_none Ok Asked (beyond s)
climb_on Ok (c ∷ cs) Asked s rise low give =
    let (n, ok, asked) = give 0 c refl in
    climbed_on Ok c cs Asked (beyond s) n (let l = low n asked in omega (arith, l)) ok asked
    (climb_on Ok cs (λ k m. Asked (suc k) m) n (λ k j a b less. rise (suc k) (suc j) a b (omega arith)) (λ m h. rise 0 1 n m (omega arith) asked h) (λ k d e. give (suc k) d e))

-- and from the nearest on
climb : (Ok : Bool → Connector → ℕ → Type 0) (cs : List Connector) (Asked : ℕ → ℕ → Type 0)
    → ((k j n m : ℕ) → k < j → Asked k n → Asked j m → n < m) → ((n : ℕ) → Asked 0 n → 1 ≤ n)
    → ((c : Connector) → slice_get cs 0 ≡ Some c → (n : ℕ) × Ok true c n × Asked 0 n)
    → ((k : ℕ) (c : Connector) → slice_get cs (suc k) ≡ Some c → (n : ℕ) × Ok false c n × Asked (suc k) n) → Climbed Ok Asked at_first.left cs
climb Ok [] Asked rise low first give = climbed_none Ok Asked at_first.left
climb Ok (c ∷ cs) Asked rise low first give =
    let (n, ok, asked) = first c refl in
    climbed_on Ok c cs Asked at_first.left n (low n asked) ok asked
    (climb_on Ok cs (λ k m. Asked (suc k) m) n (λ k j a b less. rise (suc k) (suc j) a b (omega arith)) (λ m h. rise 0 1 n m (omega arith) asked h) (λ k d e. give k d e))

abbrev Keep : Linkage → Type 0
Keep g = Rules (rights_of g) (lefts_of g) (HasLink g)

served : (g : Linkage) → Keep g → (right : Bool) (i p : ℕ) (c : Connector) → slice_get (list_at right g i) p ≡ Some c → (l : Link) × HasLink g l × (own right l ≡ i) × (place_on right l ≡ p)
served g rules true i p c e = (rules.satisfied.on_right i p c e).some
served g rules false i p c e = (rules.satisfied.on_left i p c e).some

longer : (g : Linkage) → Keep g → (right : Bool) (k l : Link) → HasLink g k → HasLink g l → own right k ≡ own right l → place_on right k < place_on right l → link_length k < link_length l
longer g rules true k l hk hl e p =
    let a = rules.ordered.on_right k l hk hl e p in
    let b = rules.matched.forward k hk in
    let r : k.right - k.left < l.right - l.left = (let e' : k.left ≡ l.left = e in omega arith) in
    r
longer g rules false k l hk hl e p =
    let a = rules.ordered.on_left k l hk hl e p in
    let b = rules.matched.forward l hl in
    let c = rules.matched.forward k hk in
    let r : k.right - k.left < l.right - l.left = (let e' : k.right ≡ l.right = e in omega arith) in
    r

no_shorter : (g : Linkage) → Keep g → (l : Link) → HasLink g l → 1 ≤ link_length l
no_shorter g rules l h = let w = rules.matched.forward l h in omega arith

-- what stands at the end of a link looks along it
joined_at : (g : Linkage) → Keep g → (right : Bool) (l : Link) → HasLink g l → (c : Connector) × (slice_get (list_at right g (own right l)) (place_on right l) ≡ Some c) × (c.right ≡ right)
joined_at g rules true l h = let (a, b, here, there, match) = rules.matched.joins l h in (a, here, match.to_right)
joined_at g rules false l h = let (a, b, here, there, match) = rules.matched.joins l h in (b, there, match.to_left)

-- a link of this place and length, with what was asked
record LinkAt (g : Linkage) (right : Bool) (i : ℕ) (Asked : ℕ → ℕ → Type 0) (p n : ℕ) : Type 0 where
  link : Link
  has : HasLink g link
  at : own right link ≡ i
  place : place_on right link ≡ p
  long : link_length link ≡ n
  asked : Asked p n

ends : (g : Linkage) → Keep g → (right : Bool) (i p : ℕ) (c : Connector) → slice_get (list_at right g i) p ≡ Some c → (l : Link) → HasLink g l → own right l ≡ i → place_on right l ≡ p → (c.right ≡ right) × Ends g i c (link_length l)
ends g rules right i p c e l h at place =
    let (d, here, looks) = joined_at g rules right l h in
    let same : d ≡ c = same_Some d c (sym here ∙ subst (λ x. slice_get (list_at right g x) (place_on right l) ≡ Some c) (sym at) (subst (λ x. slice_get (list_at right g i) x ≡ Some c) (sym place) e)) in
    let is : right ≡ c.right = sym looks ∙ ap (λ x. x.right) same in (
      sym is,
      record {
        link = l;
        has = h;
        at = subst (λ b. own b l ≡ i) is at;
        connector = subst (λ b. slice_get (list_at b g i) (place_on b l) ≡ Some c) is (subst (λ x. slice_get (list_at right g i) x ≡ Some c) (sym place) e);
        long = refl;
      },
    )

-- what is asked for is a link of each place, and of the first the nearest
abbrev Gives : Linkage → Bool → ℕ → (ℕ → ℕ → Type 0) → Type 0
Gives g right i Asked =
    (p : ℕ) (c : Connector) → slice_get (list_at right g i) p ≡ Some c → (l : Link) × HasLink g l × (own right l ≡ i) × (place_on right l ≡ p) × (p ≡ 0 → IsNearest g right l) × Asked p (link_length l)

abbrev Side : Linkage → Bool → ℕ → (ℕ → ℕ → Type 0) → Type 0
Side g right i Asked = Climbed (EndsSo g i) (LinkAt g right i Asked) at_first.left (list_at right g i)

-- a side of a position, with what is asked of its links
side : (g : Linkage) → Keep g → (right : Bool) (i : ℕ) (Asked : ℕ → ℕ → Type 0) → Gives g right i Asked → Side g right i Asked
side g rules right i Asked give =
    climb (EndsSo g i) (list_at right g i) (LinkAt g right i Asked)
    (λ k j n m less a b.
    let x = a.place in
    let y = b.place in
    let r = longer g rules right a.link b.link a.has b.has (a.at ∙ sym b.at) (omega arith) in
    subst (λ z. z < m) a.long (subst (λ z. link_length a.link < z) b.long r))
    (λ n a. subst (λ z. 1 ≤ z) a.long (no_shorter g rules a.link a.has))
    (λ c e. given true 0 c e (λ is. refl))
    (λ k c e. given false (suc k) c e (λ is. absurd cc)) where
      given : (first : Bool) (p : ℕ) (c : Connector) → slice_get (list_at right g i) p ≡ Some c → (first ≡ true → p ≡ 0) → (n : ℕ) × EndsSo g i first c n × LinkAt g right i Asked p n
      given first p c e one =
          let (l, h, at, place, near, asked) = give p c e in
          let (is, so) = ends g rules right i p c e l h at place in (
            link_length l,
            record { ends = so; nearest = λ f x hx same. near (one f) x hx (subst (λ b. own b x ≡ i) is same ∙ sym at) },
            record { link = l; has = h; at = at; place = place; long = refl; asked = asked },
          )

-- a link of a place that is no longer than this one, and of the first place the nearest
nearer : (most : ℕ) (g : Linkage) → few.Fits most g → (right : Bool) (p : ℕ) (l : Link) → HasLink g l → place_on right l ≡ p
    → (n : Link) × HasLink g n × (own right n ≡ own right l) × (place_on right n ≡ place_on right l) × (link_length n ≤ link_length l) × (p ≡ 0 → IsNearest g right n)
nearer most g fits right zero l h place = let (n, has, o, p, less, near) = near_link most g fits right l h true (λ is. place) in (n, has, o, p, less, λ is. near refl)
nearer most g fits right (suc p) l h place = (l, h, refl, refl, omega arith, λ is. absurd cc)

-- the length of a link, at its place, or of a nearer one of a connector that has several
pub record NoLonger (g : Linkage) (right : Bool) (l : Link) (p n : ℕ) : Type 0 where
  pub near : place_on right l ≡ p → n ≤ link_length l
  pub same : place_on right l ≡ p → (c : Connector) → slice_get (list_at right g (own right l)) (place_on right l) ≡ Some c → c.multi ≡ false → n ≡ link_length l

-- a connector that is not multi has one link
one_link : (g : Linkage) → Keep g → (right : Bool) (l e : Link) → HasLink g l → HasLink g e → (c : Connector) → slice_get (list_at right g (own right l)) (place_on right l) ≡ Some c → c.multi ≡ false
    → own right e ≡ own right l → place_on right e ≡ place_on right l → l ≡ e
one_link g rules true l e h he c at m o p = (rules.satisfied.on_right l.left l.lplace c at).one m l e h he refl refl o p
one_link g rules false l e h he c at m o p = (rules.satisfied.on_left l.right l.rplace c at).one m l e h he refl refl o p

module _ (most : ℕ) (g : Linkage) (fits : few.Fits most g) (i : ℕ) where
  abbrev rules : Keep g
  rules = fits.rules

  plain_side : (right : Bool) → Side g right i (λ p n. Unit {0})
  plain_side right =
      side g rules right i (λ p n. Unit {0})
      (λ p c e.
      let (l, h, at, place) = served g rules right i p c e in
      let (n, has, o, q, less, near) = nearer most g fits right p l h place in
      (n, has, o ∙ at, q ∙ place, near, tt))

  with_link : (right : Bool) (l : Link) → HasLink g l → own right l ≡ i → Side g right i (NoLonger g right l)
  with_link right l h at =
      side g rules right i (NoLonger g right l)
      (λ p c e. elim (cases_eq (place_on right l) p) [
        | inl place ↦ (
            let (n, has, o, q, less, near) = nearer most g fits right p l h place in (
              n,
              has,
              o ∙ at,
              q ∙ place,
              near,
              record { near = λ x. less; same = λ x d is m. sym (ap link_length (one_link g rules right l n h has d is m o q)) },
            ))
        | inr other ↦ (
            let (k, hk, there, place) = served g rules right i p c e in
            let (n, has, o, q, less, near) = nearer most g fits right p k hk place in
            (n, has, o ∙ there, q ∙ place, near, record { near = λ x. absurd (other x); same = λ x. absurd (other x) }))
      ])

  -- where the given link's length stands, or that of a nearer one
  length_stands : (right : Bool) (l : Link) → HasLink g l → own right l ≡ i → (s : Side g right i (NoLonger g right l))
      → (n : ℕ) × (slice_get s.lengths (place_on right l) ≡ Some n) × NoLonger g right l (place_on right l) n
  length_stands right l h at s =
      let (c, here, looks) = joined_at g rules right l h in
      let (n, is, found) = s.each (place_on right l) c (subst (λ x. slice_get (list_at right g x) (place_on right l) ≡ Some c) at here) in
      (n, is, found.asked)

  -- how far the last link goes at least
  side_met : (right : Bool) (Asked : ℕ → ℕ → Type 0) (s : Side g right i Asked) → IsMet g right i (s.end.least - 1)
  side_met right Asked s = elim s.ends [
    | inl is ↦ inl (ap (λ (z : Next). z.least - 1) is)
    | inr (k, n, found, is) ↦ inr (found.link, found.has, found.at, (let e : s.end.least ≡ suc n = ap (λ (z : Next). z.least) is in let l = found.long in omega (arith, e, l)))
  ]

  -- the two lists of what the position uses
  both_fit : (d : Disjunct) → chosen_at g i ≡ Some d → (end : Least) (ls rs : List ℕ) → Climbs (EndsSo g i) at_first.left (lefts_of g i) ls end.left → Climbs (EndsSo g i) at_first.left (rights_of g i) rs end.right
      → Fits (EndsSo g i) at_first end (choice_of d) ls rs
  both_fit d is end ls rs l r = record {
    left = subst (λ o. Climbs (EndsSo g i) at_first.left (left_list o) ls end.left) is l;
    right = subst (λ o. Climbs (EndsSo g i) at_first.left (right_list o) rs end.right) is r;
  }

  -- what the position uses fits, with some lengths of its links, which go so far at least
  pub placed : (d : Disjunct) → chosen_at g i ≡ Some d
      → (end : Least) × (ls : List ℕ) × (rs : List ℕ) × Fits (EndsSo g i) at_first end (choice_of d) ls rs × IsMet g false i (end.left.least - 1) × IsMet g true i (end.right.least - 1)
  placed d is =
      let l = plain_side false in
      let r = plain_side true in (
        record { left = l.end; right = r.end },
        l.lengths,
        r.lengths,
        both_fit d is (record { left = l.end; right = r.end }) l.lengths r.lengths l.climbs r.climbs,
        side_met false (λ p n. Unit {0}) l,
        side_met true (λ p n. Unit {0}) r,
      )

  -- and with that of any of its links, or of a nearer one of the connector
  pub placed_with : (d : Disjunct) → chosen_at g i ≡ Some d → (right : Bool) (l : Link) → HasLink g l → own right l ≡ i
      → (end : Least) × (ls : List ℕ) × (rs : List ℕ) × Fits (EndsSo g i) at_first end (choice_of d) ls rs
      × (n : ℕ) × (slice_get (cond right rs ls) (place_on right l) ≡ Some n) × NoLonger g right l (place_on right l) n
  placed_with d is true l h at =
      let near = plain_side false in
      let far = with_link true l h at in
      let (n, there, less) = length_stands true l h at far in (
        record { left = near.end; right = far.end },
        near.lengths,
        far.lengths,
        both_fit d is (record { left = near.end; right = far.end }) near.lengths far.lengths near.climbs far.climbs,
        n,
        there,
        less,
      )
  placed_with d is false l h at =
      let near = with_link false l h at in
      let far = plain_side true in
      let (n, there, less) = length_stands false l h at near in (
        record { left = near.end; right = far.end },
        near.lengths,
        far.lengths,
        both_fit d is (record { left = near.end; right = far.end }) near.lengths far.lengths near.climbs far.climbs,
        n,
        there,
        less,
      )
