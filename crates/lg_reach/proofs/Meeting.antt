-- Where a link ends, and the known partner there.
use Rattle.std.proofs.Common.{◌≡◌, ℕ, suc, ◌+◌, ◌-◌, ◌<◌, ◌≤◌, min, Bool, true, false, not, ltb, cond, refl, sym, ap, ◌∙◌, subst, ◌↔◌, inl, inr, Option, Some, List, length, Contains, arith}
use Rattle.std.specs.Borrow.{Bor}
use Rattle.std.specs.List.{slice_get, Any}
use Rattle.std.proofs.lemmas.Bool.{and_parts, cases_eq, iff_false, ltb-true}
use Rattle.std.proofs.lemmas.Option.{same_Some}
use Rattle.std.proofs.Math.Nat.{le-min}
use Rattle.lg_gram.specs.Connectors.{Connector}
use Rattle.lg_gram.specs.Linkages.{Linkage, link_length}
use Rattle.lg_gram.specs.Rules.{HasLink, Rules, left_list, lefts_of, rights_of}
use Rattle.lg_gram.specs.declared.linkage.Link.{Link}
use Rattle.lg_member.proofs.Linked.{linked_at}
use Rattle.lg_member.specs.Cells.{Stands, class_of}
use Rattle.lg_sharpen.specs.Bounds as few
use Rattle.lg_sharpen.specs.Bounds.{IsNearest, list_at}
use Rattle.lg_sharpen.specs.Filling.{MaySpan}
use Rattle.lg_sharpen.specs.Sites.{own, place_on}
use Rattle.lg_sharpen.proofs.Ends.{short_on}
use Rattle.lg_reach.specs.Ends.{AreKnown, AreNoShorter, Ends, EndsSo, IsKnown, IsNear, Suits}
use Rattle.lg_reach.specs.Partners.{HasPartner, IsPartner, MatchOn, MayEnd, bound_on, far_end, is_long}
use Rattle.lg_reach.specs.declared.known.Known.{Known}
use Rattle.lg_reach.specs.declared.nearest.Stand.{Stand}
use Rattle.lg_reach.specs.declared.site.Site.{Site}
use Rattle.lg_reach.specs.declared.site.Sites.{Sites}

-- at the other end of a link stands a connector that matches
joined : (g : Linkage) → Rules (rights_of g) (lefts_of g) (HasLink g) → (right : Bool) (i n : ℕ) (c : Connector) (l : Link) → HasLink g l → own right l ≡ i → slice_get (list_at right g i) (place_on right l) ≡ Some c → link_length l ≡ n
    → (d : Connector) × (d.right ≡ not right) × (c.caps ≡ d.caps) × MatchOn right c d × (own (not right) l ≡ far_end right i n) × (slice_get (list_at (not right) g (own (not right) l)) (place_on (not right) l) ≡ Some d)
joined g r true i n c l h o at long =
    let j = r.matched.joins l h in
    let f = r.matched.forward l h in
    let q : j.0 ≡ c = same_Some j.0 c (sym j.2 ∙ subst (λ z. slice_get (rights_of g z) l.lplace ≡ Some c) (sym o) at) in
    let e : l.right ≡ i + n = omega arith in
    let m = j.4 in
    (j.1, m.to_left, ap (λ z. z.caps) (sym q) ∙ m.capitals, subst (λ z. MatchOn true z j.1) q m, e, j.3)
joined g r false i n c l h o at long =
    let j = r.matched.joins l h in
    let f = r.matched.forward l h in
    let q : j.1 ≡ c = same_Some j.1 c (sym j.3 ∙ subst (λ z. slice_get (lefts_of g z) l.rplace ≡ Some c) (sym o) at) in
    let e : l.left ≡ i - n = omega arith in
    let m = j.4 in
    (j.0, m.to_right, ap (λ z. z.caps) (sym q) ∙ sym m.capitals, subst (λ z. MatchOn false z j.0) q m, e, j.2)

-- a link ends at a connector of the side that it has there
ends_at : (g : Linkage) (right : Bool) (j n : ℕ) (d : Connector) (l : Link) → d.right ≡ right → HasLink g l → own right l ≡ j → slice_get (list_at right g (own right l)) (place_on right l) ≡ Some d → link_length l ≡ n → Ends g j d n
ends_at g right j n d l q h o at long = record {
  link = l;
  has = h;
  at = subst (λ z. own z l ≡ j) (sym q) o;
  connector = subst (λ z. slice_get (list_at z g j) (place_on z l) ≡ Some d) (sym q) (subst (λ z. slice_get (list_at right g z) (place_on right l) ≡ Some d) o at);
  long = long;
}

-- the other table
other_table : (right : Bool) (sites : Sites) → cond (not right) sites.rights sites.lefts ≡ cond right sites.lefts sites.rights
other_table true sites = refl
other_table false sites = refl

-- the nearest link of an end
nearest_by : (g : Linkage) (right : Bool) (i n : ℕ) (l : Link) → own right l ≡ i → link_length l ≡ n → AreNoShorter g right i n → IsNearest g right l
nearest_by g right i n l o long all e h same = subst (λ z. z ≤ link_length e) (sym long) (all e h (same ∙ o))

module _ (g : Linkage) (s : Stand) (known : Known) (fits : few.Fits s.most g) (is : IsKnown known g) (first : Bool) (c : Connector) (n : ℕ) (so : EndsSo g s.position first c n) where
  abbrev end : Ends g s.position c n
  end = so.ends

  near : first ≡ true → IsNearest g c.right end.link
  near one = nearest_by g c.right s.position n end.link end.at end.long (so.nearest one)

  -- no gap is shut that the nearest link spans
  spanned : first ≡ true → MaySpan c.right known.gaps s.position n
  spanned one = subst (λ z. MaySpan c.right known.gaps z n) end.at (subst (λ z. MaySpan c.right known.gaps (own c.right end.link) z) end.long (is.gaps c.right end.link end.has (near one)))

  -- a partner is known at the other end of each link
  partner_of : HasPartner known.sites s.position c (is_long s.most first n) n
  partner_of =
      let i = s.position in
      let p = joined g fits.rules c.right i n c end.link end.has end.at end.connector end.long in
      let d = p.0 in
      let far = far_end c.right i n in
      let other = is.sites far d n (ends_at g (not c.right) far n d end.link p.1 end.has p.4 p.5 end.long) in
      let at = other.site in
      let t : cond d.right known.sites.rights known.sites.lefts ≡ cond c.right known.sites.lefts known.sites.rights =
      ap (λ z. cond z known.sites.rights known.sites.lefts) p.1 ∙ other_table c.right known.sites in
      record {
        site = at.site;
        there = subst (λ z. Stands z far (class_of c.caps) at.site) t (subst (λ z. Stands (cond d.right known.sites.rights known.sites.lefts) far (class_of z) at.site) (sym p.2) at.here);
        is = record {
          near = at.near;
          apart = λ long lone.
              let (one, over) = and_parts first (ltb s.most n) long in
              let all : AreNoShorter g (not c.right) far n = subst (λ z. AreNoShorter g z far n) p.1 (other.nearest (at.only_if lone)) in
              let short = short_on s.most g fits c.right end.link end.has (near one) (nearest_by g (not c.right) far n end.link p.4 end.long all) in
              let less = ltb-true s.most n over in
              let long' = end.long in
              absurd (omega (arith, short, less, long'));
          matches = subst (λ z. MatchOn c.right c z) (sym at.connector) p.3;
        };
      }

  pub may_end : MayEnd s known c first n
  may_end = record { spans = spanned; partner = partner_of }

-- both ends of a link are words
bounded : (g : Linkage) → Rules (rights_of g) (lefts_of g) (HasLink g) → (words : ℕ) → length g.chosen ≡ words → (right : Bool) (i n : ℕ) (c : Connector) (l : Link) → HasLink g l → own right l ≡ i → slice_get (list_at right g i) (place_on right l) ≡ Some c
    → link_length l ≡ n → n < cond right (words - i) (min words (i + 1))
bounded g r words w true i n c l h o at long =
    let j = r.matched.joins l h in
    let f = r.matched.forward l h in
    let b = (linked_at left_list refl g.chosen l.right l.rplace j.1 j.3).2 in
    let e : n < words - i = omega arith in
    e
bounded g r words w false i n c l h o at long =
    let b = (linked_at left_list refl g.chosen i l.rplace c at).2 in
    let x : suc n ≤ words = omega arith in
    let y : suc n ≤ i + 1 = omega arith in
    le-min x y

pub is_below : (g : Linkage) (s : Stand) → Suits g s → (c : Connector) (n : ℕ) → Ends g s.position c n → n < bound_on c.right s
is_below g s suits c n e = bounded g suits.fits.rules s.words suits.words c.right s.position n c e.link e.has e.at e.connector e.long

-- none that may be is nearer than this
abbrev pub NoneBefore : (ℕ → Type 0) → ℕ → ℕ → Type 0
NoneBefore May least n = (m : ℕ) → May m → least ≤ m → n ≤ m

pub none_more : (May : ℕ → Type 0) (least n : ℕ) (r : Bool) → ((r ≡ true) ↔ May n) → r ≡ false → NoneBefore May least n → NoneBefore May least (n + 1)
none_more May least n r found here before m p l =
    let b = before m p l in
    elim (cases_eq m n) [
      | inl q ↦ absurd (iff_false found here (subst May q p))
      | inr d ↦ (let y : n + 1 ≤ m = omega arith in y)
    ]

-- where such a link would end, one of the sites of the class is a partner
pub partner_there : (sites : Sites) (i n : ℕ) (c : Connector) (long right : Bool) (j class : ℕ) (cell : List Site) (r : Bool) → right ≡ c.right → j ≡ far_end right i n → class ≡ class_of c.caps
    → ((x : Site) → Contains cell x ↔ Stands (cond (not right) sites.rights sites.lefts) j class x) → ((r ≡ true) ↔ Any (IsPartner c long n) cell) → (r ≡ true) ↔ HasPartner sites i c long n
partner_there sites i n c long right j class cell r q ej ec at found =
    let t : cond (not right) sites.rights sites.lefts ≡ cond c.right sites.lefts sites.rights = other_table right sites ∙ ap (λ z. cond z sites.lefts sites.rights) q in
    let far = ej ∙ ap (λ z. far_end z i n) q in
    let here = subst (λ z. (x : Site) → Contains cell x ↔ Stands z (far_end c.right i n) (class_of c.caps) x) t
    (subst (λ z. (x : Site) → Contains cell x ↔ Stands (cond (not right) sites.rights sites.lefts) z (class_of c.caps) x) far
    (subst (λ z. (x : Site) → Contains cell x ↔ Stands (cond (not right) sites.rights sites.lefts) j z x) ec at)) in (
      (λ e. let a = found.0 e in record { site = a.1; there = (here a.1).0 (a.0, a.2, a.3); is = a.4 }),
      (λ p. let k = (here p.site).1 p.there in found.1 (k.0, p.site, k.1, k.2, p.is)),
    )

-- no link is as long as the bound
pub none_fits : (g : Linkage) (s : Stand) (c : Connector) (first : Bool) (least end : ℕ) → end ≡ bound_on c.right s → end ≤ least → Suits g s → (n : ℕ) → EndsSo g s.position first c n → least ≤ n → ⊥
none_fits g s c first least end q h suits n e l =
    let b : n < end = subst (λ z. n < z) (sym q) (is_below g s suits c n e.ends) in
    absurd (omega arith)

-- the nearest partner is no farther than any link
pub partner_near : (g : Linkage) (s : Stand) (known : Bor Known) (c : Connector) (first : Bool) (least end : ℕ) (r : Option ℕ) → s.known ≡ Some known → end ≡ bound_on c.right s
    → ((n : ℕ) → MayEnd s known.now c first n → least ≤ n → n < end → IsNear n r) → Suits g s → (n : ℕ) → EndsSo g s.position first c n → least ≤ n → IsNear n r
partner_near g s known c first least bound r is q near suits n e l =
    let learned = subst (λ z. AreKnown z g) is suits.known in
    near n (may_end g s known.now suits.fits learned first c n e) l (subst (λ z. n < z) (sym q) (is_below g s suits c n e.ends))
