-- What a round finds: which members have partners among all.
use Rattle.std.proofs.Common.{◌≡◌, ℕ, zero, suc, ◌+◌, ◌-◌, List, [], ◌∷◌, length, get_or, refl, sym, ap, ◌∙◌, subst, ◌↔◌, Some, Bool, true, false, not, cond, Contains, arith}
use Rattle.std.specs.List.{slice_get, All}
use Rattle.std.proofs.lemmas.Bool.{and_from, and_parts}
use Rattle.std.proofs.lemmas.Option.{same_Some, slice_get_within}
use Rattle.std.proofs.lemmas.List.Elements.{All-contains}
use Rattle.lg_gram.specs.Connectors.{Connector, Match}
use Rattle.lg_gram.specs.declared.disjunct.Disjunct.{Disjunct}
use Rattle.lg_pprune.specs.Alive.{ArePartners}
use Rattle.lg_pprune.specs.Sites.{IsSiteOf, Meets, MeetsOn, IsWider, Holds, IsHeld, IsTableOf, IsServed, AreServed}
use Rattle.lg_member.specs.Members.{formed, list_on, side_on, IsSideAt, IsKnown, AreUsed, Have, Keeps, are_on}
use Rattle.lg_member.specs.Cells.{Table}
use Rattle.lg_member.specs.declared.side.Side.{Side}
use Rattle.lg_member.specs.declared.member.Member.{Member}
use Rattle.lg_pprune.specs.Supports.{PartnersOn, IsSupportedOn, IsSupported, KeepsSupported}
use Rattle.lg_pprune.specs.declared.site.Site.{Site}
use Rattle.lg_pprune.proofs.Elements.{get_in}

site_of_side : (right : Bool) (n : ℕ) (side : Side) (i : ℕ) (cs : List Connector) (q : ℕ) (s : Site) → side.position ≡ i → side.list.now ≡ cs → IsSiteOf right n side.position side.list.now q s → IsSiteOf right n i cs q s
site_of_side right n side i cs q s ei ec is = subst (λ z. IsSiteOf right n i z q s) ec (subst (λ z. IsSiteOf right n z side.list.now q s) ei is)

site_at_side : (right : Bool) (n : ℕ) (side : Side) (i : ℕ) (cs : List Connector) (q : ℕ) (s : Site) → side.position ≡ i → side.list.now ≡ cs → IsSiteOf right n i cs q s → IsSiteOf right n side.position side.list.now q s
site_at_side right n side i cs q s ei ec is = subst (λ z. IsSiteOf right n side.position z q s) (sym ec) (subst (λ z. IsSiteOf right n z cs q s) (sym ei) is)

-- a table has the sites of members
abbrev HasSite : Bool → ℕ → List Member → Site → Type 0
HasSite right n ms s = (m : Member) × Contains ms m × (q : ℕ) × IsSiteOf right n m.position (list_on right (formed m.form)) q s

table_has : (right : Bool) (n : ℕ) (sides : List Side) (ms : List Member) (used : List Bool) (table : Table Site)
    → ((m : Member) → Contains ms m → IsSideAt sides (side_on right m) m.position (list_on right (formed m.form))) → AreUsed right (length sides) ms used → IsTableOf right n sides used table
    → (s : Site) → Holds table s → HasSite right n ms s
table_has right n sides ms used table known u t s h =
    let r = t.only s h in
    let o = (u.each r.0).0 r.1.on in
    let a = known o.0 o.1 in
    let e : r.1.side ≡ a.side = same_Some r.1.side a.side (sym r.1.at ∙ subst (λ z. slice_get sides z ≡ Some a.side) o.2 a.at) in
    (o.0, o.1, r.1.place, site_of_side right n a.side o.0.position (list_on right (formed o.0.form)) r.1.place s a.position a.list (subst (λ z. IsSiteOf right n z.position z.list.now r.1.place s) e r.1.is))

table_holds : (right : Bool) (n : ℕ) (sides : List Side) (ms : List Member) (used : List Bool) (table : Table Site)
    → ((m : Member) → Contains ms m → IsSideAt sides (side_on right m) m.position (list_on right (formed m.form))) → AreUsed right (length sides) ms used → IsTableOf right n sides used table
    → (s : Site) → HasSite right n ms s → IsHeld table s
table_holds right n sides ms used table known u t s r =
    let a = known r.0 r.1 in
    let is = site_at_side right n a.side r.0.position (list_on right (formed r.0.form)) r.2 s a.position a.list r.3 in
    t.held s (side_on right r.0) (record {
      side = a.side;
      at = a.at;
      on = (u.each (side_on right r.0)).1 (r.0, r.1, refl);
      place = r.2;
      within = slice_get_within a.side.list.now r.2 s.connector is.connector;
      is = is;
    })

-- what meets a site meets a wider one
meets_wider : (right : Bool) (s x w : Site) → IsWider w x → MeetsOn right s x → MeetsOn right s w
meets_wider true s x w h m =
    let a = h.position in let b = h.from in let c = h.end in let d = m.from_left in let e = m.to_left in let f = m.from_right in let g = m.to_right in
    record { from_left = omega arith; to_left = omega arith; from_right = omega arith; to_right = omega arith; match_at = subst (λ z. Match s.connector z) (sym h.connector) m.match_at }
meets_wider false s x w h m =
    let a = h.position in let b = h.from in let c = h.end in let d = m.from_left in let e = m.to_left in let f = m.from_right in let g = m.to_right in
    record { from_left = omega arith; to_left = omega arith; from_right = omega arith; to_right = omega arith; match_at = subst (λ z. Match z s.connector) (sym h.connector) m.match_at }

-- sites that meet are partners
meets_base : (n i : ℕ) (a : Disjunct) (p : ℕ) (s : Site) (j : ℕ) (b : Disjunct) (q : ℕ) (t : Site) → IsSiteOf true n i a.right p s → IsSiteOf false n j b.left q t → Meets s t ↔ ArePartners n i a p j b q
meets_base n i a p s j b q t x y =
    let xp = x.position in
    let yp = y.position in
    let xf : s.from ≡ i + p + 1 = x.from in
    let xe : s.end ≡ (n + p + 1) - length a.right = x.end in
    let yf : t.from ≡ length b.left - (q + 1) = y.from in
    let ye : t.end ≡ j - q = y.end in
    let wx = slice_get_within a.right p s.connector x.connector in
    let wy = slice_get_within b.left q t.connector y.connector in (
      (λ m. let m1 = m.from_left in let m2 = m.to_left in let m3 = m.from_right in let m4 = m.to_right in
          record { match_at = (s.connector, t.connector, x.connector, y.connector, m.match_at); between = omega arith; to_right = omega arith; to_left = omega arith }),
      (λ r. let r1 = r.between in let r2 = r.to_right in let r3 = r.to_left in
          let u = same_Some r.match_at.0 s.connector (sym r.match_at.2 ∙ x.connector) in
          let v = same_Some r.match_at.1 t.connector (sym r.match_at.3 ∙ y.connector) in
          record {
            from_left = omega arith;
            to_left = omega arith;
            from_right = omega arith;
            to_right = omega arith;
            match_at = subst (λ z. Match s.connector z) v (subst (λ z. Match z r.match_at.1) u r.match_at.4);
          }),
    )

meets_partners : (right : Bool) (n i : ℕ) (a : Disjunct) (p : ℕ) (s : Site) (j : ℕ) (b : Disjunct) (q : ℕ) (t : Site)
    → IsSiteOf right n i (list_on right a) p s → IsSiteOf (not right) n j (list_on (not right) b) q t → MeetsOn right s t ↔ PartnersOn right n i a p j b q
meets_partners true n i a p s j b q t x y = meets_base n i a p s j b q t x y
meets_partners false n i a p s j b q t x y = meets_base n j b q t i a p s y x

partner_place : (right : Bool) (n i : ℕ) (a : Disjunct) (p j : ℕ) (b : Disjunct) (q : ℕ) → PartnersOn right n i a p j b q → (y : Connector) × (slice_get (list_on (not right) b) q ≡ Some y)
partner_place true n i a p j b q r = (r.match_at.1, r.match_at.3)
partner_place false n i a p j b q r = (r.match_at.0, r.match_at.2)

-- the site of a connector
made : (right : Bool) (n i : ℕ) (cs : List Connector) (p : ℕ) (x : Connector) → slice_get cs p ≡ Some x → (s : Site) × IsSiteOf right n i cs p s
made right n i cs p x e = (
  record { connector = x; position = i; from = cond right (i + p + 1) (length cs - (p + 1)); end = cond right ((n + p + 1) - length cs) (i - p) },
  record { connector = e; position = refl; from = refl; end = refl },
)

served_supported : (right : Bool) (n : ℕ) (ms : List Member) (table : Table Site) → ((s : Site) → Holds table s → HasSite (not right) n ms s)
    → ((s : Site) → HasSite (not right) n ms s → IsHeld table s) → (i : ℕ) (a : Disjunct)
    → IsServed right n table i (list_on right a) ↔ IsSupportedOn right n (Have ms) i a
served_supported right n ms table has held i a = (
  (λ served p h.
      let x = get_in (list_on right a) p h in
      let s = made right n i (list_on right a) p x.0 x.1 in
      let o = served p s.0 s.1 in
      let m = has o.0 o.1 in
      (m.0.position, formed m.0.form, m.2, (m.0, m.1, refl, refl), (meets_partners right n i a p s.0 m.0.position (formed m.0.form) m.2 o.0 s.1 m.3).0 o.2)),
  (λ supported p s is.
      let o = supported p (slice_get_within (list_on right a) p s.connector is.connector) in
      let m = o.3 in
      let r = subst (λ z. PartnersOn right n i a p m.0.position z o.2) (sym m.3) (subst (λ z. PartnersOn right n i a p z o.1 o.2) (sym m.2) o.4) in
      let y = partner_place right n i a p m.0.position (formed m.0.form) o.2 r in
      let t = made (not right) n m.0.position (list_on (not right) (formed m.0.form)) o.2 y.0 y.1 in
      let w = held t.0 (m.0, m.1, o.2, t.1) in
      (w.0, w.1, meets_wider right s t.0 w.0 w.2 ((meets_partners right n i a p s m.0.position (formed m.0.form) o.2 t.0 is t.1).1 r))),
)

-- a side is good where each of its connectors has a partner
good_supported : (right : Bool) (n : ℕ) (sides others : List Side) (ms : List Member) (used used_others : List Bool) (table : Table Site) (good : List Bool)
    → ((m : Member) → Contains ms m → IsSideAt sides (side_on right m) m.position (list_on right (formed m.form)))
    → ((m : Member) → Contains ms m → IsSideAt others (side_on (not right) m) m.position (list_on (not right) (formed m.form)))
    → AreUsed right (length sides) ms used → AreUsed (not right) (length others) ms used_others → IsTableOf (not right) n others used_others table → AreServed right n table sides used good
    → (m : Member) → Contains ms m → (slice_get good (side_on right m) ≡ Some true) ↔ IsSupportedOn right n (Have ms) m.position (formed m.form)
good_supported right n sides others ms used used_others table good known known_others u v t g m c =
    let a = known m c in
    let on = (u.each (side_on right m)).1 (m, c, refl) in
    let w = g.each (side_on right m) a.side a.at on in
    let w' : (slice_get good (side_on right m) ≡ Some true) ↔ IsServed right n table m.position (list_on right (formed m.form)) =
    subst (λ z. (slice_get good (side_on right m) ≡ Some true) ↔ IsServed right n table m.position z) a.list
    (subst (λ z. (slice_get good (side_on right m) ≡ Some true) ↔ IsServed right n table z a.side.list.now) a.position w) in
    let x = served_supported right n ms table (table_has (not right) n others ms used_others table known_others v t) (table_holds (not right) n others ms used_others table known_others v t) m.position (formed m.form) in
    ((λ h. x.0 (w'.0 h)), (λ h. w'.1 (x.1 h)))

is_on : (good : List Bool) (k : ℕ) → (get_or good k false ≡ true) ↔ (slice_get good k ≡ Some true)
is_on [] k = ((λ e. absurd cc), (λ e. absurd cc))
is_on (b ∷ good) zero = ((λ e. ap (λ z. Some z) e), (λ e. same_Some b true e))
is_on (b ∷ good) (suc k) = is_on good k

pub round_keeps : (n : ℕ) (lefts rights : List Side) (ms new : List Member) (lu ru lg rg : List Bool) (lt rt : Table Site) → All (IsKnown lefts rights) ms
    → AreUsed false (length lefts) ms lu → AreUsed true (length rights) ms ru → IsTableOf false n lefts lu lt → IsTableOf true n rights ru rt
    → AreServed false n rt lefts lu lg → AreServed true n lt rights ru rg → Keeps (are_on lg rg) ms new → KeepsSupported n ms new
round_keeps n lefts rights ms new lu ru lg rg lt rt known ul ur tl tr gl gr keeps =
    let kl : (m : Member) → Contains ms m → IsSideAt lefts m.left m.position (formed m.form).left = λ m c. (All-contains (IsKnown lefts rights) ms m known c).left in
    let kr : (m : Member) → Contains ms m → IsSideAt rights m.right m.position (formed m.form).right = λ m c. (All-contains (IsKnown lefts rights) ms m known c).right in
    let on : (m : Member) → Contains ms m → (are_on lg rg m ≡ true) ↔ IsSupported n (Have ms) m.position (formed m.form) =
    λ m c.
    let a = good_supported false n lefts rights ms lu ru rt lg kl kr ul ur tr gl m c in
    let b = good_supported true n rights lefts ms ru lu lt rg kr kl ur ul tl gr m c in
    let x = is_on lg m.left in
    let y = is_on rg m.right in (
      (λ h. let p = and_parts (get_or lg m.left false) (get_or rg m.right false) h in (b.0 (y.0 p.1), a.0 (x.0 p.0))),
      (λ s. and_from (get_or lg m.left false) (get_or rg m.right false) (x.1 (a.1 s.1)) (y.1 (b.1 s.0))),
    ) in
    record {
      left = (are_on lg rg, keeps);
      exactly = λ m. (
        (λ c. let r = (keeps.exactly m).0 c in (r.0, (on m r.0).0 r.1)),
        (λ r. (keeps.exactly m).1 (r.0, (on m r.0).1 r.1)),
      );
    }
