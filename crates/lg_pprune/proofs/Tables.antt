-- What tables of sites hold.
use Rattle.std.proofs.Common.{◌≡◌, ℕ, ◌+◌, ◌<◌, ◌≤◌, List, [], ◌∷◌, ◌++◌, length, length-append, sym, ap, ◌∙◌, subst, ◌↔◌, Some, inl, inr, Bool, true, false, Contains, arith}
use Rattle.std.specs.List.{slice_get, Any}
use Rattle.std.proofs.lemmas.Bool.{cases_eq, cases_lt, iff_false}
use Rattle.std.proofs.lemmas.Option.{same_Some, slice_get_within}
use Rattle.std.proofs.lemmas.Grind.{elements}
use Rattle.lg_gram.specs.Connectors.{Connector}
use Rattle.lg_member.specs.Cells.{Table, Stands, IsEmpty, Adds, class_of}
use Rattle.lg_member.specs.declared.side.Side.{Side}
use Rattle.lg_pprune.specs.Sites.{IsSiteOf, MeetsOn, MeetsAt, IsWider, Holds, IsHeld, IsUsed, IsTableOf, HasPartner, IsServed, AreServed, AddsSites}
use Rattle.lg_pprune.specs.declared.site.Site.{Site}

site_parts : (s t : Site) → s.connector ≡ t.connector → s.position ≡ t.position → s.from ≡ t.from → s.end ≡ t.end → s ≡ t
site_parts s t a b c d = λ k. record { connector = a k; position = b k; from = c k; end = d k }

-- the site of a place is one
pub site_same : (right : Bool) (n i : ℕ) (cs : List Connector) (p : ℕ) (s t : Site) → IsSiteOf right n i cs p s → IsSiteOf right n i cs p t → s ≡ t
site_same right n i cs p s t a b =
    site_parts s t (same_Some s.connector t.connector (sym a.connector ∙ b.connector)) (a.position ∙ sym b.position) (a.from ∙ sym b.from) (a.end ∙ sym b.end)

-- a site that is as wide stands in the same cell
held_in : (table : Table Site) (s : Site) → (w : Site) × Stands table s.position (class_of s.connector.caps) w × IsWider w s → IsHeld table s
held_in table s (w, h, is) = (w, subst (λ z. Stands table w.position (class_of z.caps) w) (sym is.connector) (subst (λ z. Stands table z (class_of s.connector.caps) w) (sym is.position) h), is)

pub sites_more : (right : Bool) (n i : ℕ) (cs : List Connector) (p : ℕ) (old now new : Table Site) (s : Site) → Adds IsWider s.position (class_of s.connector.caps) s now new → IsSiteOf right n i cs p s
    → AddsSites right n i cs p old now → AddsSites right n i cs (p + 1) old new
sites_more right n i cs p old now new s add is a = record {
  kept = λ x h. add.kept x.position (class_of x.connector.caps) x (a.kept x h);
  only = λ x h.
      elim (add.only x.position (class_of x.connector.caps) x h) [
        | inl o ↦ elim (a.only x o) [ inl q ↦ inl q | inr r ↦ (let l = r.1 in inr (r.0, omega arith, r.2)) ]
        | inr q ↦ inr (p, omega arith, subst (λ z. IsSiteOf right n i cs p z) q is)
      ];
  held = λ q t l at.
      elim (cases_lt q p) [
        | inl h ↦ (let r = a.held q t h at in (r.0, add.kept r.0.position (class_of r.0.connector.caps) r.0 r.1, r.2))
        | inr h ↦ (let eq : q ≡ p = omega arith in
            let es : s ≡ t = site_same right n i cs p s t is (subst (λ z. IsSiteOf right n i cs z t) eq at) in
            subst (λ z. IsHeld new z) es (held_in new s add.held))
      ];
}

pub sites_none : (right : Bool) (n i : ℕ) (cs : List Connector) (table : Table Site) → AddsSites right n i cs 0 table table
sites_none right n i cs table = record { kept = λ x h. h; only = λ x h. inl h; held = λ p s l. absurd (omega arith) }

pub sites_all : (right : Bool) (n i : ℕ) (cs : List Connector) (p : ℕ) (old new : Table Site) → length cs ≤ p → p ≤ length cs → AddsSites right n i cs p old new → AddsSites right n i cs (length cs) old new
sites_all right n i cs p old new h g a = subst (λ z. AddsSites right n i cs z old new) (let e : p ≡ length cs = omega arith in e) a

-- the sites of the first lists of those that are used
pub record TableSoFar (right : Bool) (n : ℕ) (sides : List Side) (used : List Bool) (k : ℕ) (table : Table Site) : Type 0 where
  pub only : (s : Site) → Holds table s → (j : ℕ) × (j < k) × IsUsed right n sides used j s
  pub held : (s : Site) (j : ℕ) → j < k → IsUsed right n sides used j s → IsHeld table s

pub table_none : (right : Bool) (n : ℕ) (sides : List Side) (used : List Bool) (table : Table Site) → IsEmpty table → TableSoFar right n sides used 0 table
table_none right n sides used table none = record { only = λ s h. absurd (none s.position (class_of s.connector.caps) s h); held = λ s j l. absurd (omega arith) }

pub table_used : (right : Bool) (n : ℕ) (sides : List Side) (used : List Bool) (k : ℕ) (old new : Table Site) (side : Side) → slice_get sides k ≡ Some side → slice_get used k ≡ Some true
    → TableSoFar right n sides used k old → AddsSites right n side.position side.list.now (length side.list.now) old new → TableSoFar right n sides used (k + 1) new
table_used right n sides used k old new side at is t a = record {
  only = λ s h.
      elim (a.only s h) [
        | inl o ↦ (let r = t.only s o in let l = r.1 in (r.0, omega arith, r.2))
        | inr r ↦ (k, omega arith, record { side = side; at = at; on = is; place = r.0; within = r.1; is = r.2 })
      ];
  held = λ s j l u.
      elim (cases_lt j k) [
        | inl h ↦ (let r = t.held s j h u in (r.0, a.kept r.0 r.1, r.2))
        | inr g ↦ (let q : j ≡ k = omega arith in
            let e : u.side ≡ side = same_Some u.side side (sym u.at ∙ subst (λ z. slice_get sides z ≡ Some side) (sym q) at) in
            let r = subst (λ z. (p : ℕ) × (p < length z.list.now) × IsSiteOf right n z.position z.list.now p s) e (u.place, u.within, u.is) in
            a.held r.0 s r.1 r.2)
      ];
}

pub table_unused : (right : Bool) (n : ℕ) (sides : List Side) (used : List Bool) (k : ℕ) (table : Table Site) → slice_get used k ≡ Some false
    → TableSoFar right n sides used k table → TableSoFar right n sides used (k + 1) table
table_unused right n sides used k table no' t = record {
  only = λ s h. let r = t.only s h in let l = r.1 in (r.0, omega arith, r.2);
  held = λ s j l u.
      elim (cases_lt j k) [
        | inl h ↦ t.held s j h u
        | inr g ↦ (let q : j ≡ k = omega arith in
            let b : ◌≡◌ {A = Bool} true false = same_Some true false (sym u.on ∙ subst (λ z. slice_get used z ≡ Some false) (sym q) no') in absurd cc)
      ];
}

pub table_all : (right : Bool) (n : ℕ) (sides : List Side) (used : List Bool) (k : ℕ) (table : Table Site) → length sides ≤ k → TableSoFar right n sides used k table → IsTableOf right n sides used table
table_all right n sides used k table h t = record {
  only = λ s o. let r = t.only s o in (r.0, r.2);
  held = λ s j u. let w = slice_get_within sides j u.side u.at in t.held s j (omega arith) u;
}

same_caps : (right : Bool) (s x : Site) → MeetsOn right s x → s.connector.caps ≡ x.connector.caps
same_caps true s x m = m.match_at.capitals
same_caps false s x m = sym m.match_at.capitals

ends_behind : (right : Bool) (s x : Site) → MeetsOn right s x → x.position < s.end
ends_behind true s x m = m.to_left
ends_behind false s x m = m.to_right

-- none before this position meets the site
abbrev pub NoneBefore : Bool → Table Site → Site → ℕ → Type 0
NoneBefore right table s i = (other : Site) → Holds table other → MeetsOn right s other → i ≤ other.position

-- what meets a site at a position stands in the cell of the position and its class
pub none_more : (right : Bool) (table : Table Site) (s : Site) (i class : ℕ) (cell : List Site) (r : Bool) → class ≡ class_of s.connector.caps → ((x : Site) → Contains cell x ↔ Stands table i class x)
    → ((r ≡ true) ↔ Any (MeetsAt right i s) cell) → r ≡ false → NoneBefore right table s i → NoneBefore right table s (i + 1)
none_more right table s i class cell r ec at found none' before x o m =
    let b = before x o m in
    elim (cases_eq x.position i) [
      | inl q ↦ (let e : class_of x.connector.caps ≡ class = ap class_of (sym (same_caps right s x m)) ∙ sym ec in
          let c = (at x).1 (subst (λ z. Stands table i z x) e (subst (λ z. Stands table z (class_of x.connector.caps) x) q o)) in
          absurd (iff_false found none' (c.0, x, c.1, c.2, record { position = q; meets = m })))
      | inr d ↦ (let y : i + 1 ≤ x.position = omega arith in y)
    ]

pub partner_here : (right : Bool) (table : Table Site) (s : Site) (i class : ℕ) (cell : List Site) → class ≡ class_of s.connector.caps → ((x : Site) → Contains cell x ↔ Stands table i class x) → Any (MeetsAt right i s) cell
    → HasPartner right table s
partner_here right table s i class cell ec at (k, x, w, e, m) =
    let h = subst (λ z. Stands table i z x) (ec ∙ ap class_of (same_caps right s x m.meets)) ((at x).0 (k, w, e)) in
    (x, subst (λ z. Stands table z (class_of x.connector.caps) x) (sym m.position) h, m.meets)

-- the first lists, of those that are used, that are served
pub record ServedSoFar (right : Bool) (n : ℕ) (table : Table Site) (sides : List Side) (used : List Bool) (k : ℕ) (good : List Bool) : Type 0 where
  pub long : length good ≡ k
  pub each : (j : ℕ) (s : Side) → j < k → slice_get sides j ≡ Some s → slice_get used j ≡ Some true → (slice_get good j ≡ Some true) ↔ IsServed right n table s.position s.list.now

pub served_more : (right : Bool) (n : ℕ) (table : Table Site) (sides : List Side) (used : List Bool) (k : ℕ) (good : List Bool) (side : Side) (u b : Bool)
    → slice_get sides k ≡ Some side → slice_get used k ≡ Some u → (u ≡ true → (b ≡ true) ↔ IsServed right n table side.position side.list.now)
    → ServedSoFar right n table sides used k good → ServedSoFar right n table sides used (k + 1) (good ++ b ∷ [])
served_more right n table sides used k good side u b at is iff t =
    let l = t.long in
    let m = length-append good (b ∷ []) in
    record {
      long = omega arith;
      each = λ j s below atj isj.
          elim (cases_lt j k) [
            | inl h ↦ (let front : slice_get (good ++ b ∷ []) j ≡ slice_get good j = grind (arith, elements) in
                subst (λ z. (z ≡ Some true) ↔ IsServed right n table s.position s.list.now) (sym front) (t.each j s h atj isj))
            | inr h ↦ (let q : j ≡ k = omega arith in
                let e : side ≡ s = same_Some side s (sym at ∙ subst (λ z. slice_get sides z ≡ Some s) q atj) in
                let f : u ≡ true = same_Some u true (sym is ∙ subst (λ z. slice_get used z ≡ Some true) q isj) in
                let g : slice_get (good ++ b ∷ []) j ≡ Some b = grind (arith, elements) in
                let w = subst (λ z. (b ≡ true) ↔ IsServed right n table z.position z.list.now) e (iff f) in
                ((λ x. w.0 (same_Some b true (sym g ∙ x))), (λ x. g ∙ ap (λ z. Some z) (w.1 x))))
          ];
    }

pub served_all : (right : Bool) (n : ℕ) (table : Table Site) (sides : List Side) (used : List Bool) (k : ℕ) (good : List Bool) → length sides ≤ k
    → ServedSoFar right n table sides used k good → AreServed right n table sides used good
served_all right n table sides used k good h t = record { each = λ j s at is. let w = slice_get_within sides j s at in t.each j s (omega arith) at is }

-- each site of the first places meets one
abbrev pub ServedUpTo : Bool → ℕ → Table Site → ℕ → List Connector → ℕ → Type 0
ServedUpTo right n table i cs place = (p : ℕ) (s : Site) → p < place → IsSiteOf right n i cs p s → HasPartner right table s

pub up_to_more : (right : Bool) (n : ℕ) (table : Table Site) (i : ℕ) (cs : List Connector) (place : ℕ) (s : Site) → IsSiteOf right n i cs place s → HasPartner right table s
    → ServedUpTo right n table i cs place → ServedUpTo right n table i cs (place + 1)
up_to_more right n table i cs place s is has u p t below at =
    elim (cases_lt p place) [
      | inl h ↦ u p t h at
      | inr h ↦ (let q : p ≡ place = omega arith in subst (λ z. HasPartner right table z) (site_same right n i cs place s t is (subst (λ z. IsSiteOf right n i cs z t) q at)) has)
    ]

pub up_to_all : (right : Bool) (n : ℕ) (table : Table Site) (i : ℕ) (cs : List Connector) (place : ℕ) → length cs ≤ place → ServedUpTo right n table i cs place → IsServed right n table i cs
up_to_all right n table i cs place h u p s is = let w = slice_get_within cs p s.connector is.connector in u p s (omega arith) is
