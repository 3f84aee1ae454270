-- What tables of sites hold.
use Rattle.std.proofs.Common.{◌≡◌, ℕ, ◌+◌, ◌<◌, ◌≤◌, List, [], ◌∷◌, ◌++◌, length, length-append, get_or, refl, sym, ap, ◌∙◌, subst, ◌↔◌, Some, inl, inr, Bool, true, false, Contains, arith}
use Rattle.std.specs.Global.{Vec}
use Rattle.std.specs.List.{slice_get, All, Any}
use Rattle.std.specs.Option.{option_map}
use Rattle.std.proofs.lemmas.Grind.{elements}
use Rattle.std.proofs.lemmas.Bool.{cases_lt}
use Rattle.std.proofs.lemmas.Option.{same_Some, slice_get_within, slice_get_read, slice_get-map}
use Rattle.std.proofs.lemmas.List.{map-append}
use Rattle.lg_gram.specs.Connectors.{Connector}
use Rattle.lg_member.specs.Cells.{Table, Stands, Adds, class_of}
use Rattle.lg_member.specs.declared.side.Side.{Side}
use Rattle.lg_sharpen.specs.Sites.{MatchOn, MeetsOver, MayBeLone, IsWider, across, IsHeld, AddsSites, AddsOpen, IsOpen, IsPartner, IsTableOf, HasPartner, IsStarted, AreStarted, IsReach, items_in}
use Rattle.lg_sharpen.specs.Filling.{Gaps, MaySpan}
use Rattle.lg_sharpen.specs.declared.site.Site.{Site}

abbrev pub items_of : Vec Site → List Site
items_of v = v.items

pub list_in : (table : List (Vec Site)) (k : ℕ) (v : Vec Site) → k < length table → v ≡ get_or table k v → slice_get (items_in table) k ≡ Some v.items
list_in table k v h e = slice_get-map items_of table k ∙ ap (option_map items_of) (slice_get_read table (length table) k v refl h e)

-- a site that is as wide stands in the same cell
held_in : (table : Table Site) (i : ℕ) (s : Site) → (w : Site) × Stands table i (class_of s.connector.caps) w × IsWider w s → IsHeld table i s
held_in table i s (w, h, is) = (w, subst (λ z. Stands table i (class_of z.caps) w) (sym is.connector) h, is)

pub sites_more : (i : ℕ) (sites : List Site) (p : ℕ) (old now new : Table Site) (s : Site) → slice_get sites p ≡ Some s → Adds IsWider i (class_of s.connector.caps) s now new → AddsSites i sites p old now
    → AddsSites i sites (p + 1) old new
sites_more i sites p old now new s at add a = record {
  kept = λ j x h. add.kept j (class_of x.connector.caps) x (a.kept j x h);
  each = λ q t l atq.
      elim (cases_lt q p) [
        | inl h ↦ (let r = a.each q t h atq in (r.0, add.kept i (class_of r.0.connector.caps) r.0 r.1, r.2))
        | inr h ↦ (let eq : q ≡ p = omega arith in
            let es : s ≡ t = same_Some s t (sym at ∙ subst (λ z. slice_get sites z ≡ Some t) eq atq) in
            subst (λ z. IsHeld new i z) es (held_in new i s add.held))
      ];
}

pub sites_none : (i : ℕ) (sites : List Site) (table : Table Site) → AddsSites i sites 0 table table
sites_none i sites table = record { kept = λ j x h. h; each = λ p s l at. absurd (omega arith) }

pub sites_all : (i : ℕ) (sites : List Site) (p : ℕ) (old new : Table Site) → length sites ≤ p → AddsSites i sites p old new → AddsSites i sites (length sites) old new
sites_all i sites p old new h a = record { kept = a.kept; each = λ q s l at. a.each q s (omega arith) at }

-- a list with no distance left for one of its sites is passed over
pub open_not : (i : ℕ) (sites : List Site) (table : Table Site) (open' : Bool) → ((open' ≡ true) ↔ All IsOpen sites) → open' ≡ false → AddsOpen i sites table table
open_not i sites table open' iff no' = record { kept = λ j x h. h; each = λ all p s at. let f : ◌≡◌ {A = Bool} true false = sym (iff.1 all) ∙ no' in absurd cc }

pub open_added : (i : ℕ) (sites : List Site) (old new : Table Site) → AddsSites i sites (length sites) old new → AddsOpen i sites old new
open_added i sites old new a = record { kept = a.kept; each = λ all p s at. a.each p s (slice_get_within sites p s at) at }

-- the sites of the first lists of those in use
pub record TableSoFar (sides : List Side) (used : List Bool) (lists : List (List Site)) (k : ℕ) (table : Table Site) : Type 0 where
  pub each : (j : ℕ) (side : Side) (sites : List Site) (p : ℕ) (s : Site) → j < k → slice_get sides j ≡ Some side → slice_get used j ≡ Some true → slice_get lists j ≡ Some sites → All IsOpen sites → slice_get sites p ≡ Some s → IsHeld table side.position s

pub table_none : (sides : List Side) (used : List Bool) (lists : List (List Site)) (table : Table Site) → TableSoFar sides used lists 0 table
table_none sides used lists table = record { each = λ j side sites p s l. absurd (omega arith) }

pub table_used : (sides : List Side) (used : List Bool) (lists : List (List Site)) (k : ℕ) (old new : Table Site) (side : Side) (sites : List Site) → slice_get sides k ≡ Some side → slice_get lists k ≡ Some sites
    → TableSoFar sides used lists k old → AddsOpen side.position sites old new → TableSoFar sides used lists (k + 1) new
table_used sides used lists k old new side sites at is t a = record {
  each = λ j d ss p s l atj u isj op atp.
      elim (cases_lt j k) [
        | inl h ↦ (let r = t.each j d ss p s h atj u isj op atp in (r.0, a.kept d.position r.0 r.1, r.2))
        | inr h ↦ (let e : j ≡ k = omega arith in
            let ed : side ≡ d = same_Some side d (sym at ∙ subst (λ z. slice_get sides z ≡ Some d) e atj) in
            let es : ss ≡ sites = same_Some ss sites (sym isj ∙ subst (λ z. slice_get lists z ≡ Some sites) (sym e) is) in
            let at' : slice_get sites p ≡ Some s = subst (λ z. slice_get z p ≡ Some s) es atp in
            subst (λ z. IsHeld new z.position s) ed (a.each (subst (λ z. All IsOpen z) es op) p s at'))
      ];
}

pub table_unused : (sides : List Side) (used : List Bool) (lists : List (List Site)) (k : ℕ) (table : Table Site) → slice_get used k ≡ Some false → TableSoFar sides used lists k table
    → TableSoFar sides used lists (k + 1) table
table_unused sides used lists k table no' t = record {
  each = λ j d ss p s l atj u isj op atp.
      elim (cases_lt j k) [
        | inl h ↦ t.each j d ss p s h atj u isj op atp
        | inr h ↦ (let e : j ≡ k = omega arith in let b : ◌≡◌ {A = Bool} true false = same_Some true false (sym u ∙ subst (λ z. slice_get used z ≡ Some false) (sym e) no') in absurd cc)
      ];
}

pub table_all : (sides : List Side) (used : List Bool) (lists : List (List Site)) (k : ℕ) (table : Table Site) → length sides ≤ k → TableSoFar sides used lists k table → IsTableOf sides used lists table
table_all sides used lists k table h t j side sites p s at u is op atp = let w = slice_get_within sides j side at in t.each j side sites p s (omega arith) at u is op atp

same_caps : (right : Bool) (a b : Connector) → MatchOn right a b → b.caps ≡ a.caps
same_caps true a b m = sym m.capitals
same_caps false a b m = m.capitals

-- what meets a site stands in the cell of its capital letters
partner_in : (right : Bool) (most : ℕ) (gaps : Gaps) (i : ℕ) (table : Table Site) (s : Site) (d j class : ℕ) (cell : List Site) → j ≡ across right i d → class ≡ class_of s.connector.caps → ((x : Site) → Contains cell x ↔ Stands table j class x)
    → (p : HasPartner right most gaps i table s d) → Contains cell p.0
partner_in right most gaps i table s d j class cell ej ec at p =
    let x = p.0 in
    let is = p.2 in
    let e : class_of x.connector.caps ≡ class = ap class_of (same_caps right s.connector x.connector is.match_at) ∙ sym ec in
    (at x).1 (subst (λ z. Stands table j z x) e (subst (λ z. Stands table z (class_of x.connector.caps) x) (sym ej) p.1))

pub partner_there : (right : Bool) (most : ℕ) (gaps : Gaps) (i : ℕ) (table : Table Site) (s : Site) (d j class : ℕ) (cell : List Site) → j ≡ across right i d → class ≡ class_of s.connector.caps → ((x : Site) → Contains cell x ↔ Stands table j class x)
    → HasPartner right most gaps i table s d → Any (IsPartner right most gaps i d s) cell
partner_there right most gaps i table s d j class cell ej ec at p = let c = partner_in right most gaps i table s d j class cell ej ec at p in (c.0, p.0, c.1, c.2, p.2)

-- no partner is there where the cell has no site
pub none_there : (right : Bool) (most : ℕ) (gaps : Gaps) (i : ℕ) (table : Table Site) (s : Site) (d j class : ℕ) (cell : List Site) → j ≡ across right i d → class ≡ class_of s.connector.caps → ((x : Site) → Contains cell x ↔ Stands table j class x)
    → length cell ≡ 0 → HasPartner right most gaps i table s d → ⊥
none_there right most gaps i table s d j class cell ej ec at none p = let c = partner_in right most gaps i table s d j class cell ej ec at p in let w = c.1 in omega arith

-- a site is a partner where it meets this one, and the link may be the nearest where it is to be
pub partner_met : (right : Bool) (most : ℕ) (gaps : Gaps) (i : ℕ) (s : Site) (d : ℕ) (cell : List Site) (near lone r : Bool) → ((near ≡ true) ↔ (s.nearest ≡ true → MaySpan right gaps i d)) → near ≡ true
    → ((lone ≡ true) ↔ MayBeLone right most gaps i d s.nearest) → ((r ≡ true) ↔ Any (MeetsOver right lone d s) cell) → (r ≡ true) ↔ Any (IsPartner right most gaps i d s) cell
partner_met right most gaps i s d cell near lone r may is one found = (
  λ t. (let a = found.0 t in let m = a.4 in
      (a.0, a.1, a.2, a.3, record { from = m.from; end = m.end; own = may.0 is; lone = λ n. one.0 (m.nearest n); later = m.later; before = m.before; behind = m.behind; beyond = m.beyond; match_at = m.match_at })),
  λ a. (let m = a.4 in
      found.1 (a.0, a.1, a.2, a.3, record { from = m.from; end = m.end; nearest = λ n. one.1 (m.lone n); later = m.later; before = m.before; behind = m.behind; beyond = m.beyond; match_at = m.match_at })),
)

-- none is a partner over a gap that is shut
pub shut_off : (right : Bool) (most : ℕ) (gaps : Gaps) (i : ℕ) (s : Site) (d : ℕ) (cell : List Site) (near : Bool) → ((near ≡ true) ↔ (s.nearest ≡ true → MaySpan right gaps i d)) → near ≡ false
    → Any (IsPartner right most gaps i d s) cell → ⊥
shut_off right most gaps i s d cell near iff off a = let f : ◌≡◌ {A = Bool} true false = sym (iff.1 a.4.own) ∙ off in absurd cc

-- the sites of a list before anything is known
pub record StartedUpTo (cs : List Connector) (end p : ℕ) (sites : List Site) : Type 0 where
  pub long : length sites ≡ p
  pub each : (q : ℕ) (s : Site) → slice_get sites q ≡ Some s → IsStarted cs end q s

pub started_more : (cs : List Connector) (end p : ℕ) (now new : List Site) (s : Site) → new ≡ now ++ s ∷ [] → IsStarted cs end p s → StartedUpTo cs end p now → StartedUpTo cs end (p + 1) new
started_more cs end p now new s e is a = subst (λ z. StartedUpTo cs end (p + 1) z) (sym e) (record {
  long = length-append now (s ∷ []) ∙ ap (λ z. z + 1) a.long;
  each = λ q t at.
      let l = a.long in
      let w = slice_get_within (now ++ s ∷ []) q t at in
      let n = length-append now (s ∷ []) in
      elim (cases_lt q p) [
        | inl h ↦ (let front : slice_get (now ++ s ∷ []) q ≡ slice_get now q = grind (arith, elements) in a.each q t (sym front ∙ at))
        | inr h ↦ (let eq : q ≡ p = omega arith in
            let last : slice_get (now ++ s ∷ []) q ≡ Some s = grind (arith, elements) in
            let es : s ≡ t = same_Some s t (sym last ∙ at) in
            subst (λ z. IsStarted cs end q z) es (subst (λ z. IsStarted cs end z s) (sym eq) is))
      ];
})

pub record AllStartedUpTo (right : Bool) (n : ℕ) (sides : List Side) (k : ℕ) (lists : List (List Site)) : Type 0 where
  pub long : length lists ≡ k
  pub each : (j : ℕ) (side : Side) → j < k → slice_get sides j ≡ Some side → (end : ℕ) × IsReach right n side.position end × (sites : List Site) × (slice_get lists j ≡ Some sites) × AreStarted side.list.now end sites

pub all_started_more : (right : Bool) (n : ℕ) (sides : List Side) (k : ℕ) (now new : List (Vec Site)) (side : Side) (end : ℕ) (v : Vec Site) → new ≡ now ++ v ∷ [] → slice_get sides k ≡ Some side → IsReach right n side.position end
    → AreStarted side.list.now end v.items → AllStartedUpTo right n sides k (items_in now) → AllStartedUpTo right n sides (k + 1) (items_in new)
all_started_more right n sides k now new side end v e at reach is a =
    let same : items_in new ≡ items_in now ++ v.items ∷ [] = ap items_in e ∙ map-append items_of now (v ∷ []) in
    subst (λ z. AllStartedUpTo right n sides (k + 1) z) (sym same) (record {
      long = length-append (items_in now) (v.items ∷ []) ∙ ap (λ z. z + 1) a.long;
      each = λ j d w atj.
          let l = a.long in
          elim (cases_lt j k) [
            | inl h ↦ (let ls = items_in now in
                let front : slice_get (ls ++ v.items ∷ []) j ≡ slice_get ls j = grind (arith, elements) in
                let r = a.each j d h atj in (r.0, r.1, r.2, front ∙ r.3, r.4))
            | inr h ↦ (let eq : j ≡ k = omega arith in
                let ls = items_in now in
                let last : slice_get (ls ++ v.items ∷ []) j ≡ Some v.items = grind (arith, elements) in
                let es : side ≡ d = same_Some side d (sym at ∙ subst (λ z. slice_get sides z ≡ Some d) eq atj) in (
                  end,
                  subst (λ z. IsReach right n z.position end) es reach,
                  v.items,
                  last,
                  subst (λ z. AreStarted z.list.now end v.items) es is,
                ))
          ];
    })
