-- The disjuncts that a good linkage chooses support themselves.
use Rattle.std.proofs.Common.{◌≡◌, ℕ, zero, suc, ◌+◌, ◌-◌, ◌<◌, ◌≤◌, List, [], ◌∷◌, length, get_or, refl, sym, ap, ◌∙◌, subst, Option, Some, None, inl, inr, Contains, arith}
use Rattle.std.specs.List.{slice_get}
use Rattle.std.proofs.lemmas.Option.{same_Some, slice_get_within}
use Rattle.std.proofs.lemmas.List.Elements.{Contains-append_right, Contains-append_cases, Contains-push_cases}
use Rattle.lg_gram.specs.Connectors.{Connector}
use Rattle.lg_gram.specs.Linkages.{Linkage}
use Rattle.lg_gram.specs.Rules.{chosen_at, left_list, right_list, rights_of, lefts_of, HasLink, Rules, Good}
use Rattle.lg_gram.specs.declared.disjunct.Disjunct.{Disjunct}
use Rattle.lg_gram.specs.declared.linkage.Link.{Link}
use Rattle.lg_pprune.specs.Alive.{ArePartners, KeepsItself, IsAlive, PruningKeepsLinkages}
use Rattle.lg_member.proofs.Linked.{linked_at}
use Rattle.lg_pprune.proofs.Elements.{get_in}

-- the linked positions from i on, with their disjuncts
abbrev pub chosen_from : ℕ → List (Option Disjunct) → List (ℕ × Disjunct)
chosen_from i [] = []
chosen_from i (None ∷ os) = chosen_from (suc i) os
chosen_from i (Some d ∷ os) = (i, d) ∷ chosen_from (suc i) os

chosen_in : (i : ℕ) (os : List (Option Disjunct)) (k j : ℕ) (d : Disjunct) → j ≡ i + k → get_or os k None ≡ Some d → Contains (chosen_from i os) (j, d)
chosen_in i [] k j d f e = absurd cc
chosen_in i (None ∷ os) zero j d f e = absurd cc
chosen_in i (None ∷ os) (suc k) j d f e = chosen_in (suc i) os k j d (omega arith) e
chosen_in i (Some c ∷ os) zero j d f e = let ei : i ≡ j = omega arith in let ec = same_Some c d e in (zero, omega arith, λ t. (ei t, ec t))
chosen_in i (Some c ∷ os) (suc k) j d f e = Contains-append_right ((i, c) ∷ []) (chosen_from (suc i) os) (j, d) (chosen_in (suc i) os k j d (omega arith) e)

chosen_out : (i : ℕ) (os : List (Option Disjunct)) (x : ℕ × Disjunct) → Contains (chosen_from i os) x → (k : ℕ) × (x.0 ≡ i + k) × (get_or os k None ≡ Some x.1)
chosen_out i [] x c = absurd (let l = c.1 in omega arith)
chosen_out i (None ∷ os) x c = let r = chosen_out (suc i) os x c in let e = r.1 in (suc r.0, omega arith, r.2)
chosen_out i (Some d ∷ os) x c =
    elim (Contains-append_cases ((i, d) ∷ []) (chosen_from (suc i) os) x c) [
      | inl o ↦ elim (Contains-push_cases [] (i, d) x o) [
        | inl n ↦ absurd (let l = n.1 in omega arith)
        | inr e ↦ (let f : i ≡ x.0 = ap (λ z. z.0) e in (zero, omega arith, ap (λ z. Some z.1) e))
      ]
      | inr h ↦ (let r = chosen_out (suc i) os x h in let e = r.1 in (suc r.0, omega arith, r.2))
    ]

abbrev Kept : Linkage → Type 0
Kept g = Rules (rights_of g) (lefts_of g) (HasLink g)

-- the links of the places before take a position each
before_right : (g : Linkage) → Kept g → (p : ℕ) (l : Link) → HasLink g l → l.lplace ≡ p → l.left + p + 1 ≤ l.right
before_right g r zero l h e = let f = r.matched.forward l h in omega arith
before_right g r (suc p) l h e =
    let m = r.matched.joins l h in
    let w = slice_get_within (rights_of g l.left) l.lplace m.0 m.2 in
    let c = get_in (rights_of g l.left) p (omega arith) in
    let s = (r.satisfied.on_right l.left p c.0 c.1).some in
    let k = s.0 in
    let at = s.2 in
    let place = s.3 in
    let o = r.ordered.on_right k l s.1 h s.2 (omega arith) in
    let b = before_right g r p k s.1 s.3 in
    omega arith

before_left : (g : Linkage) → Kept g → (q : ℕ) (l : Link) → HasLink g l → l.rplace ≡ q → l.left + q + 1 ≤ l.right
before_left g r zero l h e = let f = r.matched.forward l h in omega arith
before_left g r (suc q) l h e =
    let m = r.matched.joins l h in
    let w = slice_get_within (lefts_of g l.right) l.rplace m.1 m.3 in
    let c = get_in (lefts_of g l.right) q (omega arith) in
    let s = (r.satisfied.on_left l.right q c.0 c.1).some in
    let k = s.0 in
    let at = s.2 in
    let place = s.3 in
    let o = r.ordered.on_left k l s.1 h s.2 (omega arith) in
    let b = before_left g r q k s.1 s.3 in
    omega arith

-- and so do those of the places behind
behind_right : (g : Linkage) → Kept g → (k p : ℕ) (l : Link) → HasLink g l → l.lplace ≡ p → p + k + 1 ≡ length (rights_of g l.left) → l.right + k < length g.chosen
behind_right g r zero p l h e f =
    let m = r.matched.joins l h in
    let w = (linked_at left_list refl g.chosen l.right l.rplace m.1 m.3).2 in
    omega arith
behind_right g r (suc k) p l h e f =
    let c = get_in (rights_of g l.left) (suc p) (omega arith) in
    let s = (r.satisfied.on_right l.left (suc p) c.0 c.1).some in
    let at = ap (λ z. length (rights_of g z)) s.2 in
    let place = s.3 in
    let o = r.ordered.on_right l s.0 h s.1 (sym s.2) (omega arith) in
    let b = behind_right g r k (suc p) s.0 s.1 s.3 (omega arith) in
    omega arith

behind_left : (g : Linkage) → Kept g → (k q : ℕ) (l : Link) → HasLink g l → l.rplace ≡ q → q + k + 1 ≡ length (lefts_of g l.right) → k ≤ l.left
behind_left g r zero q l h e f = omega arith
behind_left g r (suc k) q l h e f =
    let c = get_in (lefts_of g l.right) (suc q) (omega arith) in
    let s = (r.satisfied.on_left l.right (suc q) c.0 c.1).some in
    let at = ap (λ z. length (lefts_of g z)) s.2 in
    let place = s.3 in
    let o = r.ordered.on_left l s.0 h s.1 (sym s.2) (omega arith) in
    let b = behind_left g r k (suc q) s.0 s.1 s.3 (omega arith) in
    omega arith

-- what a link joins are partners
link_partners : (g : Linkage) → Kept g → (n : ℕ) (l : Link) → HasLink g l → length g.chosen ≡ n → (i p j q : ℕ) (a b : Disjunct) → l.left ≡ i → l.lplace ≡ p → l.right ≡ j → l.rplace ≡ q
    → chosen_at g i ≡ Some a → chosen_at g j ≡ Some b → ArePartners n i a p j b q
link_partners g r n l h en i p j q a b ei ep ej eq ea eb =
    let m = r.matched.joins l h in
    let right : rights_of g l.left ≡ a.right = ap (λ z. rights_of g z) ei ∙ ap right_list ea in
    let left : lefts_of g l.right ≡ b.left = ap (λ z. lefts_of g z) ej ∙ ap left_list eb in
    let x : slice_get a.right p ≡ Some m.0 = subst (λ z. slice_get a.right z ≡ Some m.0) ep (subst (λ z. slice_get z l.lplace ≡ Some m.0) right m.2) in
    let y : slice_get b.left q ≡ Some m.1 = subst (λ z. slice_get b.left z ≡ Some m.1) eq (subst (λ z. slice_get z l.rplace ≡ Some m.1) left m.3) in
    let wx = slice_get_within a.right p m.0 x in
    let wy = slice_get_within b.left q m.1 y in
    let lx = ap length right in
    let ly = ap length left in
    let s = before_right g r p l h ep in
    let t = before_left g r q l h eq in
    let u = behind_right g r (length a.right - (p + 1)) p l h ep (omega arith) in
    let v = behind_left g r (length b.left - (q + 1)) q l h eq (omega arith) in
    record { match_at = (m.0, m.1, x, y, m.4); between = omega arith; to_right = omega arith; to_left = omega arith }

chosen_is : (g : Linkage) (i : ℕ) (d : Disjunct) → Contains (chosen_from 0 g.chosen) (i, d) → chosen_at g i ≡ Some d
chosen_is g i d c =
    let r = chosen_out 0 g.chosen (i, d) c in
    let e : r.0 ≡ i = (let f = r.1 in omega arith) in
    subst (λ z. get_or g.chosen z None ≡ Some d) e r.2

-- the list is given with the choice, so that a place of it is one of the side
on_side : (side : Option Disjunct → List Connector) (g : Linkage) (i p : ℕ) (d : Disjunct) (c : Connector) → chosen_at g i ≡ Some d → slice_get (side (Some d)) p ≡ Some c → slice_get (side (chosen_at g i)) p ≡ Some c
on_side side g i p d c e h = subst (λ z. slice_get (side z) p ≡ Some c) (sym e) h

supports : (positions : List (List Disjunct)) (g : Linkage) → Good positions g → KeepsItself positions (chosen_from 0 g.chosen)
supports positions g good = record {
  listed = λ i d c. good.belongs.listed i d (chosen_is g i d c);
  right = λ i a p c w.
      let e = chosen_is g i a c in
      let x = get_in a.right p w in
      let s = (good.rules.satisfied.on_right i p x.0 (on_side right_list g i p a x.0 e x.1)).some in
      let m = good.rules.matched.joins s.0 s.1 in
      let o = linked_at left_list refl g.chosen s.0.right s.0.rplace m.1 m.3 in (
        s.0.right,
        o.0,
        s.0.rplace,
        chosen_in 0 g.chosen s.0.right s.0.right o.0 (omega arith) o.1,
        link_partners g good.rules (length positions) s.0 s.1 good.belongs.same_length i p s.0.right s.0.rplace a o.0 s.2 s.3 refl refl e o.1,
      );
  left = λ j b q c w.
      let e = chosen_is g j b c in
      let x = get_in b.left q w in
      let s = (good.rules.satisfied.on_left j q x.0 (on_side left_list g j q b x.0 e x.1)).some in
      let m = good.rules.matched.joins s.0 s.1 in
      let o = linked_at right_list refl g.chosen s.0.left s.0.lplace m.0 m.2 in (
        s.0.left,
        o.0,
        s.0.lplace,
        chosen_in 0 g.chosen s.0.left s.0.left o.0 (omega arith) o.1,
        link_partners g good.rules (length positions) s.0 s.1 good.belongs.same_length s.0.left s.0.lplace j q o.0 b refl refl s.2 s.3 o.1 e,
      );
}

chosen_alive : (positions : List (List Disjunct)) (g : Linkage) → Good positions g → (i : ℕ) (d : Disjunct) → chosen_at g i ≡ Some d → IsAlive positions i d
chosen_alive positions g good i d e = (chosen_from 0 g.chosen, supports positions g good, chosen_in 0 g.chosen i i d (omega arith) e)

alive_listed : (positions : List (List Disjunct)) (i : ℕ) (d : Disjunct) → IsAlive positions i d → Contains (get_or positions i []) d
alive_listed positions i d a = a.1.listed i d a.2

pub keeps_linkages : PruningKeepsLinkages
keeps_linkages positions pruned is g = (
  (λ good. record {
    belongs = record {
      same_length = good.belongs.same_length ∙ sym is.same_length;
      listed = λ i d e. (is.exactly i d).1 (chosen_alive positions g good i d e);
      set = good.belongs.set;
    };
    rules = good.rules;
    connected = good.connected;
  }),
  (λ good. record {
    belongs = record {
      same_length = good.belongs.same_length ∙ is.same_length;
      listed = λ i d e. alive_listed positions i d ((is.exactly i d).0 (good.belongs.listed i d e));
      set = good.belongs.set;
    };
    rules = good.rules;
    connected = good.connected;
  }),
)
