-- What the lists on the other side need is noted at sites.
use Rattle.std.proofs.Common.{◌≡◌, ℕ, ◌+◌, ◌<◌, ◌≤◌, List, [], length, set, get_or, sym, ◌∙◌, subst, Some, inl, inr, Bool, not, arith}
use Rattle.std.specs.List.{slice_get}
use Rattle.std.proofs.lemmas.Bool.{cases_eq, cases_lt}
use Rattle.std.proofs.lemmas.Option.{same_Some, slice_get_within}
use Rattle.std.proofs.lemmas.Grind.{elements}
use Rattle.std.proofs.lemmas.List.{length-set}
use Rattle.lg_member.specs.Members.{side_on}
use Rattle.lg_member.specs.declared.member.Member.{Member}
use Rattle.lg_sharpen.specs.Sites.{place_on}
use Rattle.lg_sharpen.specs.Needs.{IsFar, IsFarAt, LowersAt}
use Rattle.lg_sharpen.specs.Bounds.{Needs, Allows, Covers, SetsNeed, SetsNeeds}
use Rattle.lg_sharpen.specs.declared.site.Site.{Site}
use Rattle.lg_sharpen.proofs.Rows.{past}

far_lower : (sites : List Site) (r n : ℕ) → n ≤ r → IsFar sites r → IsFar sites n
far_lower sites r n le (inl z) = inl (omega arith)
far_lower sites r n le (inr (p, s, at, x)) = inr (p, s, at, omega arith)

pub far_is : (sites : List Site) (p : ℕ) (s : Site) → slice_get sites p ≡ Some s → IsFar sites s.span.from
far_is sites p s at = inr (p, s, at, omega arith)

pub lowers_none : (k x : ℕ) (needs : List ℕ) → length needs ≤ k → LowersAt k x needs needs
lowers_none k x needs h = record { lower = λ j. omega arith; noted = let none = past needs k 0 h in omega arith }

-- the needs of the first members are noted
pub record NeedsUpTo (right : Bool) (others : List (List Site)) (ms : List Member) (k : ℕ) (needs : List ℕ) : Type 0 where
  pub each : (j : ℕ) (m : Member) → j < k → slice_get ms j ≡ Some m → IsFarAt others (side_on (not right) m) (get_or needs (side_on right m) 0)

pub needs_more : (right : Bool) (others : List (List Site)) (ms : List Member) (k r a b : ℕ) (now new : List ℕ) (m : Member) → slice_get ms k ≡ Some m → a ≡ side_on (not right) m → b ≡ side_on right m → IsFarAt others a r → LowersAt b r now new
    → NeedsUpTo right others ms k now → NeedsUpTo right others ms (k + 1) new
needs_more right others ms k r a b now new m at ea eb far low t = record {
  each = λ j x l atj. elim (cases_lt j k) [
    | inl h ↦ far_lower (get_or others (side_on (not right) x) []) (get_or now (side_on right x) 0) (get_or new (side_on right x) 0) (low.lower (side_on right x)) (t.each j x h atj)
    | inr h ↦ (let e : j ≡ k = omega arith in
        let same : m ≡ x = same_Some m x (sym at ∙ subst (λ z. slice_get ms z ≡ Some x) e atj) in
        let here : IsFarAt others (side_on (not right) m) r = subst (λ z. IsFarAt others z r) ea far in
        let less : get_or new (side_on right m) 0 ≤ r = subst (λ z. get_or new z 0 ≤ r) eb low.noted in
        subst (λ z. IsFarAt others (side_on (not right) z) (get_or new (side_on right z) 0)) same (far_lower (get_or others (side_on (not right) m) []) r (get_or new (side_on right m) 0) less here))
  ];
}

-- the first sites have the need
pub record SetUpTo (n : ℕ) (old new : List Site) : Type 0 where
  pub long : length new ≡ length old
  pub sets : SetsNeed n old new

pub set_more : (n p : ℕ) (old now : List Site) (s r : Site) → slice_get now p ≡ Some s → r ≡ record { connector = s.connector; span = s.span; nearest = s.nearest; later = s.later; before = s.before; behind = s.behind; need = n }
    → SetUpTo n old now → SetUpTo n old (set now p r)
set_more n p old now s r at is t = record {
  long = length-set now p r ∙ t.long;
  sets = λ g right i need cov.
      let v = t.sets g right i need cov in
      let w = slice_get_within now p s at in
      record {
        same_length = length-set now p r ∙ v.same_length;
        each = λ l h o.
            let x = v.each l h o in
            elim (cases_eq p (place_on right l)) [
              | inl e ↦ (let q = place_on right l in
                  let new : slice_get (set now p r) q ≡ Some r = grind (arith, elements) in
                  let es : x.0 ≡ s = same_Some x.0 s (sym x.1 ∙ subst (λ z. slice_get now z ≡ Some s) e at) in
                  let a : Allows g right l s = subst (λ z. Allows g right l z) es x.2 in
                  (r, new, subst (λ z. Allows g right l z) (sym is) (record { connector = a.connector; from = a.from; end = a.end; nearest = a.nearest; later = a.later; before = a.before; need = subst (λ z. Needs g right n z) (sym o) need })))
              | inr e ↦ (let q = place_on right l in let other : slice_get (set now p r) q ≡ slice_get now q = grind (arith, elements) in (x.0, other ∙ x.1, x.2))
            ];
      };
}

pub sets_more : (needs : List ℕ) (old now : List (List Site)) (k : ℕ) (u w : List Site) → slice_get now k ≡ Some u → SetsNeed (get_or needs k 0) u w → SetsNeeds needs old now → SetsNeeds needs old (set now k w)
sets_more needs old now k u w is n all = record {
  long = length-set now k w ∙ all.long;
  each = λ g right i j need cov.
      let v = all.each g right i j need cov in
      elim (cases_eq k j) [
        | inl e ↦ (let eu : v.0 ≡ u = same_Some v.0 u (sym v.1 ∙ subst (λ z. slice_get now z ≡ Some u) e is) in
            let inside = slice_get_within now k u is in
            let new : slice_get (set now k w) j ≡ Some w = grind (arith, elements) in
            (w, new, n g right i (subst (λ z. Needs g right (get_or needs z 0) i) (sym e) need) (subst (λ z. Covers g right i z) eu v.2)))
        | inr e ↦ (let other : slice_get (set now k w) j ≡ slice_get now j = grind (arith, elements) in (v.0, other ∙ v.1, v.2))
      ];
}
