-- Which sides members have.
use Rattle.std.proofs.Common.{◌≡◌, ℕ, ◌+◌, ◌<◌, List, [], ◌∷◌, ◌++◌, length, get_or, set, take, sym, ap, ◌∙◌, subst, Some, inl, inr, Bool, true, false, cond, arith}
use Rattle.std.specs.List.{slice_get, All}
use Rattle.std.proofs.lemmas.Bool.{cases_eq}
use Rattle.std.proofs.lemmas.Option.{slice_get_within}
use Rattle.std.proofs.lemmas.List.{length-set, take_more}
use Rattle.std.proofs.lemmas.List.Elements.{Contains-append_left, Contains-push, Contains-push_cases}
use Rattle.std.proofs.lemmas.Grind.{elements}
use Rattle.lg_member.specs.Members.{formed, list_on, side_on, IsSideAt, IsKnown, AreUsed}
use Rattle.lg_member.specs.declared.side.Side.{Side}
use Rattle.lg_member.specs.declared.member.Member.{Member}

taken : (ms : List Member) (i : ℕ) (m : Member) → i < length ms → m ≡ get_or ms i m → take i ms ++ m ∷ [] ≡ take (i + 1) ms
taken ms i m h e = subst (λ z. take i ms ++ z ∷ [] ≡ take (i + 1) ms) (sym e) (sym (take_more ms i m h))

pub used_more : (right : Bool) (count : ℕ) (ms : List Member) (i : ℕ) (m : Member) (k : ℕ) (used : List Bool) → i < length ms → m ≡ get_or ms i m → k ≡ side_on right m → k < count
    → AreUsed right count (take i ms) used → AreUsed right count (take (i + 1) ms) (set used k true)
used_more right count ms i m k used h em ek l a =
    let le = a.length_is in
    let at : slice_get (set used k true) k ≡ Some true = grind (arith, elements) in
    subst (λ z. AreUsed right count z (set used k true)) (taken ms i m h em) (record {
      length_is = length-set used k true ∙ a.length_is;
      each = λ j. elim (cases_eq k j) [
        | inl e ↦ ((λ g. (m, Contains-push (take i ms) m, sym ek ∙ e)), (λ r. subst (λ z. slice_get (set used k true) z ≡ Some true) e at))
        | inr n ↦ (let g : slice_get (set used k true) j ≡ slice_get used j = grind (arith, elements) in (
          (λ b. let r = (a.each j).0 (sym g ∙ b) in (r.0, Contains-append_left (take i ms) (m ∷ []) r.0 r.1, r.2)),
          (λ r. elim (Contains-push_cases (take i ms) m r.0 r.1) [
            | inl c ↦ g ∙ (a.each j).1 (r.0, c, r.2)
            | inr e ↦ absurd (n (ek ∙ ap (λ z. side_on right z) e ∙ r.2))
          ]),
        ))
      ];
    })

-- the known side of a member
side_known : (right : Bool) (lefts rights : List Side) (m : Member) → IsKnown lefts rights m → IsSideAt (cond right rights lefts) (side_on right m) m.position (list_on right (formed m.form))
side_known true lefts rights m k = k.right
side_known false lefts rights m k = k.left

side_below : (right : Bool) (lefts rights : List Side) (ms : List Member) → All (IsKnown lefts rights) ms → All (λ m. side_on right m < length (cond right rights lefts)) ms
side_below right lefts rights ms known = λ k d h.
    let s = side_known right lefts rights (get_or ms k d) (known k d h) in slice_get_within (cond right rights lefts) (side_on right (get_or ms k d)) s.side s.at

pub below_at : (right : Bool) (lefts rights : List Side) (ms : List Member) (i : ℕ) (m : Member) (k : ℕ) → i < length ms → m ≡ get_or ms i m → k ≡ side_on right m → All (IsKnown lefts rights) ms
    → k < length (cond right rights lefts)
below_at right lefts rights ms i m k h e ek known =
    let w = side_below right lefts rights ms known i m h in
    let f = ap (λ z. side_on right z) e in
    omega arith
