-- What rounds keep.
use Rattle.std.proofs.Common.{◌≡◌, ℕ, ◌+◌, ◌≤◌, List, [], ◌∷◌, length, refl, sym, ap, ◌∙◌, subst, Bool, not, inl, inr, Contains, arith}
use Rattle.std.specs.List.{filter}
use Rattle.std.proofs.lemmas.Bool.{cases_Bool}
use Rattle.std.proofs.lemmas.List.Filters.{length-filter_both}
use Rattle.lg_gram.specs.declared.disjunct.Disjunct.{Disjunct}
use Rattle.lg_member.specs.Laws.{MembersGoByRounds}
use Rattle.lg_member.specs.Members.{formed, AreLeft, Have}
use Rattle.lg_member.specs.declared.member.Member.{Member}
use Rattle.lg_pprune.specs.Supports.{IsSupported, KeepsSupported, KeepsAlive}

-- a larger set supports more
supported_more : (n : ℕ) (S T : ℕ → Disjunct → Type 0) → ((i : ℕ) (d : Disjunct) → S i d → T i d) → (i : ℕ) (a : Disjunct) → IsSupported n S i a → IsSupported n T i a
supported_more n S T more i a s = (
  (λ p h. let r = s.0 p h in (r.0, r.1, r.2, more r.0 r.1 r.3, r.4)),
  (λ p h. let r = s.1 p h in (r.0, r.1, r.2, more r.0 r.1 r.3, r.4)),
)

-- a filter that takes nothing away keeps all
filter_whole : {X : Type 0} (p : X → Bool) (xs : List X) → length xs ≤ length (filter p xs) → filter p xs ≡ xs
filter_whole p [] h = refl
filter_whole p (x ∷ xs) h =
    elim (cases_Bool (p x)) [
      | inl t ↦ (let g = rw t at h in rw t (ap (λ z. x ∷ z) (filter_whole p xs (omega arith))))
      | inr t ↦ (let g = rw t at h in let l = length-filter_both p (λ y. not (p y)) (λ y. refl) xs in absurd (omega arith))
    ]

-- what holds while rounds go on: where a round took nothing away, all that is left is supported
pub record SettledSoFar (n : ℕ) (old now : List Member) (before : ℕ) : Type 0 where
  pub left : AreLeft old now
  pub fewer : length now ≤ before
  pub supported : before ≤ length now → (i : ℕ) (d : Disjunct) → Have now i d → IsSupported n (Have now) i d
  pub kept : (S : List (ℕ × Disjunct)) → ((i : ℕ) (d : Disjunct) → Contains S (i, d) → Have old i d × IsSupported n (λ j b. Contains S (j, b)) i d) → (i : ℕ) (d : Disjunct) → Contains S (i, d) → Have now i d

pub settled_none : MembersGoByRounds → (n : ℕ) (old now : List Member) (before : ℕ) → now ≡ old → before ≡ length old + 1 → SettledSoFar n old now before
settled_none law n old now before e h =
    let l = ap length e in
    record {
      left = subst (λ z. AreLeft old z) (sym e) (law.none old);
      fewer = omega arith;
      supported = λ g i d v. absurd (omega arith);
      kept = λ S each i d c. subst (λ z. Have z i d) (sym e) ((each i d c).0);
    }

kept_here : (n : ℕ) (now new : List Member) → KeepsSupported n now new → (S : ℕ → Disjunct → Type 0) → ((i : ℕ) (d : Disjunct) → S i d → Have now i d) → ((i : ℕ) (d : Disjunct) → S i d → IsSupported n S i d) → (i : ℕ)
    (d : Disjunct) → S i d → Have new i d
kept_here n now new k S inside support i d c =
    let v = inside i d c in
    let s = supported_more n S (Have now) inside i d (support i d c) in
    let t = subst (λ z. IsSupported n (Have now) v.0.position z) (sym v.3) (subst (λ z. IsSupported n (Have now) z d) (sym v.2) s) in
    (v.0, (k.exactly v.0).1 (v.1, t), v.2, v.3)

supported_here : (n : ℕ) (now new : List Member) → KeepsSupported n now new → length now ≤ length new → (i : ℕ) (d : Disjunct) → Have new i d → IsSupported n (Have new) i d
supported_here n now new k h i d v =
    let f = k.left.1.filtered in
    let l = ap length f in
    let e : new ≡ now = f ∙ filter_whole k.left.0 now (omega arith) in
    let s = ((k.exactly v.0).0 v.1).1 in
    subst (λ z. IsSupported n (Have z) i d) (sym e) (subst (λ z. IsSupported n (Have now) i z) v.3 (subst (λ z. IsSupported n (Have now) z (formed v.0.form)) v.2 s))

pub settled_more : MembersGoByRounds → (n : ℕ) (old now new : List Member) (before after : ℕ) → SettledSoFar n old now before → KeepsSupported n now new → after ≡ length now → SettledSoFar n old new after
settled_more law n old now new before after s k e =
    let l = ap length k.left.1.filtered in
    let f = length-filter_both k.left.0 (λ m. not (k.left.0 m)) (λ m. refl) now in
    record {
      left = law.more old now new s.left k.left;
      fewer = omega arith;
      supported = λ g i d v. supported_here n now new k (omega arith) i d v;
      kept = λ S each i d c. kept_here n now new k (λ j b. Contains S (j, b)) (s.kept S each) (λ j b x. (each j b x).1) i d c;
    }

pub settled_all : (n : ℕ) (old now : List Member) (before : ℕ) → SettledSoFar n old now before → before ≤ length now → KeepsAlive n old now
settled_all n old now before s h = record { left = s.left; supported = s.supported h; kept = s.kept }
