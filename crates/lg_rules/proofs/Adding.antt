-- What is added to a list, in parts.
use Rattle.std.proofs.Common.{◌≡◌, ◌↔◌, List, [], ◌∷◌, ◌++◌, subst, inl, inr, ◌⊎◌}
use Rattle.std.specs.List.{Contains}
use Rattle.std.proofs.lemmas.List.Elements.{Contains-append_left, Contains-push, Contains-push_cases}
use Rattle.lg_gram.specs.Linkages.{Linkage}
use Rattle.lg_rules.specs.Steps.{Adds}

pub adds_none : (Q : Linkage → Type 0) (old : List Linkage) → ((g : Linkage) → Q g → ⊥) → Adds Q old old
unfolding Adds
adds_none Q old bad g = (λ h. inl h, λ h. elim h [ inl i ↦ i | inr q ↦ absurd (bad g q) ])

pub adds_one : (Q : Linkage → Type 0) (old : List Linkage) (x : Linkage) → Q x → ((g : Linkage) → Q g → x ≡ g) → Adds Q old (old ++ x ∷ [])
unfolding Adds
adds_one Q old x here only g = (
  λ h. elim (Contains-push_cases old x g h) [ inl i ↦ inl i | inr e ↦ inr (subst Q e here) ],
  λ h. elim h [ inl i ↦ Contains-append_left old (x ∷ []) g i | inr q ↦ subst (λ z. Contains (old ++ x ∷ []) z) (only g q) (Contains-push old x) ],
)

pub adds_then : (P Q R : Linkage → Type 0) (a b c : List Linkage) → Adds P a b → Adds Q b c → ((g : Linkage) → R g ↔ (P g ⊎ Q g)) → Adds R a c
unfolding Adds
adds_then P Q R a b c p q r g = (
  λ h. elim ((q g).0 h) [
    | inl i ↦ elim ((p g).0 i) [ inl j ↦ inl j | inr j ↦ inr ((r g).1 (inl j)) ]
    | inr i ↦ inr ((r g).1 (inr i))
  ],
  λ h. elim h [
    | inl i ↦ (q g).1 (inl ((p g).1 (inl i)))
    | inr i ↦ elim ((r g).0 i) [ inl j ↦ (q g).1 (inl ((p g).1 (inr j))) | inr j ↦ (q g).1 (inr j) ]
  ],
)

pub adds_same : (P R : Linkage → Type 0) (a b : List Linkage) → Adds P a b → ((g : Linkage) → R g ↔ P g) → Adds R a b
unfolding Adds
adds_same P R a b p r g = (
  λ h. elim ((p g).0 h) [ inl i ↦ inl i | inr i ↦ inr ((r g).1 i) ],
  λ h. elim h [ inl i ↦ (p g).1 (inl i) | inr i ↦ (p g).1 (inr ((r g).0 i)) ],
)
