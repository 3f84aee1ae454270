-- The least of a number and of others, part by part.
use Rattle.std.proofs.Common.{◌≡◌, ◌↔◌, ◌⊎◌, ℕ, ◌≤◌, inl, inr, refl, sym, subst, Option, Some, None, arith}
use Rattle.lg_fewest.specs.Least.{IsLeast, IsWithin, Lowers}

module _ (A : ℕ → Type 0) where
  -- where each number is as great as what is there, nothing changes
  pub lowers_same : (old : Option ℕ) → ((m : ℕ) → A m → IsWithin old m) → Lowers A old old
  lowers_same old over = record { kept = λ m w. w; all = over; one_of = λ m e. inl e }

  pub lowers_none : (old : Option ℕ) → ((m : ℕ) → A m → ⊥) → Lowers A old old
  lowers_none old none = lowers_same old (λ m has. absurd (none m has))

  pub lowers_as : (B : ℕ → Type 0) (old new : Option ℕ) → ((m : ℕ) → A m ↔ B m) → Lowers A old new → Lowers B old new
  lowers_as B old new same l = record {
    kept = l.kept;
    all = λ m has. l.all m ((same m).1 has);
    one_of = λ m e. elim (l.one_of m e) [ inl was ↦ inl was | inr has ↦ inr ((same m).0 has) ];
  }

  -- those of two properties, one after another
  pub lowers_then : (B C : ℕ → Type 0) (old mid new : Option ℕ) → ((m : ℕ) → C m ↔ (A m ⊎ B m)) → Lowers A old mid → Lowers B mid new → Lowers C old new
  lowers_then B C old mid new either l k = record {
    kept = λ m w. k.kept m (l.kept m w);
    all = λ m has. elim ((either m).0 has) [ inl a ↦ k.kept m (l.all m a) | inr b ↦ k.all m b ];
    one_of = λ m e. elim (k.one_of m e) [
      | inl was ↦ elim (l.one_of m was) [ inl first ↦ inl first | inr a ↦ inr ((either m).1 (inl a)) ]
      | inr b ↦ inr ((either m).1 (inr b))
    ];
  }

  -- of nothing and of a property it is the least that has the property
  pub least_of : (new : Option ℕ) → Lowers A None new → IsLeast A new
  least_of None l = λ m has. l.all m has
  least_of (Some m) l = (of (l.one_of m refl), λ k has. l.all k has)
    where
      of : (None ≡ Some m) ⊎ A m → A m
      of (inl never) = absurd cc
      of (inr has) = has

  -- nothing is less than 0
  pub least_zero : (B : ℕ → Type 0) (new : Option ℕ) → ((m : ℕ) → A m → B m) → Lowers A None new → IsWithin new 0 → IsLeast B new
  least_zero B None more l w = absurd w
  least_zero B (Some m) more l w = (more m (least_of (Some m) l).0, λ k has. let z = w in omega arith)

-- no more than one number, so no more than a greater one
pub within_more : (o : Option ℕ) (k m : ℕ) → k ≤ m → IsWithin o k → IsWithin o m
within_more None k m le w = w
within_more (Some z) k m le w = let h = w in omega arith

-- a number that is least with a property
pub lowers_by : (A : ℕ → Type 0) (old new : Option ℕ) (least : ℕ) → A least → ((m : ℕ) → A m → least ≤ m) → Lowers (λ m. m ≡ least) old new → Lowers A old new
lowers_by A old new least has none l = record {
  kept = l.kept;
  all = λ m a. within_more new least m (none m a) (l.all least refl);
  one_of = λ m e. elim (l.one_of m e) [ inl was ↦ inl was | inr same ↦ inr (subst A (sym same) has) ];
}
