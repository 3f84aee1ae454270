-- The values of a list in the order in which they are first met are one list.
use Rattle.std.proofs.Common.{◌≡◌, ℕ, zero, suc, ◌<◌, ◌≤◌, inl, inr, refl, sym, ◌∙◌, subst, List, [], ◌∷◌, Option, Some, None, slice_get, arith}
use Rattle.std.proofs.lemmas.Bool.{cases_lt}
use Rattle.lg_region.specs.Fronts.{AreFirstMet}
use Rattle.lg_forest.proofs.Once.{place_of, contains_at}

module _ {A : Type 0} (all : List A) where
  -- what stands at i in one list stands at i or later in the other, where the two agree before i
  later : (a b : List A) (i : ℕ) (x : A) → AreFirstMet all a → AreFirstMet all b → ((j : ℕ) → j < i → slice_get a j ≡ slice_get b j) → slice_get a i ≡ Some x → (j : ℕ) × (i ≤ j) × (slice_get b j ≡ Some x)
  later a b i x fa fb before at =
      let p = place_of b x ((fb.same x).1 ((fa.same x).0 (contains_at a i x at))) in
      elim (cases_lt p.0 i) [
        | inl lt ↦ (let e = fa.once i p.0 x at (before p.0 lt ∙ p.1) in absurd (omega arith))
        | inr ge ↦ (p.0, ge, p.1)
      ]

  -- two values that are each met before the other are nowhere
  nowhere : (a b : List A) (i j k n q : ℕ) (x y : A) → AreFirstMet all a → AreFirstMet all b → slice_get a i ≡ Some x → slice_get b i ≡ Some y → i < j → slice_get b j ≡ Some x → i < k → slice_get a k ≡ Some y → q < n → slice_get all q ≡ Some x → ⊥
  nowhere a b i j k zero q x y fa fb ai bi ij bj ik ak lt at = omega arith
  nowhere a b i j k (suc n) q x y fa fb ai bi ij bj ik ak lt at =
      let p = fb.first i j q y x ij bi bj at in
      let r = fa.first i k p.0 x y ik ai ak p.2 in
      let pq = p.1 in
      let rp = r.1 in
      nowhere a b i j k n r.0 x y fa fb ai bi ij bj ik ak (omega arith) r.2

  same_value : (a b : List A) (i : ℕ) (x y : A) → AreFirstMet all a → AreFirstMet all b → ((j : ℕ) → j < i → slice_get a j ≡ slice_get b j) → slice_get a i ≡ Some x → slice_get b i ≡ Some y → ◌≡◌ {A = Option A} (Some x) (Some y)
  same_value a b i x y fa fb before ai bi =
      let j = later a b i x fa fb before ai in
      let k = later b a i y fb fa (λ m lt. sym (before m lt)) bi in
      let ge = j.1 in
      let ge' = k.1 in
      elim (cases_lt i j.0) [
        | inl ij ↦ elim (cases_lt i k.0) [
          | inl ik ↦ (let q = place_of all x ((fa.same x).0 (contains_at a i x ai)) in absurd (nowhere a b i j.0 k.0 (suc q.0) q.0 x y fa fb ai bi ij j.2 ik k.2 (omega arith) q.1))
          | inr ki ↦ (let e : k.0 ≡ i = omega arith in sym ai ∙ subst (λ z. slice_get a z ≡ Some y) e k.2)
        ]
        | inr ji ↦ (let e : j.0 ≡ i = omega arith in sym (subst (λ z. slice_get b z ≡ Some x) e j.2) ∙ bi)
      ]

  past : (b : List A) (i j : ℕ) (x : A) → slice_get b i ≡ None → i ≤ j → slice_get b j ≡ Some x → ⊥
  past [] i j x e le at = cc
  past (y ∷ b) zero j x e le at = cc
  past (y ∷ b) (suc i) zero x e le at = omega arith
  past (y ∷ b) (suc i) (suc j) x e le at = past b i j x e (omega arith) at

  same_at : (a b : List A) (i : ℕ) → AreFirstMet all a → AreFirstMet all b → ((j : ℕ) → j < i → slice_get a j ≡ slice_get b j) → (o p : Option A) → slice_get a i ≡ o → slice_get b i ≡ p → o ≡ p
  same_at a b i fa fb before None None ea eb = refl
  same_at a b i fa fb before (Some x) (Some y) ea eb = same_value a b i x y fa fb before ea eb
  same_at a b i fa fb before (Some x) None ea eb = let j = later a b i x fa fb before ea in absurd (past b i j.0 x eb j.1 j.2)
  same_at a b i fa fb before None (Some y) ea eb = let j = later b a i y fb fa (λ m lt. sym (before m lt)) eb in absurd (past a i j.0 y ea j.1 j.2)

  same_before : (a b : List A) → AreFirstMet all a → AreFirstMet all b → (n i : ℕ) → i < n → slice_get a i ≡ slice_get b i
  same_before a b fa fb zero i lt = absurd (omega arith)
  same_before a b fa fb (suc n) i lt = same_at a b i fa fb (λ j l. same_before a b fa fb n j (omega arith)) (slice_get a i) (slice_get b i) refl refl

  same_list : (a b : List A) → ((i : ℕ) → slice_get a i ≡ slice_get b i) → a ≡ b
  same_list [] [] same = refl
  same_list [] (y ∷ b) same = absurd (let e = same zero in cc)
  same_list (x ∷ a) [] same = absurd (let e = same zero in cc)
  same_list (x ∷ a) (y ∷ b) same = let e = same zero in let f = same_list a b (λ i. same (suc i)) in cc

  pub first_met_same : (a b : List A) → AreFirstMet all a → AreFirstMet all b → a ≡ b
  first_met_same a b fa fb = same_list a b (λ i. same_before a b fa fb (suc i) i (omega arith))
