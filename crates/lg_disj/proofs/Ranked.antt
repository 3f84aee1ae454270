-- Ranks compare as what they rank.
use Rattle.std.proofs.Common.{◌≡◌, ℕ, zero, suc, ◌+◌, ◌<◌, ◌≤◌, true, false, List, [], ◌∷◌, ◌++◌, length, get_or, length-append, refl, sym, ap, subst, ◌∙◌, inl, inr, arith, is_lt, Less, Equal, Greater}
use Rattle.std.specs.Prelude.{◌⊎◌}
use Rattle.std.specs.declared.cmp.Ordering.{Ordering}
use Rattle.std.specs.Ordering.{ordering_reverse, MatchOrdering}
use Rattle.std.specs.Cmp.{IsTotalOrder, nat_cmp_is}
use Rattle.std.specs.List.{Contains}
use Rattle.std.specs.List.Sorted.{IsSorted, IsPermutation, IsPartitionedBy}
use Rattle.std.proofs.lemmas.Bool.{false≢true}
use Rattle.std.proofs.lemmas.Cmp.{on_total, nat_list_cmp_total, tied_itself}
use Rattle.std.proofs.Math.ListN.{get_or-append}
use Rattle.std.proofs.Math.Seq.{get_or-append_seam}
use Rattle.std.proofs.lemmas.List.{get_or_default}
use Rattle.std.proofs.lemmas.List.Elements.{Contains-get_or}
use Rattle.std.proofs.lemmas.List.MinMax.{ranks_by}
use Rattle.std.proofs.lemmas.List.Sorted.{sorted_far, Contains-permutation}
use Rattle.lg_gram.specs.Connectors.{connector_cmp, connector_text}
use Rattle.lg_disj.specs.Ranks.{AreRanksBy, IsRankBy, lent_cmp}

pub connector_total : IsTotalOrder connector_cmp
connector_total = on_total connector_text nat_list_cmp_total

pub lent_total : IsTotalOrder lent_cmp
lent_total = on_total (λ f. f.now) nat_list_cmp_total

is_less : (o : Ordering) → is_lt o ≡ true → o ≡ Less
is_less Less h = refl
is_less Equal h = absurd (false≢true h)
is_less Greater h = absurd (false≢true h)

either_le : (m n : ℕ) → (m ≤ n) ⊎ (n < m)
either_le zero n = inl (omega arith)
either_le (suc m) zero = inr (omega arith)
either_le (suc m) (suc n) = elim (either_le m n) [
  | inl h ↦ inl (omega (arith, h))
  | inr h ↦ inr (omega (arith, h))
]

module _ {A : Type 0} (cmp : A → A → Ordering) (total : IsTotalOrder cmp) where
  -- what comes before z, comes before it also where it is no later than what does
  before_too : (x y z : A) (o : Ordering) → cmp y x ≡ o → is_lt o ≡ false → is_lt (cmp y z) ≡ true → is_lt (cmp x z) ≡ true
  before_too x y z Less e h less = absurd (false≢true (sym h))
  before_too x y z Equal e h less = ap is_lt (sym (total.congr y x z e)) ∙ less
  before_too x y z Greater e h less =
      ap is_lt (total.trans x y z (total.antisymm x y ∙ ap ordering_reverse e) (is_less (cmp y z) less))

  pub parted : (ts : List A) → IsSorted cmp ts → (c : A) → IsPartitionedBy (λ other. is_lt (cmp other c)) ts
  parted ts sorted c i j d low within =
      before_too (get_or ts i d) (get_or ts j d) c (cmp (get_or ts j d) (get_or ts i d)) refl
      (sorted_far (λ x y. is_lt (cmp x y)) (ranks_by total (λ g. g)) ts sorted i j d low within)

  -- nothing before the rank of an element is that element
  rank_le : (ts : List A) (a : A) (r k : ℕ) → IsRankBy cmp ts a r → get_or ts k a ≡ a → r ≤ k
  rank_le ts a r k rank at = elim (either_le r k) [
    | inl h ↦ h
    | inr h ↦ absurd (false≢true (sym (ap is_lt (tied_itself total a)) ∙ ap (λ x. is_lt (cmp x a)) (sym at) ∙ rank.0 k a (omega arith) h))
  ]

  rank_more : (ts : List A) (a b : A) (r k : ℕ) → IsRankBy cmp ts b r → k < length ts → get_or ts k a ≡ a → cmp a b ≡ Less → k < r
  rank_more ts a b r k rank within at less = elim (either_le r k) [
    | inl h ↦ absurd (false≢true (sym (rank.1 k a h within) ∙ ap (λ x. is_lt (cmp x b)) at ∙ ap is_lt less))
    | inr h ↦ h
  ]

  ranks_less : (ts : List A) (a b : A) (ra rb : ℕ) → Contains ts a → IsRankBy cmp ts a ra → IsRankBy cmp ts b rb → cmp a b ≡ Less → ra < rb
  ranks_less ts a b ra rb (k, within, at) p q less = omega (arith, rank_le ts a ra k p at, rank_more ts a b rb k q within at less)

  same_before : (a b x : A) → cmp a b ≡ Equal → cmp x a ≡ cmp x b
  same_before a b x e = total.antisymm x a ∙ ap ordering_reverse (total.congr a b x e) ∙ sym (total.antisymm x b)

  ranks_le : (ts : List A) (a b : A) (ra rb : ℕ) → Contains ts a → IsRankBy cmp ts a ra → IsRankBy cmp ts b rb → cmp a b ≡ Equal → rb ≤ ra
  ranks_le ts a b ra rb (k, within, at) p q e = elim (either_le rb ra) [
    | inl h ↦ h
    | inr h ↦ absurd (false≢true (sym (p.1 ra a (omega arith) (omega (arith, rank_le ts a ra k p at, within))) ∙ ap is_lt (same_before a b (get_or ts ra a) e) ∙ q.0 ra a (omega arith) h))
  ]

  ranks_match : (ts : List A) (a b : A) (ra rb : ℕ) → Contains ts a → Contains ts b → IsRankBy cmp ts a ra → IsRankBy cmp ts b rb →
      (o : Ordering) → cmp a b ≡ o → MatchOrdering o (ra < rb) (ra ≡ rb) (rb < ra)
  ranks_match ts a b ra rb ha hb p q Less e = ranks_less ts a b ra rb ha p q e
  ranks_match ts a b ra rb ha hb p q Equal e =
      omega (arith, ranks_le ts a b ra rb ha p q e, ranks_le ts b a rb ra hb q p (total.antisymm b a ∙ ap ordering_reverse e))
  ranks_match ts a b ra rb ha hb p q Greater e = ranks_less ts b a rb ra hb q p (total.antisymm b a ∙ ap ordering_reverse e)

  -- the first n elements have their ranks
  abbrev pub HaveRanks : List A → List A → List ℕ → ℕ → Type 0
  HaveRanks sorted xs ranks n = (length ranks ≡ n) × ((i : ℕ) (d : A) → i < n → i < length xs → IsRankBy cmp sorted (get_or xs i d) (get_or ranks i 0))

  pub are_ranks : (xs sorted : List A) (ranks : List ℕ) (n : ℕ) → IsPermutation xs sorted → n ≡ length xs → HaveRanks sorted xs ranks n → AreRanksBy cmp xs ranks
  are_ranks xs sorted ranks n moved whole (many, each) = record {
    many = many ∙ whole;
    order = λ i j d low high.
        sym (nat_cmp_is (get_or ranks i 0) (get_or ranks j 0) (cmp (get_or xs i d) (get_or xs j d))
        (ranks_match sorted (get_or xs i d) (get_or xs j d) (get_or ranks i 0) (get_or ranks j 0)
        (Contains-permutation xs sorted (get_or xs i d) moved (Contains-get_or xs i d low))
        (Contains-permutation xs sorted (get_or xs j d) moved (Contains-get_or xs j d high))
        (each i d (omega (arith, low, whole)) low) (each j d (omega (arith, high, whole)) high) (cmp (get_or xs i d) (get_or xs j d)) refl));
  }

  -- one more element has its rank
  pub rank_pushed : (sorted xs : List A) (ranks new : List ℕ) (r n : ℕ) (x : A) → n < length xs → HaveRanks sorted xs ranks n → new ≡ ranks ++ r ∷ [] →
      x ≡ get_or xs n x → IsRankBy cmp sorted x r → HaveRanks sorted xs new (n + 1)
  rank_pushed sorted xs ranks new r n x low (many, each) is read rank = (
    omega (arith, ap length is, length-append ranks (r ∷ []), many),
    λ i d within inside. elim (either_le n i) [
      | inl h ↦
          let here : i ≡ length ranks = omega (arith, h, within, many) in
          let number : get_or new i 0 ≡ r = (λ k. get_or (is k) (here k) 0) ∙ get_or-append_seam ranks r [] 0 in
          let place : i ≡ n = omega (arith, here, many) in
          let same : get_or xs i d ≡ x = ap (λ m. get_or xs m d) place ∙ get_or_default xs n d x low ∙ sym read in
          subst (λ m. IsRankBy cmp sorted (get_or xs i d) m) (sym number) (subst (λ y. IsRankBy cmp sorted y r) (sym same) rank)
      | inr h ↦
          let number : get_or new i 0 ≡ get_or ranks i 0 = ap (λ ys. get_or ys i 0) is ∙ get_or-append ranks (r ∷ []) 0 i (omega (arith, h, many)) in
          subst (λ m. IsRankBy cmp sorted (get_or xs i d) m) (sym number) (each i d h inside)
    ],
  )

  -- the same where the element is read at its place
  pub rank_pushed_at : (sorted xs : List A) (ranks new : List ℕ) (r n : ℕ) (d : A) → n < length xs → HaveRanks sorted xs ranks n → new ≡ ranks ++ r ∷ [] →
      IsRankBy cmp sorted (get_or xs n d) r → HaveRanks sorted xs new (n + 1)
  rank_pushed_at sorted xs ranks new r n d low have is rank =
      rank_pushed sorted xs ranks new r n (get_or xs n d) low have is (get_or_default xs n d (get_or xs n d) low) rank
