-- The greatest of a list.
use Rattle.std.proofs.Common.{◌≡◌, ℕ, ◌+◌, ◌<◌, ◌≤◌, max, zero, suc, List, [], ◌∷◌, ◌++◌, Bool, true, false, cond, length, get_or, take, append-nil, refl, sym, ap, ◌∙◌, inl, inr, arith}
use Rattle.std.proofs.lemmas.Bool.{cases_order}
use Rattle.std.proofs.lemmas.List.Elements.{filter_more, All-head, All-tail}
use Rattle.std.proofs.lemmas.List.Sums.{fold_push}
use Rattle.std.specs.List.{All, filter}
use Rattle.std.specs.declared.cmp.Ordering.TheVariants.{Less, Equal, Greater}
use Rattle.std.specs.Ordering.{nat_cmp, ord_max, is_lt}
use Rattle.std.specs.Cmp.{nat_cmp_is}
use Rattle.lg_text.specs.Diagrams.{greatest}

pub ord_max_is : (a b : ℕ) → ord_max nat_cmp a b ≡ max a b
ord_max_is a b = elim (cases_order a b) [
  | inl same ↦ ap (λ o. cond (is_lt o) a b) (sym (nat_cmp_is b a Equal (sym same))) ∙ omega arith
  | inr (inl less) ↦ ap (λ o. cond (is_lt o) a b) (sym (nat_cmp_is b a Greater less)) ∙ omega arith
  | inr (inr more) ↦ ap (λ o. cond (is_lt o) a b) (sym (nat_cmp_is b a Less more)) ∙ omega arith
]

module _ {X : Type 0} (f : X → ℕ) where
  module _ (p : X → Bool) (n : ℕ) (xs : List X) (i : ℕ) (d : X) (lt : i < length xs) where
    -- one more element, which passes the test
    pub greatest_yes : (m k : ℕ) → p (get_or xs i d) ≡ true → m ≡ greatest f n (filter p (take i xs)) → k ≡ f (get_or xs i d) → ord_max nat_cmp m k ≡ greatest f n (filter p (take (i + 1) xs))
    greatest_yes m k passes so_far is =
        ord_max_is m k ∙ (λ t. max (so_far t) (is t)) ∙ sym (fold_push (λ m x. max m (f x)) n (filter p (take i xs)) (get_or xs i d))
        ∙ ap (λ b. greatest f n (filter p (take i xs) ++ cond b (get_or xs i d ∷ []) [])) (sym passes) ∙ ap (greatest f n) (sym (filter_more p xs i d lt))

    -- one more element, which does not
    pub greatest_no : (m : ℕ) → p (get_or xs i d) ≡ false → m ≡ greatest f n (filter p (take i xs)) → m ≡ greatest f n (filter p (take (i + 1) xs))
    greatest_no m fails so_far =
        so_far ∙ sym (ap (λ ys. greatest f n ys) (append-nil (filter p (take i xs))))
        ∙ ap (λ b. greatest f n (filter p (take i xs) ++ cond b (get_or xs i d ∷ []) [])) (sym fails) ∙ ap (greatest f n) (sym (filter_more p xs i d lt))

  -- it is at least what it starts from
  pub least_greatest : (n : ℕ) (xs : List X) → n ≤ greatest f n xs
  least_greatest n [] = omega arith
  least_greatest n (x ∷ xs) = let more = least_greatest (max n (f x)) xs in omega arith

  -- each element's number is at most the greatest
  pub greatest_bounds : (n : ℕ) (xs : List X) → All (λ x. f x ≤ greatest f n xs) xs
  greatest_bounds n xs i d lt = bounds n xs i d lt
    where
      bounds : (n : ℕ) (xs : List X) (i : ℕ) (d : X) → i < length xs → f (get_or xs i d) ≤ greatest f n xs
      bounds n [] i d lt = absurd (omega arith)
      bounds n (x ∷ xs) zero d lt = let more = least_greatest (max n (f x)) xs in omega arith
      bounds n (x ∷ xs) (suc i) d lt = bounds (max n (f x)) xs i d (omega arith)

  -- a bound of each element's number bounds the greatest
  pub greatest_within : (most n : ℕ) (xs : List X) → n ≤ most → All (λ x. f x ≤ most) xs → greatest f n xs ≤ most
  greatest_within most n [] low h = low
  greatest_within most n (x ∷ xs) low h = let first = All-head (λ x. f x ≤ most) x xs h in greatest_within most (max n (f x)) xs (omega arith) (All-tail (λ x. f x ≤ most) x xs h)

-- functions that agree on a list have one greatest number
pub greatest_same : {X : Type 0} (f g : X → ℕ) (n : ℕ) (xs : List X) → All (λ x. f x ≡ g x) xs → greatest f n xs ≡ greatest g n xs
greatest_same f g n [] h = refl
greatest_same f g n (x ∷ xs) h = ap (λ k. greatest f (max n k) xs) (All-head (λ x. f x ≡ g x) x xs h) ∙ greatest_same f g (max n (g x)) xs (All-tail (λ x. f x ≡ g x) x xs h)
