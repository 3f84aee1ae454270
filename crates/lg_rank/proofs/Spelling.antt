-- The choices and links of a tree, as they are spelled.
use Rattle.std.proofs.Common.{◌≡◌, ℕ, suc, zero, ◌+◌, ◌-◌, ◌<◌, ◌≤◌, List, [], ◌∷◌, ◌++◌, length, take, drop, replicate, Option, Some, refl, sym, ap, ◌∙◌, arith}
use Rattle.std.proofs.lemmas.Bool.Decides.{nat_tests}
use Rattle.std.proofs.lemmas.List.{append_assoc, take_all, length-drop}
use Rattle.std.specs.List.{insert, count_by}
use Rattle.lg_rank.specs.Trees.{comes_before, with_link}
use Rattle.lg_rank.specs.Trees.{picked, row_from}
use Rattle.lg_gram.specs.declared.linkage.Link.{Link}

-- nothing is chosen where nothing is linked
pub zeros : (i n : ℕ) → row_from (λ j. 0) i n ≡ replicate n 0
zeros i zero = refl
zeros i (suc n) = ap (λ t. 0 ∷ t) (zeros (suc i) n)

same_from : (f g : ℕ → ℕ) (i n : ℕ) → ((j : ℕ) → i ≤ j → j < i + n → f j ≡ g j) → row_from f i n ≡ row_from g i n
same_from f g i zero h = refl
same_from f g i (suc n) h = λ k. h i (omega arith) (omega arith) k ∷ same_from f g (suc i) n (λ j a b. h j (omega arith) (omega arith)) k

pub long_from : (f : ℕ → ℕ) (i n : ℕ) → length (row_from f i n) ≡ n
long_from f i zero = refl
long_from f i (suc n) = ap suc (long_from f (suc i) n)

pub take_from : (f : ℕ → ℕ) (i m n : ℕ) → m ≤ n → take m (row_from f i n) ≡ row_from f i m
take_from f i zero n le = refl
take_from f i (suc m) zero le = absurd (omega arith)
take_from f i (suc m) (suc n) le = ap (λ l. f i ∷ l) (take_from f (suc i) m n (omega arith))

pub drop_from : (f : ℕ → ℕ) (i j m n k : ℕ) → i + m ≡ j → m + n ≡ k → drop m (row_from f i k) ≡ row_from f j n
drop_from f i j zero n k e d = (let a : i ≡ j = omega arith in let b : k ≡ n = omega arith in λ h. row_from f (a h) (b h))
drop_from f i j (suc m) n zero e d = absurd (omega arith)
drop_from f i j (suc m) n (suc k) e d = drop_from f (suc i) j m n k (omega arith) (omega arith)

-- so many from a place on
pub piece : (f : ℕ → ℕ) (i count n : ℕ) → i + count ≤ n → take count (drop i (row_from f 0 n)) ≡ row_from f i count
piece f i count n le = ap (λ l. take count l) (drop_from f 0 i i (n - i) n (omega arith) (omega arith)) ∙ take_from f i count (n - i) (omega arith)

-- so many, then the rest
cut_from : (f : ℕ → ℕ) (i j m n k : ℕ) → i + m ≡ j → m + n ≡ k → row_from f i k ≡ row_from f i m ++ row_from f j n
cut_from f i j zero n k e d = (let a : i ≡ j = omega arith in let b : k ≡ n = omega arith in λ h. row_from f (a h) (b h))
cut_from f i j (suc m) n zero e d = absurd (omega arith)
cut_from f i j (suc m) n (suc k) e d = ap (λ l. f i ∷ l) (cut_from f (suc i) j m n k (omega arith) (omega arith))

module _ (word choice : ℕ) (left right : ℕ → ℕ) where
  at_left : (j : ℕ) → j < word → picked word choice left right j ≡ left j
  at_left j less = grind (arith, nat_tests)

  at_word : picked word choice left right word ≡ choice
  at_word = grind (arith, nat_tests)

  at_right : (j : ℕ) → word < j → picked word choice left right j ≡ right j
  at_right j less = grind (arith, nat_tests)

  -- those before the word
  pub left_from : (i n : ℕ) → i + n ≤ word → row_from (picked word choice left right) i n ≡ row_from left i n
  left_from i n le = same_from (picked word choice left right) left i n (λ j a b. at_left j (omega arith))

  -- those behind it
  pub right_from : (i n : ℕ) → word < i → row_from (picked word choice left right) i n ≡ row_from right i n
  right_from i n le = same_from (picked word choice left right) right i n (λ j a b. at_right j (omega arith))

  -- and those around it
  pub around_from : (i m n k : ℕ) → i + m ≡ word → m + suc n ≡ k → row_from (picked word choice left right) i k ≡ row_from left i m ++ choice ∷ row_from right (suc word) n
  around_from i m n k e d =
      cut_from (picked word choice left right) i word m (suc n) k e d ∙ (λ h. left_from i m (omega arith) h ++ at_word h ∷ right_from (suc word) n (omega arith) h)

-- what a word makes of the choices to its left and those to its right
pub joined : (word choice : ℕ) (left right : ℕ → ℕ) (n : ℕ) → word < n → row_from (picked word choice left right) 0 n ≡ take word (row_from left 0 n) ++ choice ∷ drop (suc word) (row_from right 0 n)
joined word choice left right n less =
    around_from word choice left right 0 word (n - suc word) n (omega arith) (omega arith)
    ∙ sym (λ h. take_from left 0 word n (omega arith) h ++ choice ∷ drop_from right 0 (suc word) (suc word) (n - suc word) n (omega arith) (omega arith) h)

-- ---- one more link among those from a place on
take_sum : {A : Type 0} → (n m k : ℕ) (xs : List A) → n + m ≡ k → take k xs ≡ take n xs ++ take m (drop n xs)
take_sum zero m k xs e = (let a : k ≡ m = omega arith in λ h. take (a h) xs)
take_sum (suc n) m zero xs e = absurd (omega arith)
take_sum (suc n) zero (suc k) [] e = refl
take_sum (suc n) (suc m) (suc k) [] e = refl
take_sum (suc n) m (suc k) (x ∷ xs) e = ap (λ l. x ∷ l) (take_sum n m k xs (omega arith))

drop_sum : {A : Type 0} → (n m k : ℕ) (xs : List A) → n + m ≡ k → drop k xs ≡ drop m (drop n xs)
drop_sum zero m k xs e = (let a : k ≡ m = omega arith in λ h. drop (a h) xs)
drop_sum (suc n) m zero xs e = absurd (omega arith)
drop_sum (suc n) zero (suc k) [] e = refl
drop_sum (suc n) (suc m) (suc k) [] e = refl
drop_sum (suc n) m (suc k) (x ∷ xs) e = drop_sum n m k xs (omega arith)

pub added : (old new : List Link) (from n : ℕ) (l : Link) (more : Option Link) → more ≡ Some l → new ≡ insert old (from + n) l → n ≡ count_by (comes_before l) (drop from old) → new ≡ take from old ++ with_link more (drop from old)
added old new from n l more is e count =
    e ∙ (λ h. take_sum from n (from + n) old refl h ++ l ∷ drop_sum from n (from + n) old refl h)
    ∙ append_assoc (take from old) (take n (drop from old)) (l ∷ drop n (drop from old))
    ∙ (λ h. take from old ++ insert (drop from old) (count h) l) ∙ (λ h. take from old ++ with_link (sym is h) (drop from old))

-- a slice up to the end
pub rest_of : {A : Type 0} → (xs old : List A) (from : ℕ) → xs ≡ old → take (length xs - from) (drop from xs) ≡ drop from old
rest_of xs old from same = take_all (length xs - from) (drop from xs) (let e = length-drop from xs in omega arith) ∙ ap (λ l. drop from l) same

-- a list that is made longer by zeros
pub filled : (xs : List ℕ) (len end n i : ℕ) → len ≡ length xs → end ≡ len + n → take end xs ++ replicate (end - len) 0 ≡ xs ++ row_from (λ j. 0) i n
filled xs len end n i d e = (let m : end - len ≡ n = omega arith in λ h. take_all end xs (omega arith) h ++ replicate (m h) 0) ∙ ap (λ l. xs ++ l) (sym (zeros i n))

-- two pieces with a choice between them
pub gathered : (old one two a b : List ℕ) (x : ℕ) → one ≡ old ++ a → two ≡ one ++ x ∷ [] → two ++ b ≡ old ++ (a ++ x ∷ b)
gathered old one two a b x p q = (λ h. q h ++ b) ∙ append_assoc one (x ∷ []) b ∙ (λ h. p h ++ x ∷ b) ∙ append_assoc old a (x ∷ b)
