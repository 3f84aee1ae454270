-- Compounds of a text and of the lowered text: the latter stand after the others.
use Rattle.std.proofs.Common.{◌≡◌, inl, inr, ℕ, ◌+◌, ◌-◌, ◌<◌, ◌≤◌, List, [], ◌∷◌, ◌++◌, Bool, true, false, cond, not, length, drop, get_or, All, IfOk, Result, Ok, Err, Some, refl, sym, ap, subst, ◌∙◌, arith, true≢false}
use Rattle.std.specs.declared.cmp.Ordering.{Ordering}
use Rattle.std.specs.declared.cmp.Ordering.TheVariants.{Less}
use Rattle.std.specs.Ordering.{nat_cmp, ordering_then}
use Rattle.std.specs.Cmp.{nat_cmp_is}
use Rattle.std.specs.Cmp.Lexicographic.{slice_cmp}
use Rattle.std.specs.Char.{is_ascii_uppercase}
use Rattle.std.specs.List.Sorted.{IsStrictlySortedBy}
use Rattle.std.specs.List.{before_last, suffix_len, slice_split, onto_first}
use Rattle.std.proofs.lemmas.List.{append-nil, take-append-drop, append_assoc}
use Rattle.std.proofs.lemmas.List.Elements.{All-from_recursion, recursion_from_All, All-append, All-weaker, All-head, All-tail, All-contains_itself, Contains-append_left, Contains-append_right, Contains-append_cases}
use Rattle.std.proofs.lemmas.Bool.Decides.{nat_tests}
use Rattle.lg_dict.specs.Compounds.{is_underscore, compound_first}
use Rattle.lg_dict.specs.Dictionary.{Dictionary, AreCompoundsOf}
use Rattle.lg_dict.specs.Subscripts.{is_point, has_subscript, stem_of}
use Rattle.lg_token.specs.Words.{is_capitalized, lowered, AreWords}
use Rattle.lg_idiom.specs.Steps.{IsBegun}
use Rattle.lg_idiom.proofs.Compounds.{first_is}

module _ {K : Type 0} (c : K → K → Ordering) (P Q : K → Type 0) (apart : (x y : K) → P x → Q y → c x y ≡ Less) where
  pub rising_append : (xs ys : List K) → All P xs → All Q ys → IsStrictlySortedBy c xs → IsStrictlySortedBy c ys → IsStrictlySortedBy c (xs ++ ys)
  unfolding IsStrictlySortedBy
  rising_append [] ys p q sx sy = sy
  rising_append (x ∷ xs) ys p q sx sy = (
    recursion_from_All (λ y. c x y ≡ Less) (xs ++ ys)
        (All-append (λ y. c x y ≡ Less) xs ys (All-from_recursion (λ y. c x y ≡ Less) xs sx.0) (All-weaker Q (λ y. c x y ≡ Less) (λ y. apart x y (All-head P x xs p)) ys q)),
    rising_append xs ys (All-tail P x xs p) q sx.1 sy,
  )

-- a list begins with its first piece, and a word with its first part
module _ (p : ℕ → Bool) where
  abbrev head_of : List (List ℕ) → List ℕ
  head_of [] = []
  head_of (y ∷ ys) = y

  onto : (x : ℕ) (xs : List ℕ) (parts : List (List ℕ)) → (rest : List ℕ) × (xs ≡ head_of parts ++ rest) → (rest : List ℕ) × (x ∷ xs ≡ head_of (onto_first x parts) ++ rest)
  onto x xs [] r = (r.0, ap (λ l. x ∷ l) r.1)
  onto x xs (y ∷ ys) r = (r.0, ap (λ l. x ∷ l) r.1)

  split_begins : (xs : List ℕ) → (rest : List ℕ) × (xs ≡ head_of (slice_split p xs) ++ rest)
  split_begins [] = ([], refl)
  split_begins (x ∷ xs) = elim (p x) as (λ b. (rest : List ℕ) × (x ∷ xs ≡ head_of (cond b ([] ∷ slice_split p xs) (onto_first x (slice_split p xs))) ++ rest)) [
    | true ↦ (x ∷ xs, refl)
    | false ↦ onto x xs (slice_split p xs) (split_begins xs)
  ]

stem_begins : (word : List ℕ) (cut : Bool) → (rest : List ℕ) × (word ≡ cond cut (before_last is_point word) word ++ rest)
stem_begins word true = let n = length word - suffix_len (λ byte. not (is_point byte)) word - 1 in (drop n word, sym (take-append-drop n word))
stem_begins word false = ([], sym (append-nil word))

word_begins : (word x : List ℕ) → compound_first word ≡ Some x → (rest : List ℕ) × (word ≡ x ++ rest)
word_begins word x h =
    let (_, more, is) = first_is word x h in
    let (end, whole) = stem_begins word (has_subscript word) in
    let (rest, stem) = split_begins is_underscore (stem_of word) in
    (rest ++ end, whole ∙ ap (λ l. l ++ end) (stem ∙ ap (λ ps. head_of is_underscore ps ++ rest) is) ∙ append_assoc x rest end)

BeginsUpTo : ℕ → List ℕ → Type 0
BeginsUpTo n word = (b : ℕ) × (rest : List ℕ) × (word ≡ b ∷ rest) × (b ≤ n)

BeginsAbove : ℕ → List ℕ → Type 0
BeginsAbove n word = (b : ℕ) × (rest : List ℕ) × (word ≡ b ∷ rest) × (n < b)

stands_before : (n : ℕ) (x y : List ℕ) → BeginsUpTo n x → BeginsAbove n y → slice_cmp nat_cmp x y ≡ Less
unfolding BeginsUpTo BeginsAbove
stands_before n x y (b, bs, x_is, low) (d, ds, y_is, high) =
    let less : nat_cmp b d ≡ Less = sym (nat_cmp_is b d Less (let h : b < d = omega arith in h)) in
    ap (λ l. slice_cmp nat_cmp l y) x_is ∙ ap (slice_cmp nat_cmp (b ∷ bs)) y_is ∙ ap (λ o. ordering_then o (slice_cmp nat_cmp bs ds)) less

capital_range : (b : ℕ) → is_ascii_uppercase b ≡ true → (65 ≤ b) × (b ≤ 90)
capital_range b e = grind (arith, nat_tests)

module _ (dict : Dictionary) where
  listed_begin : (P : List ℕ → Type 0) (text : List ℕ) (words : List (List ℕ)) → AreCompoundsOf dict text words → ((rest : List ℕ) → P (text ++ rest)) → All P words
  listed_begin P text words are begins k d within =
      let is = (are.exactly (get_or words k d)).0 (All-contains_itself words k d within) in
      let front = word_begins (get_or words k d) text is.begins in
      subst P (sym front.1) (begins front.0)

  joined_rise : (text : List ℕ) (xs ys : List (List ℕ)) → is_capitalized text ≡ true → AreCompoundsOf dict text xs → AreCompoundsOf dict (lowered text) ys → IsStrictlySortedBy (slice_cmp nat_cmp) (xs ++ ys)
  unfolding BeginsUpTo BeginsAbove
  joined_rise [] xs ys capital ax ay = absurd (true≢false (sym capital))
  joined_rise (b ∷ bs) xs ys capital ax ay =
      let range = capital_range b capital in
      rising_append (slice_cmp nat_cmp) (BeginsUpTo 90) (BeginsAbove 90) (stands_before 90) xs ys
      (listed_begin (BeginsUpTo 90) (b ∷ bs) xs ax (λ rest. (b, bs ++ rest, refl, range.1)))
      (listed_begin (BeginsAbove 90) ((b + 32) ∷ bs) ys ay (λ rest. (b + 32, bs ++ rest, refl, omega (arith, range))))
      ax.rise ay.rise

  pub begun_joined : {E : Type 0} (initial : Bool) (text small : List ℕ) (xs ys : List (List ℕ)) (r : Result (List (List ℕ)) E) → initial ≡ true → is_capitalized text ≡ true → small ≡ lowered text
      → AreCompoundsOf dict text xs → AreCompoundsOf dict small ys → IfOk r (λ texts. texts ≡ xs ++ ys) → IfOk r (AreWords (IsBegun dict initial text))
  begun_joined initial text small xs ys (Err e) first capital small_is ax ay is = tt
  begun_joined initial text small xs ys (Ok texts) first capital small_is ax ay_small is =
      let ay = subst (λ t. AreCompoundsOf dict t ys) small_is ay_small in
      subst (AreWords (IsBegun dict initial text)) (sym is) (record {
        rise = joined_rise text xs ys capital ax ay;
        exactly = λ word. (
          λ h. elim (Contains-append_cases xs ys word h) [
            | inl here ↦ inl ((ax.exactly word).0 here)
            | inr here ↦ inr (first, capital, (ay.exactly word).0 here)
          ],
          λ h. elim h [
            | inl here ↦ Contains-append_left xs ys word ((ax.exactly word).1 here)
            | inr here ↦ Contains-append_right xs ys word ((ay.exactly word).1 here.2)
          ],
        );
      })
