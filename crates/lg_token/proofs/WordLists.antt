-- Lists of words that are told by a property, and how the words of a lowered text stand after those of the text.
use Rattle.std.proofs.Common.{◌≡◌, inl, inr, ◌↔◌, ℕ, ◌+◌, ◌<◌, ◌≤◌, get_or, List, [], ◌∷◌, ◌++◌, Bool, true, false, cond, not, ◌-◌, length, drop, Contains, All, IfOk, Result, Ok, Err, refl, sym, ap, subst, ◌∙◌, arith, ◌==◌, true≢false}
use borrow.Author.Tests.{eqb-true}
use Rattle.std.specs.Prelude.{slice_get}
use Rattle.std.specs.declared.cmp.Ordering.{Ordering}
use Rattle.std.specs.declared.cmp.Ordering.TheVariants.{Less}
use Rattle.std.specs.Ordering.{nat_cmp, ordering_then}
use Rattle.std.specs.Cmp.{nat_cmp_is}
use Rattle.std.specs.Cmp.Lexicographic.{slice_cmp}
use Rattle.std.specs.Char.{is_ascii_uppercase}
use Rattle.std.specs.List.Sorted.{IsStrictlySortedBy}
use Rattle.std.specs.List.{before_last, suffix_len}
use Rattle.std.proofs.lemmas.List.{append-nil, take-append-drop}
use Rattle.std.proofs.lemmas.List.Elements.{All-from_recursion, recursion_from_All, All-append, All-weaker, All-head, All-tail, All-contains_itself, Contains-append_left, Contains-append_right, Contains-append_cases}
use Rattle.std.proofs.lemmas.Bool.Decides.{nat_tests}
use Rattle.std.proofs.lemmas.Option.{same_Some}
use Rattle.lg_dict.specs.Dictionary.{Dictionary, IsWordOf, AreWordsOf}
use Rattle.lg_dict.specs.Subscripts.{is_point, has_subscript}
use Rattle.lg_token.proofs.Members.{nowhere}
use Rattle.lg_token.specs.declared.special.Special.{Special}
use Rattle.lg_token.specs.Words.{Has, is_capitalized, lowered, special_word, specials, MayStand, IsFirstSpecial, IsKnown, IsNamed, IsSpecialWord, IsTokenWord, named, special, AreWords, AreTokenWords}

-- the same words, told by another property
pub AreWords-same : (P Q : List ℕ → Type 0) (words : List (List ℕ)) → ((word : List ℕ) → P word ↔ Q word) → AreWords P words → AreWords Q words
AreWords-same P Q words same are = record {
  rise = are.rise;
  exactly = λ word. (λ h. (same word).0 ((are.exactly word).0 h), λ h. (are.exactly word).1 ((same word).1 h));
}

-- special words

first_at : (dict : Dictionary) (text : List ℕ) (s t : Special) (a : IsFirstSpecial dict text s) (b : IsFirstSpecial dict text t) → a.place < b.place → ⊥
first_at dict text s t a b below = b.first a.place s below a.here a.stands

one_first : (dict : Dictionary) (text : List ℕ) (s t : Special) → IsFirstSpecial dict text s → IsFirstSpecial dict text t → s ≡ t
one_first dict text s t a b =
    let not_before : (a.place < b.place → ⊥) = first_at dict text s t a b in
    let not_after : (b.place < a.place → ⊥) = first_at dict text t s b a in
    same_Some s t (sym a.here ∙ ap (slice_get specials) (let e : a.place ≡ b.place = omega arith in e) ∙ b.here)

pub special_listed : {E : Type 0} (dict : Dictionary) (text : List ℕ) (s : Special) (name : List ℕ) (r : Result (List (List ℕ)) E)
    → IsFirstSpecial dict text s → name ≡ special_word s → IfOk r (AreWordsOf dict name) → IfOk r (AreWords (IsSpecialWord dict text))
special_listed dict text s name (Ok words) first is are = record {
  rise = are.rise;
  exactly = λ word. (
    λ h. (s, first, subst (λ n. IsWordOf dict n word) is ((are.exactly word).0 h)),
    λ h. (are.exactly word).1 (subst (λ n. IsWordOf dict n word) (ap special_word (one_first dict text h.0 s h.1 first) ∙ sym is) h.2),
  );
}
special_listed dict text s name (Err e) first is are = tt

has_none : {X : Type 0} (xs : List X) (x : X) → true ≡ (length xs == 0) → Contains xs x → ⊥
has_none xs x none (k, within, is) = let empty : length xs ≡ 0 = eqb-true (length xs) 0 (sym none) in omega arith

none_rise : IsStrictlySortedBy (slice_cmp nat_cmp) []
unfolding IsStrictlySortedBy
none_rise = tt

no_words : (P : List ℕ → Type 0) (words : List (List ℕ)) → words ≡ [] → ((word : List ℕ) → P word → ⊥) → AreWords P words
no_words P words is none = subst (AreWords P) (sym is) (record { rise = none_rise; exactly = λ word. (λ h. absurd (nowhere word h), λ h. absurd (none word h)) })

pub no_special : (dict : Dictionary) (text : List ℕ) (words : List (List ℕ)) → words ≡ [] → ((s : Special) → MayStand dict text s → ⊥) → AreWords (IsSpecialWord dict text) words
no_special dict text words is none = no_words (IsSpecialWord dict text) words is (λ word h. none h.0 h.1.stands)

-- token words

module _ (dict : Dictionary) (initial : Bool) (text : List ℕ) where
  from_special : (IsKnown dict initial text → ⊥) → (word : List ℕ) → IsTokenWord dict initial text word → IsSpecialWord dict text word
  from_special unknown word (named is) = absurd (unknown (word, is))
  from_special unknown word (special _ is) = is

  from_named : IsKnown dict initial text → (word : List ℕ) → IsTokenWord dict initial text word → IsNamed dict initial text word
  from_named known word (named is) = is
  from_named known word (special unknown _) = absurd (unknown known)

  pub token_words-special : {E : Type 0} (words : List (List ℕ)) (r : Result (List (List ℕ)) E) → AreWords (IsNamed dict initial text) words → true ≡ (length words == 0)
      → IfOk r (AreWords (IsSpecialWord dict text)) → IfOk r (AreTokenWords dict initial text)
  token_words-special words (Ok found) are none special_are =
      let unknown : (IsKnown dict initial text → ⊥) = λ k. has_none words k.0 none ((are.exactly k.0).1 k.1) in
      AreWords-same (IsSpecialWord dict text) (IsTokenWord dict initial text) found (λ word. (λ h. special unknown h, from_special unknown word)) special_are
  token_words-special words (Err e) are none special_are = tt

  pub token_words-named : (words : List (List ℕ)) → AreWords (IsNamed dict initial text) words → false ≡ (length words == 0) → AreTokenWords dict initial text words
  token_words-named [] are some = absurd (true≢false (sym some))
  token_words-named (w ∷ ws) are some =
      let known : IsKnown dict initial text = (w, (are.exactly w).0 (0, omega arith, refl)) in
      AreWords-same (IsNamed dict initial text) (IsTokenWord dict initial text) (w ∷ ws) (λ word. (λ h. named h, from_named known word)) are

-- the words of a lowered text stand after those of the text

module _ {K : Type 0} (c : K → K → Ordering) (P Q : K → Type 0) (apart : (x y : K) → P x → Q y → c x y ≡ Less) where
  pub IsStrictlySortedBy-append : (xs ys : List K) → All P xs → All Q ys → IsStrictlySortedBy c xs → IsStrictlySortedBy c ys → IsStrictlySortedBy c (xs ++ ys)
  unfolding IsStrictlySortedBy
  IsStrictlySortedBy-append [] ys p q sx sy = sy
  IsStrictlySortedBy-append (x ∷ xs) ys p q sx sy = (
    recursion_from_All (λ y. c x y ≡ Less) (xs ++ ys)
        (All-append (λ y. c x y ≡ Less) xs ys (All-from_recursion (λ y. c x y ≡ Less) xs sx.0) (All-weaker Q (λ y. c x y ≡ Less) (λ y. apart x y (All-head P x xs p)) ys q)),
    IsStrictlySortedBy-append xs ys (All-tail P x xs p) q sx.1 sy,
  )

-- a word begins with its stem, and so a word of a text with the text
stem_begins : (word : List ℕ) (cut : Bool) → (rest : List ℕ) × (word ≡ cond cut (before_last is_point word) word ++ rest)
stem_begins word true = let n = length word - suffix_len (λ byte. not (is_point byte)) word - 1 in (drop n word, sym (take-append-drop n word))
stem_begins word false = ([], sym (append-nil word))

pub word_begins : (dict : Dictionary) (text word : List ℕ) → IsWordOf dict text word → (rest : List ℕ) × (word ≡ text ++ rest)
word_begins dict text word is =
    elim is.fits [
      | inl same ↦ ([], same ∙ sym (append-nil text))
      | inr stem ↦ let begins = stem_begins word (has_subscript word) in (begins.0, begins.1 ∙ ap (λ l. l ++ begins.0) stem)
    ]

BeginsUpTo : ℕ → List ℕ → Type 0
BeginsUpTo n word = (b : ℕ) × (rest : List ℕ) × (word ≡ b ∷ rest) × (b ≤ n)

BeginsAbove : ℕ → List ℕ → Type 0
BeginsAbove n word = (b : ℕ) × (rest : List ℕ) × (word ≡ b ∷ rest) × (n < b)

stands_before : (n : ℕ) (x y : List ℕ) → BeginsUpTo n x → BeginsAbove n y → slice_cmp nat_cmp x y ≡ Less
unfolding BeginsUpTo BeginsAbove
stands_before n x y (b, bs, x_is, low) (d, ds, y_is, high) =
    let less : nat_cmp b d ≡ Less = sym (nat_cmp_is b d Less (let h : b < d = omega arith in h)) in
    ap (λ l. slice_cmp nat_cmp l y) x_is ∙ ap (slice_cmp nat_cmp (b ∷ bs)) y_is ∙ ap (λ o. ordering_then o (slice_cmp nat_cmp bs ds)) less

capital_range : (b : ℕ) → is_ascii_uppercase b ≡ true → (65 ≤ b) × (b ≤ 90)
capital_range b e = grind (arith, nat_tests)

module _ (dict : Dictionary) where
  listed_begin : (P : List ℕ → Type 0) (text : List ℕ) (words : List (List ℕ)) → AreWordsOf dict text words → ((rest : List ℕ) → P (text ++ rest)) → All P words
  listed_begin P text words are begins k d within =
      let is = (are.exactly (get_or words k d)).0 (All-contains_itself words k d within) in
      let front = word_begins dict text (get_or words k d) is in
      subst P (sym front.1) (begins front.0)

  joined_rise : (text : List ℕ) (xs ys : List (List ℕ)) → is_capitalized text ≡ true → AreWordsOf dict text xs → AreWordsOf dict (lowered text) ys → IsStrictlySortedBy (slice_cmp nat_cmp) (xs ++ ys)
  unfolding BeginsUpTo BeginsAbove
  joined_rise [] xs ys capital ax ay = absurd (true≢false (sym capital))
  joined_rise (b ∷ bs) xs ys capital ax ay =
      let range = capital_range b capital in
      IsStrictlySortedBy-append (slice_cmp nat_cmp) (BeginsUpTo 90) (BeginsAbove 90) (stands_before 90) xs ys
      (listed_begin (BeginsUpTo 90) (b ∷ bs) xs ax (λ rest. (b, bs ++ rest, refl, range.1)))
      (listed_begin (BeginsAbove 90) ((b + 32) ∷ bs) ys ay (λ rest. (b + 32, bs ++ rest, refl, omega (arith, range))))
      ax.rise ay.rise

  pub named_joined : {E : Type 0} (initial : Bool) (text small : List ℕ) (xs ys : List (List ℕ)) (r : Result (List (List ℕ)) E) → initial ≡ true → is_capitalized text ≡ true → small ≡ lowered text
      → AreWordsOf dict text xs → AreWordsOf dict small ys → IfOk r (λ texts. texts ≡ xs ++ ys) → IfOk r (AreWords (IsNamed dict initial text))
  named_joined initial text small xs ys (Err e) first capital small_is ax ay is = tt
  named_joined initial text small xs ys (Ok texts) first capital small_is ax ay_small is =
      let ay = subst (λ t. AreWordsOf dict t ys) small_is ay_small in
      let named_by : (word : List ℕ) → Contains (xs ++ ys) word → IsNamed dict initial text word = λ word h.
      elim (Contains-append_cases xs ys word h) [
        | inl here ↦ inl ((ax.exactly word).0 here)
        | inr here ↦ inr (first, capital, (ay.exactly word).0 here)
      ] in
      let listed : (word : List ℕ) → IsNamed dict initial text word → Contains (xs ++ ys) word = λ word h.
      elim h [
        | inl here ↦ Contains-append_left xs ys word ((ax.exactly word).1 here)
        | inr here ↦ Contains-append_right xs ys word ((ay.exactly word).1 here.2)
      ] in
      subst (AreWords (IsNamed dict initial text)) (sym is) (record { rise = joined_rise text xs ys capital ax ay; exactly = λ word. (named_by word, listed word) })

-- whether a text is known, where the lowered text was looked up
pub known_lowered : (dict : Dictionary) (initial : Bool) (text small : List ℕ) (found : Bool) → (Has dict text → ⊥) → initial ≡ true → is_capitalized text ≡ true → small ≡ lowered text
    → (found ≡ true) ↔ Has dict small → (found ≡ true) ↔ IsKnown dict initial text
known_lowered dict initial text small found without first capital is has = (
  λ h. let w = has.0 h in (w.0, inr (first, capital, subst (λ t. IsWordOf dict t w.0) is w.1)),
  λ k. elim k.1 [ inl word ↦ absurd (without (k.0, word)) | inr lower ↦ has.1 (k.0, subst (λ t. IsWordOf dict t k.0) (sym is) lower.2) ],
)
