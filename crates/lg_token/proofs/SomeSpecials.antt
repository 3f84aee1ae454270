-- Which special word stands for a text can be decided.
use Rattle.std.proofs.Common.{◌≡◌, ◌≢◌, ◌⊎◌, inl, inr, ◌+◌, ◌<◌, ℕ, List, [], ◌∷◌, ◌++◌, Bool, true, not, ◌==◌, length, take, drop, get_or, slice_index, Some, None, refl, sym, ap, subst, ◌∙◌, true≢false, arith, append_assoc, length-append}
use mathlib.Core.Logic.{⊎_elim}
use borrow.Author.Tests.{eqb-true}
use Rattle.std.specs.Prelude.{Any}
use Rattle.std.specs.Char.{is_ascii_digit}
use Rattle.std.specs.List.{list_all, list_any, AllWithin}
use Rattle.std.proofs.lemmas.Bool.{cases_Bool}
use Rattle.std.proofs.lemmas.List.{same_from_push, get_or_at, take_at, drop_at, take-append-drop, drop_more}
use Rattle.std.proofs.lemmas.List.Elements.{AllWithin-none, AllWithin-more}
use Rattle.std.proofs.lemmas.List.Folds.{Any-from_list_any, list_any-from_Any}
use Rattle.lg_dict.specs.Dictionary.{Dictionary}
use Rattle.lg_token.proofs.Members.{push_not_nil}
use Rattle.lg_token.proofs.SomeWords.{Decided, test_decided, both_decided, decided_as, some_below, has_decided}
use Rattle.lg_token.proofs.Specials.{MayNot, first_found}
use Rattle.lg_token.specs.declared.special.Special.{Special}
use Rattle.lg_token.specs.declared.special.Special.TheVariants.{Numbers, Capitalized, Hyphenated, Unknown}
use Rattle.lg_token.specs.Words.{is_capitalized, is_in_number, BeginsWithDigit, EndsWithDigit, IsNumber, IsHyphenated, special_word, specials, Applies, MayStand, IsFirstSpecial}

-- the last element of a list
pub record EndsIn (xs : List ℕ) : Type 0 where
  pub front : List ℕ
  pub last : ℕ
  pub is : xs ≡ front ++ last ∷ []

longer : (x : ℕ) (xs : List ℕ) → (xs ≡ []) ⊎ EndsIn xs → EndsIn (x ∷ xs)
longer x xs (inl none) = record { front = []; last = x; is = ap (λ l. x ∷ l) none }
longer x xs (inr e) = record { front = x ∷ e.front; last = e.last; is = ap (λ l. x ∷ l) e.is }

pub last_of : (xs : List ℕ) → (xs ≡ []) ⊎ EndsIn xs
last_of [] = inl refl
last_of (x ∷ xs) = inr (longer x xs (last_of xs))

-- numbers

begins_decided : (text : List ℕ) → Decided (BeginsWithDigit text)
begins_decided [] = inr (λ h. let none = h.2 in cc)
begins_decided (b ∷ bs) = decided_as (λ yes. (b, bs, refl, yes)) (λ h. let is = h.2 in let same : b ≡ h.0 = cc in ap is_ascii_digit same ∙ h.3) (test_decided (is_ascii_digit b))

ends_decided : (text : List ℕ) → Decided (EndsWithDigit text)
ends_decided text =
    ⊎_elim (λ (none : text ≡ []). inr (λ (h : EndsWithDigit text). push_not_nil h.0 h.1 (sym h.2 ∙ none)))
    (λ (e : EndsIn text). decided_as (λ yes. (e.front, e.last, e.is, yes)) (λ (h : EndsWithDigit text). ap is_ascii_digit ((same_from_push e.front h.0 e.last h.1 (sym e.is ∙ h.2)).1) ∙ h.3) (test_decided (is_ascii_digit e.last)))
    (last_of text)

number_decided : (text : List ℕ) → Decided (IsNumber text)
number_decided text =
    decided_as (λ h. record { begins = h.0; ends = h.1.0; inner = h.1.1 }) (λ n. (n.begins, (n.ends, n.inner)))
    (both_decided (begins_decided text) (both_decided (ends_decided text) (test_decided (list_all is_in_number text))))

-- hyphens

abbrev is_other : ℕ → Bool
is_other b = not (b == 45)

other : (b : ℕ) → is_other b ≡ true → b ≢ 45
other b h e = true≢false (sym h ∙ ap is_other e)

is_other-from : (b : ℕ) → b ≢ 45 → is_other b ≡ true
is_other-from b ne = ⊎_elim (λ yes. absurd (ne (eqb-true b 45 yes))) (λ none. ap not none) (cases_Bool (b == 45))

abbrev AnyOther : List ℕ → Type 0
AnyOther xs = Any (λ b. b ≢ 45) xs

any_decided : (xs : List ℕ) → Decided (AnyOther xs)
any_decided xs =
    decided_as
    (λ h. let a = Any-from_list_any is_other xs h in (a.0, a.1, a.2, a.3, other a.1 a.4))
    (λ (a : AnyOther xs). list_any-from_Any is_other xs (a.0, a.1, a.2, a.3, is_other-from a.1 a.4))
    (test_decided (list_any is_other xs))

HyphenAt : List ℕ → ℕ → Type 0
HyphenAt text k = ((slice_index text k == 45) ≡ true) × (AnyOther (take k text) × AnyOther (drop (k + 1) text))

hyphen_here : (text : List ℕ) → ((k : ℕ) × (k < length text) × HyphenAt text k) → IsHyphenated text
unfolding HyphenAt
hyphen_here text (k, within, (is, (left, right))) = record {
  before = take k text;
  after = drop (k + 1) text;
  parts = sym (take-append-drop k text) ∙ ap (λ l. take k text ++ l) (drop_more text k 0 within ∙ ap (λ x. x ∷ drop (k + 1) text) (eqb-true _ _ is));
  left = left;
  right = right;
}

hyphen_place : (text : List ℕ) → IsHyphenated text → (k : ℕ) × (k < length text) × HyphenAt text k
unfolding HyphenAt
hyphen_place text h =
    let k = length h.before in
    let long : length text ≡ length h.before + length (45 ∷ h.after) = ap length h.parts ∙ length-append h.before (45 ∷ h.after) in
    let split : text ≡ (h.before ++ 45 ∷ []) ++ h.after = h.parts ∙ sym (append_assoc h.before (45 ∷ []) h.after) in
    let front : take k text ≡ h.before = ap (take k) h.parts ∙ take_at h.before (45 ∷ h.after) k refl in
    let back : drop (k + 1) text ≡ h.after = ap (drop (k + 1)) split ∙ drop_at (h.before ++ 45 ∷ []) h.after (k + 1) (length-append h.before (45 ∷ [])) in
    (k, omega arith, (ap (λ b. b == 45) (ap (λ l. get_or l k 0) h.parts ∙ get_or_at h.before 45 h.after 0 k refl), (subst AnyOther (sym front) h.left, subst AnyOther (sym back) h.right)))

hyphen_decided : (text : List ℕ) (k : ℕ) → Decided (HyphenAt text k)
unfolding HyphenAt
hyphen_decided text k = both_decided (test_decided (slice_index text k == 45)) (both_decided (any_decided (take k text)) (any_decided (drop (k + 1) text)))

hyphenated_decided : (text : List ℕ) → Decided (IsHyphenated text)
hyphenated_decided text = decided_as (hyphen_here text) (hyphen_place text) (some_below {P = HyphenAt text} (hyphen_decided text) (length text))

-- special words

applies_decided : (s : Special) (text : List ℕ) → Decided (Applies s text)
applies_decided Numbers text = number_decided text
applies_decided Capitalized text = test_decided (is_capitalized text)
applies_decided Hyphenated text = hyphenated_decided text
applies_decided Unknown text = inl tt

module _ (dict : Dictionary) (text : List ℕ) where
  stands_decided : (s : Special) → Decided (MayStand dict text s)
  stands_decided s = both_decided (applies_decided s text) (has_decided dict (special_word s))

  -- the first one, or none
  abbrev pub Found : Type 0
  Found = ((s : Special) × IsFirstSpecial dict text s) ⊎ ((s : Special) → MayNot dict text s)

  found_at : (i : ℕ) (s : Special) → i < 4 → ((d : Special) → get_or specials i d ≡ s) → AllWithin (MayNot dict text) specials 0 i → (AllWithin (MayNot dict text) specials 0 (i + 1) → Found) → Found
  found_at i s within here before next =
      ⊎_elim (λ stands. inl (s, first_found dict text (Some s) (stands, i, within, here, before)))
      (λ never. next (AllWithin-more (MayNot dict text) specials 0 i before (λ d. subst (MayNot dict text) (sym (here d)) never)))
      (stands_decided s)

  pub first_decided : Found
  first_decided =
      found_at 0 Numbers (omega arith) (λ d. refl) (AllWithin-none (MayNot dict text) specials 0)
      (λ n0. found_at 1 Capitalized (omega arith) (λ d. refl) n0
      (λ n1. found_at 2 Hyphenated (omega arith) (λ d. refl) n1
      (λ n2. found_at 3 Unknown (omega arith) (λ d. refl) n2
      (λ n3. inr (first_found dict text None n3)))))
