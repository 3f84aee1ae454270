-- A `-` that stands between other bytes, by the places of the first and the last of the others.
use Rattle.std.proofs.Common.{◌≡◌, ◌≢◌, ◌↔◌, ℕ, ◌+◌, ◌-◌, ◌<◌, ◌≤◌, List, [], ◌∷◌, ◌++◌, Bool, true, false, nat_eq, length, take, drop, get_or, slice_index, IsTrue, refl, sym, ap, ◌∙◌, true≢false, arith, length-take, length-drop}
use borrow.Author.Tests.{eqb-true}
use Rattle.std.specs.Prelude.{slice_range}
use Rattle.std.specs.List.{IsAnyAnswer}
use Rattle.std.proofs.lemmas.List.{get_or-take, get_or-drop, get_or_default, get_or_at, get_or_append_left, get_or-append-add, take-append-drop, drop_more, length-append, append_assoc}
use Rattle.lg_token.specs.Words.{IsHyphenated}

-- where the first and the last byte other than `-` stand
pub record OthersAt (text : List ℕ) (first last : ℕ) : Type 0 where
  pub within : last < length text
  pub first_is : slice_index text first ≢ 45
  pub last_is : slice_index text last ≢ 45
  pub before : (k : ℕ) → k < first → slice_index text k ≡ 45
  pub after : (k : ℕ) → last < k → k < length text → slice_index text k ≡ 45

-- a `-` between them
pub record IsBetween (text : List ℕ) (first last k : ℕ) : Type 0 where
  pub above : first < k
  pub below : k < last
  pub is : slice_index text k ≡ 45

-- a byte of a list, at any default
at_own : (xs : List ℕ) (k : ℕ) → k < length xs → get_or xs k (get_or xs k 0) ≡ get_or xs k 0
at_own xs k within = get_or_default xs k (get_or xs k 0) 0 within

module _ (text : List ℕ) (first last : ℕ) (o : OthersAt text first last) where
  hyphenated_at : (k : ℕ) → IsBetween text first last k → IsHyphenated text
  hyphenated_at k b =
      let above = b.above in
      let below = b.below in
      let within = o.within in
      let inside : k < length text = omega arith in
      let at_first : get_or (take k text) first (get_or text first 0) ≡ get_or text first 0 = get_or-take k text first (get_or text first 0) above ∙ at_own text first (omega arith) in
      let place : k + 1 + (last - (k + 1)) ≡ last = omega arith in
      let at_last : get_or (drop (k + 1) text) (last - (k + 1)) (get_or text last 0) ≡ get_or text last 0 =
      get_or-drop (k + 1) text (last - (k + 1)) (get_or text last 0) ∙ ap (λ n. get_or text n (get_or text last 0)) place ∙ at_own text last within in
      record {
        before = take k text;
        after = drop (k + 1) text;
        parts = sym (take-append-drop k text) ∙ ap (λ l. take k text ++ l) (drop_more text k 0 inside ∙ ap (λ x. x ∷ drop (k + 1) text) b.is);
        left = (first, get_or text first 0, omega (arith, length-take k text), at_first, o.first_is);
        right = (last - (k + 1), get_or text last 0, omega (arith, length-drop (k + 1) text), at_last, o.last_is);
      }

  module _ (h : IsHyphenated text) where
    in_before : (p : ℕ) → p < length h.before → slice_index text p ≡ get_or h.before p 0
    in_before p within = ap (λ l. get_or l p 0) h.parts ∙ get_or_append_left h.before (45 ∷ h.after) 0 p within

    in_after : (q : ℕ) → slice_index text (length h.before + 1 + q) ≡ get_or h.after q 0
    in_after q =
        ap (λ l. get_or l (length h.before + 1 + q) 0) (h.parts ∙ sym (append_assoc h.before (45 ∷ []) h.after))
        ∙ ap (λ n. get_or ((h.before ++ 45 ∷ []) ++ h.after) (n + q) 0) (sym (length-append h.before (45 ∷ [])))
        ∙ get_or-append-add (h.before ++ 45 ∷ []) h.after q 0

    not_below : (p : ℕ) (x : ℕ) → p < length h.before → get_or h.before p x ≡ x → x ≢ 45 → p < first → ⊥
    not_below p x within is other low = other (sym (sym (get_or_default h.before p x 0 within) ∙ is) ∙ sym (in_before p within) ∙ o.before p low)

    not_above : (q : ℕ) (x : ℕ) → q < length h.after → get_or h.after q x ≡ x → x ≢ 45 → last < length h.before + 1 + q → ⊥
    not_above q x within is other high =
        let long : length text ≡ length h.before + length (45 ∷ h.after) = ap length h.parts ∙ length-append h.before (45 ∷ h.after) in
        other (sym (sym (get_or_default h.after q x 0 within) ∙ is) ∙ sym (in_after q) ∙ o.after (length h.before + 1 + q) high (omega arith))

    between : IsBetween text first last (length h.before)
    between =
        let p = h.left.0 in
        let q = h.right.0 in
        let low : (p < first → ⊥) = not_below p h.left.1 h.left.2 h.left.3 h.left.4 in
        let high : (last < length h.before + 1 + q → ⊥) = not_above q h.right.1 h.right.2 h.right.3 h.right.4 in
        let within = h.left.2 in
        record {
          above = omega arith;
          below = omega arith;
          is = ap (λ l. get_or l (length h.before) 0) h.parts ∙ get_or_at h.before 45 h.after 0 (length h.before) refl;
        }

  -- what a search for it answers
  found : (r : Bool) → first < last → IsAnyAnswer (λ y b. nat_eq y 45 ≡ b) (slice_range text first last) r → IsTrue r → IsHyphenated text
  found true apart (k, within, is) t =
      let short = length-take (last - first) (drop first text) in
      let low : k < last - first = omega arith in
      let is_there : slice_index text (first + k) ≡ 45 = sym (get_or-take (last - first) (drop first text) k 0 low ∙ get_or-drop first text k 0) ∙ eqb-true _ _ (is 0) in
      let ne : k ≢ 0 = λ z. o.first_is (ap (slice_index text) (let e : first ≡ first + k = omega arith in e) ∙ is_there) in
      hyphenated_at (first + k) (record { above = omega arith; below = omega arith; is = is_there })
  found false apart none t = absurd (true≢false (sym t))

  searched : (r : Bool) → first < last → IsAnyAnswer (λ y b. nat_eq y 45 ≡ b) (slice_range text first last) r → IsHyphenated text → IsTrue r
  searched true apart any h = refl
  searched false apart none h =
      let b = between h in
      let k = length h.before - first in
      let above = b.above in
      let below = b.below in
      let within = o.within in
      let low : k < last - first = omega arith in
      let place : first + k ≡ length h.before = omega arith in
      let short = length-take (last - first) (drop first text) in
      let rest = length-drop first text in
      let is_there : get_or (slice_range text first last) k 0 ≡ 45 = get_or-take (last - first) (drop first text) k 0 low ∙ get_or-drop first text k 0 ∙ ap (slice_index text) place ∙ b.is in
      absurd (true≢false (sym (ap (λ n. nat_eq n 45) is_there) ∙ none k 0 (omega arith) (omega arith)))

  pub searched_between : (r : Bool) → first < last → IsAnyAnswer (λ y b. nat_eq y 45 ≡ b) (slice_range text first last) r → IsTrue r ↔ IsHyphenated text
  searched_between r apart is = (found r apart is, searched r apart is)

  -- none is there where the two do not stand apart
  pub not_apart : last ≤ first → IsHyphenated text → ⊥
  not_apart close h = let b = between h in let above = b.above in let below = b.below in omega arith

pub others_at : (text : List ℕ) (first last : ℕ)
    → (first < length text) × (slice_index text first ≢ 45) × ((k : ℕ) → k < first → slice_index text k ≡ 45)
    → (last < length text) × (slice_index text last ≢ 45) × ((k : ℕ) → last < k → k < length text → slice_index text k ≡ 45)
    → OthersAt text first last
others_at text first last f l = record { within = l.0; first_is = f.1; last_is = l.1; before = f.2; after = l.2 }
