-- Bytes are UTF-8, or there is a first byte that belongs to no whole valid character.
use Rattle.std.proofs.Common.{◌≡◌, ℕ, zero, suc, ◌<◌, ◌≤◌, Bool, true, false, cond, ltb, List, length, take, ◌⊎◌, inl, inr, refl, sym, subst, ◌∙◌, arith, ltb-true, ltb-false}
use Rattle.std.proofs.lemmas.List.{take_all}
use Rattle.std.proofs.lemmas.Str.{IsUtf8-nil, IsUtf8-from_is_utf8, is_utf8-from_IsUtf8, utf8_valid_len-IsValidUpTo}
use Rattle.std.specs.Str.{IsUtf8, IsValidUpTo, is_utf8}
use Rattle.std.specs.Str.Lossy.{valid_len_up_to}

front_at : (bs : List ℕ) (n : ℕ) (b : Bool) → is_utf8 (take (suc n) bs) ≡ b → IsUtf8 (take (valid_len_up_to bs n) bs) → IsUtf8 (take (cond b (suc n) (valid_len_up_to bs n)) bs)
front_at bs n true e below = IsUtf8-from_is_utf8 (take (suc n) bs) e
front_at bs n false e below = below

-- the front of that length is UTF-8
valid_front : (bs : List ℕ) (n : ℕ) → IsUtf8 (take (valid_len_up_to bs n) bs)
valid_front bs zero = IsUtf8-nil
valid_front bs (suc n) = front_at bs n (is_utf8 (take (suc n) bs)) refl (valid_front bs n)

no_last : (bs : List ℕ) (n : ℕ) → is_utf8 (take (suc n) bs) ≡ false → IsUtf8 (take (suc n) bs) → ⊥
no_last bs n e is = let yes = is_utf8-from_IsUtf8 (take (suc n) bs) is in cc

longer_at : (bs : List ℕ) (m n : ℕ) (last : Bool) → ltb n m ≡ last → is_utf8 (take (suc n) bs) ≡ false → m ≤ suc n → (m ≤ n → IsUtf8 (take m bs) → ⊥) → IsUtf8 (take m bs) → ⊥
longer_at bs m n true t e high below is = let here : m ≡ suc n = omega (arith, ltb-true n m t) in no_last bs n e (subst (λ (k : ℕ). IsUtf8 (take k bs)) here is)
longer_at bs m n false t e high below is = below (omega (arith, ltb-false n m t)) is

longest_at : (bs : List ℕ) (m n : ℕ) (b : Bool) → is_utf8 (take (suc n) bs) ≡ b → cond b (suc n) (valid_len_up_to bs n) < m → m ≤ suc n → (valid_len_up_to bs n < m → m ≤ n → IsUtf8 (take m bs) → ⊥) → IsUtf8 (take m bs) → ⊥
longest_at bs m n true e low high below is = absurd (omega arith)
longest_at bs m n false e low high below is = longer_at bs m n (ltb n m) refl e high (below low) is

-- and no longer one is, up to the length that is looked at
valid_longest : (bs : List ℕ) (m n : ℕ) → valid_len_up_to bs n < m → m ≤ n → IsUtf8 (take m bs) → ⊥
valid_longest bs m zero low high is = absurd (omega arith)
valid_longest bs m (suc n) low high is = longest_at bs m n (is_utf8 (take (suc n) bs)) refl low high (valid_longest bs m n) is

whole : (bs : List ℕ) (m : ℕ) → length bs ≤ m → IsUtf8 (take m bs) → IsUtf8 bs
whole bs m le = subst IsUtf8 (take_all m bs le)

beyond : (bs : List ℕ) (m : ℕ) (past : Bool) → ltb (length bs) m ≡ past → is_utf8 bs ≡ false → valid_len_up_to bs (length bs) < m → IsUtf8 (take m bs) → ⊥
beyond bs m true t e low is = let yes = is_utf8-from_IsUtf8 bs (whole bs m (omega (arith, ltb-true (length bs) m t)) is) in cc
beyond bs m false t e low is = valid_longest bs m (length bs) low (omega (arith, ltb-false (length bs) m t)) is

shorter : (bs : List ℕ) (past : Bool) → ltb (valid_len_up_to bs (length bs)) (length bs) ≡ past → is_utf8 bs ≡ false → valid_len_up_to bs (length bs) < length bs
shorter bs true t e = ltb-true _ _ t
shorter bs false t e =
    let all = is_utf8-from_IsUtf8 bs (whole bs (valid_len_up_to bs (length bs)) (ltb-false _ _ t) (valid_front bs (length bs))) in
    absurd cc

utf8_or : (bs : List ℕ) (b : Bool) → is_utf8 bs ≡ b → IsUtf8 bs ⊎ ((n : ℕ) × IsValidUpTo bs n)
utf8_or bs true e = inl (IsUtf8-from_is_utf8 bs e)
utf8_or bs false e =
    inr (
      valid_len_up_to bs (length bs),
      record {
        short = shorter bs (ltb (valid_len_up_to bs (length bs)) (length bs)) refl e;
        front = valid_front bs (length bs);
        longest = λ m low. beyond bs m (ltb (length bs) m) refl e low;
      },
    )

pub utf8_or_fault : (bs : List ℕ) → IsUtf8 bs ⊎ ((n : ℕ) × IsValidUpTo bs n)
utf8_or_fault bs = utf8_or bs (is_utf8 bs) refl

pub one_fault : (bs : List ℕ) (m n : ℕ) → IsValidUpTo bs m → IsValidUpTo bs n → m ≡ n
one_fault bs m n h k = sym (utf8_valid_len-IsValidUpTo bs m h) ∙ utf8_valid_len-IsValidUpTo bs n k

pub fault_apart : (bs : List ℕ) (n : ℕ) → IsValidUpTo bs n → IsUtf8 bs → ⊥
fault_apart bs n h is = h.longest (length bs) h.short (subst IsUtf8 (sym (take_all (length bs) bs (omega arith))) is)
