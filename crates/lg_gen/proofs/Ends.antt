-- What a list ends in.
use Rattle.std.proofs.Common.{◌≡◌, ℕ, zero, suc, ◌^◌, ◌<◌, ◌≤◌, true, false, List, [], ◌∷◌, ◌++◌, codes, ap, sym, ◌∙◌, subst, arith, append_assoc, append-nil}
use Rattle.std.proofs.lemmas.Bool.Decides.{nat_tests}
use Rattle.std.specs.Fmt.{decimal}
use Rattle.lg_lex.specs.declared.run.Separators.TheVariants.{Blanks}
use Rattle.lg_lex.specs.Runs.{is_separator}
use Rattle.lg_gen.specs.Made.{word, next, drawn, drawn_words}
use Rattle.lg_gen.proofs.Bytes.{is_digit, decimal_digits, drawn_is_less}

pub not_nil : (xs : List ℕ) (b : ℕ) → [] ≡ xs ++ b ∷ [] → ⊥
not_nil [] b = λ e. cc
not_nil (x ∷ xs) b = λ e. cc

pub last_same : (xs ys : List ℕ) (a b : ℕ) → xs ++ a ∷ [] ≡ ys ++ b ∷ [] → a ≡ b
last_same [] [] a b e = cc
last_same [] (y ∷ ys) a b e = let tails : [] ≡ ys ++ b ∷ [] = cc in absurd (not_nil ys b tails)
last_same (x ∷ xs) [] a b e = let tails : [] ≡ xs ++ a ∷ [] = cc in absurd (not_nil xs a tails)
last_same (x ∷ xs) (y ∷ ys) a b e = let tails : xs ++ a ∷ [] ≡ ys ++ b ∷ [] = cc in last_same xs ys a b tails

-- it ends in a byte that is no blank
pub record EndsWhole (xs : List ℕ) : Type 0 where
  pub front : List ℕ
  pub last : ℕ
  pub is : xs ≡ front ++ last ∷ []
  pub whole : is_separator Blanks last ≡ false

ends_behind : (xs ys : List ℕ) → EndsWhole ys → EndsWhole (xs ++ ys)
ends_behind xs ys h = record { front = xs ++ h.front; last = h.last; is = ap (λ (l : List ℕ). xs ++ l) h.is ∙ sym (append_assoc xs h.front (h.last ∷ [])); whole = h.whole }

digit_is_whole : (b : ℕ) → is_digit b ≡ true → is_separator Blanks b ≡ false
digit_is_whole b e = grind (arith, nat_tests)

word_ends : (n : ℕ) → n < 2 ^ 64 → EndsWhole (word n)
word_ends n h =
    let d = decimal_digits n h in
    ends_behind (codes "w") (decimal n) (record { front = d.front; last = d.last; is = d.is; whole = digit_is_whole d.last d.last_is })

-- drawn words, but for the first space
abbrev pub told_words : ℕ → ℕ → ℕ → List ℕ
told_words words n state = word (drawn words (next state)) ++ drawn_words words n (next state)

module _ (words : ℕ) (some : 1 ≤ words) (few : words ≤ 100000) where
  pub told_end : (n state : ℕ) → EndsWhole (told_words words n state)
  told_end zero state =
      let less = drawn_is_less words (next state) some in
      let n = drawn words (next state) in
      subst EndsWhole (sym (append-nil (word n))) (word_ends n (omega arith))
  told_end (suc n) state =
      ends_behind (word (drawn words (next state))) (drawn_words words (suc n) (next state))
      (ends_behind (codes " ") (told_words words n (next state)) (told_end n (next state)))
