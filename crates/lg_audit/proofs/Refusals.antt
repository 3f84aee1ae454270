-- Why an edit is refused, as it is printed.
use Rattle.std.proofs.Common.{◌≡◌, ℕ, ◌<◌, ◌^◌, Bool, true, eqb, List, ◌++◌, decimal, ap, sym, ◌∙◌}
use Rattle.std.specs.Cmp.Lexicographic.{pointwise}
use Rattle.std.proofs.lemmas.Bool.Decides.{Decides-eqb}
use Rattle.std.proofs.lemmas.List.{append_cancel_left}
use Rattle.std.proofs.lemmas.Slice.Eq.{slice_eq-Decides}
use Rattle.lg_audit.proofs.Heads.{same_number}

-- a number that stands alone behind a word
pub same_count : (text front : List ℕ) (found number : ℕ) → text ≡ front ++ decimal found → found < 2 ^ 64 → number < 2 ^ 64
    → (eqb found number ≡ true → text ≡ front ++ decimal number) × (text ≡ front ++ decimal number → eqb found number ≡ true)
same_count text front found number is fits fits' =
    let same = same_number (decimal found) found number (λ i. decimal found) fits fits' in
    (λ e. is ∙ ap (λ (l : List ℕ). front ++ l) (same.0 e), λ e. same.1 (append_cancel_left front (decimal found) (decimal number) (sym is ∙ e)))

-- a text that stands behind a word
pub same_behind : (text front rest name : List ℕ) (r : Bool) → text ≡ front ++ rest → r ≡ pointwise eqb rest name
    → (r ≡ true → text ≡ front ++ name) × (text ≡ front ++ name → r ≡ true)
same_behind text front rest name r is same =
    let decides = slice_eq-Decides Decides-eqb rest name r same in
    (λ e. is ∙ ap (λ (l : List ℕ). front ++ l) (decides.0 e), λ e. decides.1 (append_cancel_left front rest name (sym is ∙ e)))
