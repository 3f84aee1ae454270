-- Choices and rows within a problem's limits.
use Rattle.std.proofs.Common.{◌≡◌, ℕ, ◌<◌, ◌≤◌, ◌+◌, List, [], ◌∷◌, ◌++◌, length, get_or, subst, sym, ap, arith, length-append, Option, Some}
use Rattle.std.specs.List.{All}
use Rattle.std.proofs.lemmas.List.Elements.{All-push, All-head, All-tail}
use Rattle.lg_gram.specs.Problems.{FitsProblem}
use Rattle.lg_gram.specs.declared.disjunct.Disjunct.{Disjunct}
use Rattle.lg_rules.specs.Partners.{FitsChoice}

module _ (chosen : List (Option Disjunct)) (rows : List (List Disjunct)) (row : List Disjunct) (later : List (List Disjunct)) (split : rows ≡ row ∷ later) where
  pub later_fit : All (All FitsProblem) rows → All (All FitsProblem) later
  later_fit fit = All-tail (All FitsProblem) row later (subst (All (All FitsProblem)) split fit)

  -- one of the row at the next position
  pub next_fits : All FitsChoice chosen → All (All FitsProblem) rows → (row' : List Disjunct) → row' ≡ row → (i : ℕ) (d : Disjunct) → i < length row' → d ≡ get_or row' i d →
      (next : List (Option Disjunct)) → next ≡ chosen ++ Some d ∷ [] → All FitsChoice next
  next_fits fit rows_fit row' same i d below at next is =
      let row_fits = subst (All FitsProblem) (sym same) (All-head (All FitsProblem) row later (subst (All (All FitsProblem)) split rows_fit)) in
      subst (All FitsChoice) (sym is) (All-push FitsChoice chosen (Some d) fit (subst FitsProblem (sym at) (row_fits i d below)))

  pub next_short : (n : ℕ) → length chosen + length rows ≤ n → (o : Option Disjunct) (next : List (Option Disjunct)) → next ≡ chosen ++ o ∷ [] → length next + length later ≤ n
  next_short n short o next is =
      let longer = ap (λ (xs : List (Option Disjunct)). length xs) is in
      let rest = ap (λ (xs : List (List Disjunct)). length xs) split in
      omega (arith, longer, rest, length-append chosen (o ∷ []))
