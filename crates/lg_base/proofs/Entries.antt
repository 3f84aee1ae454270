-- Steps of a search among entries, whose keys are bytes.
use Rattle.std.proofs.Common.{◌≡◌, ℕ, List, ◌∷◌, true, false, cond, Some, ap, sym, ◌∙◌, nat_eq}
use lib.Pointwise.{pointwise}
use Rattle.std.specs.Ordering.{nat_cmp}
use Rattle.std.specs.Cmp.Lexicographic.{slice_cmp, texts_ties}
use Rattle.std.specs.FinMap.{find}

-- the first entry has the key
pub found_first : {X : Type 0} (key first : List ℕ) (value : X) (rest : List (List ℕ × X)) → true ≡ pointwise nat_eq key first → find (slice_cmp nat_cmp) key ((first, value) ∷ rest) ≡ Some value
found_first key first value rest same = ap (λ b. cond b (Some value) (find (slice_cmp nat_cmp) key rest)) (sym (texts_ties key first) ∙ sym same)

-- the first entry has another key
pub passed_first : {X : Type 0} (key first : List ℕ) (value : X) (rest : List (List ℕ × X)) → false ≡ pointwise nat_eq key first → find (slice_cmp nat_cmp) key ((first, value) ∷ rest) ≡ find (slice_cmp nat_cmp) key rest
passed_first key first value rest other = ap (λ b. cond b (Some value) (find (slice_cmp nat_cmp) key rest)) (sym (texts_ties key first) ∙ sym other)
