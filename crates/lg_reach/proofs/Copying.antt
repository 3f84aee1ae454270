-- Lists that are copied, one element after another.
use Rattle.std.proofs.Common.{◌≡◌, ◌∙◌, sym, ap, ℕ, ◌+◌, ◌<◌, List, [], ◌∷◌, ◌++◌, length, get_or, take}
use Rattle.std.proofs.lemmas.List.{append_assoc, append-nil, nil_from_length, take_more}

-- one element more
pub take_next : {X : Type 0} (es done : List X) (i : ℕ) (e x : X) → i < length es → e ≡ get_or es i e → done ≡ take i es → x ≡ e → done ++ x ∷ [] ≡ take (i + 1) es
take_next es done i e x within read is same = ap (λ xs. xs ++ x ∷ []) is ∙ ap (λ y. take i es ++ y ∷ []) (same ∙ read) ∙ sym (take_more es i e within)

-- the same where the rest is at hand
pub rest_next : {X : Type 0} (done rest all : List X) (e x : X) → x ≡ e → done ++ e ∷ rest ≡ all → (done ++ x ∷ []) ++ rest ≡ all
rest_next done rest all e x same told = append_assoc done (x ∷ []) rest ∙ ap (λ y. done ++ y ∷ rest) same ∙ told

pub rest_none : {X : Type 0} (done rest all : List X) → length rest ≡ 0 → done ++ rest ≡ all → done ≡ all
rest_none done rest all none told = sym (append-nil done) ∙ ap (λ xs. done ++ xs) (sym (nil_from_length rest none)) ∙ told
