-- Pieces that are joined by commas.
use Rattle.std.proofs.Common.{◌≡◌, ◌∙◌, ℕ, Bool, ◌||◌, List, [], ◌∷◌, ◌++◌, sym, ap, append-nil, refl}
use Rattle.std.specs.Borrow.{Bor}
use Rattle.std.specs.List.{flat_map, join_with_byte, list_any}
use Rattle.std.proofs.lemmas.List.{append_assoc}
use Rattle.std.proofs.lemmas.Grind.{flat_map-append}
use Rattle.lg_audit.specs.Views.{texts}

-- joined parts are the first one, and each other one behind the byte
pub join_with_byte-cons : (c : ℕ) (first : List ℕ) (parts : List (List ℕ)) → join_with_byte c (first ∷ parts) ≡ first ++ flat_map (λ part. c ∷ part) parts
join_with_byte-cons c first [] = sym (append-nil first)
join_with_byte-cons c first (part ∷ parts) = ap (λ rest. first ++ c ∷ rest) (join_with_byte-cons c part parts)

-- a piece and the comma behind it
abbrev pub behind_commas : List ℕ → List ℕ
behind_commas piece = piece ++ 44 ∷ []

-- pieces with commas behind them, and a last one
pub joined_last : (pieces : List (List ℕ)) (last : List ℕ) → flat_map behind_commas pieces ++ last ≡ join_with_byte 44 (pieces ++ last ∷ [])
joined_last [] last = refl
joined_last (p ∷ []) last = append_assoc (behind_commas p) [] last ∙ append_assoc p (44 ∷ []) last
joined_last (p ∷ q ∷ pieces) last =
    append_assoc (behind_commas p) (flat_map behind_commas (q ∷ pieces)) last ∙ append_assoc p (44 ∷ []) (flat_map behind_commas (q ∷ pieces) ++ last)
    ∙ ap (λ (rest : List ℕ). p ++ 44 ∷ rest) (joined_last (q ∷ pieces) last)

-- one piece more
pub one_more : (pieces : List (List ℕ)) (piece left rest : List ℕ) → left ≡ piece ++ 44 ∷ rest → flat_map behind_commas (pieces ++ piece ∷ []) ++ rest ≡ flat_map behind_commas pieces ++ left
one_more pieces piece left rest is =
    ap (λ (t : List ℕ). t ++ rest) (flat_map-append behind_commas pieces (piece ∷ []) ∙ ap (λ (t : List ℕ). flat_map behind_commas pieces ++ t) (append-nil (behind_commas piece)))
    ∙ append_assoc (flat_map behind_commas pieces) (behind_commas piece) rest
    ∙ ap (λ (t : List ℕ). flat_map behind_commas pieces ++ t) (append_assoc piece (44 ∷ []) rest ∙ sym is)

-- a test of the texts
pub any_text : (test : List ℕ → Bool) (xs : List (Bor (List ℕ))) → list_any (λ (x : Bor (List ℕ)). test x.now) xs ≡ list_any test (texts xs)
any_text test [] = refl
any_text test (x ∷ xs) = ap (λ (b : Bool). test x.now || b) (any_text test xs)
