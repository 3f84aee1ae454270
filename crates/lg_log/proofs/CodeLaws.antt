-- Edits and their codes.
use Rattle.std.proofs.Common.{◌≡◌, ℕ, zero, suc, ◌^◌, ◌<◌, ◌≤◌, leb, ltb, List, [], ◌∷◌, length, get_or, slice_index, subst₂, sym, arith, leb-true, ltb-true, le-leb, lt-ltb}
use Rattle.std.proofs.lemmas.Bool.{and_parts, and_from}
use Rattle.lg_log.specs.Codes.{code_of, code_session, code_index, EditsHaveCodes, CodesAreOfEdits}

in_list : (counts : List ℕ) (i : ℕ) → 0 < get_or counts i 0 → i < length counts
in_list [] i some = absurd (omega arith)
in_list (n ∷ ns) zero some = omega arith
in_list (n ∷ ns) (suc i) some = let less = in_list ns i some in omega arith

pub edits_have_codes : EditsHaveCodes
edits_have_codes counts session index small less =
    let code : ℕ = code_of session index in
    let session_is : code_session code ≡ session = omega arith in
    let index_is : code_index code ≡ index = omega arith in
    let less' : code_index code < slice_index counts (code_session code) = subst₂ (λ (s : ℕ) (i : ℕ). i < slice_index counts s) (sym session_is) (sym index_is) less in
    (and_from (leb (2 ^ 32) code) (ltb (code_index code) (slice_index counts (code_session code))) (le-leb _ _ (omega arith)) (lt-ltb _ _ less'), session_is, index_is)

pub codes_are_of_edits : CodesAreOfEdits
codes_are_of_edits counts code good =
    let parts = and_parts (leb (2 ^ 32) code) (ltb (code_index code) (slice_index counts (code_session code))) good in
    let large : 2 ^ 32 ≤ code = leb-true _ _ parts.0 in
    let less : code_index code < slice_index counts (code_session code) = ltb-true _ _ parts.1 in
    (omega arith, in_list counts (code_session code) (omega arith), less)
