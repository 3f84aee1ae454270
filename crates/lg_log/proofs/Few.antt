-- A history has no more codes than the sessions have together: all of them, listed, are that many.
use Rattle.std.proofs.Common.{◌≡◌, ℕ, zero, suc, ◌+◌, ◌<◌, ◌≤◌, true, eqb, List, [], ◌∷◌, ◌++◌, length, get_or, sum, ⊎_elim, refl, ap, sym, ◌∙◌, subst, arith, length-append, true≢false, eq-eqb, eqb-true}
use Rattle.std.specs.List.{list_any, list_all, range_with_len, IsDistinct}
use Rattle.std.proofs.lemmas.Bool.{and_parts, or_cases, or_left, or_right}
use Rattle.std.proofs.lemmas.List.FromFn.{length-range_with_len}
use Rattle.std.proofs.lemmas.List.Folds.{list_any-append}
use Rattle.std.proofs.lemmas.List.Sums.{sum_by-cons}
use Rattle.std.proofs.lemmas.Map.Made.{length-le_from_is_member}
use Rattle.std.proofs.lemmas.Cmp.{nat_eq_equiv}
use Rattle.lg_log.specs.Codes.{code_of, is_code, code_session, code_index}
use Rattle.lg_log.proofs.CodeLaws.{codes_are_of_edits}

-- a number of a range is in it
pub in_range : (a n i : ℕ) → i < n → list_any (eqb (a + i)) (range_with_len a n) ≡ true
in_range a zero i h = absurd (omega arith)
in_range a (suc n) zero h = or_left (eqb (a + 0) a) (list_any (eqb (a + 0)) (range_with_len (a + 1) n)) (eq-eqb (a + 0) a (omega arith))
in_range a (suc n) (suc i) h =
    let same : a + 1 + i ≡ a + suc i = omega arith in
    or_right (eqb (a + suc i) a) (list_any (eqb (a + suc i)) (range_with_len (a + 1) n))
    (subst (λ (k : ℕ). list_any (eqb k) (range_with_len (a + 1) n) ≡ true) same (in_range (a + 1) n i (omega arith)))

-- the codes of the sessions from this one on
all_codes : ℕ → List ℕ → List ℕ
all_codes session [] = []
all_codes session (n ∷ ns) = range_with_len (code_of session 0) n ++ all_codes (session + 1) ns

length-all_codes : (session : ℕ) (counts : List ℕ) → length (all_codes session counts) ≡ sum counts
unfolding all_codes
length-all_codes session [] = refl
length-all_codes session (n ∷ ns) = omega (
  arith,
  sum_by-cons (λ (x : ℕ). x) n ns,
  length-append (range_with_len (code_of session 0) n) (all_codes (session + 1) ns),
  length-range_with_len (code_of session 0) n,
  length-all_codes (session + 1) ns,
)

-- they have the code of each index of the k-th of these sessions
listed : (from k i : ℕ) (counts : List ℕ) → i < get_or counts k 0 → list_any (eqb (code_of (from + k) i)) (all_codes from counts) ≡ true
unfolding all_codes
listed from k i [] h = absurd (omega arith)
listed from zero i (n ∷ ns) h =
    let code : ℕ = code_of (from + 0) i in
    let same : code_of from 0 + i ≡ code = omega arith in
    list_any-append (eqb code) (range_with_len (code_of from 0) n) (all_codes (from + 1) ns)
    ∙ or_left _ _ (subst (λ (c : ℕ). list_any (eqb c) (range_with_len (code_of from 0) n) ≡ true) same (in_range (code_of from 0) n i h))
listed from (suc k) i (n ∷ ns) h =
    let code : ℕ = code_of (from + suc k) i in
    let same : code_of (from + 1 + k) i ≡ code = omega arith in
    list_any-append (eqb code) (range_with_len (code_of from 0) n) (all_codes (from + 1) ns)
    ∙ or_right _ _ (subst (λ (c : ℕ). list_any (eqb c) (all_codes (from + 1) ns) ≡ true) same (listed (from + 1) k i ns h))

code_is_listed : (counts : List ℕ) (code : ℕ) → is_code counts code ≡ true → list_any (eqb code) (all_codes 0 counts) ≡ true
code_is_listed counts code good =
    let edit = codes_are_of_edits counts code good in
    let same : code_of (0 + code_session code) (code_index code) ≡ code = omega (arith, edit.0) in
    subst (λ (c : ℕ). list_any (eqb c) (all_codes 0 counts) ≡ true) same (listed 0 (code_session code) (code_index code) counts edit.2)

member_is_code : (counts codes : List ℕ) (q : ℕ) → list_all (is_code counts) codes ≡ true → list_any (eqb q) codes ≡ true → is_code counts q ≡ true
member_is_code counts [] q good h = absurd (true≢false (sym h))
member_is_code counts (c ∷ cs) q good h =
    let parts = and_parts (is_code counts c) (list_all (is_code counts) cs) good in
    ⊎_elim
    (λ (e : eqb q c ≡ true). ap (is_code counts) (eqb-true q c e) ∙ parts.0)
    (λ (e : list_any (eqb q) cs ≡ true). member_is_code counts cs q parts.1 e)
    (or_cases (eqb q c) (list_any (eqb q) cs) h)

pub few : (counts codes : List ℕ) → list_all (is_code counts) codes ≡ true → IsDistinct eqb codes → length codes ≤ sum counts
few counts codes good distinct = subst (λ (n : ℕ). length codes ≤ n) (length-all_codes 0 counts)
    (length-le_from_is_member nat_eq_equiv codes (all_codes 0 counts) distinct (λ q h. code_is_listed counts q (member_is_code counts codes q good h)))
