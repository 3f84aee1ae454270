-- The lowest bit of a word.
use Rattle.std.proofs.Common.{◌≡◌, ℕ, ◌+◌, ◌*◌, ◌^◌, ◌≤◌, ap, ◌∙◌, arith}
use Rattle.std.specs.Prelude.{bit_and, bit_or}
use Rattle.std.proofs.lemmas.Nat.{or_shifted, or_block, or_disjoint, and_le_r}

-- setting the lowest bit of an even number adds one
pub even_next : (n : ℕ) → bit_or (2 * n) 1 ≡ 2 * n + 1
even_next n =
    let swap : 2 * n ≡ n * 2 ^ 1 = omega arith in
    let set : bit_or (n * 2 ^ 1) 1 ≡ n * 2 ^ 1 + 1 = or_shifted n 1 1 (omega arith) in
    ap (λ (m : ℕ). bit_or m 1) swap ∙ set ∙ omega arith

or_nothing : (n : ℕ) → bit_or n 0 ≡ n
or_nothing n = let none : bit_and n 0 ≤ 0 = and_le_r n 0 in let apart : bit_and n 0 ≡ 0 = omega arith in or_disjoint n 0 apart ∙ omega arith

-- an odd number has it already
pub odd_stays : (n : ℕ) → bit_or (2 * n + 1) 1 ≡ 2 * n + 1
odd_stays n =
    let swap : 2 * n + 1 ≡ n * 2 ^ 1 + 1 = omega arith in
    let both : bit_or (n * 2 ^ 1 + 1) 1 ≡ bit_or n 0 * 2 ^ 1 + 1 = or_block 1 n 0 1 1 (omega arith) (omega arith) in
    ap (λ (m : ℕ). bit_or m 1) swap ∙ both ∙ ap (λ (m : ℕ). m * 2 ^ 1 + 1) (or_nothing n) ∙ omega arith
