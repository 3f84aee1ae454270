-- Bytes that are written or read piece by piece.
use Rattle.std.proofs.Common.{◌≡◌, ℕ, ◌+◌, ◌-◌, ◌≤◌, List, ◌++◌, length, take, drop, ap, sym, ◌∙◌, arith, length-drop}
use Rattle.std.proofs.lemmas.List.{take_rest}
use lib.Seq.{take-add}

-- the front grows by the first bytes of the rest
pub front_grows : (done count : ℕ) (bytes : List ℕ) → take (done + count) bytes ≡ take done bytes ++ take count (take (length bytes - done) (drop done bytes))
front_grows done count bytes =
    take-add done count bytes ∙ ap (λ rest. take done bytes ++ take count rest) (sym (take_rest bytes done))

-- and stays within them
pub front_within : (done count : ℕ) (bytes : List ℕ) → done ≤ length bytes → count ≤ length (take (length bytes - done) (drop done bytes)) → done + count ≤ length bytes
front_within done count bytes within fits = omega (arith, ap length (take_rest bytes done), length-drop done bytes)
