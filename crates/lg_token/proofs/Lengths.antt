-- The lengths of the pieces of a chunk.
use Rattle.std.proofs.Common.{◌≡◌, ◌+◌, ℕ, List, ◌∷◌, [], length, sym, ap, ◌∙◌, arith, add-one, length-append}
use Rattle.std.proofs.lemmas.List.Sums.{sum_by-cons, sum_by_push}
use Rattle.lg_token.specs.Cuts.{possessive, Pieces, IsCut, known, closing, opening, owner, unknown}
use Rattle.lg_token.specs.Steps.{total}

-- they add up
pub length-pieces : (Known : List ℕ → Type 0) (HasPossessive : Type 0) (chunk : List ℕ) (p : Pieces) → IsCut Known HasPossessive chunk p → total p.before + (length p.middle + total p.after) ≡ length chunk
length-pieces K H chunk p (known chunk' _) = omega arith
length-pieces K H chunk p (closing chunk' rest sign q _ ends cut) =
    let so_far = length-pieces K H rest q cut in
    let long : length chunk' ≡ length rest + 1 = ap length ends.0 ∙ length-append rest (sign ∷ []) in
    let after = sum_by_push length q.after (sign ∷ []) in
    omega arith
length-pieces K H chunk p (opening chunk' rest sign q _ _ begins cut) =
    let so_far = length-pieces K H rest q cut in
    let long : length chunk' ≡ length rest + 1 = ap length begins.0 ∙ sym (add-one (length rest)) in
    let before = sum_by-cons length (sign ∷ []) q.before in
    omega arith
length-pieces K H chunk p (owner chunk' rest q _ _ _ _ ends cut) =
    let so_far = length-pieces K H rest q cut in
    let long : length chunk' ≡ length rest + 2 = ap length ends.0 ∙ length-append rest possessive in
    let after = sum_by_push length q.after possessive in
    omega arith
length-pieces K H chunk p (unknown chunk' _ _ _ _) = omega arith
