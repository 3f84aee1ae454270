-- A text none of whose bytes is a line feed, byte by byte and as one test.
use Rattle.std.proofs.Common.{◌≡◌, ◌≢◌, ℕ, ◌||◌, Bool, true, false, eqb, List, [], ◌∷◌, refl, sym}
use borrow.Author.Tests.{eqb-true}
use Rattle.std.specs.List.{list_any}
use Rattle.lg_script.specs.SingleLines.{IsSingleLine}
use Rattle.lg_text.specs.Shown.{IsOneLine}

abbrev pub NoFeed : ℕ → Type 0
NoFeed b = b ≢ 10

pub one_line : (text : List ℕ) → IsSingleLine text → IsOneLine text
one_line [] h = refl
one_line (b ∷ bs) h = by (eqb 10 b) refl (one_line bs h.1)
  where
    by : (c : Bool) → eqb 10 b ≡ c → IsOneLine bs → (c || list_any (eqb 10) bs) ≡ false
    by true e rest = absurd (h.0 (sym (eqb-true 10 b e)))
    by false e rest = rest
