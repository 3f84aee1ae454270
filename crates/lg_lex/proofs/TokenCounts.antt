-- A text has no more tokens than bytes.
use Rattle.std.proofs.Common.{◌≡◌, ℕ, ◌+◌, ◌≤◌, List, [], ◌∷◌, ◌++◌, length, refl, ap, arith, length-append}
use Rattle.lg_lex.specs.declared.marks.Marks.{Marks}
use Rattle.lg_lex.specs.Tokens.{Lexeme, sign, quoted, plain, broken, gap_text, Spells, AfterToken, AreTokens}

module _ (marks : Marks) where
  -- a token has a byte
  some_bytes : (t : Lexeme) (text rest : List ℕ) → Spells marks t text rest → 1 ≤ length text
  some_bytes (sign b) text rest (is_sign, split) = rw split (omega arith)
  some_bytes (quoted w) text rest (quotes, some, inside, split) = rw split (omega arith)
  some_bytes (plain []) text rest (some, are, ends, split) = absurd (some refl)
  some_bytes (plain (b ∷ w)) text rest (some, are, ends, split) = rw split (omega arith)
  some_bytes broken text rest (quotes, unclosed, split) = rw split (omega arith)

  -- the tokens after one
  more_tokens : (t : Lexeme) (ts : List (Lexeme × ℕ)) (at : ℕ) (rest : List ℕ) → (AreTokens marks ts at rest → length ts ≤ length rest) → AfterToken t (ts ≡ []) (AreTokens marks ts at rest) → length ts ≤ length rest
  more_tokens (sign b) ts at rest next after = next after
  more_tokens (quoted w) ts at rest next after = next after
  more_tokens (plain w) ts at rest next after = next after
  more_tokens broken ts at rest next after = rw after (omega arith)

  pub few_tokens : (ts : List (Lexeme × ℕ)) (before : ℕ) (bytes : List ℕ) → AreTokens marks ts before bytes → length ts ≤ length bytes
  few_tokens [] before bytes are = omega arith
  few_tokens (t ∷ ts) before bytes (gap, text, rest, skips, spells, split, start, after) =
      let here = some_bytes t.0 text rest spells in
      let more = more_tokens t.0 ts (t.1 + length text) rest (few_tokens ts (t.1 + length text) rest) after in
      omega (arith, ap length split, length-append (gap_text gap) (text ++ rest), length-append text rest)
