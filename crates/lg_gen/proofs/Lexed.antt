-- The tokens that an entry begins with.
use Rattle.std.proofs.Common.{◌≡◌, ℕ, ◌+◌, true, List, [], ◌∷◌, ◌++◌, ap, sym, ◌∙◌, arith, append_assoc, append-nil}
use Rattle.std.specs.List.{list_all}
use Rattle.std.proofs.lemmas.Bool.{and_parts}
use Rattle.std.proofs.lemmas.Bool.Decides.{nat_tests}
use Rattle.lg_lex.specs.declared.marks.Class.{Class}
use Rattle.lg_lex.specs.declared.marks.Class.TheVariants.{Other}
use Rattle.lg_lex.specs.declared.marks.Marks.TheVariants.{Dictionary}
use Rattle.lg_lex.specs.Classes.{class_of}
use Rattle.lg_lex.specs.Lexing.{lex, lex_step, between, in_plain}
use Rattle.lg_lex.specs.Tokens.{sign, plain}
use Rattle.lg_gen.proofs.Bytes.{is_digit}

digit_class : (b : ℕ) → is_digit b ≡ true → class_of Dictionary b ≡ Other
digit_class b e = grind (arith, nat_tests)

-- digits after some of a plain token, up to a colon
pub digits_and_colon : (start at : ℕ) (w ds rest : List ℕ) → list_all is_digit ds ≡ true
    → (b : ℕ) × (c : ℕ) × (lex Dictionary (in_plain start w) at (ds ++ 58 ∷ rest) ≡ (plain (w ++ ds), start) ∷ (sign 58, b) ∷ lex Dictionary between c rest)
digits_and_colon start at w [] rest all = (at, at + 1, ap (λ (l : List ℕ). (plain l, start) ∷ (sign 58, at) ∷ lex Dictionary between (at + 1) rest) (sym (append-nil w)))
digits_and_colon start at w (d ∷ ds) rest all =
    let parts = and_parts (is_digit d) (list_all is_digit ds) all in
    let (b, c, is) = digits_and_colon start (at + 1) (w ++ d ∷ []) ds rest parts.1 in
    let one = ap (λ (k : Class). lex_step (in_plain start w) k d at (λ n. lex Dictionary n (at + 1) (ds ++ 58 ∷ rest))) (digit_class d parts.0) in
    (b, c, one ∙ is ∙ ap (λ (l : List ℕ). (plain l, start) ∷ (sign 58, b) ∷ lex Dictionary between c rest) (append_assoc w (d ∷ []) ds))
