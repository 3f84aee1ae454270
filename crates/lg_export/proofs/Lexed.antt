-- The tokens of a text that begins with a plain token, or with a word in quotes.
use Rattle.std.proofs.Common.{◌≡◌, ◌≢◌, ℕ, ◌+◌, ◌==◌, ◌||◌, Bool, true, false, List, [], ◌∷◌, ◌++◌, refl, ap, sym, ◌∙◌, append_assoc, append-nil, true≢false, cond}
use Rattle.std.specs.List.{list_any, list_all, AllByRecursion}
use Rattle.std.proofs.lemmas.Bool.{and_parts}
use Rattle.lg_lex.specs.declared.marks.Class.{Class}
use Rattle.lg_lex.specs.declared.marks.Class.TheVariants.{Blank, LineEnd, Percent, Quote, Sign, Other}
use Rattle.lg_lex.specs.declared.marks.Marks.TheVariants.{Dictionary}
use Rattle.lg_lex.specs.Classes.{class_of, is_blank, is_sign}
use Rattle.lg_lex.specs.Lexing.{Rest, lex, lex_step, between, in_plain, in_quotes, begun, plained, quoting, closed}
use Rattle.lg_lex.specs.Tokens.{plain, quoted, ArePlain, EndsPlain}

-- ---- plain tokens

-- bytes that pass a test of plain bytes
pub plain_bytes : (p : ℕ → Bool) → ((b : ℕ) → p b ≡ true → class_of Dictionary b ≡ Other) → (xs : List ℕ) → list_all p xs ≡ true → ArePlain Dictionary xs
plain_bytes p other [] all = tt
plain_bytes p other (x ∷ xs) all = let parts = and_parts (p x) (list_all p xs) all in (other x parts.0, plain_bytes p other xs parts.1)

pub plain_both : (xs ys : List ℕ) → ArePlain Dictionary xs → ArePlain Dictionary ys → ArePlain Dictionary (xs ++ ys)
plain_both [] ys p q = q
plain_both (x ∷ xs) ys p q = (p.0, plain_both xs ys p.1 q)

ends_there : (start at b : ℕ) (w : List ℕ) (k : Class) (next : Rest) → k ≢ Other → plained start w k b at next ≡ (plain w, start) ∷ begun k b at next
ends_there start at b w Blank next h = refl
ends_there start at b w LineEnd next h = refl
ends_there start at b w Percent next h = refl
ends_there start at b w Quote next h = refl
ends_there start at b w Sign next h = refl
ends_there start at b w Other next h = absurd (h refl)

goes_on : (start at : ℕ) (w ws rest : List ℕ) → ArePlain Dictionary ws → EndsPlain Dictionary rest
    → (n : ℕ) × (lex Dictionary (in_plain start w) at (ws ++ rest) ≡ (plain (w ++ ws), start) ∷ lex Dictionary between n rest)
goes_on start at w [] [] p e = (at, ap (λ (l : List ℕ). (plain l, start) ∷ []) (sym (append-nil w)))
goes_on start at w [] (b ∷ rest) p e = (
  at,
  ends_there start at b w (class_of Dictionary b) (λ n. lex Dictionary n (at + 1) rest) e
      ∙ ap (λ (l : List ℕ). (plain l, start) ∷ lex Dictionary between at (b ∷ rest)) (sym (append-nil w)),
)
goes_on start at w (b ∷ ws) rest p e =
    let (n, is) = goes_on start (at + 1) (w ++ b ∷ []) ws rest p.1 e in (
      n,
      ap (λ (k : Class). lex_step (in_plain start w) k b at (λ n. lex Dictionary n (at + 1) (ws ++ rest))) p.0 ∙ is
          ∙ ap (λ (l : List ℕ). (plain l, start) ∷ lex Dictionary between n rest) (append_assoc w (b ∷ []) ws),
    )

pub one_plain : (w : List ℕ) → w ≢ [] → ArePlain Dictionary w → (at : ℕ) (rest : List ℕ) → EndsPlain Dictionary rest
    → (n : ℕ) × (lex Dictionary between at (w ++ rest) ≡ (plain w, at) ∷ lex Dictionary between n rest)
one_plain [] some p at rest e = absurd (some refl)
one_plain (b ∷ ws) some p at rest e =
    let (n, is) = goes_on at (at + 1) (b ∷ []) ws rest p.1 e in
    (n, ap (λ (k : Class). lex_step between k b at (λ n. lex Dictionary n (at + 1) (ws ++ rest))) p.0 ∙ is)

-- ---- words in quotes

-- neither a quote nor the end of a line
abbrev Inside : List ℕ → Type 0
Inside ws = AllByRecursion (λ b. (class_of Dictionary b ≢ Quote) × (class_of Dictionary b ≢ LineEnd)) ws

inside_on : (start : ℕ) (w : List ℕ) (k : Class) (b : ℕ) (next : Rest) → k ≢ Quote → k ≢ LineEnd → quoting start w k b next ≡ next (in_quotes start (w ++ b ∷ []))
inside_on start w Blank b next p q = refl
inside_on start w LineEnd b next p q = absurd (q refl)
inside_on start w Percent b next p q = refl
inside_on start w Quote b next p q = absurd (p refl)
inside_on start w Sign b next p q = refl
inside_on start w Other b next p q = refl

quotes_on : (start at : ℕ) (w ws rest : List ℕ) → Inside ws
    → (n : ℕ) × (lex Dictionary (in_quotes start w) at (ws ++ 34 ∷ rest) ≡ closed start (w ++ ws) (λ m. lex Dictionary m n rest))
quotes_on start at w [] rest p = (at + 1, ap (λ (l : List ℕ). closed start l (λ m. lex Dictionary m (at + 1) rest)) (sym (append-nil w)))
quotes_on start at w (b ∷ ws) rest p =
    let (n, is) = quotes_on start (at + 1) (w ++ b ∷ []) ws rest p.1 in (
      n,
      inside_on start w (class_of Dictionary b) b (λ m. lex Dictionary m (at + 1) (ws ++ 34 ∷ rest)) p.0.0 p.0.1 ∙ is
          ∙ ap (λ (l : List ℕ). closed start l (λ m. lex Dictionary m n rest)) (append_assoc w (b ∷ []) ws),
    )

abbrev by_tests : Bool → Bool → Bool → Bool → Bool → Class
by_tests true _ _ _ _ = LineEnd
by_tests false true _ _ _ = Blank
by_tests false false true _ _ = Percent
by_tests false false false true _ = Quote
by_tests false false false false true = Sign
by_tests false false false false false = Other

class_is : (b : ℕ) → class_of Dictionary b ≡ by_tests (b == 10) (is_blank b) (b == 37) (b == 34) (is_sign Dictionary b)
class_is b = tested (b == 10) (is_blank b) (b == 37) (b == 34) (is_sign Dictionary b)
  where
    tested : (p q r s t : Bool) → cond p LineEnd (cond q Blank (cond r Percent (cond s Quote (cond t Sign Other)))) ≡ by_tests p q r s t
    tested true q r s t = refl
    tested false true r s t = refl
    tested false false true s t = refl
    tested false false false true t = refl
    tested false false false false true = refl
    tested false false false false false = refl

no_quote : (p q r s t : Bool) → s ≡ false → by_tests p q r s t ≢ Quote
no_quote true q r s t fails e = cc
no_quote false true r s t fails e = cc
no_quote false false true s t fails e = cc
no_quote false false false true t fails e = absurd (true≢false fails)
no_quote false false false false true fails e = cc
no_quote false false false false false fails e = cc

no_line_end : (p q r s t : Bool) → p ≡ false → by_tests p q r s t ≢ LineEnd
no_line_end true q r s t fails e = absurd (true≢false fails)
no_line_end false true r s t fails e = cc
no_line_end false false true s t fails e = cc
no_line_end false false false true t fails e = cc
no_line_end false false false false true fails e = cc
no_line_end false false false false false fails e = cc

or_parts : (a b : Bool) → (a || b) ≡ false → (a ≡ false) × (b ≡ false)
or_parts true b e = absurd (true≢false e)
or_parts false b e = (refl, e)

are_inside : (ws : List ℕ) → list_any (λ b. b == 10) ws ≡ false → list_any (λ b. b == 34) ws ≡ false → Inside ws
are_inside [] line quote = tt
are_inside (b ∷ ws) line quote =
    let l = or_parts (b == 10) (list_any (λ b. b == 10) ws) line in
    let q = or_parts (b == 34) (list_any (λ b. b == 34) ws) quote in (
      (
        λ e. no_quote (b == 10) (is_blank b) (b == 37) (b == 34) (is_sign Dictionary b) q.0 (sym (class_is b) ∙ e),
        λ e. no_line_end (b == 10) (is_blank b) (b == 37) (b == 34) (is_sign Dictionary b) l.0 (sym (class_is b) ∙ e),
      ),
      are_inside ws l.1 q.1,
    )

pub one_quoted : (w : List ℕ) → w ≢ [] → list_any (λ b. b == 10) w ≡ false → list_any (λ b. b == 34) w ≡ false → (at : ℕ) (rest : List ℕ)
    → (n : ℕ) × (lex Dictionary between at (34 ∷ (w ++ 34 ∷ rest)) ≡ (quoted w, at) ∷ lex Dictionary between n rest)
one_quoted [] some line quote at rest = absurd (some refl)
one_quoted (b ∷ w) some line quote at rest = quotes_on at (at + 1) [] (b ∷ w) rest (are_inside (b ∷ w) line quote)
