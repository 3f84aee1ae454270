-- What a text is made of is what is lexed.
use Rattle.std.proofs.Common.{◌≡◌, ◌⊎◌, ◌≢◌, ℕ, suc, ◌+◌, List, [], ◌∷◌, ◌++◌, length, inl, inr, refl, sym, ap, ◌∙◌, append_assoc, arith, length-append}
use Rattle.std.proofs.lemmas.List.{append-nil}
use Rattle.lg_lex.specs.declared.marks.Class.{Class}
use Rattle.lg_lex.specs.declared.marks.Marks.{Marks}
use Rattle.lg_lex.specs.Classes.{line_feed, percent_sign, quotation_mark, class_of}
use Rattle.lg_lex.specs.Tokens.{Lexeme, sign, quoted, plain, broken, Skip, space, comment, skip_text, gap_text, IsInLine, IsSkip, IsGap, IsTail, ArePlain, EndsPlain, AreInside, EndsLine, IsUnclosed, IsClosedAtOnce, Spells, AfterToken, AreTokens}
use Rattle.lg_lex.specs.Lexing.{between, in_comment, in_plain, in_quotes, begun, commented, plained, closed, quoting, lex}
use Rattle.lg_lex.proofs.Steps.{percent_here, line_feed_here, commented_on, plained_off, quoting_on}
use Rattle.lg_lex.proofs.Sound.{IsWhole}

module _ (marks : Marks) where
  -- gaps
  comment_lex : (c more : List ℕ) (at : ℕ) → IsInLine marks c → lex marks in_comment at (c ++ line_feed ∷ more) ≡ lex marks between (at + length c + 1) more
  comment_lex [] more at in_line = ap (λ (k : Class). commented k (λ n. lex marks n (at + 1) more)) (line_feed_here marks) ∙ ap (λ (n : ℕ). lex marks between n more) (omega arith)
  comment_lex (b ∷ c) more at in_line =
      commented_on (class_of marks b) (λ n. lex marks n (at + 1) (c ++ line_feed ∷ more)) in_line.0
      ∙ comment_lex c more (at + 1) in_line.1
      ∙ ap (λ (n : ℕ). lex marks between (n + 1) more) (omega arith)

  skip_lex : (s : Skip) (more : List ℕ) (at : ℕ) → IsSkip marks s → lex marks between at (skip_text s ++ more) ≡ lex marks between (at + length (skip_text s)) more
  skip_lex (space b) more at (inl e) = ap (λ (c : Class). begun c b at (λ n. lex marks n (at + 1) more)) e
  skip_lex (space b) more at (inr e) = ap (λ (c : Class). begun c b at (λ n. lex marks n (at + 1) more)) e
  skip_lex (comment c) more at in_line =
      ap (λ (k : Class). begun k percent_sign at (λ n. lex marks n (at + 1) ((c ++ line_feed ∷ []) ++ more))) (percent_here marks)
      ∙ ap (λ (x : List ℕ). lex marks in_comment (at + 1) x) (append_assoc c (line_feed ∷ []) more)
      ∙ comment_lex c more (at + 1) in_line
      ∙ ap (λ (n : ℕ). lex marks between n more) (omega (arith, length-append c (line_feed ∷ [])))

  gap_lex : (gap : List Skip) (more : List ℕ) (at : ℕ) → IsGap marks gap → lex marks between at (gap_text gap ++ more) ≡ lex marks between (at + length (gap_text gap)) more
  gap_lex [] more at skips = ap (λ (n : ℕ). lex marks between n more) (omega arith)
  gap_lex (s ∷ gap) more at skips =
      ap (lex marks between at) (append_assoc (skip_text s) (gap_text gap) more)
      ∙ skip_lex s (gap_text gap ++ more) at skips.0
      ∙ gap_lex gap more (at + length (skip_text s)) skips.1
      ∙ ap (λ (n : ℕ). lex marks between n more) (omega (arith, length-append (skip_text s) (gap_text gap)))

  last_comment_lex : (c : List ℕ) (at : ℕ) → IsInLine marks c → lex marks in_comment at c ≡ []
  last_comment_lex [] at in_line = refl
  last_comment_lex (b ∷ c) at in_line = commented_on (class_of marks b) (λ n. lex marks n (at + 1) c) in_line.0 ∙ last_comment_lex c (at + 1) in_line.1

  tail_lex : (tail : List ℕ) (at : ℕ) → IsTail marks tail → lex marks between at tail ≡ []
  tail_lex [] at is = refl
  tail_lex (b ∷ c) at is = ap (λ (k : Class). begun k b at (λ n. lex marks n (at + 1) c)) is.0 ∙ last_comment_lex c (at + 1) is.1

  -- plain tokens
  plain_stops : (w rest : List ℕ) (at start : ℕ) → EndsPlain marks rest → lex marks (in_plain start w) at rest ≡ (plain w, start) ∷ lex marks between at rest
  plain_stops w [] at start ends = refl
  plain_stops w (b ∷ rest) at start ends = plained_off (class_of marks b) b at start w (λ n. lex marks n (at + 1) rest) ends

  plain_lex : (v w rest : List ℕ) (at start : ℕ) → ArePlain marks w → EndsPlain marks rest → lex marks (in_plain start v) at (w ++ rest) ≡ (plain (v ++ w), start) ∷ lex marks between (at + length w) rest
  plain_lex v [] rest at start is ends = rw append-nil (plain_stops v rest at start ends ∙ ap (λ (n : ℕ). (plain v, start) ∷ lex marks between n rest) (omega arith))
  plain_lex v (b ∷ w) rest at start is ends =
      ap (λ (c : Class). plained start v c b at (λ n. lex marks n (at + 1) (w ++ rest))) is.0
      ∙ plain_lex (v ++ b ∷ []) w rest (at + 1) start is.1 ends
      ∙ (λ i. (plain (append_assoc v (b ∷ []) w i), start) ∷ lex marks between (let e : at + 1 + length w ≡ at + suc (length w) = omega arith in e i) rest)

  -- quoted tokens
  quote_lex : (v w rest : List ℕ) (at start : ℕ) → AreInside marks w → lex marks (in_quotes start v) at (w ++ rest) ≡ lex marks (in_quotes start (v ++ w)) (at + length w) rest
  quote_lex v [] rest at start inside = rw append-nil (ap (λ (n : ℕ). lex marks (in_quotes start v) n rest) (omega arith))
  quote_lex v (b ∷ w) rest at start inside =
      quoting_on (class_of marks b) b start v (λ n. lex marks n (at + 1) (w ++ rest)) inside.0.0 inside.0.1
      ∙ quote_lex (v ++ b ∷ []) w rest (at + 1) start inside.1
      ∙ (λ i. lex marks (in_quotes start (append_assoc v (b ∷ []) w i)) (let e : at + 1 + length w ≡ at + suc (length w) = omega arith in e i) rest)

  closed_lex : (w rest : List ℕ) (at start : ℕ) → w ≢ [] → closed start w (λ n. lex marks n at rest) ≡ (quoted w, start) ∷ lex marks between at rest
  closed_lex [] rest at start some = absurd (some refl)
  closed_lex (b ∷ w) rest at start some = refl

  -- broken tokens
  line_end_lex : (w rest : List ℕ) (at start : ℕ) → EndsLine marks rest → lex marks (in_quotes start w) at rest ≡ (broken, start) ∷ []
  line_end_lex w [] at start ends = refl
  line_end_lex w (b ∷ rest) at start ends = ap (λ (c : Class). quoting start w c b (λ n. lex marks n (at + 1) rest)) ends

  breaks_lex : (bs : List ℕ) (at start : ℕ) → IsClosedAtOnce marks bs ⊎ IsUnclosed marks bs → lex marks (in_quotes start []) at bs ≡ (broken, start) ∷ []
  breaks_lex [] at start (inl e) = absurd e
  breaks_lex (b ∷ bs) at start (inl e) = ap (λ (c : Class). quoting start [] c b (λ n. lex marks n (at + 1) bs)) e
  breaks_lex bs at start (inr (line, rest, inside, ends, split)) =
      ap (lex marks (in_quotes start []) at) split ∙ quote_lex [] line rest at start inside ∙ line_end_lex line rest (at + length line) start ends

  -- a token
  whole_lex : (t : Lexeme) (text rest : List ℕ) (at : ℕ) → IsWhole t → Spells marks t text rest → lex marks between at (text ++ rest) ≡ (t, at) ∷ lex marks between (at + length text) rest
  whole_lex (sign b) text rest at whole is = rw is.1 (ap (λ (c : Class). begun c b at (λ n. lex marks n (at + 1) rest)) is.0)
  whole_lex (quoted w) text rest at whole is =
      rw is.3 (ap (λ (c : Class). begun c quotation_mark at (λ n. lex marks n (at + 1) ((w ++ quotation_mark ∷ []) ++ rest))) is.0
      ∙ ap (λ (x : List ℕ). lex marks (in_quotes at []) (at + 1) x) (append_assoc w (quotation_mark ∷ []) rest)
      ∙ quote_lex [] w (quotation_mark ∷ rest) (at + 1) at is.2
      ∙ ap (λ (c : Class). quoting at w c quotation_mark (λ n. lex marks n (at + 1 + length w + 1) rest)) is.0
      ∙ closed_lex w rest (at + 1 + length w + 1) at is.1
      ∙ ap (λ (n : ℕ). (quoted w, at) ∷ lex marks between n rest) (omega (arith, length-append w (quotation_mark ∷ []))))
  whole_lex (plain []) text rest at whole is = absurd (is.0 refl)
  whole_lex (plain (b ∷ w)) text rest at whole is =
      rw is.3 (ap (λ (c : Class). begun c b at (λ n. lex marks n (at + 1) (w ++ rest))) is.1.0
      ∙ plain_lex (b ∷ []) w rest (at + 1) at is.1.1 is.2
      ∙ ap (λ (n : ℕ). (plain (b ∷ w), at) ∷ lex marks between n rest) (omega arith))
  whole_lex broken text rest at whole is = absurd whole

  broken_lex : (text rest : List ℕ) (at : ℕ) → Spells marks broken text rest → lex marks between at (text ++ rest) ≡ (broken, at) ∷ []
  broken_lex text rest at is = rw is.2 (ap (λ (c : Class). begun c quotation_mark at (λ n. lex marks n (at + 1) rest)) is.0 ∙ breaks_lex rest (at + 1) at is.1)

  token_lex : (t : Lexeme) (ts : List (Lexeme × ℕ)) (text rest : List ℕ) (at : ℕ) → Spells marks t text rest → AfterToken t (ts ≡ []) (lex marks between (at + length text) rest ≡ ts) → lex marks between at (text ++ rest) ≡ (t, at) ∷ ts
  token_lex (sign b) ts text rest at is after = whole_lex (sign b) text rest at tt is ∙ ap (λ (x : List (Lexeme × ℕ)). (sign b, at) ∷ x) after
  token_lex (quoted w) ts text rest at is after = whole_lex (quoted w) text rest at tt is ∙ ap (λ (x : List (Lexeme × ℕ)). (quoted w, at) ∷ x) after
  token_lex (plain w) ts text rest at is after = whole_lex (plain w) text rest at tt is ∙ ap (λ (x : List (Lexeme × ℕ)). (plain w, at) ∷ x) after
  token_lex broken ts text rest at is after = broken_lex text rest at is ∙ ap (λ (x : List (Lexeme × ℕ)). (broken, at) ∷ x) (sym after)

after_map : (t : Lexeme) (X Y Z : Type 0) → (Y → Z) → AfterToken t X Y → AfterToken t X Z
after_map (sign b) X Y Z f y = f y
after_map (quoted w) X Y Z f y = f y
after_map (plain w) X Y Z f y = f y
after_map broken X Y Z f x = x

-- what is so is lexed, and so a text has one list of tokens
pub AreTokens-lex : (marks : Marks) (ts : List (Lexeme × ℕ)) (before : ℕ) (bytes : List ℕ) → AreTokens marks ts before bytes → lex marks between before bytes ≡ ts
AreTokens-lex marks [] before bytes (gap, tail, skips, tailed, split) =
    ap (lex marks between before) split ∙ gap_lex marks gap tail before skips ∙ tail_lex marks tail (before + length (gap_text gap)) tailed
AreTokens-lex marks (t ∷ ts) before bytes (gap, text, rest, skips, spells, split, start, after) =
    ap (lex marks between before) split
    ∙ gap_lex marks gap (text ++ rest) before skips
    ∙ ap (λ (n : ℕ). lex marks between n (text ++ rest)) (sym start)
    ∙ token_lex marks t.0 ts text rest t.1 spells (after_map t.0 _ _ _ (AreTokens-lex marks ts (t.1 + length text) rest) after)
