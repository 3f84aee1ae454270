-- What is lexed is what the text is made of.
use Rattle.std.proofs.Common.{◌≡◌, ◌⊎◌, ◌≢◌, ℕ, ◌+◌, List, [], ◌∷◌, ◌++◌, length, inl, inr, refl, sym, ap, subst, ◌∙◌, append_assoc, arith, length-append}
use Rattle.std.proofs.lemmas.List.{append-nil}
use Rattle.lg_lex.specs.declared.marks.Class.{Class}
use Rattle.lg_lex.specs.declared.marks.Class.TheVariants.{Blank, LineEnd, Percent, Quote, Sign, Other}
use Rattle.lg_lex.specs.declared.marks.Marks.{Marks}
use Rattle.lg_lex.specs.Classes.{line_feed, percent_sign, quotation_mark, class_of}
use Rattle.lg_lex.specs.Tokens.{Lexeme, sign, quoted, plain, broken, Skip, space, comment, skip_text, gap_text, IsInLine, IsSkip, ArePlain, AreInside, IsUnclosed, IsClosedAtOnce, Spells, AfterToken, AreTokens}
use Rattle.lg_lex.specs.Lexing.{between, in_comment, in_plain, in_quotes, begun, commented, plained, closed, quoting, lex}
use Rattle.lg_lex.proofs.Steps.{All-push, push_not_nil, percent_here, percent_is, quote_is, line_end_is}

-- any token but a broken one
abbrev pub IsWhole : Lexeme → Type 0
IsWhole t = AfterToken t ⊥ (Unit {0})

after_whole : (t : Lexeme) (X Y : Type 0) → IsWhole t → Y → AfterToken t X Y
after_whole (sign b) X Y whole y = y
after_whole (quoted w) X Y whole y = y
after_whole (plain w) X Y whole y = y
after_whole broken X Y whole y = absurd whole

module _ (marks : Marks) where
  -- a skip before what is made of tokens
  skip_first : (s : Skip) (ts : List (Lexeme × ℕ)) (before at : ℕ) (bytes : List ℕ) → IsSkip marks s → at ≡ before + length (skip_text s) → AreTokens marks ts at bytes → AreTokens marks ts before (skip_text s ++ bytes)
  skip_first s [] before at bytes is e (gap, tail, skips, tailed, split) = (
    s ∷ gap,
    tail,
    (is, skips),
    tailed,
    ap (λ (x : List ℕ). skip_text s ++ x) split ∙ sym (append_assoc (skip_text s) (gap_text gap) tail),
  )
  skip_first s (t ∷ ts) before at bytes is e (gap, text, rest, skips, spells, split, start, after) = (
    s ∷ gap,
    text,
    rest,
    (is, skips),
    spells,
    ap (λ (x : List ℕ). skip_text s ++ x) split ∙ sym (append_assoc (skip_text s) (gap_text gap) (text ++ rest)),
    omega (arith, length-append (skip_text s) (gap_text gap)),
    after,
  )

  -- a token before what is made of tokens
  token_first : (t : Lexeme) (ts : List (Lexeme × ℕ)) (start at : ℕ) (text rest : List ℕ) → IsWhole t → Spells marks t text rest → at ≡ start + length text → AreTokens marks ts at rest → AreTokens marks ((t, start) ∷ ts) start (text ++ rest)
  token_first t ts start at text rest whole spells e after =
      ([], text, rest, tt, spells, refl, omega arith, after_whole t _ _ whole (subst (λ (n : ℕ). AreTokens marks ts n rest) e after))

  broken_first : (start : ℕ) (rest : List ℕ) → class_of marks quotation_mark ≡ Quote → IsClosedAtOnce marks rest ⊎ IsUnclosed marks rest → AreTokens marks ((broken, start) ∷ []) start (quotation_mark ∷ rest)
  broken_first start rest quotes breaks = ([], quotation_mark ∷ [], rest, tt, (quotes, breaks, refl), refl, omega arith, refl)

  -- what each mode gives is so of the bytes that it has taken and those that are left
  record Sounds (bs : List ℕ) : Type 0 where
    freely : (at : ℕ) → AreTokens marks (lex marks between at bs) at bs
    commenting : (at before : ℕ) (c : List ℕ) → IsInLine marks c → at ≡ before + (length c + 1) → AreTokens marks (lex marks in_comment at bs) before (percent_sign ∷ (c ++ bs))
    plainly : (at start : ℕ) (w : List ℕ) → w ≢ [] → ArePlain marks w → at ≡ start + length w → AreTokens marks (lex marks (in_plain start w) at bs) start (w ++ bs)
    in_quote : (at start : ℕ) (w : List ℕ) → class_of marks quotation_mark ≡ Quote → AreInside marks w → at ≡ start + (length w + 1) → AreTokens marks (lex marks (in_quotes start w) at bs) start (quotation_mark ∷ (w ++ bs))

  at_end : Sounds []
  at_end = record {
    freely = λ at. ([], [], tt, tt, refl);
    commenting = λ at before c in_line e. ([], percent_sign ∷ (c ++ []), tt, (percent_here marks, rw append-nil in_line), refl);
    plainly = λ at start w some is e. ([], w, [], tt, (some, is, tt, refl), refl, omega arith, ([], [], tt, tt, refl));
    in_quote = λ at start w quotes inside e. broken_first start (w ++ []) quotes (inr (w, [], inside, tt, refl));
  }

  module _ (b : ℕ) (bs : List ℕ) (is : Sounds bs) where
    begun_sound : (c : Class) (at : ℕ) → class_of marks b ≡ c → AreTokens marks (begun c b at (λ n. lex marks n (at + 1) bs)) at (b ∷ bs)
    begun_sound Blank at e = skip_first (space b) _ at (at + 1) bs (inl e) refl (is.freely (at + 1))
    begun_sound LineEnd at e = skip_first (space b) _ at (at + 1) bs (inr e) refl (is.freely (at + 1))
    begun_sound Percent at e = rw (percent_is marks b e) (is.commenting (at + 1) at [] tt refl)
    begun_sound Quote at e = rw (quote_is marks b e) (is.in_quote (at + 1) at [] (subst (λ (x : ℕ). class_of marks x ≡ Quote) (quote_is marks b e) e) tt refl)
    begun_sound Sign at e = token_first (sign b) _ at (at + 1) (b ∷ []) bs tt (e, refl) refl (is.freely (at + 1))
    begun_sound Other at e = is.plainly (at + 1) at (b ∷ []) (push_not_nil [] b) (e, tt) refl

    comment_sound : (c : Class) (at before : ℕ) (d : List ℕ) → class_of marks b ≡ c → IsInLine marks d → at ≡ before + (length d + 1) → AreTokens marks (commented c (λ n. lex marks n (at + 1) bs)) before (percent_sign ∷ (d ++ b ∷ bs))
    comment_sound LineEnd at before d e in_line is_at =
        rw (line_end_is marks b e) (subst (AreTokens marks (lex marks between (at + 1) bs) before) (ap (λ (x : List ℕ). percent_sign ∷ x) (append_assoc d (line_feed ∷ []) bs))
        (skip_first (comment d) _ before (at + 1) bs in_line (omega (arith, length-append d (line_feed ∷ []))) (is.freely (at + 1))))
    comment_sound c at before d e in_line is_at =
        subst (AreTokens marks (lex marks in_comment (at + 1) bs) before) (ap (λ (x : List ℕ). percent_sign ∷ x) (append_assoc d (b ∷ []) bs))
        (is.commenting (at + 1) before (d ++ b ∷ []) (All-push _ d b in_line (λ x. cc)) (omega (arith, length-append d (b ∷ []))))

    plain_sound : (c : Class) (at start : ℕ) (w : List ℕ) → class_of marks b ≡ c → w ≢ [] → ArePlain marks w → at ≡ start + length w → AreTokens marks (plained start w c b at (λ n. lex marks n (at + 1) bs)) start (w ++ b ∷ bs)
    plain_sound Other at start w e some w_is is_at =
        subst (AreTokens marks (lex marks (in_plain start (w ++ b ∷ [])) (at + 1) bs) start) (append_assoc w (b ∷ []) bs)
        (is.plainly (at + 1) start (w ++ b ∷ []) (push_not_nil w b) (All-push _ w b w_is e) (omega (arith, length-append w (b ∷ []))))
    plain_sound c at start w e some w_is is_at = token_first (plain w) (begun c b at (λ n. lex marks n (at + 1) bs)) start at w (b ∷ bs) tt (some, w_is, (λ x. cc), refl) is_at (begun_sound c at e)

    closed_sound : (at start : ℕ) (w : List ℕ) → class_of marks quotation_mark ≡ Quote → class_of marks b ≡ Quote → AreInside marks w → at ≡ start + (length w + 1) → AreTokens marks (closed start w (λ n. lex marks n (at + 1) bs)) start (quotation_mark ∷ (w ++ b ∷ bs))
    closed_sound at start [] quotes e inside is_at = broken_first start (b ∷ bs) quotes (inl e)
    closed_sound at start (c ∷ w) quotes e inside is_at =
        rw (quote_is marks b e) (subst (AreTokens marks ((quoted (c ∷ w), start) ∷ lex marks between (at + 1) bs) start) (ap (λ (x : List ℕ). quotation_mark ∷ (c ∷ x)) (append_assoc w (quotation_mark ∷ []) bs))
        (token_first (quoted (c ∷ w)) _ start (at + 1) (quotation_mark ∷ ((c ∷ w) ++ quotation_mark ∷ [])) bs tt (quotes, (λ x. cc), inside, refl) (omega (arith, length-append w (quotation_mark ∷ []))) (is.freely (at + 1))))

    quote_sound : (c : Class) (at start : ℕ) (w : List ℕ) → class_of marks quotation_mark ≡ Quote → class_of marks b ≡ c → AreInside marks w → at ≡ start + (length w + 1) → AreTokens marks (quoting start w c b (λ n. lex marks n (at + 1) bs)) start (quotation_mark ∷ (w ++ b ∷ bs))
    quote_sound Quote at start w quotes e inside is_at = closed_sound at start w quotes e inside is_at
    quote_sound LineEnd at start w quotes e inside is_at = broken_first start (w ++ b ∷ bs) quotes (inr (w, b ∷ bs, inside, e, refl))
    quote_sound c at start w quotes e inside is_at =
        subst (AreTokens marks (lex marks (in_quotes start (w ++ b ∷ [])) (at + 1) bs) start) (ap (λ (x : List ℕ). quotation_mark ∷ x) (append_assoc w (b ∷ []) bs))
        (is.in_quote (at + 1) start (w ++ b ∷ []) quotes (All-push _ w b inside ((λ x. cc), (λ x. cc))) (omega (arith, length-append w (b ∷ []))))

    next_sounds : Sounds (b ∷ bs)
    next_sounds = record {
      freely = λ at. begun_sound (class_of marks b) at refl;
      commenting = λ at before c in_line e. comment_sound (class_of marks b) at before c refl in_line e;
      plainly = λ at start w some w_is e. plain_sound (class_of marks b) at start w refl some w_is e;
      in_quote = λ at start w quotes inside e. quote_sound (class_of marks b) at start w quotes refl inside e;
    }

  sounds : (bs : List ℕ) → Sounds bs
  sounds [] = at_end
  sounds (b ∷ bs) = next_sounds b bs (sounds bs)

-- what is lexed is so
pub lex-AreTokens : (marks : Marks) (before : ℕ) (bytes : List ℕ) → AreTokens marks (lex marks between before bytes) before bytes
lex-AreTokens marks before bytes = (sounds marks bytes).freely before
