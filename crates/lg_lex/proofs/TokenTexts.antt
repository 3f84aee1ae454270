-- The tokens of a text that is UTF-8 are UTF-8.
use Rattle.std.proofs.Common.{◌≡◌, ◌≢◌, ℕ, ◌+◌, ◌<◌, ◌≤◌, Bool, true, false, ltb, List, [], ◌∷◌, ◌++◌, length, get_or, inl, inr, refl, sym, subst, ◌∙◌, append_assoc, arith, length-append, ltb-true, ltb-false}
use Rattle.std.proofs.lemmas.Bool.Decides.{nat_tests}
use Rattle.std.proofs.lemmas.List.{append-nil, take_at, drop_at}
use Rattle.std.proofs.Math.Seq.{get_or-append_seam}
use Rattle.std.proofs.lemmas.Str.{IsUtf8-nil, IsUtf8-take, IsUtf8-drop, IsCharBoundary-before_ascii, IsCharBoundary-after_ascii}
use Rattle.std.specs.List.{AllByRecursion}
use Rattle.std.specs.Str.{IsUtf8}
use Rattle.lg_lex.specs.declared.marks.Class.{Class}
use Rattle.lg_lex.specs.declared.marks.Class.TheVariants.{Blank, LineEnd, Sign, Other}
use Rattle.lg_lex.specs.declared.marks.Marks.{Marks}
use Rattle.lg_lex.specs.declared.marks.Marks.TheVariants.{Dictionary, Knowledge}
use Rattle.lg_lex.specs.Classes.{line_feed, percent_sign, quotation_mark, class_of}
use Rattle.lg_lex.specs.Tokens.{Lexeme, sign, quoted, plain, broken, Skip, space, comment, skip_text, gap_text, IsSkip, IsGap, EndsPlain, Spells, AfterToken, AreTokens, HasUtf8}

-- ---- cuts at a byte of ASCII

pub before_ascii : (a : List ℕ) (b : ℕ) (rest : List ℕ) → b < 128 → IsUtf8 (a ++ b ∷ rest) → IsUtf8 a × IsUtf8 (b ∷ rest)
before_ascii a b rest low is =
    let all = a ++ b ∷ rest in
    let here : get_or all (length a) 0 ≡ b = get_or-append_seam a b rest 0 in
    let cut = IsCharBoundary-before_ascii all (length a) (omega (arith, length-append a (b ∷ rest))) (omega arith) in
    (subst IsUtf8 (take_at a (b ∷ rest) (length a) refl) (IsUtf8-take all (length a) is cut), subst IsUtf8 (drop_at a (b ∷ rest) (length a) refl) (IsUtf8-drop all (length a) is cut))

pub after_ascii : (b : ℕ) (rest : List ℕ) → b < 128 → IsUtf8 (b ∷ rest) → IsUtf8 rest
after_ascii b rest low is = IsUtf8-drop (b ∷ rest) 1 is (IsCharBoundary-after_ascii (b ∷ rest) 0 is (omega arith) low)

-- every other byte is one of plain tokens
high_other : (marks : Marks) (b : ℕ) → 128 ≤ b → class_of marks b ≡ Other
high_other Dictionary b high = grind (arith, nat_tests)
high_other Knowledge b high = grind (arith, nat_tests)

low_byte : (marks : Marks) (b : ℕ) (low : Bool) → ltb b 128 ≡ low → class_of marks b ≢ Other → b < 128
low_byte marks b true t unlike = ltb-true b 128 t
low_byte marks b false t unlike = absurd (unlike (high_other marks b (ltb-false b 128 t)))

-- so a byte of any other class is one of ASCII
is_ascii : (marks : Marks) (b : ℕ) → class_of marks b ≢ Other → b < 128
is_ascii marks b unlike = low_byte marks b (ltb b 128) refl unlike

not_other : (c d : Class) → c ≡ d → (d ≡ Other → ⊥) → c ≢ Other
not_other c d e unlike h = unlike (sym e ∙ h)

-- ---- gaps and tokens

module _ (marks : Marks) where
  after_skip : (s : Skip) (more : List ℕ) → IsSkip marks s → IsUtf8 (skip_text s ++ more) → IsUtf8 more
  after_skip (space b) more (inl e) is = after_ascii b more (is_ascii marks b (not_other (class_of marks b) Blank e (λ q. cc))) is
  after_skip (space b) more (inr e) is = after_ascii b more (is_ascii marks b (not_other (class_of marks b) LineEnd e (λ q. cc))) is
  after_skip (comment c) more h is =
      let inner : IsUtf8 (c ++ line_feed ∷ more) = subst IsUtf8 (append_assoc c (line_feed ∷ []) more) (after_ascii percent_sign ((c ++ line_feed ∷ []) ++ more) (omega arith) is) in
      after_ascii line_feed more (omega arith) (before_ascii c line_feed more (omega arith) inner).1

  after_gap : (gap : List Skip) (more : List ℕ) → IsGap marks gap → IsUtf8 (gap_text gap ++ more) → IsUtf8 more
  after_gap [] more h is = is
  after_gap (s ∷ gap) more h is = after_gap gap more h.1 (after_skip s (gap_text gap ++ more) h.0 (subst IsUtf8 (append_assoc (skip_text s) (gap_text gap) more) is))

  plain_utf8 : (w rest : List ℕ) → EndsPlain marks rest → IsUtf8 (w ++ rest) → IsUtf8 w × IsUtf8 rest
  plain_utf8 w [] ends is = (subst IsUtf8 (append-nil w) is, IsUtf8-nil)
  plain_utf8 w (b ∷ rest) ends is = before_ascii w b rest (is_ascii marks b ends) is

  quoted_utf8 : (w rest : List ℕ) → IsUtf8 ((quotation_mark ∷ (w ++ quotation_mark ∷ [])) ++ rest) → IsUtf8 w × IsUtf8 rest
  quoted_utf8 w rest is =
      let inner : IsUtf8 (w ++ quotation_mark ∷ rest) = subst IsUtf8 (append_assoc w (quotation_mark ∷ []) rest) (after_ascii quotation_mark ((w ++ quotation_mark ∷ []) ++ rest) (omega arith) is) in
      let parts = before_ascii w quotation_mark rest (omega arith) inner in
      (parts.0, after_ascii quotation_mark rest (omega arith) parts.1)

  -- a token, and then those that follow it
  token_utf8 : (t : Lexeme) (ts : List (Lexeme × ℕ)) (text rest : List ℕ) (at : ℕ) → Spells marks t text rest → IsUtf8 (text ++ rest) → AfterToken t (ts ≡ []) (AreTokens marks ts at rest)
      → (IsUtf8 rest → AreTokens marks ts at rest → AllByRecursion (λ (u : Lexeme × ℕ). HasUtf8 u.0) ts) → HasUtf8 t × AllByRecursion (λ (u : Lexeme × ℕ). HasUtf8 u.0) ts
  token_utf8 (sign b) ts text rest at (is_sign, split) is after next =
      let low = is_ascii marks b (not_other (class_of marks b) Sign is_sign (λ q. cc)) in
      (tt, next (after_ascii b rest low (subst (λ (l : List ℕ). IsUtf8 (l ++ rest)) split is)) after)
  token_utf8 (quoted w) ts text rest at (quotes, some, inside, split) is after next =
      let parts = quoted_utf8 w rest (subst (λ (l : List ℕ). IsUtf8 (l ++ rest)) split is) in
      (parts.0, next parts.1 after)
  token_utf8 (plain w) ts text rest at (some, are, ends, split) is after next =
      let parts = plain_utf8 w rest ends (subst (λ (l : List ℕ). IsUtf8 (l ++ rest)) split is) in
      (parts.0, next parts.1 after)
  token_utf8 broken ts text rest at spells is after next = (tt, subst (AllByRecursion (λ (u : Lexeme × ℕ). HasUtf8 u.0)) (sym after) tt)

  pub all_utf8 : (ts : List (Lexeme × ℕ)) (before : ℕ) (bytes : List ℕ) → IsUtf8 bytes → AreTokens marks ts before bytes → AllByRecursion (λ (u : Lexeme × ℕ). HasUtf8 u.0) ts
  all_utf8 [] before bytes is are = tt
  all_utf8 (t ∷ ts) before bytes is (gap, text, rest, skips, spells, split, start, after) =
      token_utf8 t.0 ts text rest (t.1 + length text) spells (after_gap gap (text ++ rest) skips (subst IsUtf8 split is)) after
      (λ more are. all_utf8 ts (t.1 + length text) rest more are)
