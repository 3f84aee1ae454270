-- The tokens of a section that is closed are the same wherever it stands.
use Rattle.std.proofs.Common.{◌≡◌, ℕ, ◌+◌, List, [], ◌∷◌, ◌++◌, length, map, drop, get_or, true, false, refl, sym, ap, subst, ◌∙◌, arith}
use Rattle.std.specs.List.{AllByRecursion}
use Rattle.lg_lex.specs.declared.marks.Class.{Class}
use Rattle.lg_lex.specs.declared.marks.Class.TheVariants.{Blank, LineEnd, Percent, Quote, Sign, Other}
use Rattle.lg_lex.specs.declared.marks.Marks.{Marks}
use Rattle.lg_lex.specs.Classes.{class_of}
use Rattle.lg_lex.specs.Tokens.{Token, sign, plain}
use Rattle.lg_lex.specs.Lexing.{Mode, between, in_comment, in_plain, in_quotes, Rest, lex_step, ended, lex, tokens_from}
use Rattle.lg_lex.specs.Sections.{is_bare, is_bare_class, AreBare, IsClosed, NoSection, moved}

-- between two tokens, or in a plain one
abbrev IsOpen : Mode → Type 0
IsOpen between = Unit {0}
IsOpen in_comment = ⊥
IsOpen (in_plain start w) = Unit {0}
IsOpen (in_quotes start w) = ⊥

module _ (n : ℕ) where
  -- the same mode, where so many more bytes stand before
  abbrev move : Mode → Mode
  move between = between
  move in_comment = in_comment
  move (in_plain start w) = in_plain (n + start) w
  move (in_quotes start w) = in_quotes (n + start) w

  -- one byte: what follows is moved, with the same tokens behind it
  module _ (there here : Rest) (behind : List Token) (b at p : ℕ) (e : p ≡ n + at)
      (next : (m : Mode) → IsOpen m → there (move m) ≡ map (moved n) (here m) ++ behind) where
    step_moves : (c : Class) (m : Mode) → is_bare_class c ≡ true → IsOpen m → lex_step (move m) c b p there ≡ map (moved n) (lex_step m c b at here) ++ behind
    step_moves Blank between bare held = next between tt
    step_moves LineEnd between bare held = next between tt
    step_moves Sign between bare held = λ i. (sign b, e i) ∷ next between tt i
    step_moves Other between bare held = λ i. (ap (λ (q : ℕ). there (in_plain q (b ∷ []))) e ∙ next (in_plain at (b ∷ [])) tt) i
    step_moves Blank (in_plain start w) bare held = λ i. (plain w, n + start) ∷ next between tt i
    step_moves LineEnd (in_plain start w) bare held = λ i. (plain w, n + start) ∷ next between tt i
    step_moves Sign (in_plain start w) bare held = λ i. (plain w, n + start) ∷ (sign b, e i) ∷ next between tt i
    step_moves Other (in_plain start w) bare held = next (in_plain start (w ++ b ∷ [])) tt
    step_moves Percent m bare held = absurd cc
    step_moves Quote m bare held = absurd cc
    step_moves c in_comment bare held = absurd held
    step_moves c (in_quotes start w) bare held = absurd held

  -- the last byte, a sign
  last_moves : (there : Rest) (b at p : ℕ) → p ≡ n + at → (m : Mode) → IsOpen m
      → lex_step (move m) Sign b p there ≡ map (moved n) (lex_step m Sign b at (λ x. ended x)) ++ there between
  last_moves there b at p e between held = λ i. (sign b, e i) ∷ there between
  last_moves there b at p e (in_plain start w) held = λ i. (plain w, n + start) ∷ (sign b, e i) ∷ there between
  last_moves there b at p e in_comment held = absurd held
  last_moves there b at p e (in_quotes start w) held = absurd held

-- where a sign is last
last_sign : (n : ℕ) (c : Class) (there : Rest) (b at p : ℕ) → c ≡ Sign → p ≡ n + at → (m : Mode) → IsOpen m
    → lex_step (move n m) c b p there ≡ map (moved n) (lex_step m c b at (λ x. ended x)) ++ there between
last_sign n c there b at p is e m held =
    subst (λ (k : Class). lex_step (move n m) k b p there ≡ map (moved n) (lex_step m k b at (λ x. ended x)) ++ there between) (sym is) (last_moves n there b at p e m held)

module _ (marks : Marks) (n last : ℕ) (is_sign : class_of marks last ≡ Sign) (after : List ℕ) where
  -- the tokens of the section are moved, and then come those after it
  section_moves : (front : List ℕ) → AreBare marks front → (m : Mode) → IsOpen m → (at p q : ℕ) → p ≡ n + at → q ≡ p + length (front ++ last ∷ [])
      → lex marks (move n m) p ((front ++ last ∷ []) ++ after) ≡ map (moved n) (lex marks m at (front ++ last ∷ [])) ++ lex marks between q after
  section_moves [] bare m held at p q e f =
      let q_is : p + 1 ≡ q = omega (arith, f) in
      last_sign n (class_of marks last) (λ x. lex marks x (p + 1) after) last at p is_sign e m held
      ∙ ap (λ (k : ℕ). map (moved n) (lex marks m at (last ∷ [])) ++ lex marks between k after) q_is
  section_moves (b ∷ front) bare m held at p q e f =
      step_moves n (λ x. lex marks x (p + 1) ((front ++ last ∷ []) ++ after)) (λ x. lex marks x (at + 1) (front ++ last ∷ [])) (lex marks between q after) b at p e
      (λ x y. section_moves front bare.1 x y (at + 1) (p + 1) q (omega (arith, e)) (omega (arith, f)))
      (class_of marks b) m bare.0 held

pub section_tokens : (marks : Marks) (text section : List ℕ) (from : ℕ) → IsClosed marks section → drop from text ≡ section ++ drop (from + length section) text
    → tokens_from marks text from ≡ map (moved from) (tokens_from marks section 0) ++ tokens_from marks text (from + length section)
section_tokens marks text section from closed stands =
    let after = drop (from + length section) text in
    let Moves : List ℕ → Type 0 = λ s. lex marks between from (s ++ after) ≡ map (moved from) (lex marks between 0 s) ++ lex marks between (from + length s) after in
    ap (lex marks between from) stands
    ∙ subst Moves (sym closed.is) (section_moves marks from closed.last closed.sign after closed.front closed.bare between tt 0 from (from + length (closed.front ++ closed.last ∷ [])) (omega arith) refl)

-- ---- where the next such sign stands

-- bare, and not the sign
abbrev pub IsBefore : Marks → ℕ → ℕ → Type 0
IsBefore marks last b = (is_bare marks b ≡ true) × (b ≡ last → ⊥)

pub before_bare : (marks : Marks) (last : ℕ) (bs : List ℕ) → AllByRecursion (IsBefore marks last) bs → AreBare marks bs
before_bare marks last [] h = tt
before_bare marks last (b ∷ bs) h = (h.0.0, before_bare marks last bs h.1)

pub before_other : (marks : Marks) (last : ℕ) (bs : List ℕ) → AllByRecursion (IsBefore marks last) bs → AllByRecursion (λ b. b ≡ last → ⊥) bs
before_other marks last [] h = tt
before_other marks last (b ∷ bs) h = (h.0.1, before_other marks last bs h.1)

-- no such sign stands before a byte that is not bare
pub none_before : (marks : Marks) (last b : ℕ) (before after : List ℕ) → AllByRecursion (IsBefore marks last) before → is_bare marks b ≡ false → (b ≡ last → ⊥) → NoSection marks last (before ++ b ∷ after)
none_before marks last b [] after h marked other [] rest bare is = other (λ i. get_or (is i) 0 b)
none_before marks last b [] after h marked other (f ∷ front) rest bare is = let same : b ≡ f = (λ i. get_or (is i) 0 b) in absurd cc
none_before marks last b (p ∷ before) after h marked other [] rest bare is = h.0.1 (λ i. get_or (is i) 0 p)
none_before marks last b (p ∷ before) after h marked other (f ∷ front) rest bare is = none_before marks last b before after h.1 marked other front rest bare.1 (λ i. drop 1 (is i))

pub none_at_all : (marks : Marks) (last : ℕ) (bs : List ℕ) → AllByRecursion (IsBefore marks last) bs → NoSection marks last bs
none_at_all marks last [] h [] rest bare is = absurd cc
none_at_all marks last [] h (f ∷ front) rest bare is = absurd cc
none_at_all marks last (b ∷ bs) h [] rest bare is = h.0.1 (λ i. get_or (is i) 0 b)
none_at_all marks last (b ∷ bs) h (f ∷ front) rest bare is = none_at_all marks last bs h.1 front rest bare.1 (λ i. drop 1 (is i))
