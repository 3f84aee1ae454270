-- At least one: a line is cut so, and it is passed over or has a word and a rest.
use Rattle.std.proofs.Common.{◌≡◌, ◌≢◌, ℕ, Bool, true, false, List, [], ◌∷◌, ◌++◌, ◌⊎◌, inl, inr, refl, ap, subst, ◌∙◌}
use Rattle.std.specs.Prelude.{◌==◌}
use Rattle.std.proofs.lemmas.Bool.Decides.{eqb_tells}
use Rattle.lg_lex.specs.declared.run.Separators.TheVariants.{Blanks}
use Rattle.lg_lex.specs.Runs.{is_separator, AreInner, EndsRun}
use Rattle.lg_script.specs.Lines.{Says, returned, plain, carriage_return, Trims, IsPassedOver, IsCommand}
use Rattle.lg_script.specs.Parts.{BeginsInner, EndsInner, SkipsFront, SkipsBack}
use Rattle.lg_script.proofs.LineParts.{blank_line, comment_line, line_is}

not_nil : (w : List ℕ) (b : ℕ) → [] ≡ w ++ b ∷ [] → ⊥
not_nil [] b = λ e. cc
not_nil (c ∷ w) b = λ e. cc

-- ---- cuts

abbrev pub Skipped : List ℕ → Type 0
Skipped bs = (left : List ℕ) × SkipsFront bs left × BeginsInner left

skip_by : (b : ℕ) (bs : List ℕ) (c : Bool) → is_separator Blanks b ≡ c → Skipped bs → Skipped (b ∷ bs)
skip_by b bs true e (left, (front, split, are), begins) = (left, (b ∷ front, ap (λ (x : List ℕ). b ∷ x) split, (e, are)), begins)
skip_by b bs false e rest = (b ∷ bs, ([], refl, tt), λ c r q. let same : b ≡ c = cc in subst (λ (x : ℕ). is_separator Blanks x ≡ false) same e)

pub skip : (bs : List ℕ) → Skipped bs
skip [] = ([], ([], refl, tt), λ b r e. absurd cc)
skip (b ∷ bs) = skip_by b bs (is_separator Blanks b) refl (skip bs)

abbrev Dropped : List ℕ → Type 0
Dropped bs = (left : List ℕ) × SkipsBack bs left × EndsInner left

ends_one : (b : ℕ) → is_separator Blanks b ≡ false → (c : ℕ) (rest : List ℕ) → b ∷ [] ≡ rest ++ c ∷ [] → is_separator Blanks c ≡ false
ends_one b h c [] e = let same : b ≡ c = cc in subst (λ (x : ℕ). is_separator Blanks x ≡ false) same h
ends_one b h c (r ∷ rest) e = let tails : [] ≡ rest ++ c ∷ [] = cc in absurd (not_nil rest c tails)

ends_longer : (b d : ℕ) (l : List ℕ) → EndsInner (d ∷ l) → (c : ℕ) (rest : List ℕ) → b ∷ d ∷ l ≡ rest ++ c ∷ [] → is_separator Blanks c ≡ false
ends_longer b d l h c [] e = absurd cc
ends_longer b d l h c (r ∷ rest) e = let tails : d ∷ l ≡ rest ++ c ∷ [] = cc in h c rest tails

drop_by : (b : ℕ) (bs : List ℕ) (c : Bool) → is_separator Blanks b ≡ c → Dropped bs → Dropped (b ∷ bs)
drop_by b bs true e ([], (back, split, are), ends) = ([], (b ∷ back, ap (λ (x : List ℕ). b ∷ x) split, (e, are)), λ c r q. absurd (not_nil r c q))
drop_by b bs false e ([], (back, split, are), ends) = (b ∷ [], (back, ap (λ (x : List ℕ). b ∷ x) split, are), ends_one b e)
drop_by b bs c e (d ∷ l, (back, split, are), ends) = (b ∷ d ∷ l, (back, ap (λ (x : List ℕ). b ∷ x) split, are), ends_longer b d l ends)

drop_back : (bs : List ℕ) → Dropped bs
drop_back [] = ([], ([], refl, tt), λ c r q. absurd (not_nil r c q))
drop_back (b ∷ bs) = drop_by b bs (is_separator Blanks b) refl (drop_back bs)

trim_by : (bs : List ℕ) (s : Skipped bs) → Dropped s.0 → (inner : List ℕ) × Trims bs inner
trim_by bs (left, (front, split, are), begins) (inner, (back, cut, are_too), ends) = (
  inner,
  record {
    front = front;
    back = back;
    split = split ∙ ap (λ (x : List ℕ). front ++ x) cut;
    blanks = (are, are_too);
    trimmed = record { front = λ b r e. begins b (r ++ back) (cut ∙ ap (λ (x : List ℕ). x ++ back) e); back = ends };
  },
)

trim : (bs : List ℕ) → (inner : List ℕ) × Trims bs inner
trim bs = let s = skip bs in trim_by bs s (drop_back s.0)

abbrev WordCut : List ℕ → Type 0
WordCut bs = (w : List ℕ) × (t : List ℕ) × (bs ≡ w ++ t) × AreInner Blanks w × EndsRun Blanks t

cut_by : (b : ℕ) (bs : List ℕ) (c : Bool) → is_separator Blanks b ≡ c → WordCut bs → WordCut (b ∷ bs)
cut_by b bs true e rest = ([], b ∷ bs, refl, tt, e)
cut_by b bs false e (w, t, split, inner, ends) = (b ∷ w, t, ap (λ (x : List ℕ). b ∷ x) split, (e, inner), ends)

pub word_cut : (bs : List ℕ) → WordCut bs
word_cut [] = ([], [], refl, tt, tt)
word_cut (b ∷ bs) = cut_by b bs (is_separator Blanks b) refl (word_cut bs)

-- ---- what a line says

abbrev Returned : List ℕ → Type 0
Returned line = ((body : List ℕ) × (line ≡ body ++ carriage_return ∷ [])) ⊎ ((body : List ℕ) → line ≢ body ++ carriage_return ∷ [])

other_end : (b : ℕ) → b ≢ carriage_return → (body : List ℕ) → b ∷ [] ≢ body ++ carriage_return ∷ []
other_end b other [] = λ e. other cc
other_end b other (c ∷ body) = λ e. let tails : [] ≡ body ++ carriage_return ∷ [] = cc in not_nil body carriage_return tails

other_longer : (b d : ℕ) (l : List ℕ) → ((body : List ℕ) → d ∷ l ≢ body ++ carriage_return ∷ []) → (body : List ℕ) → b ∷ d ∷ l ≢ body ++ carriage_return ∷ []
other_longer b d l none [] = λ e. cc
other_longer b d l none (c ∷ body) = λ e. let tails : d ∷ l ≡ body ++ carriage_return ∷ [] = cc in none body tails

last_by : (b : ℕ) → ((b == carriage_return) ≡ true) × (b ≡ carriage_return) ⊎ (((b == carriage_return) ≡ false) × (b ≢ carriage_return)) → Returned (b ∷ [])
last_by b (inl (t, e)) = inl ([], ap (λ (x : ℕ). x ∷ []) e)
last_by b (inr (t, other)) = inr (other_end b other)

longer_by : (b d : ℕ) (l : List ℕ) → Returned (d ∷ l) → Returned (b ∷ d ∷ l)
longer_by b d l (inl (body, e)) = inl (b ∷ body, ap (λ (x : List ℕ). b ∷ x) e)
longer_by b d l (inr none) = inr (other_longer b d l none)

pub returns : (line : List ℕ) → Returned line
returns [] = inr (λ body e. not_nil body carriage_return e)
returns (b ∷ []) = last_by b (eqb_tells b carriage_return)
returns (b ∷ d ∷ l) = longer_by b d l (returns (d ∷ l))

pub said : (line : List ℕ) → Returned line → (body : List ℕ) × Says line body
said line (inl (body, e)) = (body, returned body e)
said line (inr none) = (line, plain none)

-- passed over, or a word and a rest
abbrev pub Told : List ℕ → Type 0
Told body = IsPassedOver body ⊎ ((word : List ℕ) × (rest : List ℕ) × IsCommand body word rest × EndsInner rest)

told_word : (body : List ℕ) (b : ℕ) (l : List ℕ) → SkipsFront body (b ∷ l) → BeginsInner (b ∷ l) → b ≢ 37 → WordCut (b ∷ l) → Told body
told_word body b l skips begins other (w, t, split, inner, ends) =
    let rest = trim t in
    inr (w, rest.0, line_is body (b ∷ l) w t rest.0 skips begins (λ e. cc) other split inner ends rest.1, rest.1.trimmed.back)

told_byte : (body : List ℕ) (b : ℕ) (l : List ℕ) → SkipsFront body (b ∷ l) → BeginsInner (b ∷ l) → ((b == 37) ≡ true) × (b ≡ 37) ⊎ (((b == 37) ≡ false) × (b ≢ 37)) → Told body
told_byte body b l skips begins (inl (t, e)) = inl (comment_line body (b ∷ l) skips (λ q. cc) e)
told_byte body b l skips begins (inr (t, other)) = told_word body b l skips begins other (word_cut (b ∷ l))

pub told_by : (body : List ℕ) → Skipped body → Told body
told_by body ([], skips, begins) = inl (blank_line body [] skips refl)
told_by body (b ∷ l, skips, begins) = told_byte body b l skips begins (eqb_tells b 37)
