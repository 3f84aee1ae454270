-- A line that is passed over, and one that is a command, from its cuts.
use Rattle.std.proofs.Common.{◌≡◌, ◌≢◌, ℕ, true, false, List, [], ◌∷◌, ◌++◌, get_or, refl, sym, ap, subst, ◌∙◌}
use Rattle.std.proofs.lemmas.List.{append-nil}
use Rattle.lg_lex.specs.declared.run.Separators.TheVariants.{Blanks}
use Rattle.lg_lex.specs.Classes.{percent_sign}
use Rattle.lg_lex.specs.Runs.{AreSeparators, AreInner, EndsRun}
use Rattle.lg_script.specs.Lines.{IsPassedOver, blank, comment, IsCommand, Trims}
use Rattle.lg_script.specs.Parts.{BeginsInner, SkipsFront}

pub blank_line : (line body : List ℕ) → SkipsFront line body → body ≡ [] → IsPassedOver line
blank_line line body (front, split, are) none = blank (subst (AreSeparators Blanks) (sym (split ∙ ap (λ (x : List ℕ). front ++ x) none ∙ append-nil front)) are)

pub comment_line : (line body : List ℕ) → SkipsFront line body → body ≢ [] → get_or body 0 0 ≡ 37 → IsPassedOver line
comment_line line [] skips some first = absurd (some refl)
comment_line line (b ∷ body) (front, split, are) some first = comment front body are (split ∙ ap (λ (x : ℕ). front ++ x ∷ body) first)

some_word : (body word behind : List ℕ) → BeginsInner body → body ≢ [] → body ≡ word ++ behind → EndsRun Blanks behind → word ≢ []
some_word body [] [] begins some split ends = λ e. some split
some_word body [] (b ∷ behind) begins some split ends = λ e. let wrong : true ≡ false = sym ends ∙ begins b behind split in absurd cc
some_word body (c ∷ word) behind begins some split ends = λ e. cc

no_percent : (body word behind : List ℕ) → body ≡ word ++ behind → get_or body 0 0 ≢ 37 → (b : List ℕ) → word ≢ percent_sign ∷ b
no_percent body word behind split other b e = other (ap (λ (x : List ℕ). get_or x 0 0) (split ∙ ap (λ (x : List ℕ). x ++ behind) e))

pub line_is : (line body word behind rest : List ℕ) → SkipsFront line body → BeginsInner body → body ≢ [] → get_or body 0 0 ≢ 37 → body ≡ word ++ behind → AreInner Blanks word → EndsRun Blanks behind → Trims behind rest
    → IsCommand line word rest
line_is line body word behind rest (front, split, are) begins some other cut inner ends trims = record {
  front = front;
  tail = behind;
  split = split ∙ ap (λ (x : List ℕ). front ++ x) cut;
  blanks = are;
  some = some_word body word behind begins some cut ends;
  inner = inner;
  no_comment = no_percent body word behind cut other;
  ends = ends;
  trims = trims;
}
