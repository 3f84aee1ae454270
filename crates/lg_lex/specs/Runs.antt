-- The runs of bytes that stand between separators.
use Rattle.std.specs.Prelude.{◌≡◌, ◌≢◌, ℕ, ◌+◌, Bool, true, false, if◌then◌else◌, ◌||◌, ◌==◌, List, [], ◌∷◌, ◌++◌, length, drop}
use Rattle.std.specs.List.{AllByRecursion}
use Rattle.lg_lex.specs.declared.run.Separators.{Separators}
use Rattle.lg_lex.specs.declared.run.Separators.TheVariants.{WhiteSpace, Blanks}
use Rattle.lg_lex.specs.Classes.{line_feed, is_one_of, is_blank}

-- white space, or a space and a tab alone
abbrev pub is_separator : Separators → ℕ → Bool
is_separator WhiteSpace b = is_blank b || b == line_feed
is_separator Blanks b = is_one_of (32 ∷ 9 ∷ []) b

-- separators alone
abbrev pub AreSeparators : Separators → List ℕ → Type 0
AreSeparators s bs = AllByRecursion (λ b. is_separator s b ≡ true) bs

-- no separator among them
abbrev pub AreInner : Separators → List ℕ → Type 0
AreInner s bs = AllByRecursion (λ b. is_separator s b ≡ false) bs

-- a run that stands before these bytes goes on as far as it can
abbrev pub EndsRun : Separators → List ℕ → Type 0
EndsRun s [] = Unit {0}
EndsRun s (b ∷ bs) = is_separator s b ≡ true

-- the runs of a text, each with the number of bytes before it, where so many bytes stand before the text
abbrev pub AreRuns : Separators → List (List ℕ × ℕ) → ℕ → List ℕ → Type 0
AreRuns s [] before bytes = AreSeparators s bytes
AreRuns s (r ∷ rs) before bytes = (gap : List ℕ) × (rest : List ℕ)
    × AreSeparators s gap × (r.0 ≢ []) × AreInner s r.0 × EndsRun s rest
    × (bytes ≡ gap ++ (r.0 ++ rest)) × (r.1 ≡ before + length gap)
    × AreRuns s rs (r.1 + length r.0) rest

-- outside of a run, or in one, with the number of the bytes before it and its bytes so far
pub data Reading : Type 0 where
  outside : Reading
  inside : ℕ → List ℕ → Reading

-- the run that ends here
abbrev pub run_so_far : Reading → List (List ℕ × ℕ)
run_so_far outside = []
run_so_far (inside start w) = (w, start) ∷ []

-- with one byte more
abbrev pub longer : Reading → ℕ → ℕ → Reading
longer outside b at = inside at (b ∷ [])
longer (inside start w) b at = inside start (w ++ b ∷ [])

-- the runs, found a byte at a time, where so many bytes stand before these
abbrev pub runs_of : Separators → Reading → ℕ → List ℕ → List (List ℕ × ℕ)
runs_of s r at [] = run_so_far r
runs_of s r at (b ∷ bs) =
    if is_separator s b then run_so_far r ++ runs_of s outside (at + 1) bs
    else runs_of s (longer r b at) (at + 1) bs

-- the runs of a text from a spot outside of a run on
abbrev pub runs_from : Separators → List ℕ → ℕ → List (List ℕ × ℕ)
runs_from s text at = runs_of s outside at (drop at text)
