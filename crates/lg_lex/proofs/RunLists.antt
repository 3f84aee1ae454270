-- The runs of a text are one list.
use Rattle.std.proofs.Common.{◌≡◌, ◌≢◌, ℕ, suc, ◌+◌, Bool, true, false, cond, List, [], ◌∷◌, ◌++◌, length, refl, sym, ap, subst, ◌∙◌, append_assoc, arith, length-append}
use Rattle.std.proofs.lemmas.List.{append-nil}
use Rattle.lg_lex.specs.declared.run.Separators.{Separators}
use Rattle.lg_lex.specs.Runs.{is_separator, AreSeparators, AreInner, EndsRun, AreRuns, Reading, outside, inside, run_so_far, longer, runs_of}
use Rattle.lg_lex.proofs.Steps.{All-push, push_not_nil}

module _ (s : Separators) where
  -- one byte: a separator, and any other
  pub runs_of-separator : (r : Reading) (b at : ℕ) (bs : List ℕ) → is_separator s b ≡ true → runs_of s r at (b ∷ bs) ≡ run_so_far r ++ runs_of s outside (at + 1) bs
  runs_of-separator r b at bs e = ap (λ (c : Bool). cond c (run_so_far r ++ runs_of s outside (at + 1) bs) (runs_of s (longer r b at) (at + 1) bs)) e

  pub runs_of-inner : (start : ℕ) (w : List ℕ) (b at : ℕ) (bs : List ℕ) → is_separator s b ≡ false → runs_of s (inside start w) at (b ∷ bs) ≡ runs_of s (inside start (w ++ b ∷ [])) (at + 1) bs
  runs_of-inner start w b at bs e = ap (λ (c : Bool). cond c ((w, start) ∷ runs_of s outside (at + 1) bs) (runs_of s (inside start (w ++ b ∷ [])) (at + 1) bs)) e

  -- what is found is so
  separator_first : (b : ℕ) (rs : List (List ℕ × ℕ)) (before : ℕ) (bytes : List ℕ) → is_separator s b ≡ true → AreRuns s rs (before + 1) bytes → AreRuns s rs before (b ∷ bytes)
  separator_first b [] before bytes e are = (e, are)
  separator_first b (r ∷ rs) before bytes e (gap, rest, separators, some, inner, ends, split, start, after) = (b ∷ gap, rest, (e, separators), some, inner, ends, ap (λ (x : List ℕ). b ∷ x) split, omega arith, after)

  run_first : (w : List ℕ) (rs : List (List ℕ × ℕ)) (start at : ℕ) (rest : List ℕ) → w ≢ [] → AreInner s w → EndsRun s rest → at ≡ start + length w → AreRuns s rs at rest → AreRuns s ((w, start) ∷ rs) start (w ++ rest)
  run_first w rs start at rest some inner ends e are = ([], rest, tt, some, inner, ends, refl, omega arith, subst (λ (n : ℕ). AreRuns s rs n rest) e are)

  record Sounds (bs : List ℕ) : Type 0 where
    freely : (at : ℕ) → AreRuns s (runs_of s outside at bs) at bs
    within : (at start : ℕ) (w : List ℕ) → w ≢ [] → AreInner s w → at ≡ start + length w → AreRuns s (runs_of s (inside start w) at bs) start (w ++ bs)

  module _ (b : ℕ) (bs : List ℕ) (is : Sounds bs) where
    free_sound : (c : Bool) (at : ℕ) → is_separator s b ≡ c → AreRuns s (cond c (runs_of s outside (at + 1) bs) (runs_of s (inside at (b ∷ [])) (at + 1) bs)) at (b ∷ bs)
    free_sound true at e = separator_first b (runs_of s outside (at + 1) bs) at bs e (is.freely (at + 1))
    free_sound false at e = is.within (at + 1) at (b ∷ []) (push_not_nil [] b) (e, tt) refl

    within_sound : (c : Bool) (at start : ℕ) (w : List ℕ) → is_separator s b ≡ c → w ≢ [] → AreInner s w → at ≡ start + length w
        → AreRuns s (cond c ((w, start) ∷ runs_of s outside (at + 1) bs) (runs_of s (inside start (w ++ b ∷ [])) (at + 1) bs)) start (w ++ b ∷ bs)
    within_sound true at start w e some inner is_at =
        run_first w (runs_of s outside (at + 1) bs) start at (b ∷ bs) some inner e is_at (separator_first b (runs_of s outside (at + 1) bs) at bs e (is.freely (at + 1)))
    within_sound false at start w e some inner is_at =
        subst (AreRuns s (runs_of s (inside start (w ++ b ∷ [])) (at + 1) bs) start) (append_assoc w (b ∷ []) bs)
        (is.within (at + 1) start (w ++ b ∷ []) (push_not_nil w b) (All-push _ w b inner e) (omega (arith, length-append w (b ∷ []))))

  sounds : (bs : List ℕ) → Sounds bs
  sounds [] = record {
    freely = λ at. tt;
    within = λ at start w some inner e. run_first w [] start at [] some inner tt e tt;
  }
  sounds (b ∷ bs) = record {
    freely = λ at. free_sound b bs (sounds bs) (is_separator s b) at refl;
    within = λ at start w some inner e. within_sound b bs (sounds bs) (is_separator s b) at start w refl some inner e;
  }

  -- what is so is found
  gap_runs : (gap more : List ℕ) (at : ℕ) → AreSeparators s gap → runs_of s outside at (gap ++ more) ≡ runs_of s outside (at + length gap) more
  gap_runs [] more at are = ap (λ (n : ℕ). runs_of s outside n more) (omega arith)
  gap_runs (b ∷ gap) more at are =
      runs_of-separator outside b at (gap ++ more) are.0
      ∙ gap_runs gap more (at + 1) are.1
      ∙ ap (λ (n : ℕ). runs_of s outside n more) (omega arith)

  run_stops : (w rest : List ℕ) (at start : ℕ) → EndsRun s rest → runs_of s (inside start w) at rest ≡ (w, start) ∷ runs_of s outside at rest
  run_stops w [] at start ends = refl
  run_stops w (b ∷ rest) at start ends = runs_of-separator (inside start w) b at rest ends ∙ ap (λ (x : List (List ℕ × ℕ)). (w, start) ∷ x) (sym (runs_of-separator outside b at rest ends))

  run_goes_on : (v w rest : List ℕ) (at start : ℕ) → AreInner s w → EndsRun s rest → runs_of s (inside start v) at (w ++ rest) ≡ (v ++ w, start) ∷ runs_of s outside (at + length w) rest
  run_goes_on v [] rest at start is ends = rw append-nil (run_stops v rest at start ends ∙ ap (λ (n : ℕ). (v, start) ∷ runs_of s outside n rest) (omega arith))
  run_goes_on v (b ∷ w) rest at start is ends =
      runs_of-inner start v b at (w ++ rest) is.0
      ∙ run_goes_on (v ++ b ∷ []) w rest (at + 1) start is.1 ends
      ∙ (λ i. (append_assoc v (b ∷ []) w i, start) ∷ runs_of s outside (let e : at + 1 + length w ≡ at + suc (length w) = omega arith in e i) rest)

  run_runs : (w rest : List ℕ) (at : ℕ) → w ≢ [] → AreInner s w → EndsRun s rest → runs_of s outside at (w ++ rest) ≡ (w, at) ∷ runs_of s outside (at + length w) rest
  run_runs [] rest at some inner ends = absurd (some refl)
  run_runs (b ∷ w) rest at some inner ends =
      ap (λ (c : Bool). cond c (runs_of s outside (at + 1) (w ++ rest)) (runs_of s (inside at (b ∷ [])) (at + 1) (w ++ rest))) inner.0
      ∙ run_goes_on (b ∷ []) w rest (at + 1) at inner.1 ends
      ∙ ap (λ (n : ℕ). (b ∷ w, at) ∷ runs_of s outside n rest) (omega arith)

pub runs_of-AreRuns : (s : Separators) (before : ℕ) (bytes : List ℕ) → AreRuns s (runs_of s outside before bytes) before bytes
runs_of-AreRuns s before bytes = (sounds s bytes).freely before

pub AreRuns-runs_of : (s : Separators) (rs : List (List ℕ × ℕ)) (before : ℕ) (bytes : List ℕ) → AreRuns s rs before bytes → runs_of s outside before bytes ≡ rs
AreRuns-runs_of s [] before bytes are = ap (runs_of s outside before) (sym (append-nil bytes)) ∙ gap_runs s bytes [] before are
AreRuns-runs_of s (r ∷ rs) before bytes (gap, rest, separators, some, inner, ends, split, start, after) =
    ap (runs_of s outside before) split
    ∙ gap_runs s gap (r.0 ++ rest) before separators
    ∙ ap (λ (n : ℕ). runs_of s outside n (r.0 ++ rest)) (sym start)
    ∙ run_runs s r.0 rest r.1 some inner ends
    ∙ ap (λ (x : List (List ℕ × ℕ)). (r.0, r.1) ∷ x) (AreRuns-runs_of s rs (r.1 + length r.0) rest after)
