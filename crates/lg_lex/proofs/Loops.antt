-- One turn of each loop that looks for the end of a token.
use Rattle.std.proofs.Common.{◌≡◌, ◌≢◌, ℕ, ◌+◌, ◌-◌, ◌<◌, ◌≤◌, Bool, true, false, List, [], ◌∷◌, ◌++◌, length, get_or, take, drop, sym, ap, ◌∙◌, arith, length-drop}
use Rattle.std.specs.Prelude.{slice_range}
use Rattle.std.proofs.lemmas.List.{take_more, drop_more, get_or-drop}
use Rattle.lg_lex.specs.declared.marks.Class.{Class}
use Rattle.lg_lex.specs.declared.marks.Class.TheVariants.{Other, Quote, LineEnd}
use Rattle.lg_lex.specs.declared.marks.Marks.{Marks}
use Rattle.lg_lex.specs.Classes.{class_of}
use Rattle.lg_lex.specs.Lexing.{Mode, between, in_comment, in_plain, in_quotes, plained, lex}
use Rattle.lg_lex.specs.declared.run.Separators.{Separators}
use Rattle.lg_lex.specs.Runs.{is_separator, inside, runs_of}
use Rattle.lg_lex.proofs.Steps.{quoting_on}
use Rattle.lg_lex.proofs.RunLists.{runs_of-inner}

-- the mode of a loop that knows only whether it stands in a comment
abbrev pub gap_mode : Bool → Mode
gap_mode true = in_comment
gap_mode false = between

pub slice_range_more : (text : List ℕ) (start at : ℕ) → start ≤ at → at < length text → slice_range text start (at + 1) ≡ slice_range text start at ++ get_or text at 0 ∷ []
slice_range_more text start at le lt =
    let one_more : at + 1 - start ≡ (at - start) + 1 = omega arith in
    let back : start + (at - start) ≡ at = omega arith in
    ap (λ (k : ℕ). take k (drop start text)) one_more
    ∙ take_more (drop start text) (at - start) 0 (omega (arith, length-drop start text))
    ∙ ap (λ (x : ℕ). take (at - start) (drop start text) ++ x ∷ []) (get_or-drop start text (at - start) 0 ∙ ap (λ (k : ℕ). get_or text k 0) back)

pub plain_more : (marks : Marks) (text : List ℕ) (start at : ℕ) → start ≤ at → at < length text → class_of marks (get_or text at 0) ≡ Other
    → lex marks (in_plain start (slice_range text start at)) at (drop at text) ≡ lex marks (in_plain start (slice_range text start (at + 1))) (at + 1) (drop (at + 1) text)
plain_more marks text start at le lt other =
    ap (lex marks (in_plain start (slice_range text start at)) at) (drop_more text at 0 lt)
    ∙ ap (λ (c : Class). plained start (slice_range text start at) c (get_or text at 0) at (λ n. lex marks n (at + 1) (drop (at + 1) text))) other
    ∙ ap (λ (w : List ℕ). lex marks (in_plain start w) (at + 1) (drop (at + 1) text)) (sym (slice_range_more text start at le lt))

pub quote_more : (marks : Marks) (text : List ℕ) (from start at : ℕ) → from ≤ at → at < length text → class_of marks (get_or text at 0) ≢ Quote → class_of marks (get_or text at 0) ≢ LineEnd
    → lex marks (in_quotes start (slice_range text from at)) at (drop at text) ≡ lex marks (in_quotes start (slice_range text from (at + 1))) (at + 1) (drop (at + 1) text)
quote_more marks text from start at le lt unquoted in_line =
    ap (lex marks (in_quotes start (slice_range text from at)) at) (drop_more text at 0 lt)
    ∙ quoting_on (class_of marks (get_or text at 0)) (get_or text at 0) start (slice_range text from at) (λ n. lex marks n (at + 1) (drop (at + 1) text)) unquoted in_line
    ∙ ap (λ (w : List ℕ). lex marks (in_quotes start w) (at + 1) (drop (at + 1) text)) (sym (slice_range_more text from at le lt))

pub run_more : (s : Separators) (text : List ℕ) (start at : ℕ) → start ≤ at → at < length text → is_separator s (get_or text at 0) ≡ false
    → runs_of s (inside start (slice_range text start at)) at (drop at text) ≡ runs_of s (inside start (slice_range text start (at + 1))) (at + 1) (drop (at + 1) text)
run_more s text start at le lt inner =
    ap (runs_of s (inside start (slice_range text start at)) at) (drop_more text at 0 lt)
    ∙ runs_of-inner s start (slice_range text start at) (get_or text at 0) at (drop (at + 1) text) inner
    ∙ ap (λ (w : List ℕ). runs_of s (inside start w) (at + 1) (drop (at + 1) text)) (sym (slice_range_more text start at le lt))
