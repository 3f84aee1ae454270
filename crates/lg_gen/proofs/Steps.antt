-- One step of each loop: what is left is a piece and what is left after it.
use Rattle.std.proofs.Common.{◌≡◌, ℕ, suc, ◌+◌, ◌-◌, ◌<◌, ◌≤◌, List, [], ◌++◌, codes, ap, sym, ◌∙◌, arith, append_assoc, append-nil}
use Rattle.std.specs.List.{flat_map, range_with_len}
use Rattle.lg_gen.specs.Made.{word, entry_line, next, drawn, drawn_words, after, sentence_line, behind_sentence, sentence_lines}

pub piece_more : (out now all rest piece less : List ℕ) → now ≡ out ++ piece → rest ≡ piece ++ less → out ++ rest ≡ all → now ++ less ≡ all
piece_more out now all rest piece less e r h =
    ap (λ (x : List ℕ). x ++ less) e ∙ append_assoc out piece less ∙ ap (λ (x : List ℕ). out ++ x) (sym r) ∙ h

pub nothing_more : (out all rest : List ℕ) → rest ≡ [] → out ++ rest ≡ all → out ≡ all
nothing_more out all rest e h = sym (append-nil out) ∙ ap (λ (x : List ℕ). out ++ x) (sym e) ∙ h

-- one more was done
left_of : (n i : ℕ) → i < n → n - i ≡ suc (n - (i + 1))
left_of n i h = omega arith

none_of : (n i : ℕ) → n ≤ i → n - i ≡ 0
none_of n i h = omega arith

pub draw_left : (words n i state : ℕ) → i < n → drawn_words words (n - i) state ≡ (codes " " ++ word (drawn words (next state))) ++ drawn_words words (n - (i + 1)) (next state)
draw_left words n i state h = ap (λ (k : ℕ). drawn_words words k state) (left_of n i h)

pub no_draw_left : (words n i state : ℕ) → n ≤ i → drawn_words words (n - i) state ≡ []
no_draw_left words n i state h = ap (λ (k : ℕ). drawn_words words k state) (none_of n i h)

pub after_left : (n i state : ℕ) → i < n → after (n - i) state ≡ after (n - (i + 1)) (next state)
after_left n i state h = ap (λ (k : ℕ). after k state) (left_of n i h)

pub none_after : (n i state : ℕ) → n ≤ i → after (n - i) state ≡ state
none_after n i state h = ap (λ (k : ℕ). after k state) (none_of n i h)

pub sentence_left : (words n i state : ℕ) → i < n → sentence_lines words (n - i) state ≡ sentence_line words state ++ sentence_lines words (n - (i + 1)) (behind_sentence state)
sentence_left words n i state h = ap (λ (k : ℕ). sentence_lines words k state) (left_of n i h)

pub entry_left : (n i : ℕ) → i < n → flat_map entry_line (range_with_len i (n - i)) ≡ entry_line i ++ flat_map entry_line (range_with_len (i + 1) (n - (i + 1)))
entry_left n i h = ap (λ (k : ℕ). flat_map entry_line (range_with_len i k)) (left_of n i h)
