-- Lines before the last one of a journal.
use Rattle.std.proofs.Common.{◌≡◌, ℕ, ◌-◌, ◌≤◌, List, [], ◌∷◌, ◌++◌, length, take, codes, sym, ap, ◌∙◌, append_assoc, arith}
use Rattle.std.proofs.lemmas.List.{length-append}
use Rattle.std.proofs.Math.Seq.{take-append_seam}
use Rattle.lg_text.specs.Texts.{line_of}

abbrev pub done_line : List ℕ
done_line = line_of (codes "done" ∷ [])

module _ (front edits journal : List ℕ) (is : journal ≡ front ++ (edits ++ done_line)) where
  pub is_long : 5 ≤ length journal
  is_long = omega (arith, ap length is, length-append front (edits ++ done_line), length-append edits done_line)

  kept : take (length journal - 5) journal ≡ front ++ edits
  kept =
      let all : journal ≡ (front ++ edits) ++ done_line = is ∙ sym (append_assoc front edits done_line) in
      let short : length journal - 5 ≡ length (front ++ edits) = omega (arith, ap length all, length-append (front ++ edits) done_line) in
      (λ i. take (short i) (all i)) ∙ take-append_seam (front ++ edits) done_line

  pub with_lines : (cut more text lines : List ℕ) → cut ≡ take (length journal - 5) journal → more ≡ cut ++ lines → text ≡ more ++ done_line → text ≡ front ++ (edits ++ (lines ++ done_line))
  with_lines cut more text lines e f g =
      g ∙ ap (λ (l : List ℕ). l ++ done_line) (f ∙ ap (λ (l : List ℕ). l ++ lines) (e ∙ kept)) ∙ append_assoc (front ++ edits) lines done_line ∙ append_assoc front edits (lines ++ done_line)
