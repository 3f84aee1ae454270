-- The lines of the journal.
use Rattle.std.proofs.Common.{◌≡◌, ℕ, List, [], ◌∷◌, ◌++◌, length, decimal, codes, Option, Some, None, MatchOption, ap, sym, ◌∙◌, subst}
use Rattle.std.specs.List.{flat_map}
use Rattle.std.proofs.lemmas.Fmt.{decimal_injective}
use Rattle.std.proofs.lemmas.List.{append_assoc}
use Rattle.lg_gram.specs.declared.reply.Place.{Place}
use Rattle.lg_text.specs.Replies.{place_text}
use Rattle.lg_text.specs.Shown.{IsOneLine, IsPlace, closed}
use Rattle.lg_audit.specs.Pieces.{IsNumber}
use Rattle.lg_audit.specs.Documents.{edit_line}
use Rattle.lg_audit.specs.Fronts.{Leaves, HasNone, IsRead, Anything, AreFormed, numbered_lines}
use Rattle.lg_audit.specs.Journals.{edit_lines, AreEdits, all_edit_lines, IsJournal, front_lines}
use Rattle.lg_audit.proofs.Cuts.{behind_same, same_first, decimal_solid}
use Rattle.lg_audit.proofs.Rows.{spaced_single, small_single}
use Rattle.lg_audit.proofs.Singles.{number_single, cut_front, one_line}
use Rattle.lg_audit.proofs.ReplyLines.{both_single}
use Rattle.lg_audit.proofs.Numbered.{keys, IsEdit, lines_at, edits_formed, formed_edits, edits_same}

-- ---- one edit

module _ (number : ℕ) (fits : IsNumber number) (text first rest : List ℕ) (single : IsOneLine first) (cut : text ≡ closed first ++ rest) where
  edit_single : (p : Place) → IsPlace p → IsOneLine (edit_line (number, p))
  edit_single p form =
      spaced_single (decimal number) (place_text p) (number_single number fits)
      (both_single (decimal p.session) (46 ∷ decimal p.command) (small_single p.session form.0) (small_single p.command form.1))

  parts : (p : Place) (s : List ℕ) → IsPlace p → Leaves (edit_lines number p) text s → (first ≡ edit_line (number, p)) × (rest ≡ s)
  parts p s form is = cut_front text first rest (edit_line (number, p)) s [] single (edit_single p form) cut is

  pub no_edit : ((n : ℕ) (p : Place) → IsNumber n → IsPlace p → first ≡ edit_line (n, p) → ⊥) → HasNone IsPlace (edit_lines number) text
  no_edit none = record { none = λ p s form is. none number p fits form (parts p s form is).0 }

  module _ (found : ℕ) (place : Place) (read : IsNumber found × IsPlace place × (first ≡ edit_line (found, place))) where
    pub other_edit : (found ≡ number → ⊥) → HasNone IsPlace (edit_lines number) text
    other_edit other = record {
      none = λ p s form is.
          let behind = behind_same (codes "edit ") first (decimal found ++ 32 ∷ place_text place) (decimal number ++ 32 ∷ place_text p) read.2 (parts p s form is).0 in
          let pieces = same_first (decimal found) (decimal number) (place_text place) (place_text p) (decimal_solid found read.0) (decimal_solid number fits) behind in
          other (decimal_injective found number read.0 fits pieces.0);
    }

    pub this_edit : found ≡ number → IsRead IsPlace (edit_lines number) Anything text place rest
    this_edit same = record {
      form = read.1;
      is = cut ∙ ap (λ (l : List ℕ). closed l ++ rest) (read.2 ∙ ap (λ (n : ℕ). edit_line (n, place)) same) ∙ one_line (edit_line (number, place)) rest;
      only = λ p s form any is. sym (parts p s form is).1;
    }

-- ---- so many edits

pub edits_lacking : (count : ℕ) (text : List ℕ) → HasNone (AreFormed IsEdit (keys count)) (numbered_lines lines_at 1 (keys count)) text → HasNone (AreEdits count) all_edit_lines text
edits_lacking count text lacks = record {
  none = λ ps s form is. lacks.none ps s (edits_formed count ps form) (is ∙ ap (λ (ls : List (List ℕ)). flat_map closed ls ++ s) (sym (edits_same count 1 ps form.0)));
}

pub edits_read : (count : ℕ) (text : List ℕ) (ps : List Place) (left : List ℕ) → IsRead (AreFormed IsEdit (keys count)) (numbered_lines lines_at 1 (keys count)) Anything text ps left
    → IsRead (AreEdits count) all_edit_lines Anything text ps left
edits_read count text ps left read = record {
  form = formed_edits count ps read.form;
  is = read.is ∙ ap (λ (ls : List (List ℕ)). flat_map closed ls ++ left) (edits_same count 1 ps (formed_edits count ps read.form).0);
  only = λ qs s form any is. read.only qs s (edits_formed count qs form) tt (is ∙ ap (λ (ls : List (List ℕ)). flat_map closed ls ++ s) (sym (edits_same count 1 qs form.0)));
}

-- ---- the journal

module _ (text first rest : List ℕ) (single : IsOneLine first) (cut : text ≡ closed first ++ rest) where
  journal_parts : (ps : List Place) (s : List ℕ) → IsJournal ps → Leaves (front_lines ps) text s → (first ≡ codes "journal " ++ decimal (length ps)) × (rest ≡ flat_map closed (all_edit_lines ps) ++ s)
  journal_parts ps s form is = cut_front text first rest (codes "journal " ++ decimal (length ps)) s (all_edit_lines ps) single (number_single (length ps) form.1) cut is

  pub no_count : ((n : ℕ) → IsNumber n → first ≡ codes "journal " ++ decimal n → ⊥) → HasNone IsJournal front_lines text
  no_count none = record { none = λ ps s form is. none (length ps) form.1 (journal_parts ps s form is).0 }

  module _ (count : ℕ) (found : IsNumber count × (first ≡ codes "journal " ++ decimal count)) where
    length_is : (ps : List Place) → IsNumber (length ps) → first ≡ codes "journal " ++ decimal (length ps) → length ps ≡ count
    length_is ps fits is = sym (decimal_injective count (length ps) found.0 fits (behind_same (codes "journal ") first (decimal count) (decimal (length ps)) found.1 is))

    pub counted : {A : Type 0} (v : A → List Place) (left : A → List ℕ) (r : Option A) → MatchOption r (HasNone (AreEdits count) all_edit_lines rest) (λ f. IsRead (AreEdits count) all_edit_lines Anything rest (v f) (left f))
        → MatchOption r (HasNone IsJournal front_lines text) (λ f. IsRead IsJournal front_lines Anything text (v f) (left f))
    counted v left None lacks = record { none = λ ps s form is. let both = journal_parts ps s form is in lacks.none ps s (length_is ps form.1 both.0, form.0) both.1 }
    counted v left (Some f) read = record {
      form = (read.form.1, subst IsNumber (sym read.form.0) found.0);
      is =
          cut ∙ ap (λ (l : List ℕ). closed l ++ rest) (found.1 ∙ ap (λ (n : ℕ). codes "journal " ++ decimal n) (sym read.form.0))
          ∙ ap (λ (t : List ℕ). closed (codes "journal " ++ decimal (length (v f))) ++ t) read.is
          ∙ sym (append_assoc (closed (codes "journal " ++ decimal (length (v f)))) (flat_map closed (all_edit_lines (v f))) (left f));
      only = λ ps s form any is. let both = journal_parts ps s form is in read.only ps s (length_is ps form.1 both.0, form.0) tt both.1;
    }
