-- A document is read up to the last edit of its journal: the first line of the journal says how many edits follow, so it is no matter what
-- stands behind them.
use Rattle.std.proofs.Common.{◌≡◌, ℕ, ◌+◌, ◌<◌, ◌≤◌, ◌^◌, Bool, true, false, eqb, leb, List, [], ◌∷◌, ◌++◌, length, refl, ap, sym, ◌∙◌, subst, arith, codes, append_assoc, ⊎_elim, true≢false, eqb-true, ne_eqb, leb-true}
use Rattle.std.specs.List.{list_any, flat_map, enumerate_from, starts_with, join_with_byte, AllByRecursion}
use Rattle.std.specs.Fmt.{decimal}
use Rattle.std.proofs.lemmas.Bool.{and_parts, or_cases}
use Rattle.std.proofs.lemmas.Fmt.{decimal_injective}
use Rattle.std.proofs.lemmas.Grind.{flat_map-append}
use Rattle.lg_gram.specs.declared.reply.Place.{Place}
use Rattle.lg_text.specs.Replies.{place_text, edit_line}
use Rattle.lg_text.specs.Shown.{IsOneLine, IsPlain, Answered, answer_text, document_text, closed, begins, page_words, is_digit, LinesAreApart}
use Rattle.lg_text.specs.declared.look.Look.{Look}
use Rattle.lg_text.proofs.Bytes.{until, after, until_is, after_is}
use Rattle.lg_text.proofs.PlainTexts.{joined_plain, number_plain}
use Rattle.lg_text.proofs.TextLines.{all_both, place_plain, entry_line}
use Rattle.lg_run.specs.Documents.{journal_with}

-- ---- the first line of a text

cut : (x rest : List ℕ) → closed x ++ rest ≡ x ++ 10 ∷ rest
cut x rest = append_assoc x (10 ∷ []) rest

same_first : (x y r s : List ℕ) → IsOneLine x → IsOneLine y → closed x ++ r ≡ closed y ++ s → (x ≡ y) × (r ≡ s)
same_first x y r s p q e =
    let whole : x ++ 10 ∷ r ≡ y ++ 10 ∷ s = sym (cut x r) ∙ e ∙ cut y s in
    (sym (until_is 10 x r p) ∙ ap (until 10) whole ∙ until_is 10 y s q, sym (after_is 10 x r p) ∙ ap (after 10) whole ∙ after_is 10 y s q)

-- ---- lines of answers

-- as the first line of a journal does, and no line of an answer
abbrev begins_with_j : List ℕ → Bool
begins_with_j [] = false
begins_with_j (c ∷ line) = eqb c 106

abbrev IsOther : List ℕ → Type 0
IsOther line = IsOneLine line × (begins_with_j line ≡ false)

by_word : (c : ℕ) (word line : List ℕ) → eqb c 106 ≡ false → starts_with eqb line (c ∷ word) ≡ true → begins_with_j line ≡ false
by_word c word [] other starts = refl
by_word c word (x ∷ line) other starts =
    let same : c ≡ x = eqb-true c x (and_parts (eqb c x) _ starts).0 in
    subst (λ (n : ℕ). eqb n 106 ≡ false) same other

-- the word has a first byte, which is no j
abbrev IsOtherWord : List ℕ → Type 0
IsOtherWord [] = ⊥
IsOtherWord (c ∷ word) = eqb c 106 ≡ false

by_words : (words : List (List ℕ)) → AllByRecursion IsOtherWord words → (line : List ℕ) → begins words line ≡ true → begins_with_j line ≡ false
by_words [] all line e = absurd (true≢false (sym e))
by_words ([] ∷ words) all line e = absurd all.0
by_words ((c ∷ word) ∷ words) all line e =
    ⊎_elim (λ s. by_word c word line all.0 s) (λ r. by_words words all.1 line r) (or_cases (starts_with eqb line (c ∷ word)) (list_any (starts_with eqb line) words) e)

page_others : (lines : List (List ℕ)) → AllByRecursion (λ line. IsOneLine line) lines → AllByRecursion (λ line. begins page_words line ≡ true) lines → AllByRecursion IsOther lines
page_others [] single begun = tt
page_others (line ∷ lines) single begun = (
  (single.0, by_words page_words (refl, (refl, (refl, (refl, (refl, (refl, (refl, tt))))))) line begun.0),
  page_others lines single.1 begun.1,
)

digit_other : (c : ℕ) → is_digit c ≡ true → eqb c 106 ≡ false
digit_other c e = let below : c ≤ 57 = leb-true c 57 (and_parts (leb 48 c) (leb c 57) e).1 in ne_eqb c 106 (omega arith)

record HasOthers (text : List ℕ) : Type 0 where
  lines : List (List ℕ)
  is : text ≡ flat_map closed lines
  other : AllByRecursion IsOther lines

module _ (apart : LinesAreApart) where
  answer_others : (look : Look) (a : Answered) → IsPlain a → HasOthers (answer_text look a)
  answer_others look a plain =
      let h = (apart.0 look a plain).1 in
      let head : List ℕ = (apart.0 look a plain).0 in
      record {
        lines = head ∷ h.page.lines;
        is = h.is ∙ ap (λ (l : List ℕ). closed head ++ l) h.page.is;
        other = ((h.single, ap begins_with_j h.begins_so ∙ digit_other h.digit h.is_one), page_others h.page.lines h.page.single h.page.begun);
      }

  answers_others : (look : Look) (answers : List Answered) → AllByRecursion IsPlain answers → HasOthers (flat_map (answer_text look) answers)
  answers_others look [] plain = record { lines = []; is = refl; other = tt }
  answers_others look (a ∷ answers) plain =
      let x = answer_others look a plain.0 in
      let y = answers_others look answers plain.1 in
      record {
        lines = x.lines ++ y.lines;
        is = (λ i. x.is i ++ y.is i) ∙ sym (flat_map-append closed x.lines y.lines);
        other = all_both IsOther x.lines y.lines x.other y.other;
      }

-- ---- lines before the first that begins with a j, that line, and what follows it

abbrev IsOpening : List ℕ → Type 0
IsOpening line = IsOneLine line × (begins_with_j line ≡ true)

clash : (x y : List ℕ) → IsOther x → IsOpening y → x ≡ y → ⊥
clash x y other opening e = true≢false (sym opening.1 ∙ ap begins_with_j (sym e) ∙ other.1)

module _ (j k r s : List ℕ) (opens : IsOpening j) (opens' : IsOpening k) where
  same_parts : (xs ys : List (List ℕ)) → AllByRecursion IsOther xs → AllByRecursion IsOther ys → flat_map closed xs ++ (closed j ++ r) ≡ flat_map closed ys ++ (closed k ++ s)
      → (flat_map closed xs ≡ flat_map closed ys) × (j ≡ k) × (r ≡ s)
  same_parts [] [] p q e = let both = same_first j k r s opens.0 opens'.0 e in (refl, both.0, both.1)
  same_parts [] (y ∷ ys) p q e =
      let both = same_first j y r (flat_map closed ys ++ (closed k ++ s)) opens.0 q.0.0 (e ∙ append_assoc (closed y) (flat_map closed ys) (closed k ++ s)) in
      absurd (clash y j q.0 opens (sym both.0))
  same_parts (x ∷ xs) [] p q e =
      let both = same_first x k (flat_map closed xs ++ (closed j ++ r)) s p.0.0 opens'.0 (sym (append_assoc (closed x) (flat_map closed xs) (closed j ++ r)) ∙ e) in
      absurd (clash x k p.0 opens' both.0)
  same_parts (x ∷ xs) (y ∷ ys) p q e =
      let both = same_first x y (flat_map closed xs ++ (closed j ++ r)) (flat_map closed ys ++ (closed k ++ s)) p.0.0 q.0.0
      (sym (append_assoc (closed x) (flat_map closed xs) (closed j ++ r)) ∙ e ∙ append_assoc (closed y) (flat_map closed ys) (closed k ++ s)) in
      let rest = same_parts xs ys p.1 q.1 both.1 in
      let front : flat_map closed (x ∷ xs) ≡ flat_map closed (y ∷ ys) = λ i. closed (both.0 i) ++ rest.0 i in
      (front, rest.1, rest.2)

-- ---- the journal

abbrev count_line : List Place → List ℕ
count_line journal = join_with_byte 32 (codes "journal" ∷ decimal (length journal) ∷ [])

abbrev edit_lines : ℕ → List Place → List ℕ
edit_lines n journal = flat_map edit_line (enumerate_from n journal)

count_opens : (journal : List Place) → IsOpening (count_line journal)
count_opens journal = (joined_plain 32 refl (codes "journal" ∷ decimal (length journal) ∷ []) (refl, (number_plain (length journal), tt)), refl)

same_count : (j k : List Place) → length j < 2 ^ 64 → length k < 2 ^ 64 → count_line j ≡ count_line k → length j ≡ length k
same_count j k few few' e = decimal_injective (length j) (length k) few few' (sym (read j) ∙ ap (after 32) e ∙ read k)
  where
    read : (l : List Place) → after 32 (count_line l) ≡ decimal (length l)
    read l = after_is 32 (codes "journal") (decimal (length l)) refl

entry_single : (e : ℕ × Place) → IsOneLine (entry_line e)
entry_single e = joined_plain 32 refl (codes "edit" ∷ decimal e.0 ∷ place_text e.1 ∷ []) (refl, (number_plain e.0, (place_plain e.1, tt)))

same_edits : (n : ℕ) (j k : List Place) (r s : List ℕ) → length j ≡ length k → edit_lines n j ++ r ≡ edit_lines n k ++ s → edit_lines n j ≡ edit_lines n k
same_edits n [] [] r s same e = refl
same_edits n [] (q ∷ k) r s same e = absurd (omega (arith, same))
same_edits n (p ∷ j) [] r s same e = absurd (omega (arith, same))
same_edits n (p ∷ j) (q ∷ k) r s same e =
    let both = same_first (entry_line (n, p)) (entry_line (n, q)) (edit_lines (n + 1) j ++ r) (edit_lines (n + 1) k ++ s) (entry_single (n, p)) (entry_single (n, q))
    (sym (append_assoc (edit_line (n, p)) (edit_lines (n + 1) j) r) ∙ e ∙ append_assoc (edit_line (n, q)) (edit_lines (n + 1) k) s) in
    let rest = same_edits (n + 1) j k r s (omega (arith, same)) both.1 in
    λ i. closed (both.0 i) ++ rest i

-- two documents that are the same are so without the lines before the last one, too
pub same_without_lines : LinesAreApart → (look look' : Look) (one other : List Answered) (j k : List Place) (lines more : List ℕ) → AllByRecursion IsPlain one → AllByRecursion IsPlain other
    → length j < 2 ^ 64 → length k < 2 ^ 64 → flat_map (answer_text look) one ++ journal_with lines j ≡ flat_map (answer_text look') other ++ journal_with more k
    → document_text look one j ≡ document_text look' other k
same_without_lines apart look look' one other j k lines more p q few few' e =
    let x = answers_others apart look one p in
    let y = answers_others apart look' other q in
    let rest = edit_lines 1 j ++ (lines ++ closed (codes "done")) in
    let rest' = edit_lines 1 k ++ (more ++ closed (codes "done")) in
    let parts = same_parts (count_line j) (count_line k) rest rest' (count_opens j) (count_opens k) x.lines y.lines x.other y.other
    ((λ i. sym x.is i ++ journal_with lines j) ∙ e ∙ (λ i. y.is i ++ journal_with more k)) in
    let answers : flat_map (answer_text look) one ≡ flat_map (answer_text look') other = x.is ∙ parts.0 ∙ sym y.is in
    let edits = same_edits 1 j k (lines ++ closed (codes "done")) (more ++ closed (codes "done")) (same_count j k few few' parts.1) parts.2 in
    λ i. answers i ++ (closed (parts.1 i) ++ (edits i ++ closed (codes "done")))
