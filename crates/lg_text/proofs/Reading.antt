-- A document, read back by its lines.
use Rattle.std.proofs.Common.{◌≡◌, ℕ, suc, ◌+◌, ◌≤◌, Bool, true, false, eqb, leb, List, [], ◌∷◌, ◌++◌, length, drop, map, refl, ap, sym, ◌∙◌, arith, codes, append_assoc, ⊎_elim, true≢false, eqb-true, ne_eqb, leb-true}
use Rattle.std.specs.List.{list_any, flat_map, enumerate_from, filter, starts_with, AllByRecursion}
use Rattle.std.specs.Prelude.{◌||◌}
use Rattle.std.specs.Fmt.{decimal}
use Rattle.std.proofs.lemmas.Bool.{and_parts, cond-true, cond-false, or_cases, or_from}
use Rattle.std.proofs.lemmas.List.{append_cancel_right}
use Rattle.std.proofs.lemmas.List.Elements.{filter-append}
use Rattle.std.proofs.lemmas.Grind.{flat_map-append}
use Rattle.lg_gram.specs.declared.reply.Place.{Place}
use Rattle.lg_text.specs.Replies.{place_text, journal_text}
use Rattle.lg_text.specs.declared.look.Look.{Look}
use Rattle.lg_text.specs.Shown.{IsOneLine, IsPlain, IsPlace, Answered, shown_of, answer_text, document_text, closed, begins, HasHead, page_words, journal_words, is_digit, JournalsAreShown, LinesAreApart, HeadsAreShown, DocumentsShow}
use Rattle.lg_text.proofs.Bytes.{until, after, until_is, after_is, decimal_lacks}
use Rattle.lg_text.proofs.PlainTexts.{AreOneLines}
use Rattle.lg_text.proofs.TextLines.{all_both, head_line, head_of, entry_line, journal_lines, journal_is, journal_plain, journal_begun, journal_has_lines}
use Rattle.lg_text.proofs.Heads.{same_place, same_shown}

-- ---- the lines of a text

cut : (x rest : List ℕ) → closed x ++ rest ≡ x ++ 10 ∷ rest
cut x rest = append_assoc x (10 ∷ []) rest

same_first : (x y r s : List ℕ) → IsOneLine x → IsOneLine y → closed x ++ r ≡ closed y ++ s → (x ≡ y) × (r ≡ s)
same_first x y r s p q e =
    let whole : x ++ 10 ∷ r ≡ y ++ 10 ∷ s = sym (cut x r) ∙ e ∙ cut y s in
    (sym (until_is 10 x r p) ∙ ap (until 10) whole ∙ until_is 10 y s q, sym (after_is 10 x r p) ∙ ap (after 10) whole ∙ after_is 10 y s q)

not_closed : (x rest : List ℕ) → [] ≡ closed x ++ rest → ⊥
not_closed [] rest e = let no : ◌≡◌ {A = ℕ} 0 (suc (length rest)) = ap length e in omega arith
not_closed (c ∷ x) rest e = let no : ◌≡◌ {A = ℕ} 0 (suc (length (closed x ++ rest))) = ap length e in omega arith

-- a text has its lines in one way
same_lines : (xs ys : List (List ℕ)) → AreOneLines xs → AreOneLines ys → flat_map closed xs ≡ flat_map closed ys → xs ≡ ys
same_lines [] [] p q e = refl
same_lines [] (y ∷ ys) p q e = absurd (not_closed y (flat_map closed ys) e)
same_lines (x ∷ xs) [] p q e = absurd (not_closed x (flat_map closed xs) (sym e))
same_lines (x ∷ xs) (y ∷ ys) p q e =
    let parts = same_first x y (flat_map closed xs) (flat_map closed ys) p.0 q.0 e in
    let others : xs ≡ ys = same_lines xs ys p.1 q.1 parts.1 in
    λ i. parts.0 i ∷ others i

-- ---- first lines of answers, and lines of the journal

abbrev is_head : List ℕ → Bool
is_head [] = false
is_head (c ∷ line) = is_digit c

-- a line of the journal begins with j, e or d
abbrev is_entry : List ℕ → Bool
is_entry [] = false
is_entry (c ∷ line) = eqb c 106 || (eqb c 101 || eqb c 100)

not_entry : (c : ℕ) (line : List ℕ) → is_digit c ≡ true → is_entry (c ∷ line) ≡ false
not_entry c line e =
    let below : c ≤ 57 = leb-true c 57 (and_parts (leb 48 c) (leb c 57) e).1 in
    or_from (eqb c 106) (eqb c 101 || eqb c 100) (ne_eqb c 106 (omega arith)) (or_from (eqb c 101) (eqb c 100) (ne_eqb c 101 (omega arith)) (ne_eqb c 100 (omega arith)))

-- the test of a line's first byte has this answer for lines that begin with the word
abbrev Tells : (ℕ → Bool) → Bool → List ℕ → Type 0
Tells test b [] = ⊥
Tells test b (c ∷ word) = test c ≡ b

abbrev head_byte : ℕ → Bool
head_byte c = is_digit c

abbrev entry_byte : ℕ → Bool
entry_byte c = eqb c 106 || (eqb c 101 || eqb c 100)

module _ (of_byte : ℕ → Bool) (test : List ℕ → Bool) (is_test : (c : ℕ) (line : List ℕ) → test (c ∷ line) ≡ of_byte c) (b : Bool) where
  by_word : (c : ℕ) (word line : List ℕ) → of_byte c ≡ b → starts_with eqb line (c ∷ word) ≡ true → test line ≡ b
  by_word c word [] is starts = absurd (true≢false (sym starts))
  by_word c word (x ∷ line) is starts =
      let same : c ≡ x = eqb-true c x (and_parts (eqb c x) _ starts).0 in
      is_test x line ∙ ap of_byte (sym same) ∙ is

  by_words : (words : List (List ℕ)) → AllByRecursion (Tells of_byte b) words → (line : List ℕ) → begins words line ≡ true → test line ≡ b
  by_words [] all line e = absurd (true≢false (sym e))
  by_words ([] ∷ words) all line e = absurd all.0
  by_words ((c ∷ word) ∷ words) all line e = ⊎_elim (λ s. by_word c word line all.0 s) (λ r. by_words words all.1 line r) (or_cases (starts_with eqb line (c ∷ word)) (list_any (starts_with eqb line) words) e)

  each_line : (words : List (List ℕ)) → AllByRecursion (Tells of_byte b) words → (lines : List (List ℕ)) → AllByRecursion (λ line. begins words line ≡ true) lines
      → AllByRecursion (λ line. test line ≡ b) lines
  each_line words all [] begun = tt
  each_line words all (line ∷ lines) begun = (by_words words all line begun.0, each_line words all lines begun.1)

filter_all : (test : List ℕ → Bool) (lines : List (List ℕ)) → AllByRecursion (λ line. test line ≡ true) lines → filter test lines ≡ lines
filter_all test [] all = refl
filter_all test (x ∷ lines) all = cond-true (test x) (x ∷ filter test lines) (filter test lines) all.0 ∙ ap (λ (l : List (List ℕ)). x ∷ l) (filter_all test lines all.1)

filter_none : (test : List ℕ → Bool) (lines : List (List ℕ)) → AllByRecursion (λ line. test line ≡ false) lines → filter test lines ≡ []
filter_none test [] all = refl
filter_none test (x ∷ lines) all = cond-false (test x) (x ∷ filter test lines) (filter test lines) all.0 ∙ filter_none test lines all.1

-- the text's lines, of which these begin with a digit, and those as a line of the journal does
record Extracts (text : List ℕ) (heads entries : List (List ℕ)) : Type 0 where
  lines : List (List ℕ)
  is : text ≡ flat_map closed lines
  single : AreOneLines lines
  heads_are : filter is_head lines ≡ heads
  entries_are : filter is_entry lines ≡ entries

extracts_both : (s t : List ℕ) (h k e f : List (List ℕ)) → Extracts s h e → Extracts t k f → Extracts (s ++ t) (h ++ k) (e ++ f)
extracts_both s t h k e f x y = record {
  lines = x.lines ++ y.lines;
  is = (λ i. x.is i ++ y.is i) ∙ sym (flat_map-append closed x.lines y.lines);
  single = all_both (λ line. IsOneLine line) x.lines y.lines x.single y.single;
  heads_are = filter-append is_head x.lines y.lines ∙ (λ i. x.heads_are i ++ y.heads_are i);
  entries_are = filter-append is_entry x.lines y.lines ∙ (λ i. x.entries_are i ++ y.entries_are i);
}

extracts_one : (look : Look) (a : Answered) → IsPlain a → Extracts (answer_text look a) (head_line a ∷ []) []
extracts_one look a plain =
    let h = head_of look a plain in
    let lines : List (List ℕ) = h.page.lines in
    let is_one : is_head (head_line a) ≡ true = ap is_head h.begins_so ∙ h.is_one in
    let is_none : is_entry (head_line a) ≡ false = ap is_entry h.begins_so ∙ not_entry h.digit h.more h.is_one in
    let no_head : filter is_head lines ≡ [] = filter_none is_head lines (each_line head_byte is_head (λ c line. refl) false page_words (refl, (refl, (refl, (refl, (refl, (refl, (refl, tt))))))) lines h.page.begun) in
    let no_entry : filter is_entry lines ≡ [] = filter_none is_entry lines (each_line entry_byte is_entry (λ c line. refl) false page_words (refl, (refl, (refl, (refl, (refl, (refl, (refl, tt))))))) lines h.page.begun) in
    record {
      lines = head_line a ∷ lines;
      is = h.is ∙ ap (λ (l : List ℕ). closed (head_line a) ++ l) h.page.is;
      single = (h.single, h.page.single);
      heads_are = cond-true (is_head (head_line a)) (head_line a ∷ filter is_head lines) (filter is_head lines) is_one ∙ ap (λ (l : List (List ℕ)). head_line a ∷ l) no_head;
      entries_are = cond-false (is_entry (head_line a)) (head_line a ∷ filter is_entry lines) (filter is_entry lines) is_none ∙ no_entry;
    }

extracts_answers : (look : Look) (answers : List Answered) → AllByRecursion IsPlain answers → Extracts (flat_map (answer_text look) answers) (map head_line answers) []
extracts_answers look [] plain = record { lines = []; is = refl; single = tt; heads_are = refl; entries_are = refl }
extracts_answers look (a ∷ answers) plain =
    extracts_both (answer_text look a) (flat_map (answer_text look) answers) (head_line a ∷ []) (map head_line answers) [] [] (extracts_one look a plain.0) (extracts_answers look answers plain.1)

extracts_journal : (j : List Place) → Extracts (journal_text j) [] (journal_lines j)
extracts_journal j = record {
  lines = journal_lines j;
  is = journal_is j;
  single = journal_plain j;
  heads_are = filter_none is_head (journal_lines j) (each_line head_byte is_head (λ c line. refl) false journal_words (refl, (refl, (refl, tt))) (journal_lines j) (journal_begun j));
  entries_are = filter_all is_entry (journal_lines j) (each_line entry_byte is_entry (λ c line. refl) true journal_words (refl, (refl, (refl, tt))) (journal_lines j) (journal_begun j));
}

same_extracts : (s t : List ℕ) (h k e f : List (List ℕ)) → Extracts s h e → Extracts t k f → s ≡ t → (h ≡ k) × (e ≡ f)
same_extracts s t h k e f x y same =
    let lines : x.lines ≡ y.lines = same_lines x.lines y.lines x.single y.single (sym x.is ∙ same ∙ y.is) in
    (sym x.heads_are ∙ ap (filter is_head) lines ∙ y.heads_are, sym x.entries_are ∙ ap (filter is_entry) lines ∙ y.entries_are)

-- ---- what the lines tell

abbrev first_or : {X : Type 0} → X → List X → X
first_or d [] = d
first_or d (x ∷ xs) = x

uneven : {X : Type 0} (x : X) (xs : List X) → [] ≡ x ∷ xs → ⊥
uneven x xs e = let no : ◌≡◌ {A = ℕ} 0 (suc (length xs)) = ap length e in omega arith

entry_read : (e : ℕ × Place) → after 32 (after 32 (entry_line e)) ≡ place_text e.1
entry_read e = after_is 32 (decimal e.0) (place_text e.1) (decimal_lacks 32 e.0 refl)

same_entries : (n : ℕ) (j k : List Place) → AllByRecursion IsPlace j → AllByRecursion IsPlace k → map entry_line (enumerate_from n j) ≡ map entry_line (enumerate_from n k) → j ≡ k
same_entries n [] [] p q e = refl
same_entries n [] (y ∷ ys) p q e = absurd (uneven (entry_line (n, y)) (map entry_line (enumerate_from (n + 1) ys)) e)
same_entries n (x ∷ xs) [] p q e = absurd (uneven (entry_line (n, x)) (map entry_line (enumerate_from (n + 1) xs)) (sym e))
same_entries n (x ∷ xs) (y ∷ ys) p q e =
    let line : entry_line (n, x) ≡ entry_line (n, y) = ap (first_or []) e in
    let first : x ≡ y = same_place x y p.0 q.0 (sym (entry_read (n, x)) ∙ ap (λ (l : List ℕ). after 32 (after 32 l)) line ∙ entry_read (n, y)) in
    let rest : xs ≡ ys = same_entries (n + 1) xs ys p.1 q.1 (ap (drop 1) e) in
    λ i. first i ∷ rest i

same_journal : (j k : List Place) → AllByRecursion IsPlace j → AllByRecursion IsPlace k → journal_lines j ≡ journal_lines k → j ≡ k
same_journal j k p q e =
    same_entries 1 j k p q (append_cancel_right (map entry_line (enumerate_from 1 j)) (map entry_line (enumerate_from 1 k)) (codes "done" ∷ []) (ap (drop 1) e))

same_heads : (one other : List Answered) → AllByRecursion IsPlain one → AllByRecursion IsPlain other → map head_line one ≡ map head_line other → map shown_of one ≡ map shown_of other
same_heads [] [] p q e = refl
same_heads [] (b ∷ bs) p q e = absurd (uneven (head_line b) (map head_line bs) e)
same_heads (a ∷ rest) [] p q e = absurd (uneven (head_line a) (map head_line rest) (sym e))
same_heads (a ∷ rest) (b ∷ bs) p q e =
    let first = same_shown a b p.0 q.0 (ap (first_or []) e) in
    let others = same_heads rest bs p.1 q.1 (ap (drop 1) e) in
    λ i. first i ∷ others i

-- ---- the laws

pub journals_are_shown : JournalsAreShown
journals_are_shown j k p q e = same_journal j k p q (same_extracts (journal_text j) (journal_text k) [] [] (journal_lines j) (journal_lines k) (extracts_journal j) (extracts_journal k) e).1

pub lines_are_apart : LinesAreApart
lines_are_apart = ((λ look a plain. (head_line a, head_of look a plain)), journal_has_lines)

-- an answer has one first line
one_head : (x y text : List ℕ) → HasHead x text → HasHead y text → x ≡ y
one_head x y text h k = (same_first x y h.rest k.rest h.single k.single (sym h.is ∙ k.is)).0

pub heads_are_shown : HeadsAreShown
heads_are_shown look other a b p q head h k =
    same_shown a b p q (one_head (head_line a) head (answer_text look a) (head_of look a p) h ∙ one_head head (head_line b) (answer_text other b) k (head_of other b q))

pub documents_are_shown : DocumentsShow
documents_are_shown look look' one other j k p q r s e =
    let x = extracts_both (flat_map (answer_text look) one) (journal_text j) (map head_line one) [] [] (journal_lines j) (extracts_answers look one p) (extracts_journal j) in
    let y = extracts_both (flat_map (answer_text look') other) (journal_text k) (map head_line other) [] [] (journal_lines k) (extracts_answers look' other q) (extracts_journal k) in
    let parts = same_extracts (document_text look one j) (document_text look' other k) _ _ _ _ x y e in
    let heads : map head_line one ≡ map head_line other = append_cancel_right (map head_line one) (map head_line other) [] parts.0 in
    (same_heads one other p q heads, same_journal j k r s parts.1)
