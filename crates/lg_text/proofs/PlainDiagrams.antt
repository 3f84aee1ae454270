-- The lines of a diagram without a line feed.
use Rattle.std.proofs.Common.{◌≡◌, ℕ, zero, suc, ◌+◌, ◌-◌, ◌/◌, Bool, false, eqb, List, [], ◌∷◌, ◌++◌, length, map, replicate, Option, Some, None, slice_index_or, if◌then◌else◌, refl, codes}
use Rattle.std.specs.List.{list_any, filter, zip, range_with_len, AllByRecursion}
use Rattle.std.proofs.lemmas.Bool.{or_parts, or_from, cond_both}
use Rattle.lg_gram.specs.Linkages.{Linkage}
use Rattle.lg_gram.specs.declared.disjunct.Disjunct.{Disjunct}
use Rattle.lg_gram.specs.declared.linkage.Link.{Link}
use Rattle.lg_gram.specs.declared.listing.Token.{Token}
use Rattle.lg_text.specs.Diagrams.{Drawn, cell, cells_line, drawn_of, ends_at, spans, bar, first_shown, is_at, is_above, character_at, link_line_at, width}
use Rattle.lg_text.specs.Shown.{IsOneLine}
use Rattle.lg_text.proofs.Bytes.{lacks_both}
use Rattle.lg_text.proofs.PlainTexts.{AreOneLines, AreChosen, label_plain, take_plain}

repeated_plain : (n c : ℕ) → eqb 10 c ≡ false → IsOneLine (replicate n c)
repeated_plain zero c e = refl
repeated_plain (suc n) c e = or_from (eqb 10 c) (list_any (eqb 10) (replicate n c)) e (repeated_plain n c e)

-- ---- links

abbrev ArePlain : List Drawn → Type 0
ArePlain links = AllByRecursion (λ (d : Drawn). IsOneLine d.label) links

pub drawn_plain : (g : Linkage) (starts : List ℕ) → AreChosen g.chosen → (links : List Link) → ArePlain (map (drawn_of g starts) links)
drawn_plain g starts all [] = tt
drawn_plain g starts all (l ∷ links) = (label_plain g all l, drawn_plain g starts all links)

byte_plain : (text : List ℕ) → IsOneLine text → (k : ℕ) → eqb 10 (slice_index_or text k 32) ≡ false
byte_plain [] e k = refl
byte_plain (x ∷ text) e zero = (or_parts (eqb 10 x) (list_any (eqb 10) text) e).0
byte_plain (x ∷ text) e (suc k) = byte_plain text (or_parts (eqb 10 x) (list_any (eqb 10) text) e).1 k

bar_plain : (label : List ℕ) (gap : ℕ) → IsOneLine label → IsOneLine (bar label gap)
bar_plain label gap e =
    let dashes = gap - length label in
    lacks_both 10 (replicate (dashes / 2) 45) (label ++ replicate (dashes - dashes / 2) 45) (repeated_plain (dashes / 2) 45 refl)
    (lacks_both 10 label (replicate (dashes - dashes / 2) 45) e (repeated_plain (dashes - dashes / 2) 45 refl))

first_plain : (c : ℕ) (links : List Drawn) → ArePlain links → (other : ℕ) → eqb 10 other ≡ false → eqb 10 (first_shown c links other) ≡ false
first_plain c [] all other e = e
first_plain c (d ∷ links) all other e = byte_plain (bar d.label (d.to - d.from - 1)) (bar_plain d.label (d.to - d.from - 1) all.0) (c - d.from - 1)

kept_plain : (p : Drawn → Bool) (links : List Drawn) → ArePlain links → ArePlain (filter p links)
kept_plain p [] all = tt
kept_plain p (d ∷ links) all =
    cond_both (p d) (d ∷ filter p links) (filter p links) (λ (ds : List Drawn). ArePlain ds) (λ _. (all.0, kept_plain p links all.1)) (λ _. kept_plain p links all.1)

module _ (links : List Drawn) (all : ArePlain links) where
  character_plain : (h c : ℕ) → eqb 10 (character_at links h c) ≡ false
  character_plain h c =
      let level = filter (is_at h) links in
      let other = if list_any (ends_at c) (filter (is_above h) links) then 124 else 32 in
      cond_both (list_any (ends_at c) level) 43 (first_shown c (filter (spans c) level) other) (λ (z : ℕ). eqb 10 z ≡ false) (λ _. refl)
      (λ _. first_plain c (filter (spans c) level) (kept_plain (spans c) level (kept_plain (is_at h) links all)) other
      (cond_both (list_any (ends_at c) (filter (is_above h) links)) 124 32 (λ (z : ℕ). eqb 10 z ≡ false) (λ _. refl) (λ _. refl)))

  characters_plain : (h : ℕ) (columns : List ℕ) → IsOneLine (map (character_at links h) columns)
  characters_plain h [] = refl
  characters_plain h (c ∷ columns) = or_from (eqb 10 (character_at links h c)) (list_any (eqb 10) (map (character_at links h) columns)) (character_plain h c) (characters_plain h columns)

  pub link_line_plain : (columns h : ℕ) → IsOneLine (link_line_at links columns h)
  link_line_plain columns h = take_plain _ (map (character_at links h) (range_with_len 0 columns)) (characters_plain h (range_with_len 0 columns))

-- ---- words

cell_plain : (t : Token) (o : Option Disjunct) → IsOneLine t.text → IsOneLine (cell (t, o))
cell_plain t None e = lacks_both 10 t.text (codes "]") e refl
cell_plain t (Some d) e = e

pub cells_plain : (tokens : List Token) (chosen : List (Option Disjunct)) → AllByRecursion (λ (token : Token). IsOneLine token.text) tokens → AreOneLines (map cell (zip tokens chosen))
cells_plain [] chosen all = tt
cells_plain (t ∷ tokens) [] all = tt
cells_plain (t ∷ tokens) (o ∷ chosen) all = (cell_plain t o all.0, cells_plain tokens chosen all.1)

pub words_plain : (at : ℕ) (texts : List (List ℕ)) (starts : List ℕ) → AreOneLines texts → IsOneLine (cells_line at texts starts)
words_plain at [] starts all = refl
words_plain at (text ∷ texts) [] all = refl
words_plain at (text ∷ texts) (s ∷ starts) all =
    lacks_both 10 (replicate (s - at) 32) (text ++ cells_line (s + width text) texts starts) (repeated_plain (s - at) 32 refl)
    (lacks_both 10 text (cells_line (s + width text) texts starts) all.0 (words_plain (s + width text) texts starts all.1))
