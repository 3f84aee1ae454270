-- The lines of links of a diagram.
use Rattle.std.proofs.Common.{◌≡◌, ℕ, zero, suc, ◌-◌, ◌<◌, ◌≤◌, List, [], ◌∷◌, ◌++◌, if◌then◌else◌, length, get_or, map, replicate, append_assoc, append-nil, sym, ap, ◌∙◌, arith}
use Rattle.std.proofs.lemmas.List.{same_lists, get_or_default, get_or-replicate, length-replicate}
use Rattle.std.proofs.lemmas.List.FromFn.{get_or-map-range_with_len, length-map-range_with_len}
use Rattle.std.specs.List.{filter, list_any, range_with_len}
use Rattle.lg_text.specs.Diagrams.{Drawn, ends_at, spans, first_shown, is_at, is_above, character_at, link_line_at, link_lines}
use Rattle.lg_text.specs.Painted.{Paints}

-- bars, then links, then plus signs on a line of spaces are the line of a height
pub line_is : (links : List Drawn) (h columns : ℕ) (blank barred linked line : List ℕ) → blank ≡ replicate columns 32
    → Paints (λ c b. if list_any (ends_at c) (filter (is_above h) links) then 124 else b) blank barred
    → Paints (λ c b. first_shown c (filter (spans c) (filter (is_at h) links)) b) barred linked
    → Paints (λ c b. if list_any (ends_at c) (filter (is_at h) links) then 43 else b) linked line
    → line ≡ map (character_at links h) (range_with_len 0 columns)
line_is links h columns blank barred linked line is bars shown ends =
    let long : length blank ≡ columns = ap length is ∙ length-replicate columns 32 in
    let first = bars.same in
    let second = shown.same in
    let third = ends.same in
    let all = length-map-range_with_len (character_at links h) 0 columns in
    same_lists line (map (character_at links h) (range_with_len 0 columns)) (omega arith) (λ c d below.
    get_or_default line c d 32 below
    ∙ ends.at c (omega arith)
    ∙ ap (λ b. if list_any (ends_at c) (filter (is_at h) links) then 43 else b)
    (shown.at c (omega arith) ∙ ap (first_shown c (filter (spans c) (filter (is_at h) links)))
    (bars.at c (omega arith) ∙ ap (λ b. if list_any (ends_at c) (filter (is_above h) links) then 124 else b)
    (ap (λ l. get_or l c 32) is ∙ get_or-replicate columns c 32 32 (omega arith))))
    ∙ sym (get_or-map-range_with_len (character_at links h) 0 columns c c d (omega arith) (omega arith)))

-- the lines from a height down are its line and those below
lines_down : (mark : List ℕ) (links : List Drawn) (columns height : ℕ) → 0 < height → link_lines mark links columns height ≡ mark ++ (link_line_at links columns height ++ 10 ∷ link_lines mark links columns (height - 1))
lines_down mark links columns zero some = absurd (omega arith)
lines_down mark links columns (suc h) some = let below : h ≡ suc h - 1 = omega arith in ap (λ k. mark ++ (link_line_at links columns (suc h) ++ 10 ∷ link_lines mark links columns k)) below

-- one more line is written, behind the mark
pub lines_more : (mark : List ℕ) (links : List Drawn) (columns height : ℕ) (old marked new all : List ℕ) → 0 < height → marked ≡ old ++ mark → new ≡ marked ++ (link_line_at links columns height ++ 10 ∷ [])
    → old ++ link_lines mark links columns height ≡ all → new ++ link_lines mark links columns (height - 1) ≡ all
lines_more mark links columns height old marked new all some is_marked is so_far =
    let line = link_line_at links columns height in
    let rest = link_lines mark links columns (height - 1) in
    (λ t. (is ∙ ap (λ x. x ++ (line ++ 10 ∷ [])) is_marked) t ++ rest) ∙ append_assoc (old ++ mark) (line ++ 10 ∷ []) rest ∙ append_assoc old mark ((line ++ 10 ∷ []) ++ rest)
    ∙ ap (λ x. old ++ x) (ap (λ x. mark ++ x) (append_assoc line (10 ∷ []) rest) ∙ sym (lines_down mark links columns height some)) ∙ so_far

pub lines_end : (mark : List ℕ) (links : List Drawn) (columns height : ℕ) (old all : List ℕ) → height ≤ 0 → old ++ link_lines mark links columns height ≡ all → old ≡ all
lines_end mark links columns zero old all low so_far = sym (append-nil old) ∙ so_far
lines_end mark links columns (suc h) old all low so_far = absurd (omega arith)
