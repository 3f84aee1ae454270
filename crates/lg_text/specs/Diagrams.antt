-- What is drawn of a linkage: lines of links, each link at its height, and below them a line of words.
use Rattle.std.specs.Prelude.{ℕ, zero, suc, ◌+◌, ◌-◌, ◌/◌, ◌==◌, ◌&&◌, ◌||◌, max, nat_lt, nat_le, Bool, List, [], ◌∷◌, ◌++◌, length, map, take, replicate, codes, Option, Some, None, slice_index_or, if◌then◌else◌}
use Rattle.std.specs.List.{filter, fold, list_any, count_by, zip, range_with_len, suffix_len}
use Rattle.lg_gram.specs.Linkages.{Linkage, link_length}
use Rattle.lg_gram.specs.declared.disjunct.Disjunct.{Disjunct}
use Rattle.lg_gram.specs.declared.linkage.Link.{Link}
use Rattle.lg_gram.specs.declared.listing.Token.{Token}
use Rattle.lg_text.specs.Texts.{label_text}

-- the greatest of a number and of what f gives for each element
abbrev pub greatest : {X : Type 0} → (X → ℕ) → ℕ → List X → ℕ
greatest f n xs = fold (λ m x. max m (f x)) n xs

-- ---- columns

-- a byte that begins a character of UTF-8
abbrev pub begins_character : ℕ → Bool
begins_character b = nat_lt b 128 || nat_le 192 b

-- how many characters a text has
abbrev pub width : List ℕ → ℕ
width text = count_by begins_character text

-- what stands for a position in the line of words: its token, in square brackets where it is unlinked
abbrev pub cell : Token × Option Disjunct → List ℕ
cell (token, None) = codes "[" ++ (token.text ++ codes "]")
cell (token, Some d) = token.text

abbrev pub cells : List Token → Linkage → List (List ℕ)
cells tokens g = map cell (zip tokens g.chosen)

-- the column at which a position starts
abbrev pub start : List ℕ → ℕ → ℕ
start starts i = slice_index_or starts i 0

-- The links that end at position j leave room for their labels: two plus signs, and a dash on each side of the label or more.
abbrev pub room_for : Linkage → List ℕ → ℕ → ℕ → ℕ
room_for g starts least j = greatest (λ l. start starts l.left + (length (label_text g l) + 3)) least (filter (λ l. l.right == j) g.links)

-- Where position j starts, by the starts of those before it: one space behind the cell before it, or farther for the labels.
abbrev pub next_start : List (List ℕ) → Linkage → List ℕ → ℕ → ℕ
next_start texts g starts zero = 0
next_start texts g starts (suc j) = room_for g starts (start starts j + (width (slice_index_or texts j []) + 1)) (suc j)

-- the columns at which the first n positions start
abbrev pub starts_of : List (List ℕ) → Linkage → ℕ → List ℕ
starts_of texts g zero = []
starts_of texts g (suc n) = starts_of texts g n ++ next_start texts g (starts_of texts g n) n ∷ []

-- ---- heights

-- a shorter link, both of whose ends lie within the span of l; in a good linkage that is any other link within the span
abbrev pub is_inside : Link → Link → Bool
is_inside l m = nat_le l.left m.left && (nat_le m.right l.right && nat_lt (link_length m) (link_length l))

-- The height of a link whose length is at most n: one more than the highest link inside it, or 1 where there is none.
abbrev pub height_to : List Link → ℕ → Link → ℕ
height_to links zero l = 1
height_to links (suc n) l = greatest (height_to links n) 0 (filter (is_inside l) links) + 1

abbrev pub height : List Link → Link → ℕ
height links l = height_to links (link_length l) l

-- ---- lines

-- a link as it is drawn: the columns of its ends, its label and its height
pub record Drawn : Type 0 where
  pub from : ℕ
  pub to : ℕ
  pub label : List ℕ
  pub height : ℕ

abbrev pub drawn_of : Linkage → List ℕ → Link → Drawn
drawn_of g starts l = record { from = start starts l.left; to = start starts l.right; label = label_text g l; height = height g.links l }

abbrev pub ends_at : ℕ → Drawn → Bool
ends_at c d = (d.from == c) || (d.to == c)

-- whether column c lies strictly between its ends
abbrev pub spans : ℕ → Drawn → Bool
spans c d = nat_lt d.from c && nat_lt c d.to

-- what stands between two plus signs so far apart: dashes with the label among them, of the dashes half, rounded down, before it
abbrev pub bar : List ℕ → ℕ → List ℕ
bar label gap =
    let dashes = gap - length label in
    let front = dashes / 2 in
    replicate front 45 ++ (label ++ replicate (dashes - front) 45)

-- what a link shows at a column between its ends
abbrev pub shows_at : ℕ → Drawn → ℕ
shows_at c d = slice_index_or (bar d.label (d.to - d.from - 1)) (c - d.from - 1) 32

-- what the first of these links shows, or another character where there is none
abbrev pub first_shown : ℕ → List Drawn → ℕ → ℕ
first_shown c [] other = other
first_shown c (d ∷ links) other = shows_at c d

abbrev pub is_at : ℕ → Drawn → Bool
is_at h d = d.height == h

abbrev pub is_above : ℕ → Drawn → Bool
is_above h d = nat_lt h d.height

-- What stands at column c of the line of height h: a plus sign where a link of this height has an end, a dash or a letter of the label
-- between its ends, else a bar where a higher link has an end, else a space.
abbrev pub character_at : List Drawn → ℕ → ℕ → ℕ
character_at links h c =
    let level = filter (is_at h) links in
    let higher = filter (is_above h) links in
    if list_any (ends_at c) level then 43
    else first_shown c (filter (spans c) level) (if list_any (ends_at c) higher then 124 else 32)

-- without the spaces at its end
abbrev pub trimmed : List ℕ → List ℕ
trimmed line = take (length line - suffix_len (λ b. b == 32) line) line

-- the line of height h, of so many columns before the spaces at its end go
abbrev pub link_line_at : List Drawn → ℕ → ℕ → List ℕ
link_line_at links columns h = trimmed (map (character_at links h) (range_with_len 0 columns))

-- the lines of links from height h down, each behind a mark and with a line feed
abbrev pub link_lines : List ℕ → List Drawn → ℕ → ℕ → List ℕ
link_lines mark links columns zero = []
link_lines mark links columns (suc h) = mark ++ (link_line_at links columns (suc h) ++ 10 ∷ link_lines mark links columns h)

-- the cells, each at its start, with spaces between them; at is the column behind what stands before them
abbrev pub cells_line : ℕ → List (List ℕ) → List ℕ → List ℕ
cells_line at [] starts = []
cells_line at (text ∷ texts) [] = []
cells_line at (text ∷ texts) (s ∷ starts) = replicate (s - at) 32 ++ (text ++ cells_line (s + width text) texts starts)

abbrev pub highest : List Drawn → ℕ
highest links = greatest (λ d. d.height) 0 links

-- one more than the greatest column at which a position starts
abbrev pub line_width : List ℕ → ℕ
line_width starts = greatest suc 0 starts

-- The diagram of a linkage, each line behind a mark: a line for each height, the greatest first, and the line of words. Each line ends in
-- a line feed.
abbrev pub marked_diagram : List ℕ → List Token → Linkage → List ℕ
marked_diagram mark tokens g =
    let texts = cells tokens g in
    let starts = starts_of texts g (length texts) in
    let links = map (drawn_of g starts) g.links in
    link_lines mark links (line_width starts) (highest links) ++ (mark ++ (cells_line 0 texts starts ++ 10 ∷ []))

abbrev pub diagram_text : List Token → Linkage → List ℕ
diagram_text tokens g = marked_diagram [] tokens g
