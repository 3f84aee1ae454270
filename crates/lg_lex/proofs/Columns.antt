-- The location after two runs of bytes is the location after the second, where it begins at the location after the first.
use Rattle.std.proofs.Common.{◌≡◌, ℕ, suc, ◌+◌, ◌-◌, ◌≤◌, Bool, true, false, cond, not, ◌||◌, List, [], ◌∷◌, ◌++◌, length, take, drop, refl, sym, ap, ◌∙◌, append_assoc, arith, length-append, length-drop}
use Rattle.std.specs.Prelude.{slice_range, count_by}
use Rattle.std.specs.List.{list_any, suffix_len, prefix_len}
use Rattle.std.proofs.lemmas.List.{append-nil, reverse-append, take-append-drop, take-take, drop-take}
use Rattle.std.proofs.lemmas.List.Folds.{list_any-append}
use Rattle.std.proofs.lemmas.List.Sums.{suffix_len-le-length, sum_by-append}
use Rattle.lg_lex.specs.declared.location.Location.{Location}
use Rattle.lg_lex.specs.Classes.{line_feed}
use Rattle.lg_lex.specs.Locations.{capped, is_line_feed, column_offset, first_location, location_of, location_after}

abbrev in_line : ℕ → Bool
in_line b = not (is_line_feed b)

column_offset-suffix_len : (bs : List ℕ) → column_offset bs ≡ suffix_len in_line bs
column_offset-suffix_len bs = omega (arith, length-drop (length bs - suffix_len in_line bs) bs, suffix_len-le-length in_line bs)

suffix_len_push : (bs : List ℕ) (b : ℕ) → suffix_len in_line (bs ++ b ∷ []) ≡ cond (in_line b) (1 + suffix_len in_line bs) 0
suffix_len_push bs b = ap (prefix_len in_line) (reverse-append bs (b ∷ []))

-- one byte more between two runs: x and y are the suffixes of the runs, xb and b those with the byte
joined : (feeds any : Bool) (x xb b y n : ℕ) → xb ≡ cond (not feeds) (1 + x) 0 → b ≡ cond (not feeds) 1 0
    → cond any y (xb + n) ≡ cond (feeds || any) (cond any y (b + n)) (x + suc n)
joined true true x xb b y n e f = refl
joined true false x xb b y n e f = omega arith
joined false true x xb b y n e f = refl
joined false false x xb b y n e f = omega arith

suffix_len-append : (xs ys : List ℕ) → suffix_len in_line (xs ++ ys) ≡ cond (list_any is_line_feed ys) (suffix_len in_line ys) (suffix_len in_line xs + length ys)
suffix_len-append xs [] = ap (suffix_len in_line) (append-nil xs) ∙ omega arith
suffix_len-append xs (y ∷ ys) =
    ap (suffix_len in_line) (sym (append_assoc xs (y ∷ []) ys))
    ∙ suffix_len-append (xs ++ y ∷ []) ys
    ∙ joined (is_line_feed y) (list_any is_line_feed ys) _ _ _ (suffix_len in_line ys) (length ys) (suffix_len_push xs y) (suffix_len_push [] y)
    ∙ ap (λ (n : ℕ). cond (list_any is_line_feed (y ∷ ys)) n (suffix_len in_line xs + suc (length ys))) (sym (suffix_len-append (y ∷ []) ys))

column_offset-append : (xs ys : List ℕ) → column_offset (xs ++ ys) ≡ cond (list_any is_line_feed ys) (column_offset ys) (column_offset xs + length ys)
column_offset-append xs ys = rw (column_offset-suffix_len (xs ++ ys), column_offset-suffix_len xs, column_offset-suffix_len ys) (suffix_len-append xs ys)

-- x, y and z say whether two runs of n and m bytes, and both together, have a line feed
columns : (x y z : Bool) (column n m both before after offset : ℕ) → z ≡ (x || y) → both ≡ n + m → offset ≡ cond y after (before + m)
    → cond y (capped (1 + after)) (capped (cond x (capped (1 + before)) (capped (column + n)) + m)) ≡ cond z (capped (1 + offset)) (capped (column + both))
columns true true z column n m both before after offset any all e = rw any (omega arith)
columns true false z column n m both before after offset any all e = rw any (omega arith)
columns false true z column n m both before after offset any all e = rw any (omega arith)
columns false false z column n m both before after offset any all e = rw any (omega arith)

pub location_after-append : (p : Location) (xs ys : List ℕ) → location_after (location_after p xs) ys ≡ location_after p (xs ++ ys)
location_after-append p xs ys =
    let lines : capped (capped (p.line + count_by is_line_feed xs) + count_by is_line_feed ys) ≡ capped (p.line + count_by is_line_feed (xs ++ ys))
    = omega (arith, sum_by-append (λ (b : ℕ). cond (is_line_feed b) 1 0) xs ys) in
    let within : (location_after (location_after p xs) ys).column ≡ (location_after p (xs ++ ys)).column
    = columns (list_any is_line_feed xs) (list_any is_line_feed ys) _ p.column (length xs) (length ys) _ (column_offset xs) (column_offset ys) _
    (list_any-append is_line_feed xs ys) (length-append xs ys) (column_offset-append xs ys) in
    λ i. record { line = lines i; column = within i }

-- the column of a text's first line
first_line : (any : Bool) (n offset : ℕ) → offset ≡ cond any offset (0 + n) → cond any (capped (1 + offset)) (capped (1 + n)) ≡ capped (1 + offset)
first_line true n offset e = refl
first_line false n offset e = omega arith

pub location_after-start : (text : List ℕ) (i : ℕ) → location_after first_location (take i text) ≡ location_of text i
location_after-start text i = λ k. record {
  line = capped (1 + count_by is_line_feed (take i text));
  column = first_line (list_any is_line_feed (take i text)) (length (take i text)) (column_offset (take i text)) (column_offset-append [] (take i text)) k;
}

take-slice_range : (text : List ℕ) (i j : ℕ) → i ≤ j → take i text ++ slice_range text i j ≡ take j text
take-slice_range text i j le =
    let j_is : i + (j - i) ≡ j = omega arith in
    let front : take i text ≡ take i (take j text) = sym (take-take i j text le) in
    let back : slice_range text i j ≡ drop i (take j text) = sym (drop-take i (j - i) text) ∙ ap (λ (n : ℕ). drop i (take n text)) j_is in
    (λ k. front k ++ back k) ∙ take-append-drop i (take j text)

-- from one location of a text to a later one
pub location_after-slice_range : (text : List ℕ) (i j : ℕ) → i ≤ j → location_after (location_of text i) (slice_range text i j) ≡ location_of text j
location_after-slice_range text i j le =
    ap (λ (p : Location). location_after p (slice_range text i j)) (sym (location_after-start text i))
    ∙ location_after-append first_location (take i text) (slice_range text i j)
    ∙ ap (location_after first_location) (take-slice_range text i j le)
    ∙ location_after-start text j

or_true : (b : Bool) → (b || true) ≡ true
or_true true = refl
or_true false = refl

-- a column counts from the last line feed
pub location_after-line : (p : Location) (bytes line : List ℕ) → list_any is_line_feed line ≡ false → (location_after p (bytes ++ line_feed ∷ line)).column ≡ capped (1 + length line)
location_after-line p bytes line none =
    let feeds : list_any is_line_feed (bytes ++ line_feed ∷ line) ≡ true = list_any-append is_line_feed bytes (line_feed ∷ line) ∙ or_true (list_any is_line_feed bytes) in
    let offset : column_offset (bytes ++ line_feed ∷ line) ≡ length line
    = column_offset-append bytes (line_feed ∷ line)
    ∙ column_offset-append (line_feed ∷ []) line
    ∙ ap (λ (any : Bool). cond any (column_offset line) (0 + length line)) none
    ∙ omega arith in
    (λ i. cond (feeds i) (capped (1 + offset i)) (capped (p.column + length (bytes ++ line_feed ∷ line))))
