-- The last point of a word, what it cuts, and the one stem of a word.
use Rattle.std.proofs.Common.{◌≡◌, ◌≢◌, ◌↔◌, ℕ, ◌+◌, ◌-◌, ◌<◌, ◌≤◌, List, [], ◌∷◌, ◌++◌, Bool, true, false, not, if◌then◌else◌, length, take, drop, get_or, slice_get, Some, All, refl, sym, ap, subst, ◌∙◌, arith, ◌==◌, ◌&&◌, true≢false, length-append}
use Rattle.std.proofs.Math.Seq.{take-append_seam, drop-append-add, get_or-append_seam, take-length}
use borrow.Author.Tests.{eqb-true}
use Rattle.std.proofs.lemmas.List.{get_or-drop, length-drop, length-take-le}
use Rattle.std.proofs.lemmas.List.Elements.{All-cons, All-nil}
use Rattle.std.proofs.lemmas.List.Sums.{suffix_len_is, AllPass-from_list_all}
use Rattle.std.proofs.lemmas.Option.{get_or_from_slice_get, slice_get_within, slice_get-get_or}
use Rattle.std.specs.Char.{is_ascii_lowercase}
use Rattle.std.specs.List.{suffix_len, before_last, after_last, list_all}
use Rattle.lg_dict.specs.Subscripts.{is_point, is_subscript, is_in_subscript, is_empty, has_subscript, stem_of, IsCut, IsStem}
use Rattle.lg_dict.specs.Subscripts.IsStem.{Cut, Whole}

-- no byte is a point
abbrev pub HasNoPoint : List ℕ → Type 0
HasNoPoint bytes = All (λ byte. byte ≢ 46) bytes

not_point : (byte : ℕ) → byte ≢ 46 → (t : Bool) → is_point byte ≡ t → not (is_point byte) ≡ true
not_point byte other true e = absurd (other (eqb-true byte 46 e))
not_point byte other false e = ap not e

suffix_len-at : (word : List ℕ) (at : ℕ) → slice_get word at ≡ Some 46 → HasNoPoint (drop (at + 1) word) → suffix_len (λ byte. not (is_point byte)) word ≡ length word - (at + 1)
suffix_len-at word at here after =
    let within : at < length word = slice_get_within word at 46 here in
    suffix_len_is (λ byte. not (is_point byte)) word (at + 1) 0 (omega arith)
    (λ k low high.
    let moved : get_or (drop (at + 1) word) (k - (at + 1)) 0 ≡ get_or word k 0 = get_or-drop (at + 1) word (k - (at + 1)) 0 ∙ ap (λ j. get_or word j 0) (omega arith) in
    let inside : k - (at + 1) < length (drop (at + 1) word) = omega (arith, length-drop (at + 1) word) in
    not_point (get_or word k 0) (subst (λ b. b ≢ 46) moved (after (k - (at + 1)) 0 inside)) _ refl)
    (λ _. ap (λ b. not (is_point b)) (ap (λ j. get_or word j 0) (let e : at + 1 - 1 ≡ at = omega arith in e) ∙ get_or_from_slice_get word at 46 0 here))

-- what stands before and behind the last point
pub before_last-at : (word : List ℕ) (at : ℕ) → slice_get word at ≡ Some 46 → HasNoPoint (drop (at + 1) word) → before_last is_point word ≡ take at word
before_last-at word at here after =
    let within : at < length word = slice_get_within word at 46 here in
    ap (λ n. take (length word - n - 1) word) (suffix_len-at word at here after) ∙ ap (λ n. take n word) (let e : length word - (length word - (at + 1)) - 1 ≡ at = omega arith in e)

pub after_last-at : (word : List ℕ) (at : ℕ) → slice_get word at ≡ Some 46 → HasNoPoint (drop (at + 1) word) → after_last is_point word ≡ drop (at + 1) word
after_last-at word at here after =
    let within : at < length word = slice_get_within word at 46 here in
    ap (λ n. drop (length word - n) word) (suffix_len-at word at here after) ∙ ap (λ n. drop n word) (let e : length word - (length word - (at + 1)) ≡ at + 1 = omega arith in e)

take-none : (word : List ℕ) → take 0 word ≡ []
take-none [] = refl
take-none (b ∷ bs) = refl

pub before_last-none : (word : List ℕ) → HasNoPoint word → before_last is_point word ≡ []
before_last-none word none =
    let all : suffix_len (λ byte. not (is_point byte)) word ≡ length word - 0 = suffix_len_is (λ byte. not (is_point byte)) word 0 0 (omega arith) (λ k low high. not_point (get_or word k 0) (none k 0 high) _ refl) (λ h. absurd (omega arith)) in
    ap (λ n. take (length word - n - 1) word) all ∙ ap (λ n. take n word) (let e : length word - (length word - 0) - 1 ≡ 0 = omega arith in e) ∙ take-none word

-- a word with no point, or cut at its last one
data LastPoint (word : List ℕ) : Type 0 where
  NoPoint : HasNoPoint word → LastPoint word
  PointAt : (front rest : List ℕ) → word ≡ front ++ 46 ∷ rest → HasNoPoint rest → LastPoint word

first_byte : (b : ℕ) (bs : List ℕ) → HasNoPoint bs → (t : Bool) → (b == 46) ≡ t → LastPoint (b ∷ bs)
first_byte b bs none true e = PointAt [] bs (ap (λ x. x ∷ bs) (eqb-true b 46 e)) none
first_byte b bs none false e = NoPoint (All-cons (λ (x : ℕ). x ≢ 46) b bs (λ same. true≢false (sym (ap (λ x. x == 46) same) ∙ e)) none)

last_point_of : (word : List ℕ) → LastPoint word
last_point_of [] = NoPoint (All-nil _)
last_point_of (b ∷ bs) = elim (last_point_of bs) [
  | NoPoint none ↦ first_byte b bs none _ refl
  | PointAt front rest e none ↦ PointAt (b ∷ front) rest (ap (λ l. b ∷ l) e) none
]

point_stands : (front rest : List ℕ) → slice_get (front ++ 46 ∷ rest) (length front) ≡ Some 46
point_stands front rest = slice_get-get_or (front ++ 46 ∷ rest) (length front) 0 (omega (arith, length-append front (46 ∷ rest))) ∙ ap Some (get_or-append_seam front 46 rest 0)

rest_stands : (front rest : List ℕ) → drop (length front + 1) (front ++ 46 ∷ rest) ≡ rest
rest_stands front rest = drop-append-add front (46 ∷ rest) 1

before_last-append : (word front rest : List ℕ) → word ≡ front ++ 46 ∷ rest → HasNoPoint rest → before_last is_point word ≡ front
before_last-append word front rest e none =
    ap (before_last is_point) e
    ∙ before_last-at (front ++ 46 ∷ rest) (length front) (point_stands front rest) (subst HasNoPoint (sym (rest_stands front rest)) none)
    ∙ take-append_seam front (46 ∷ rest)

after_last-append : (word front rest : List ℕ) → word ≡ front ++ 46 ∷ rest → HasNoPoint rest → after_last is_point word ≡ rest
after_last-append word front rest e none =
    ap (after_last is_point) e
    ∙ after_last-at (front ++ 46 ∷ rest) (length front) (point_stands front rest) (subst HasNoPoint (sym (rest_stands front rest)) none)
    ∙ rest_stands front rest

both_true : (a b : Bool) → (a && b) ≡ true → (a ≡ true) × (b ≡ true)
both_true true b e = (refl, e)
both_true false b e = absurd (true≢false (sym e))

-- a subscript has no point
subscript_has_no_point : (after : List ℕ) → is_subscript after ≡ true → HasNoPoint after
subscript_has_no_point [] e = All-nil _
subscript_has_no_point (b ∷ bs) e =
    let parts = both_true (is_ascii_lowercase b) (list_all is_in_subscript bs) e in
    All-cons (λ (x : ℕ). x ≢ 46) b bs
    (λ same. true≢false (sym parts.0 ∙ ap is_ascii_lowercase same))
    (λ k d within same. true≢false (sym (AllPass-from_list_all is_in_subscript bs parts.1 k d within) ∙ ap is_in_subscript same))

is_empty-not : (xs : List ℕ) → xs ≢ [] → is_empty xs ≡ false
is_empty-not [] some = absurd (some refl)
is_empty-not (x ∷ xs) some = refl

not_empty : (xs : List ℕ) → not (is_empty xs) ≡ true → xs ≢ []
not_empty xs e none = true≢false (sym e ∙ ap (λ l. not (is_empty l)) none)

has_subscript-cut : (word front after : List ℕ) → IsCut word front after → has_subscript word ≡ true
has_subscript-cut word front after cut =
    let none = subscript_has_no_point after cut.subscript in
    ap (λ l. not (is_empty l) && is_subscript (after_last is_point word)) (before_last-append word front after cut.parts none)
    ∙ ap (λ l. not (is_empty front) && is_subscript l) (after_last-append word front after cut.parts none)
    ∙ ap (λ b. not b && is_subscript after) (is_empty-not front cut.some)
    ∙ cut.subscript

cut_of : (word : List ℕ) → has_subscript word ≡ true → IsCut word (before_last is_point word) (after_last is_point word)
cut_of word e =
    let parts = both_true (not (is_empty (before_last is_point word))) (is_subscript (after_last is_point word)) e in
    elim (last_point_of word) [
      | NoPoint none ↦ absurd (not_empty _ parts.0 (before_last-none word none))
      | PointAt front rest is none ↦ record {
        parts = is ∙ ap (λ l. l ++ 46 ∷ rest) (sym (before_last-append word front rest is none)) ∙ ap (λ l. before_last is_point word ++ 46 ∷ l) (sym (after_last-append word front rest is none));
        some = not_empty _ parts.0;
        subscript = parts.1;
      }
    ]

chosen : List ℕ → Bool → List ℕ
chosen word b = if b then before_last is_point word else word

stem_of-cut : (word stem after : List ℕ) → IsCut word stem after → stem ≡ stem_of word
unfolding chosen
stem_of-cut word stem after cut =
    sym (ap (chosen word) (has_subscript-cut word stem after cut) ∙ before_last-append word stem after cut.parts (subscript_has_no_point after cut.subscript))

stem_of-whole : (word : List ℕ) → ((front after : List ℕ) → ¬ IsCut word front after) → (b : Bool) → has_subscript word ≡ b → stem_of word ≡ word
unfolding chosen
stem_of-whole word never true e = absurd (never _ _ (cut_of word e))
stem_of-whole word never false e = ap (chosen word) e

stem_is : (word stem : List ℕ) → stem ≡ stem_of word → (b : Bool) → has_subscript word ≡ b → IsStem word stem
unfolding chosen
stem_is word stem is true e = Cut (after_last is_point word) (subst (λ s. IsCut word s (after_last is_point word)) (sym (is ∙ ap (chosen word) e)) (cut_of word e))
stem_is word stem is false e = Whole (λ front after cut. true≢false (sym (has_subscript-cut word front after cut) ∙ e)) (is ∙ ap (chosen word) e)

only_stem : (word stem : List ℕ) → IsStem word stem → stem ≡ stem_of word
only_stem word stem (Cut after cut) = stem_of-cut word stem after cut
only_stem word stem (Whole never is) = is ∙ sym (stem_of-whole word never _ refl)

-- a word has one stem, which `stem_of` gives
pub one_stem : (word stem : List ℕ) → IsStem word stem ↔ (stem ≡ stem_of word)
one_stem word stem = (only_stem word stem, λ is. stem_is word stem is _ refl)

-- the rest of a slice, as its range is written
pub rest_range : (word : List ℕ) (n : ℕ) → take (length word - n) (drop n word) ≡ drop n word
rest_range word n = ap (λ k. take k (drop n word)) (sym (length-drop n word)) ∙ take-length (drop n word)

is_empty-take : (at : ℕ) (word : List ℕ) → 0 < at → at ≤ length word → is_empty (take at word) ≡ false
is_empty-take at word some within = is_empty-not (take at word) (λ none. absurd (let same : at ≡ 0 = sym (length-take-le at word within) ∙ ap length none in omega arith))

has_subscript-at : (word : List ℕ) (at : ℕ) → slice_get word at ≡ Some 46 → HasNoPoint (drop (at + 1) word)
    → has_subscript word ≡ (not (is_empty (take at word)) && is_subscript (drop (at + 1) word))
has_subscript-at word at here after =
    ap (λ l. not (is_empty l) && is_subscript (after_last is_point word)) (before_last-at word at here after)
    ∙ ap (λ l. not (is_empty (take at word)) && is_subscript l) (after_last-at word at here after)

-- the stem, by where the last point stands
pub stem_of-at : (word : List ℕ) (at : ℕ) → slice_get word at ≡ Some 46 → HasNoPoint (drop (at + 1) word) → 0 < at → is_subscript (drop (at + 1) word) ≡ true → take at word ≡ stem_of word
unfolding chosen
stem_of-at word at here after some good =
    let within : at < length word = slice_get_within word at 46 here in
    let has : has_subscript word ≡ true = has_subscript-at word at here after ∙ ap (λ b. not b && is_subscript (drop (at + 1) word)) (is_empty-take at word some (omega arith)) ∙ good in
    sym (ap (chosen word) has ∙ before_last-at word at here after)

and_false : (b : Bool) → (b && false) ≡ false
and_false true = refl
and_false false = refl

pub stem_of-no_subscript : (word : List ℕ) (at : ℕ) → slice_get word at ≡ Some 46 → HasNoPoint (drop (at + 1) word) → is_subscript (drop (at + 1) word) ≡ false → word ≡ stem_of word
unfolding chosen
stem_of-no_subscript word at here after bad =
    let has : has_subscript word ≡ false = has_subscript-at word at here after ∙ ap (λ b. not (is_empty (take at word)) && b) bad ∙ and_false _ in
    sym (ap (chosen word) has)

pub stem_of-first : (word : List ℕ) (at : ℕ) → slice_get word at ≡ Some 46 → HasNoPoint (drop (at + 1) word) → at ≤ 0 → word ≡ stem_of word
unfolding chosen
stem_of-first word at here after first =
    let none : take at word ≡ [] = ap (λ n. take n word) (let e : at ≡ 0 = omega arith in e) ∙ take-none word in
    let has : has_subscript word ≡ false = has_subscript-at word at here after ∙ ap (λ l. not (is_empty l) && is_subscript (drop (at + 1) word)) none in
    sym (ap (chosen word) has)

pub stem_of-none : (word : List ℕ) → HasNoPoint word → word ≡ stem_of word
unfolding chosen
stem_of-none word none =
    let has : has_subscript word ≡ false = ap (λ l. not (is_empty l) && is_subscript (after_last is_point word)) (before_last-none word none) in
    sym (ap (chosen word) has)
