-- The bytes of spellings.
use Rattle.std.proofs.Common.{◌≡◌, ◌≢◌, ℕ, zero, suc, ◌+◌, ◌/◌, ◌%◌, ◌^◌, ◌<◌, ◌≤◌, replicate, Bool, true, leb, ◌&&◌, List, [], ◌∷◌, ◌++◌, codes, refl, ap, ◌∙◌, subst, arith, le-leb}
use Rattle.std.specs.Prelude.{ℤ, pos, negsuc, unsigned_abs, false}
use Rattle.std.specs.Fmt.{decimal}
use Rattle.std.specs.List.{list_all, All}
use Rattle.std.specs.Str.{IsUtf8}
use Rattle.std.proofs.lemmas.Bool.{and_parts, and_from}
use Rattle.std.proofs.lemmas.Bool.Decides.{nat_tests}
use Rattle.std.proofs.lemmas.Fmt.{decimal_by_steps}
use Rattle.std.proofs.lemmas.List.Folds.{list_all-append}
use Rattle.std.proofs.lemmas.List.Elements.{All-nil, All-cons}
use Rattle.std.proofs.lemmas.Nat.{mod_below}
use Rattle.std.proofs.lemmas.Str.{IsUtf8-from_ascii}
use Rattle.std.proofs.lemmas.Str.Ascii.{IsAscii-from_all}
use Rattle.lg_base.specs.Costs.{cost_text, sign_of, three_digits, thousandths_text, IsCostNumber, IsReadBack, ReadsCost, read_cost}
use Rattle.lg_gram.specs.Connectors.{Connector, name_of}
use Rattle.lg_gram.specs.Names.{NamesAreWritten, is_capital, is_subscript}
use Rattle.lg_gram.specs.Trees.{Tree, Trees, empty, leaf, all_of, one_of, priced, no_trees, tree}
use Rattle.lg_lex.specs.declared.marks.Class.TheVariants.{Other}
use Rattle.lg_lex.specs.declared.marks.Marks.TheVariants.{Dictionary}
use Rattle.lg_lex.specs.Classes.{class_of}
use Rattle.lg_lex.specs.Tokens.{ArePlain}
use Rattle.lg_expr.specs.Words.{at_text, sign_text}
use Rattle.lg_export.specs.Spelling.{Spot, top, in_or, in_and, connector_spelled, spelled, members_spelled, bracketed}
use Rattle.lg_export.specs.Spots.{is_optional}
use Rattle.lg_export.specs.Exportable.{IsLettered, IsReadable, AreReadable}
use Rattle.lg_export.proofs.Spelled.{top_or, either_or, in_round}
use Rattle.lg_export.proofs.Lexed.{plain_bytes, plain_both}

-- ---- bytes of ASCII

abbrev pub is_small : ℕ → Bool
is_small b = leb b 127

pub small_both : (xs ys : List ℕ) → list_all is_small xs ≡ true → list_all is_small ys ≡ true → list_all is_small (xs ++ ys) ≡ true
small_both xs ys e f = list_all-append is_small xs ys ∙ and_from (list_all is_small xs) (list_all is_small ys) e f

small_bytes : (xs : List ℕ) → list_all is_small xs ≡ true → All (λ b. b < 128) xs
small_bytes [] all = All-nil _
small_bytes (x ∷ xs) all =
    let parts = and_parts (is_small x) (list_all is_small xs) all in
    let small : x < 128 = grind (arith) in
    All-cons (λ (b : ℕ). b < 128) x xs small (small_bytes xs parts.1)

pub small_is_utf8 : (xs : List ℕ) → list_all is_small xs ≡ true → IsUtf8 xs
small_is_utf8 xs all = IsUtf8-from_ascii xs (IsAscii-from_all xs (small_bytes xs all))

all_wider : (p q : ℕ → Bool) → ((b : ℕ) → p b ≡ true → q b ≡ true) → (xs : List ℕ) → list_all p xs ≡ true → list_all q xs ≡ true
all_wider p q wider [] all = refl
all_wider p q wider (x ∷ xs) all =
    let parts = and_parts (p x) (list_all p xs) all in and_from (q x) (list_all q xs) (wider x parts.0) (all_wider p q wider xs parts.1)

small_repeated : (n c : ℕ) → is_small c ≡ true → list_all is_small (replicate n c) ≡ true
small_repeated zero c e = refl
small_repeated (suc n) c e = and_from (is_small c) (list_all is_small (replicate n c)) e (small_repeated n c e)

-- ---- costs

abbrev is_digit : ℕ → Bool
is_digit b = leb 48 b && leb b 57

digit_class : (b : ℕ) → is_digit b ≡ true → class_of Dictionary b ≡ Other
digit_class b e = grind (arith, nat_tests)

digit_small : (b : ℕ) → is_digit b ≡ true → is_small b ≡ true
digit_small b e = grind (arith)

digit_at : (k : ℕ) → k < 10 → is_digit (48 + k) ≡ true
digit_at k h = and_from (leb 48 (48 + k)) (leb (48 + k) 57) (le-leb _ _ (omega arith)) (le-leb _ _ (omega arith))

digits_both : (xs ys : List ℕ) → list_all is_digit xs ≡ true → list_all is_digit ys ≡ true → list_all is_digit (xs ++ ys) ≡ true
digits_both xs ys e f = list_all-append is_digit xs ys ∙ and_from (list_all is_digit xs) (list_all is_digit ys) e f

decimal_digits : (n : ℕ) → n < 2 ^ 64 → list_all is_digit (decimal n) ≡ true
decimal_digits = decimal_by_steps (λ n ds. list_all is_digit ds ≡ true)
    (λ n h. and_from (is_digit (48 + n)) true (digit_at n h) refl)
    (λ n ds h front. digits_both ds ((48 + n % 10) ∷ []) front (and_from (is_digit (48 + n % 10)) true (digit_at (n % 10) (mod_below n 10 (omega arith))) refl))

three_are_digits : (k : ℕ) → k < 1000 → list_all is_digit (three_digits k) ≡ true
three_are_digits k h =
    let hundreds : k / 100 < 10 = omega arith in
    and_from (is_digit (48 + k / 100)) _ (digit_at (k / 100) hundreds)
    (and_from (is_digit (48 + k / 10 % 10)) _ (digit_at (k / 10 % 10) (mod_below (k / 10) 10 (omega arith)))
    (and_from (is_digit (48 + k % 10)) true (digit_at (k % 10) (mod_below k 10 (omega arith))) refl))

sign_plain : (cost : ℤ) → ArePlain Dictionary (sign_of cost)
sign_plain (pos n) = tt
sign_plain (negsuc n) = (refl, tt)

sign_small : (cost : ℤ) → list_all is_small (sign_of cost) ≡ true
sign_small (pos n) = refl
sign_small (negsuc n) = refl

point_some : (xs ys : List ℕ) (c : ℕ) (zs : List ℕ) → xs ++ (ys ++ c ∷ zs) ≢ []
point_some [] [] c zs e = cc
point_some [] (y ∷ ys) c zs e = cc
point_some (x ∷ xs) ys c zs e = cc

cost_plain : (cost : ℤ) → unsigned_abs cost ≤ 10 ^ 7 → ArePlain Dictionary (cost_text cost)
cost_plain cost few =
    let n = unsigned_abs cost in
    plain_both (sign_of cost) (thousandths_text n) (sign_plain cost)
    (plain_both (decimal (n / 1000)) (46 ∷ three_digits (n % 1000)) (plain_bytes is_digit digit_class (decimal (n / 1000)) (decimal_digits (n / 1000) (omega arith)))
    (refl, plain_bytes is_digit digit_class (three_digits (n % 1000)) (three_are_digits (n % 1000) (mod_below n 1000 (omega arith)))))

cost_small : (cost : ℤ) → unsigned_abs cost ≤ 10 ^ 7 → list_all is_small (cost_text cost) ≡ true
cost_small cost few =
    let n = unsigned_abs cost in
    small_both (sign_of cost) (thousandths_text n) (sign_small cost)
    (small_both (decimal (n / 1000)) (46 ∷ three_digits (n % 1000)) (all_wider is_digit is_small digit_small (decimal (n / 1000)) (decimal_digits (n / 1000) (omega arith)))
    (all_wider is_digit is_small digit_small (three_digits (n % 1000)) (three_are_digits (n % 1000) (mod_below n 1000 (omega arith)))))

-- a printed cost is read back, and is a plain token
pub cost_token : IsReadBack → ((bytes : List ℕ) → ReadsCost bytes (read_cost bytes)) → (cost : ℤ) → unsigned_abs cost ≤ 10 ^ 7
    → IsCostNumber (cost_text cost) cost × ArePlain Dictionary (cost_text cost) × (cost_text cost ≢ [])
cost_token read_back reads cost few =
    let n = unsigned_abs cost in
    let is = read_back cost few (read_cost (cost_text cost)) (reads (cost_text cost)) in
    (subst (ReadsCost (cost_text cost)) is (reads (cost_text cost)), cost_plain cost few, point_some (sign_of cost) (decimal (n / 1000)) 46 (three_digits (n % 1000)))

-- ---- spellings

capital_small : (b : ℕ) → is_capital b ≡ true → is_small b ≡ true
capital_small b e = grind (arith)

subscript_small : (b : ℕ) → is_subscript b ≡ true → is_small b ≡ true
subscript_small b e = grind (arith, nat_tests)

at_small : (multi : Bool) → list_all is_small (at_text multi) ≡ true
at_small true = refl
at_small false = refl

way_small : (right : Bool) → list_all is_small (sign_text right) ≡ true
way_small true = refl
way_small false = refl

module _ (names : NamesAreWritten) where
  connector_small : (c : Connector) → IsLettered (name_of c) → list_all is_small (connector_spelled c) ≡ true
  connector_small c name =
      let parts = names c.caps c.subs name.written in
      small_both (at_text c.multi) _ (at_small c.multi)
      (small_both c.caps _ (all_wider is_capital is_small capital_small c.caps parts.capitals)
      (small_both c.subs (sign_text c.right) (all_wider is_subscript is_small subscript_small c.subs parts.subscripts) (way_small c.right)))

  abbrev IsSmallText : Tree → Type 0
  IsSmallText t = (at : Spot) → list_all is_small (spelled at t) ≡ true

  abbrev AllSmall : Trees → Type 0
  AllSmall no_trees = Unit {0}
  AllSmall (tree t ts) = IsSmallText t × AllSmall ts

  members_small : (at : Spot) (between : List ℕ) → list_all is_small between ≡ true → (ts : Trees) → AllSmall ts → list_all is_small (members_spelled at between ts) ≡ true
  members_small at between e no_trees all = refl
  members_small at between e (tree t no_trees) all = all.0 at
  members_small at between e (tree t (tree u us)) all = small_both (spelled at t) _ (all.0 at) (small_both between _ e (members_small at between e (tree u us) all.1))

  rounded_small : (xs : List ℕ) → list_all is_small xs ≡ true → list_all is_small (40 ∷ (xs ++ 41 ∷ [])) ≡ true
  rounded_small xs e = small_both xs (41 ∷ []) e refl

  in_round_small : (ts : Trees) → is_optional ts ≡ false → AllSmall ts → list_all is_small (spelled in_or (one_of ts)) ≡ true
  in_round_small ts is all = ap (list_all is_small) (in_round ts is) ∙ rounded_small (members_spelled in_or (codes " or ") ts) (members_small in_or (codes " or ") refl ts all)

  in_or_small : (ts : Trees) → AllSmall ts → list_all is_small (spelled in_or (one_of ts)) ≡ true
  in_or_small no_trees all = refl
  in_or_small (tree empty no_trees) all = refl
  in_or_small (tree empty (tree t no_trees)) all = small_both (spelled top t) (125 ∷ []) (all.1.0 top) refl
  in_or_small (tree empty (tree t (tree u us))) all = in_round_small (tree empty (tree t (tree u us))) refl all
  in_or_small (tree (leaf c) us) all = in_round_small (tree (leaf c) us) refl all
  in_or_small (tree (all_of ts) us) all = in_round_small (tree (all_of ts) us) refl all
  in_or_small (tree (one_of ts) us) all = in_round_small (tree (one_of ts) us) refl all
  in_or_small (tree (priced t cost) us) all = in_round_small (tree (priced t cost) us) refl all

  one_small : (ts : Trees) → AllSmall ts → IsSmallText (one_of ts)
  one_small ts all top = ap (list_all is_small) (top_or ts) ∙ members_small in_or (codes " or ") refl ts all
  one_small ts all in_or = in_or_small ts all
  one_small ts all in_and = ap (list_all is_small) (either_or ts) ∙ in_or_small ts all

  all_small : (ts : Trees) → AllSmall ts → IsSmallText (all_of ts)
  all_small ts all top = members_small in_and (codes " & ") refl ts all
  all_small ts all in_or = members_small in_and (codes " & ") refl ts all
  all_small ts all in_and = rounded_small (members_spelled in_and (codes " & ") ts) (members_small in_and (codes " & ") refl ts all)

  mutual
    spelled_small : (t : Tree) → IsReadable t → IsSmallText t
    spelled_small empty readable = λ at. refl
    spelled_small (leaf c) readable = λ at. connector_small c readable
    spelled_small (all_of ts) readable = all_small ts (each_small ts readable.1)
    spelled_small (one_of ts) readable = one_small ts (each_small ts readable.1)
    spelled_small (priced t cost) readable = λ at. small_both (spelled top t) (93 ∷ cost_text cost) (spelled_small t readable.1 top) (cost_small cost readable.0)

    each_small : (ts : Trees) → AreReadable ts → AllSmall ts
    each_small no_trees readable = tt
    each_small (tree t ts) readable = (spelled_small t readable.0, each_small ts readable.1)

  pub top_small : (t : Tree) → IsReadable t → list_all is_small (spelled top t) ≡ true
  top_small t readable = spelled_small t readable top

  pub bracketed_small : (n : ℕ) (t : Tree) → IsReadable t → list_all is_small (bracketed n (spelled top t)) ≡ true
  bracketed_small n t readable = small_both (replicate n 40) _ (small_repeated n 40 refl) (small_both (spelled top t) (replicate n 41) (spelled_small t readable top) (small_repeated n 41 refl))
