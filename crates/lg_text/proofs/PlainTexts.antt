-- Printed texts without a line feed.
use Rattle.std.proofs.Common.{◌≡◌, ℕ, zero, suc, ◌+◌, ◌/◌, ◌%◌, Bool, true, false, cond, eqb, ℤ, pos, negsuc, List, [], ◌∷◌, ◌++◌, take, map, Option, Some, None, IfSome, slice_get, slice_index_or, refl, sym, ◌∙◌, arith, ne_eqb}
use Rattle.std.specs.List.{list_any, join_with_byte, AllByRecursion}
use Rattle.std.specs.Fmt.{decimal}
use Rattle.std.specs.Option.{option_zip}
use Rattle.std.proofs.lemmas.Bool.{or_parts, or_from, cond_both}
use Rattle.std.proofs.lemmas.List.Folds.{list_any-append}
use Rattle.lg_base.specs.Costs.{cost_text, three_digits}
use Rattle.lg_gram.specs.Names.{trimmed}
use Rattle.lg_gram.specs.Connectors.{Connector, connector_text, merged, either}
use Rattle.lg_gram.specs.Labels.{label_between}
use Rattle.lg_gram.specs.Linkages.{Linkage}
use Rattle.lg_gram.specs.Rules.{chosen_at, rights_of, lefts_of, left_list, right_list}
use Rattle.lg_gram.specs.declared.disjunct.Disjunct.{Disjunct}
use Rattle.lg_gram.specs.declared.linkage.Link.{Link}
use Rattle.lg_text.specs.Texts.{side_text, letters_of, label_text, choice_pieces}
use Rattle.lg_text.specs.Shown.{IsOneLine, IsPlainDisjunct}
use Rattle.lg_text.proofs.Bytes.{lacks_both, decimal_lacks}

abbrev pub AreOneLines : List (List ℕ) → Type 0
AreOneLines pieces = AllByRecursion (λ (piece : List ℕ). IsOneLine piece) pieces

pub joined_plain : (c : ℕ) → eqb 10 c ≡ false → (pieces : List (List ℕ)) → AreOneLines pieces → IsOneLine (join_with_byte c pieces)
joined_plain c e [] all = refl
joined_plain c e (x ∷ []) all = all.0
joined_plain c e (x ∷ y ∷ pieces) all =
    lacks_both 10 x (c ∷ join_with_byte c (y ∷ pieces)) all.0 (or_from (eqb 10 c) (list_any (eqb 10) (join_with_byte c (y ∷ pieces))) e (joined_plain c e (y ∷ pieces) all.1))

pub number_plain : (n : ℕ) → IsOneLine (decimal n)
number_plain n = decimal_lacks 10 n refl

digit_plain : (n : ℕ) → eqb 10 (48 + n) ≡ false
digit_plain n = ne_eqb 10 (48 + n) (omega arith)

thousandths_plain : (n : ℕ) → IsOneLine (three_digits n)
thousandths_plain n = or_from (eqb 10 (48 + n / 100)) _ (digit_plain (n / 100)) (or_from (eqb 10 (48 + n / 10 % 10)) _ (digit_plain (n / 10 % 10)) (or_from (eqb 10 (48 + n % 10)) false (digit_plain (n % 10)) refl))

unsigned_plain : (n : ℕ) → IsOneLine (decimal (n / 1000) ++ 46 ∷ three_digits (n % 1000))
unsigned_plain n = lacks_both 10 (decimal (n / 1000)) (46 ∷ three_digits (n % 1000)) (number_plain (n / 1000)) (thousandths_plain (n % 1000))

pub cost_plain : (z : ℤ) → IsOneLine (cost_text z)
cost_plain (pos n) = unsigned_plain n
cost_plain (negsuc n) = unsigned_plain (suc n)

-- ---- connectors and labels

abbrev pub AreNamed : List Connector → Type 0
AreNamed connectors = AllByRecursion (λ c. IsOneLine (connector_text c)) connectors

texts_plain : (connectors : List Connector) → AreNamed connectors → AreOneLines (map connector_text connectors)
texts_plain [] all = tt
texts_plain (c ∷ connectors) all = (all.0, texts_plain connectors all.1)

pub side_plain : (connectors : List Connector) → AreNamed connectors → IsOneLine (side_text connectors)
side_plain [] all = refl
side_plain (c ∷ connectors) all = joined_plain 44 refl (map connector_text (c ∷ connectors)) (texts_plain (c ∷ connectors) all)

name_parts : (c : Connector) → IsOneLine (connector_text c) → IsOneLine c.caps × IsOneLine c.subs
name_parts c plain = by c.multi plain
  where
    both : IsOneLine (c.caps ++ c.subs) → IsOneLine c.caps × IsOneLine c.subs
    both e = or_parts (list_any (eqb 10) c.caps) (list_any (eqb 10) c.subs) (sym (list_any-append (eqb 10) c.caps c.subs) ∙ e)

    by : (b : Bool) → IsOneLine (cond b (64 ∷ c.caps ++ c.subs) (c.caps ++ c.subs)) → IsOneLine c.caps × IsOneLine c.subs
    by true e = both e
    by false e = both e

merged_plain : (xs ys : List ℕ) → IsOneLine xs → IsOneLine ys → IsOneLine (merged xs ys)
merged_plain [] ys e f = f
merged_plain (x ∷ xs) [] e f = e
merged_plain (x ∷ xs) (y ∷ ys) e f =
    let first = or_parts (eqb 10 x) (list_any (eqb 10) xs) e in
    let second = or_parts (eqb 10 y) (list_any (eqb 10) ys) f in
    or_from (eqb 10 (either x y)) (list_any (eqb 10) (merged xs ys))
    (cond_both (eqb x 42) y x (λ (z : ℕ). eqb 10 z ≡ false) (λ _. second.0) (λ _. first.0))
    (merged_plain xs ys first.1 second.1)

pub take_plain : (n : ℕ) (xs : List ℕ) → IsOneLine xs → IsOneLine (take n xs)
take_plain zero xs e = refl
take_plain (suc n) [] e = refl
take_plain (suc n) (x ∷ xs) e = let parts = or_parts (eqb 10 x) (list_any (eqb 10) xs) e in or_from (eqb 10 x) (list_any (eqb 10) (take n xs)) parts.0 (take_plain n xs parts.1)

between_plain : (a b : Option Connector) → IfSome a (λ c. IsOneLine (connector_text c)) → IfSome b (λ c. IsOneLine (connector_text c)) → IsOneLine (letters_of (label_between (option_zip a b)))
between_plain None b e f = refl
between_plain (Some a) None e f = refl
between_plain (Some a) (Some b) e f =
    let first = name_parts a e in
    let second = name_parts b f in
    lacks_both 10 a.caps (trimmed (merged a.subs b.subs)) first.0 (take_plain _ (merged a.subs b.subs) (merged_plain a.subs b.subs first.1 second.1))

some_named : (connectors : List Connector) → AreNamed connectors → (k : ℕ) → IfSome (slice_get connectors k) (λ c. IsOneLine (connector_text c))
some_named [] all k = tt
some_named (c ∷ connectors) all zero = all.0
some_named (c ∷ connectors) all (suc k) = some_named connectors all.1 k

abbrev pub AreChosen : List (Option Disjunct) → Type 0
AreChosen chosen = AllByRecursion (λ choice. IfSome choice IsPlainDisjunct) chosen

at_position : (chosen : List (Option Disjunct)) → AreChosen chosen → (i : ℕ) → IfSome (slice_index_or chosen i None) IsPlainDisjunct
at_position [] all i = tt
at_position (o ∷ chosen) all zero = all.0
at_position (o ∷ chosen) all (suc i) = at_position chosen all.1 i

rights_named : (o : Option Disjunct) → IfSome o IsPlainDisjunct → AreNamed (right_list o)
rights_named None plain = tt
rights_named (Some d) plain = plain.right

lefts_named : (o : Option Disjunct) → IfSome o IsPlainDisjunct → AreNamed (left_list o)
lefts_named None plain = tt
lefts_named (Some d) plain = plain.left

pub label_plain : (g : Linkage) → AreChosen g.chosen → (l : Link) → IsOneLine (label_text g l)
label_plain g all l =
    between_plain (slice_get (rights_of g l.left) l.lplace) (slice_get (lefts_of g l.right) l.rplace)
    (some_named (rights_of g l.left) (rights_named (chosen_at g l.left) (at_position g.chosen all l.left)) l.lplace)
    (some_named (lefts_of g l.right) (lefts_named (chosen_at g l.right) (at_position g.chosen all l.right)) l.rplace)

pub choice_plain : (o : Option Disjunct) → IfSome o IsPlainDisjunct → AreOneLines (choice_pieces o)
choice_plain None plain = (refl, tt)
choice_plain (Some d) plain = (plain.word, (side_plain d.left plain.left, (side_plain d.right plain.right, (cost_plain d.cost, tt))))
