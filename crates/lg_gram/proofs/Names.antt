-- The letters of names.
use Rattle.std.proofs.Common.{◌≡◌, ℕ, zero, suc, ◌+◌, ◌-◌, ◌<◌, ◌≤◌, Bool, true, false, List, [], ◌∷◌, ◌++◌, length, take, drop, replicate, refl, sym, subst, ap, ◌∙◌, arith, codes, decimal, append_assoc, length-append, length-take, ◌==◌, cond, Less, Greater}
use Rattle.std.specs.Ordering.{nat_cmp, ordering_then, ordering_reverse}
use Rattle.std.specs.Cmp.Lexicographic.{slice_cmp}
use Rattle.std.proofs.lemmas.Cmp.{nat_list_cmp_total}
use Rattle.std.proofs.Math.Seq.{take-nil}
use Rattle.std.proofs.lemmas.Bool.{false≢true, and_parts}
use mathlib.Core.Bool.{beq}
use Rattle.std.specs.Cmp.Derive.{both_true}
use Rattle.std.proofs.lemmas.List.{length-replicate, take_at, drop_at, drop-replicate}
use Rattle.std.proofs.lemmas.Bool.Decides.{nat_tests}
use Rattle.std.proofs.lemmas.Fmt.{length-decimal-le}
use Rattle.std.specs.List.{list_all, prefix_len, suffix_len}
use borrow.Rule.Slice.PartMut.{put_mid}
use Rattle.lg_gram.specs.Limits.{LETTERS, JOINT_RANK, JOINT_PLACE}
use Rattle.lg_gram.specs.Names.{Name, IsName, IsJoint, by_letters, by_joint, joint_text, joint_fits, is_capital, is_subscript, is_written, NamesAreWritten, trimmed, STAR}
use Rattle.lg_gram.specs.Connectors.{Connector, name_of, connector_text, connector_cmp}
use Rattle.lg_gram.specs.Stored.{IsStored, stored}

-- what two copies leave in sixteen zeros
pub packed_parts : (caps subs : List ℕ) → length caps + length subs ≤ 16 →
    put_mid (length caps) (length caps + length subs - length caps) (caps ++ drop (length caps) (replicate 16 0)) subs
    ≡ caps ++ subs ++ replicate (16 - (length caps + length subs)) 0
packed_parts caps subs h =
    let zeros : List ℕ = drop (length caps) (replicate 16 0) in
    let count : 16 - length caps - (length caps + length subs - length caps) ≡ 16 - (length caps + length subs) = omega arith in
    rw (take_at caps zeros (length caps) refl, drop_at caps zeros (length caps) refl, drop-replicate {X = ℕ} (length caps) 16 0, drop-replicate {X = ℕ} (length caps + length subs - length caps) (16 - length caps) 0, count)
    (sym (append_assoc caps subs _))

-- the capitals of a name are those at its front
prefix_len-caps : (caps subs : List ℕ) → list_all is_capital caps ≡ true → list_all is_subscript subs ≡ true → prefix_len is_capital (caps ++ subs) ≡ length caps
prefix_len-caps [] [] all rest = refl
prefix_len-caps [] (b ∷ subs) all rest =
    let small = (and_parts (is_subscript b) (list_all is_subscript subs) rest).0 in
    let none : is_capital b ≡ false = grind (arith, nat_tests) in
    ap (λ (x : Bool). cond x (1 + prefix_len is_capital subs) 0) none
prefix_len-caps (b ∷ caps) subs all rest =
    let parts = and_parts (is_capital b) (list_all is_capital caps) all in
    ap (λ (x : Bool). cond x (1 + prefix_len is_capital (caps ++ subs)) 0) parts.0 ∙ omega (arith, prefix_len-caps caps subs parts.1 rest)

pub written_parts : NamesAreWritten
written_parts caps subs h =
    let capitals : list_all is_capital caps ≡ true = grind (arith, nat_tests) in
    let subscripts : list_all is_subscript subs ≡ true = grind (arith, nat_tests) in
    record {
      some = grind (arith, nat_tests);
      few = grind (arith, nat_tests);
      capitals = capitals;
      subscripts = subscripts;
      front = prefix_len-caps caps subs capitals subscripts;
    }

pub is_written_from : (caps subs : List ℕ) → 0 < length caps → length caps + length subs ≤ LETTERS → list_all is_capital caps ≡ true → list_all is_subscript subs ≡ true → is_written caps subs ≡ true
is_written_from caps subs some few capitals subscripts = grind (arith, nat_tests)

list_all-take : (p : ℕ → Bool) (xs : List ℕ) (n : ℕ) → list_all p xs ≡ true → list_all p (take n xs) ≡ true
list_all-take p [] n h = rw take-nil refl
list_all-take p (x ∷ xs) zero h = refl
list_all-take p (x ∷ xs) (suc n) h = let parts = and_parts (p x) (list_all p xs) h in both_true parts.0 (list_all-take p xs n parts.1)

-- a name without its stars at the end is one
pub trimmed_written : (caps subs : List ℕ) → is_written caps subs ≡ true → is_written caps (trimmed subs) ≡ true
trimmed_written caps subs h =
    let parts = written_parts caps subs h in
    is_written_from caps (trimmed subs) parts.some (omega (arith, parts.few, length-take (length subs - suffix_len (λ b. b == STAR) subs) subs))
    parts.capitals (list_all-take is_subscript subs _ parts.subscripts)

-- a name is stored so
stored_name : (n : Name) → IsName n → length n.caps + length n.subs ≤ 16 → IsStored (stored n)
stored_name n is few =
    let caps = n.caps in
    let subs = n.subs in
    let zeros : List ℕ = replicate (16 - (length caps + length subs)) 0 in
    let first : take (length caps) (caps ++ subs ++ zeros) ≡ caps = rw append_assoc (take_at caps (subs ++ zeros) _ refl) in
    let second : take (length caps + length subs - length caps) (drop (length caps) (caps ++ subs ++ zeros)) ≡ subs =
    rw (append_assoc, drop_at caps (subs ++ zeros) (length caps) refl) (take_at subs zeros _ (omega arith)) in
    let padded : drop (length caps + length subs) (caps ++ subs ++ zeros) ≡ zeros =
    drop_at (caps ++ subs) zeros _ (length-append caps subs) in
    record {
      is_name = subst IsName (λ i. record { caps = sym first i; subs = sym second i }) is;
      ordered = omega arith;
      fits = omega (arith, few);
      sized = omega (arith, few, length-append (caps ++ subs) zeros, length-append caps subs, length-replicate {A = ℕ} (16 - (length caps + length subs)) 0);
      padded = padded;
    }

pub stored_so : (caps subs : List ℕ) → is_written caps subs ≡ true → trimmed subs ≡ subs → IsStored (stored (record { caps = caps; subs = subs }))
stored_so caps subs h short =
    let parts = written_parts caps subs h in
    stored_name (record { caps = caps; subs = subs }) (by_letters h short) (omega (arith, parts.few))

joint_numbers : (rank start joint : ℕ) → joint_fits rank start joint ≡ true → (rank ≤ JOINT_RANK) × ((start ≤ JOINT_PLACE) × (joint ≤ JOINT_PLACE))
joint_numbers rank start joint h = (grind (arith, nat_tests), (grind (arith, nat_tests), grind (arith, nat_tests)))

length-joint : (rank start joint : ℕ) → length (joint_text rank start joint) ≡ 4 + length (decimal rank) + length (decimal start) + length (decimal joint)
length-joint rank start joint =
    let a = length-append (decimal rank) (codes "." ++ (decimal start ++ (codes "." ++ decimal joint))) in
    let b = length-append (decimal start) (codes "." ++ decimal joint) in
    omega (arith, a, b)

-- bytes that are put over zeros after a text
pub put_zeros : (text bytes : List ℕ) (at : ℕ) → length text ≡ at →
    put_mid at (at + length bytes - at) (text ++ replicate (16 - length text) 0) bytes ≡ (text ++ bytes) ++ replicate (16 - length (text ++ bytes)) 0
put_zeros text bytes at is =
    let zeros : List ℕ = replicate (16 - length text) 0 in
    let count : 16 - length text - (at + length bytes - at) ≡ 16 - length (text ++ bytes) = omega (arith, length-append text bytes) in
    rw (take_at text zeros at is, drop_at text zeros at is, drop-replicate {X = ℕ} (at + length bytes - at) (16 - length text) 0, count)
    (sym (append_assoc text bytes _))

-- how many digits the numbers of a joint have
pub joint_digits : (rank start joint : ℕ) → joint_fits rank start joint ≡ true → (length (decimal rank) ≤ 6) × ((length (decimal start) ≤ 3) × (length (decimal joint) ≤ 3))
joint_digits rank start joint h =
    let parts = joint_numbers rank start joint h in (
      length-decimal-le 6 rank (omega arith) (omega (arith, parts.0)) (omega (arith, parts.0)),
      (
        length-decimal-le 3 start (omega arith) (omega (arith, parts.1.0)) (omega (arith, parts.1.0)),
        length-decimal-le 3 joint (omega arith) (omega (arith, parts.1.1)) (omega (arith, parts.1.1)),
      ),
    )

-- the text of a joint by those of its numbers
abbrev pub joint_of : List ℕ → List ℕ → List ℕ → List ℕ
joint_of a b c = codes "id" ++ (a ++ (codes "." ++ (b ++ (codes "." ++ c))))

-- its pieces, put one after another
pub joint_pieces : (a b c : List ℕ) → (((((codes "id") ++ a) ++ codes ".") ++ b) ++ codes ".") ++ c ≡ joint_of a b c
joint_pieces a b c =
    append_assoc (((codes "id" ++ a) ++ codes ".") ++ b) (codes ".") c ∙ append_assoc ((codes "id" ++ a) ++ codes ".") b (codes "." ++ c)
    ∙ append_assoc (codes "id" ++ a) (codes ".") (b ++ (codes "." ++ c)) ∙ append_assoc (codes "id") a (codes "." ++ (b ++ (codes "." ++ c)))

-- the numbers of a joint have so few digits that its text has at most 16 bytes
pub joint_short : (rank start joint : ℕ) → joint_fits rank start joint ≡ true → length (joint_text rank start joint) ≤ 16
joint_short rank start joint h =
    let few = joint_digits rank start joint h in
    omega (arith, few.0, few.1.0, few.1.1, length-joint rank start joint)

-- the first byte of a name, which stands behind the sign `@` (64)
pub record Starts (caps : List ℕ) : Type 0 where
  pub first : ℕ
  pub rest : List ℕ
  pub is : caps ≡ first ∷ rest
  pub above : 64 < first

capitals_start : (caps : List ℕ) → 0 < length caps → list_all is_capital caps ≡ true → Starts caps
capitals_start [] some all = absurd (omega arith)
capitals_start (b ∷ caps) some all =
    let capital : is_capital b ≡ true = (and_parts (is_capital b) (list_all is_capital caps) all).0 in
    record { first = b; rest = caps; is = refl; above = grind (arith, nat_tests) }

joint_starts : (caps : List ℕ) → IsJoint caps → Starts caps
joint_starts caps is = record { first = 105; rest = drop 1 (joint_text is.rank is.start is.joint); is = is.spelled; above = omega arith }

pub name_starts : (n : Name) → IsName n → Starts n.caps
name_starts n (by_letters h short) = let parts = written_parts n.caps n.subs h in capitals_start n.caps parts.some parts.capitals
name_starts n (by_joint is none) = joint_starts n.caps is

less_by : (b : ℕ) → 64 < b → nat_cmp 64 b ≡ Less
less_by b h = grind (arith, nat_tests)

below_names : (xs caps ys : List ℕ) → Starts caps → Less ≡ slice_cmp nat_cmp (64 ∷ xs) (caps ++ ys)
below_names xs caps ys s =
    subst (λ (t : List ℕ). Less ≡ slice_cmp nat_cmp (64 ∷ xs) (t ++ ys)) (sym s.is)
    (ap (λ o. ordering_then o (slice_cmp nat_cmp xs (s.rest ++ ys))) (sym (less_by s.first s.above)))

-- the text of a connector with `@` comes before one without
multi_first_on : (m n : Bool) (xs caps ys : List ℕ) → m ≡ true → n ≡ false → Starts caps →
    Less ≡ slice_cmp nat_cmp (cond m (64 ∷ xs) xs) (cond n (64 ∷ (caps ++ ys)) (caps ++ ys))
multi_first_on true false xs caps ys e f s = below_names xs caps ys s
multi_first_on false n xs caps ys e f s = absurd (false≢true e)
multi_first_on true true xs caps ys e f s = absurd (false≢true (sym f))

pub multi_first : (a b : Connector) → a.multi ≡ true → b.multi ≡ false → IsName (name_of b) → Less ≡ connector_cmp a b
multi_first a b e f named = multi_first_on a.multi b.multi (a.caps ++ a.subs) b.caps b.subs e f (name_starts (name_of b) named)

pub multi_last : (a b : Connector) → a.multi ≡ false → b.multi ≡ true → IsName (name_of a) → Greater ≡ connector_cmp a b
multi_last a b e f named = ap ordering_reverse (multi_first b a f e named) ∙ sym (nat_list_cmp_total.antisymm (connector_text a) (connector_text b))

same_sign : (m n : Bool) (xs ys : List ℕ) → m ≡ n → slice_cmp nat_cmp xs ys ≡ slice_cmp nat_cmp (cond m (64 ∷ xs) xs) (cond n (64 ∷ ys) ys)
same_sign true true xs ys h = refl
same_sign false false xs ys h = refl
same_sign true false xs ys h = cc
same_sign false true xs ys h = cc

-- where both have `@` or neither, the letters decide
pub letters_decide : (a b : Connector) → a.multi ≡ b.multi → slice_cmp nat_cmp (a.caps ++ a.subs) (b.caps ++ b.subs) ≡ connector_cmp a b
letters_decide a b e = same_sign a.multi b.multi _ _ e

pub same_from_beq : (m n : Bool) → beq m n ≡ true → m ≡ n
same_from_beq true true h = refl
same_from_beq false false h = refl
same_from_beq true false h = absurd (false≢true h)
same_from_beq false true h = absurd (false≢true h)

pub other_false : (m n : Bool) → beq m n ≡ false → m ≡ true → n ≡ false
other_false true true h e = h
other_false true false h e = refl
other_false false n h e = absurd (false≢true e)

pub other_true : (m n : Bool) → beq m n ≡ false → m ≡ false → n ≡ true
other_true true n h e = absurd (false≢true (sym e))
other_true false true h e = refl
other_true false false h e = sym h
