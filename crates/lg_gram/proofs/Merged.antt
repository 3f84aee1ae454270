-- The letters of a label.
use Rattle.std.proofs.Common.{◌≡◌, ℕ, zero, suc, ◌<◌, ◌≤◌, true, List, [], ◌∷◌, length, take, max, refl, sym, subst, ap, ◌∙◌, arith, get_or}
use Rattle.std.specs.List.{list_all}
use Rattle.std.specs.Cmp.Derive.{both_true}
use Rattle.std.proofs.lemmas.Bool.{false≢true, and_parts}
use Rattle.std.proofs.lemmas.Bool.Decides.{nat_tests}
use Rattle.std.proofs.lemmas.List.{same_lists, get_or-take, get_or_default}
use Rattle.std.proofs.Common.{length-take-le}
use Rattle.std.specs.Prelude.{if◌then◌else◌, Option, Some, None}
use Rattle.lg_gram.specs.Names.{Name, IsName, IsJoint, by_letters, by_joint, joint_text, STAR, is_capital, is_subscript, is_written, trimmed}
use Rattle.lg_gram.specs.Connectors.{Connector, name_of, either, merged, label_of}
use Rattle.lg_gram.proofs.Names.{written_parts, is_written_from}

pub length-merged : (xs ys : List ℕ) → length (merged xs ys) ≡ max (length xs) (length ys)
length-merged [] ys = omega arith
length-merged (x ∷ xs) [] = omega arith
length-merged (x ∷ xs) (y ∷ ys) = omega (arith, length-merged xs ys)

either_star : (x : ℕ) → x ≡ either x STAR
either_star x = grind (arith, nat_tests)

pub get_or-merged : (xs ys : List ℕ) (k d : ℕ) → k < max (length xs) (length ys) → get_or (merged xs ys) k d ≡ either (get_or xs k STAR) (get_or ys k STAR)
get_or-merged [] ys k d h = get_or_default ys k d STAR (omega arith)
get_or-merged (x ∷ xs) [] k d h = get_or_default (x ∷ xs) k d STAR (omega arith) ∙ either_star _
get_or-merged (x ∷ xs) (y ∷ ys) zero d h = refl
get_or-merged (x ∷ xs) (y ∷ ys) (suc k) d h = get_or-merged xs ys k d (omega arith)

-- letters that are right at each place are the label's
pub is_merged : (letters xs ys : List ℕ) → max (length xs) (length ys) ≤ length letters →
    ((k : ℕ) → k < max (length xs) (length ys) → get_or letters k STAR ≡ either (get_or xs k STAR) (get_or ys k STAR)) →
    take (max (length xs) (length ys)) letters ≡ merged xs ys
is_merged letters xs ys room right =
    let short : length (take (max (length xs) (length ys)) letters) ≡ max (length xs) (length ys) = length-take-le _ letters room in
    same_lists _ (merged xs ys) (short ∙ sym (length-merged xs ys))
    (λ k d h.
    let within : k < max (length xs) (length ys) = omega arith in
    get_or-take _ letters k d within ∙ get_or_default letters k d STAR (omega arith) ∙ right k within ∙ sym (get_or-merged xs ys k d within))

either_itself : (x : ℕ) → either x x ≡ x
either_itself x = grind (arith, nat_tests)

either_subscript : (x y : ℕ) → is_subscript x ≡ true → is_subscript y ≡ true → is_subscript (either x y) ≡ true
either_subscript x y h g = grind (arith, nat_tests)

pub subscripts_merged : (xs ys : List ℕ) → list_all is_subscript xs ≡ true → list_all is_subscript ys ≡ true → list_all is_subscript (merged xs ys) ≡ true
subscripts_merged [] ys h g = g
subscripts_merged (x ∷ xs) [] h g = h
subscripts_merged (x ∷ xs) (y ∷ ys) h g =
    let p = and_parts (is_subscript x) (list_all is_subscript xs) h in
    let q = and_parts (is_subscript y) (list_all is_subscript ys) g in
    both_true (either_subscript x y p.0 q.0) (subscripts_merged xs ys p.1 q.1)

merged_itself : (xs : List ℕ) → merged xs xs ≡ xs
merged_itself [] = refl
merged_itself (x ∷ xs) = λ i. either_itself x i ∷ merged_itself xs i

short_name : (n : Name) → IsName n → trimmed n.subs ≡ n.subs
short_name n (by_letters h short) = short
short_name n (by_joint is none) = subst (λ (t : List ℕ). trimmed t ≡ t) (sym none) refl

-- connectors of one name have that name as label
pub label_itself : (a b : Connector) → IsName (name_of a) → name_of a ≡ name_of b → name_of a ≡ label_of a b
label_itself a b p same =
    let subs : b.subs ≡ a.subs = ap (λ n. n.subs) (sym same) in
    let all : trimmed (merged a.subs b.subs) ≡ a.subs = ap (λ t. trimmed (merged a.subs t)) subs ∙ ap trimmed (merged_itself a.subs) ∙ short_name (name_of a) p in
    λ i. record { caps = a.caps; subs = sym all i }

-- no name that is written begins as a joint does
no_joint : (caps subs : List ℕ) → is_written caps subs ≡ true → IsJoint caps → ⊥
no_joint caps subs h is =
    let all : list_all is_capital (joint_text is.rank is.start is.joint) ≡ true =
    subst (λ (t : List ℕ). list_all is_capital t ≡ true) is.spelled (written_parts caps subs h).capitals in
    false≢true all

-- where two connectors have one capital part and are not of one name, both names are written by letters
pub both_written : (a b : Connector) → IsName (name_of a) → IsName (name_of b) → a.caps ≡ b.caps → (name_of a ≡ name_of b → ⊥)
    → (is_written a.caps a.subs ≡ true) × (is_written b.caps b.subs ≡ true)
both_written a b (by_letters h _) (by_letters g _) same other = (h, g)
both_written a b (by_letters h _) (by_joint is _) same other = absurd (no_joint a.caps a.subs h (subst IsJoint (sym same) is))
both_written a b (by_joint is _) (by_letters g _) same other = absurd (no_joint b.caps b.subs g (subst IsJoint same is))
both_written a b (by_joint _ e) (by_joint _ f) same other = absurd (other (λ i. record { caps = same i; subs = (e ∙ sym f) i }))

-- the label of two connectors that match may be written
pub written_label : (a b : Connector) → is_written a.caps a.subs ≡ true → is_written b.caps b.subs ≡ true → a.caps ≡ b.caps → is_written a.caps (merged a.subs b.subs) ≡ true
written_label a b p q same =
    let x = written_parts a.caps a.subs p in
    let y = written_parts b.caps b.subs q in
    is_written_from a.caps (merged a.subs b.subs) x.some (omega (arith, x.few, y.few, ap length same, length-merged a.subs b.subs))
    x.capitals (subscripts_merged a.subs b.subs x.subscripts y.subscripts)

-- what is written so is the label
pub label_given : (a b : Connector) → IsName (name_of a) → IsName (name_of b) → a.caps ≡ b.caps → (name_of a ≡ name_of b → ⊥) → (caps letters : List ℕ) → caps ≡ a.caps → letters ≡ merged a.subs b.subs →
    (o : Option Name) → o ≡ (if is_written caps letters then Some (record { caps = caps; subs = trimmed letters }) else None) → o ≡ Some (label_of a b)
label_given a b p q same other caps letters e f o g =
    let both = both_written a b p q same other in
    g ∙ (λ i. if is_written (e i) (f i) then Some (record { caps = e i; subs = trimmed (f i) }) else None)
    ∙ ap (λ t. if t then Some (label_of a b) else None) (written_label a b both.0 both.1 same)
