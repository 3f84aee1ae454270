-- Expressions with their macros put in, member by member.
use Rattle.std.proofs.Common.{◌≡◌, ℕ, suc, zero, ◌+◌, ◌*◌, ◌<◌, ◌≤◌, min, max, Bool, true, false, not, cond, List, [], ◌∷◌, ◌++◌, map, length, get_or, drop, refl, sym, ap, ◌∙◌, subst, arith, drop-cons, add-one, Some, length-append}
use Rattle.std.specs.List.{prefix_len, position, position_or_len, slice_get}
use Rattle.std.specs.Option.{option_map}
use Rattle.std.specs.ControlFlow.{break_value}
use Rattle.std.specs.declared.ops.ControlFlow.{ControlFlow}
use Rattle.std.specs.declared.ops.ControlFlow.TheVariants.{Continue, Break}
use Rattle.std.proofs.lemmas.Bool.Decides.{nat_tests}
use Rattle.std.proofs.lemmas.List.{length-map}
use Rattle.std.proofs.lemmas.List.Folds.{prefix_len-append}
use Rattle.lg_gram.specs.declared.entry.RawExpr.{RawExpr}
use Rattle.lg_gram.specs.Trees.{Tree, tree, trees_of}
use Rattle.lg_gram.specs.Limits.{REFERENCES_COUNTED, COUNTED, SIDE_COUNTED}
use Rattle.lg_gram.specs.Formulas.{IsFormula}
use Rattle.lg_gram.specs.RawTrees.{raw_tree_of, raw_trees_in, macros_of, macros_in}
use Rattle.lg_gram.specs.Measures.{choice_count, node_count, product_in, side_count}
use Rattle.lg_gram.specs.Measured.{HasSizes}
use Rattle.lg_gram.specs.declared.sizes.Sizes.{Sizes}
use Rattle.lg_gram.specs.Filled.{Formulas, filled, filled_in, is_unknown, FirstUnknown, highest}

pub filled_product-drop : (formulas : Formulas) (es : List RawExpr) (i : ℕ) (d : RawExpr) → i < length es →
    product_in (filled_in formulas (raw_trees_in (drop i es))) ≡ choice_count (filled formulas (raw_tree_of (get_or es i d))) * product_in (filled_in formulas (raw_trees_in (drop (i + 1) es)))
filled_product-drop formulas es i d h = rw (add-one, drop-cons es i d) refl

-- members that are filled one by one
pub filled_members : (formulas : Formulas) (es : List RawExpr) → trees_of (map (λ e. filled formulas (raw_tree_of e)) es) ≡ filled_in formulas (raw_trees_in es)
filled_members formulas [] = refl
filled_members formulas (e ∷ es) = ap (λ ts. tree (filled formulas (raw_tree_of e)) ts) (filled_members formulas es)

-- the references of one member come before those of the next
pub references-drop : (es : List RawExpr) (i : ℕ) (d : RawExpr) → i < length es →
    macros_in (raw_trees_in (drop i es)) ≡ macros_of (raw_tree_of (get_or es i d)) ++ macros_in (raw_trees_in (drop (i + 1) es))
references-drop es i d h = rw (add-one, drop-cons es i d) refl

prefix_whole : {A : Type 0} (p : A → Bool) (xs ys : List A) → prefix_len p xs ≡ length xs → prefix_len p (xs ++ ys) ≡ length xs + prefix_len p ys
prefix_whole p xs ys h = grind (arith, nat_tests, prefix_len-append p xs ys)

prefix_part : {A : Type 0} (p : A → Bool) (xs ys : List A) → prefix_len p xs < length xs → prefix_len p (xs ++ ys) ≡ prefix_len p xs
prefix_part p xs ys h = grind (arith, nat_tests, prefix_len-append p xs ys)

-- after references that are known, the first unknown is that of the others
pub after_known : (formulas : Formulas) (xs ys : List (List ℕ × ℕ)) (first next : ℕ) (answer : ControlFlow ℕ ℕ) →
    FirstUnknown formulas xs first (Continue next) → FirstUnknown formulas ys next answer → FirstUnknown formulas (xs ++ ys) first answer
after_known formulas xs ys first next (Continue last) h g =
    let whole = prefix_whole (λ (m : List ℕ × ℕ). not (is_unknown formulas m.0)) xs ys h.0 in
    (omega (arith, length-append xs ys), omega arith)
after_known formulas xs ys first next (Break number) h g =
    let whole = prefix_whole (λ (m : List ℕ × ℕ). not (is_unknown formulas m.0)) xs ys h.0 in
    (omega (arith, length-append xs ys), omega arith)

-- the first unknown reference is the first, whatever follows
pub before_others : (formulas : Formulas) (xs ys : List (List ℕ × ℕ)) (first number : ℕ) → FirstUnknown formulas xs first (Break number) → FirstUnknown formulas (xs ++ ys) first (Break number)
before_others formulas xs ys first number h =
    let part = prefix_part (λ (m : List ℕ × ℕ). not (is_unknown formulas m.0)) xs ys h.0 in
    (omega (arith, length-append xs ys), omega arith)

-- the references of the member at i come first of those that are left
pub member_first : (es : List RawExpr) (i : ℕ) (e : RawExpr) → i < length es → e ≡ get_or es i e →
    macros_in (raw_trees_in (drop i es)) ≡ macros_of (raw_tree_of e) ++ macros_in (raw_trees_in (drop (i + 1) es))
member_first es i e h is = references-drop es i e h ∙ ap (λ d. macros_of (raw_tree_of d) ++ macros_in (raw_trees_in (drop (i + 1) es))) (sym is)

pub unknown_in_member : (formulas : Formulas) (es : List RawExpr) (i : ℕ) (e : RawExpr) (next number : ℕ) → i < length es → e ≡ get_or es i e →
    FirstUnknown formulas (macros_of (raw_tree_of e)) next (Break number) → FirstUnknown formulas (macros_in (raw_trees_in (drop i es))) next (Break number)
unknown_in_member formulas es i e next number h is found =
    subst (λ ms. FirstUnknown formulas ms next (Break number)) (sym (member_first es i e h is))
    (before_others formulas (macros_of (raw_tree_of e)) (macros_in (raw_trees_in (drop (i + 1) es))) next number found)

pub known_in_member : (formulas : Formulas) (es : List RawExpr) (i : ℕ) (e : RawExpr) (next after : ℕ) (answer : ControlFlow ℕ ℕ) → i < length es → e ≡ get_or es i e →
    FirstUnknown formulas (macros_of (raw_tree_of e)) next (Continue after) → FirstUnknown formulas (macros_in (raw_trees_in (drop (i + 1) es))) after answer →
    FirstUnknown formulas (macros_in (raw_trees_in (drop i es))) next answer
known_in_member formulas es i e next after answer h is known others =
    subst (λ ms. FirstUnknown formulas ms next answer) (sym (member_first es i e h is))
    (after_known formulas (macros_of (raw_tree_of e)) (macros_in (raw_trees_in (drop (i + 1) es))) next after answer known others)

-- where no member is left, no reference is
pub none_left : (formulas : Formulas) (es : List RawExpr) (i next : ℕ) → length es ≤ i → next ≤ REFERENCES_COUNTED → FirstUnknown formulas (macros_in (raw_trees_in (drop i es))) next (Continue next)
none_left formulas [] zero next h low = (refl, omega arith)
none_left formulas [] (suc i) next h low = (refl, omega arith)
none_left formulas (e ∷ es) zero next h low = absurd (omega arith)
none_left formulas (e ∷ es) (suc i) next h low = none_left formulas es i next (omega arith) low

position_of_map : {A B : Type 0} (p : B → Bool) (f : A → B) (xs : List A) → position_or_len p (map f xs) ≡ position_or_len (λ x. p (f x)) xs
position_of_map p f [] = refl
position_of_map p f (x ∷ xs) = ap (λ n. cond (not (p (f x))) (1 + n) 0) (position_of_map p f xs)

highest-append : {A : Type 0} (f : A → ℕ) (xs ys : List A) → highest (map f (xs ++ ys)) ≡ max (highest (map f xs)) (highest (map f ys))
highest-append f [] ys = omega arith
highest-append f (x ∷ xs) ys = omega (arith, highest-append f xs ys)

-- the greatest of the levels that the members reach
pub highest-drop : (f : List ℕ × ℕ → ℕ) (es : List RawExpr) (i : ℕ) (d : RawExpr) → i < length es →
    highest (map f (macros_in (raw_trees_in (drop i es)))) ≡ max (highest (map f (macros_of (raw_tree_of (get_or es i d))))) (highest (map f (macros_in (raw_trees_in (drop (i + 1) es)))))
highest-drop f es i d h = ap (λ ms. highest (map f ms)) (references-drop es i d h) ∙ highest-append f _ _

-- a reference that comes after others
pub reference_later : {A B : Type 0} (f : A → B) (xs ys : List A) (left index : ℕ) → left + length xs ≡ index → slice_get (map f (xs ++ ys)) index ≡ slice_get (map f ys) left
reference_later f [] ys left index h = ap (λ n. slice_get (map f ys) n) (omega arith)
reference_later f (x ∷ xs) ys left zero h = absurd (omega arith)
reference_later f (x ∷ xs) ys left (suc index) h = reference_later f xs ys left index (omega arith)

-- and one that comes before others
pub reference_earlier : {A B : Type 0} (f : A → B) (xs ys : List A) (index : ℕ) (y : B) → slice_get (map f xs) index ≡ Some y → slice_get (map f (xs ++ ys)) index ≡ Some y
reference_earlier f [] ys index y h = cc
reference_earlier f (x ∷ xs) ys zero y h = h
reference_earlier f (x ∷ xs) ys (suc index) y h = reference_earlier f xs ys index y h

-- the first unknown of all references
pub first_of_all : (formulas : Formulas) (ms : List (List ℕ × ℕ)) (answer : ControlFlow ℕ ℕ) → FirstUnknown formulas ms 0 answer →
    break_value answer ≡ option_map (λ n. min n REFERENCES_COUNTED) (position (is_unknown formulas) (map (λ m. m.0) ms))
first_of_all formulas ms (Continue next) h = grind (arith, nat_tests, h.0, position_of_map (is_unknown formulas) (λ (m : List ℕ × ℕ). m.0) ms, length-map ms (λ (m : List ℕ × ℕ). m.0))
first_of_all formulas ms (Break number) h = grind (arith, nat_tests, h.0, h.1, position_of_map (is_unknown formulas) (λ (m : List ℕ × ℕ). m.0) ms, length-map ms (λ (m : List ℕ × ℕ). m.0))

-- the sizes of an expression that is within the limits are not capped
pub sizes_fit : (t u : Tree) (sizes : Sizes) → t ≡ u → IsFormula u → sizes.nodes ≡ min (node_count u) COUNTED → sizes.choices ≡ min (choice_count u) COUNTED
    → sizes.left ≡ min (side_count false u) SIDE_COUNTED → sizes.right ≡ min (side_count true u) SIDE_COUNTED → HasSizes t sizes
sizes_fit t u sizes is small nodes choices left right = subst (λ (x : Tree). HasSizes x sizes) (sym is) (record {
  nodes = omega (arith, nodes, small.nodes);
  choices = omega (arith, choices, small.choices);
  left = omega (arith, left, small.left_side);
  right = omega (arith, right, small.right_side);
})
