-- How an expression is spelled, and its level, by what its members are.
use Rattle.std.proofs.Common.{◌≡◌, ℕ, suc, ◌+◌, ◌-◌, ◌<◌, replicate, true, false, List, [], ◌∷◌, ◌++◌, length, get_or, codes, refl, ap, sym, ◌∙◌, true≢false, arith, append_assoc, append-nil, Result, Ok, Err, OnOk}
use Rattle.lg_gram.specs.Trees.{Tree, Trees, empty, leaf, all_of, one_of, priced, no_trees, tree, tree_of, trees_in}
use Rattle.lg_gram.specs.declared.expr.Expr.{Expr}
use Rattle.lg_export.specs.Spelling.{Spot, top, in_or, in_and, round, spelled, members_spelled, level_at, members_level}
use Rattle.lg_export.specs.Spots.{is_empty, is_optional}

-- ---- an `or`

-- at the top it is its members, whatever they are
pub top_or : (ts : Trees) → spelled top (one_of ts) ≡ members_spelled in_or (codes " or ") ts
top_or no_trees = refl
top_or (tree empty no_trees) = refl
top_or (tree empty (tree t no_trees)) = refl
top_or (tree empty (tree t (tree u us))) = refl
top_or (tree (leaf c) us) = refl
top_or (tree (all_of ts) us) = refl
top_or (tree (one_of ts) us) = refl
top_or (tree (priced t cost) us) = refl

pub top_or_level : (ts : Trees) → level_at top (one_of ts) ≡ members_level in_or ts
top_or_level no_trees = refl
top_or_level (tree empty no_trees) = refl
top_or_level (tree empty (tree t no_trees)) = omega arith
top_or_level (tree empty (tree t (tree u us))) = refl
top_or_level (tree (leaf c) us) = refl
top_or_level (tree (all_of ts) us) = refl
top_or_level (tree (one_of ts) us) = refl
top_or_level (tree (priced t cost) us) = refl

-- as a member of either kind it is the same
pub either_or : (ts : Trees) → spelled in_and (one_of ts) ≡ spelled in_or (one_of ts)
either_or no_trees = refl
either_or (tree empty no_trees) = refl
either_or (tree empty (tree t no_trees)) = refl
either_or (tree empty (tree t (tree u us))) = refl
either_or (tree (leaf c) us) = refl
either_or (tree (all_of ts) us) = refl
either_or (tree (one_of ts) us) = refl
either_or (tree (priced t cost) us) = refl

pub either_or_level : (ts : Trees) → level_at in_and (one_of ts) ≡ level_at in_or (one_of ts)
either_or_level no_trees = refl
either_or_level (tree empty no_trees) = refl
either_or_level (tree empty (tree t no_trees)) = refl
either_or_level (tree empty (tree t (tree u us))) = refl
either_or_level (tree (leaf c) us) = refl
either_or_level (tree (all_of ts) us) = refl
either_or_level (tree (one_of ts) us) = refl
either_or_level (tree (priced t cost) us) = refl

-- in round brackets, if it is no `()` and one other
pub in_round : (ts : Trees) → is_optional ts ≡ false → spelled in_or (one_of ts) ≡ round (members_spelled in_or (codes " or ") ts)
in_round no_trees e = refl
in_round (tree empty no_trees) e = refl
in_round (tree empty (tree t no_trees)) e = absurd (true≢false e)
in_round (tree empty (tree t (tree u us))) e = refl
in_round (tree (leaf c) us) e = refl
in_round (tree (all_of ts) us) e = refl
in_round (tree (one_of ts) us) e = refl
in_round (tree (priced t cost) us) e = refl

pub in_round_level : (ts : Trees) → is_optional ts ≡ false → level_at in_or (one_of ts) ≡ suc (members_level in_or ts)
in_round_level no_trees e = refl
in_round_level (tree empty no_trees) e = refl
in_round_level (tree empty (tree t no_trees)) e = absurd (true≢false e)
in_round_level (tree empty (tree t (tree u us))) e = refl
in_round_level (tree (leaf c) us) e = refl
in_round_level (tree (all_of ts) us) e = refl
in_round_level (tree (one_of ts) us) e = refl
in_round_level (tree (priced t cost) us) e = refl

-- what a `()` and one other are
pub is_beside : (a b : Tree) → is_optional (tree a (tree b no_trees)) ≡ is_empty a
is_beside empty b = refl
is_beside (leaf c) b = refl
is_beside (all_of ts) b = refl
is_beside (one_of ts) b = refl
is_beside (priced t cost) b = refl

empty_is : (a b : Tree) → is_empty a ≡ true → tree a (tree b no_trees) ≡ tree empty (tree b no_trees)
empty_is empty b e = refl
empty_is (leaf c) b e = absurd (true≢false (sym e))
empty_is (all_of ts) b e = absurd (true≢false (sym e))
empty_is (one_of ts) b e = absurd (true≢false (sym e))
empty_is (priced t cost) b e = absurd (true≢false (sym e))

one_beside : (es : List Expr) (e : Expr) → length es ≡ 2 → is_optional (trees_in es) ≡ true → e ≡ get_or es 1 e → trees_in es ≡ tree empty (tree (tree_of e) no_trees)
one_beside [] e n is at = absurd (omega arith)
one_beside (x ∷ []) e n is at = absurd (omega arith)
one_beside (x ∷ y ∷ []) e n is at = empty_is (tree_of x) (tree_of y) (sym (is_beside (tree_of x) (tree_of y)) ∙ is) ∙ ap (λ (z : Expr). tree empty (tree (tree_of z) no_trees)) (sym at)
one_beside (x ∷ y ∷ z ∷ es) e n is at = absurd (omega arith)

pub two_members : (es fs : List Expr) (e : Expr) → es ≡ fs → length fs ≡ 2 → is_optional (trees_in fs) ≡ true → e ≡ get_or es 1 e → trees_in fs ≡ tree empty (tree (tree_of e) no_trees)
two_members es fs e same n is at = one_beside fs e n is (at ∙ ap (λ (l : List Expr). get_or l 1 e) same)

pub first_empty : (es : List Expr) (e : Expr) → length es ≡ 2 → e ≡ get_or es 0 e → is_empty (tree_of e) ≡ is_optional (trees_in es)
first_empty [] e n at = absurd (omega arith)
first_empty (x ∷ []) e n at = absurd (omega arith)
first_empty (x ∷ y ∷ []) e n at = ap (λ (z : Expr). is_empty (tree_of z)) at ∙ sym (is_beside (tree_of x) (tree_of y))
first_empty (x ∷ y ∷ z ∷ es) e n at = absurd (omega arith)

-- of another number of members
pub not_optional : (es : List Expr) → (length es ≡ 2 → ⊥) → is_optional (trees_in es) ≡ false
not_optional [] n = refl
not_optional (x ∷ []) n = alone (tree_of x)
  where
    alone : (a : Tree) → is_optional (tree a no_trees) ≡ false
    alone empty = refl
    alone (leaf c) = refl
    alone (all_of ts) = refl
    alone (one_of ts) = refl
    alone (priced t cost) = refl
not_optional (x ∷ y ∷ []) n = absurd (n refl)
not_optional (x ∷ y ∷ z ∷ es) n = many (tree_of x)
  where
    many : (a : Tree) → is_optional (tree a (tree (tree_of y) (tree (tree_of z) (trees_in es)))) ≡ false
    many empty = refl
    many (leaf c) = refl
    many (all_of ts) = refl
    many (one_of ts) = refl
    many (priced t cost) = refl

-- ---- members

-- each behind the text that stands between two
abbrev pub rest_spelled : Spot → List ℕ → Trees → List ℕ
rest_spelled at between no_trees = []
rest_spelled at between (tree t ts) = between ++ (spelled at t ++ rest_spelled at between ts)

pub members_first : (at : Spot) (between : List ℕ) (t : Tree) (ts : Trees) → members_spelled at between (tree t ts) ≡ spelled at t ++ rest_spelled at between ts
members_first at between t no_trees = sym (append-nil (spelled at t))
members_first at between t (tree u us) = ap (λ (l : List ℕ). spelled at t ++ (between ++ l)) (members_first at between u us)

-- ---- what is appended

-- three pieces are appended, one after another
pub three_pieces : {T E : Type 0} (r : Result T E) (o0 o1 o2 o3 a x b whole : List ℕ) → o1 ≡ o0 ++ a → o2 ≡ o1 ++ x → OnOk r (o3 ≡ o2 ++ b) → whole ≡ a ++ (x ++ b) → OnOk r (o3 ≡ o0 ++ whole)
three_pieces (Ok v) o0 o1 o2 o3 a x b whole first second third is =
    third ∙ ap (λ (l : List ℕ). l ++ b) (second ∙ ap (λ (l : List ℕ). l ++ x) first) ∙ append_assoc (o0 ++ a) x b ∙ append_assoc o0 a (x ++ b) ∙ ap (λ (l : List ℕ). o0 ++ l) (sym is)
three_pieces (Err e) o0 o1 o2 o3 a x b whole first second third is = tt

-- a list of members by its first one
pub first_written : (at : Spot) (between o0 o1 : List ℕ) (es : List Expr) (first : Expr) (rest : List Expr) → es ≡ first ∷ rest → o1 ≡ o0 ++ spelled at (tree_of first)
    → o1 ++ rest_spelled at between (trees_in rest) ≡ o0 ++ members_spelled at between (trees_in es)
first_written at between o0 o1 es first rest is one =
    ap (λ (l : List ℕ). l ++ rest_spelled at between (trees_in rest)) one ∙ append_assoc o0 (spelled at (tree_of first)) (rest_spelled at between (trees_in rest))
    ∙ ap (λ (l : List ℕ). o0 ++ l) (sym (members_first at between (tree_of first) (trees_in rest))) ∙ ap (λ (l : List Expr). o0 ++ members_spelled at between (trees_in l)) (sym is)

-- one more of so many bytes
pub one_repeated : (old new whole : List ℕ) (b k n : ℕ) → k < n → new ≡ old ++ b ∷ [] → old ++ replicate (n - k) b ≡ whole → new ++ replicate (n - (k + 1)) b ≡ whole
one_repeated old new whole b k n less pushed is =
    let count : n - k ≡ suc (n - (k + 1)) = omega arith in
    ap (λ (l : List ℕ). l ++ replicate (n - (k + 1)) b) pushed ∙ append_assoc old (b ∷ []) (replicate (n - (k + 1)) b) ∙ ap (λ (m : ℕ). old ++ replicate m b) (sym count) ∙ is
