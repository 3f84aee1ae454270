-- A loop over the members of an expression.
use Rattle.std.proofs.Common.{◌≡◌, ◌∙◌, ℕ, suc, ◌+◌, ◌<◌, ◌≤◌, refl, sym, ap, Bool, false, not, ◌==◌, true≢false, Option, Some, None, List, [], ◌∷◌, ◌++◌, length, get_or, drop, map, arith}
use Rattle.std.specs.Option.{option_map}
use Rattle.std.proofs.lemmas.Bool.{ne_eqb}
use Rattle.std.proofs.lemmas.List.{drop_more, drop_all, map-append}
use Rattle.lg_gram.specs.Connectors.{Connector}
use Rattle.lg_gram.specs.declared.expr.Expr.{Expr}
use Rattle.lg_gram.specs.Trees.{Tree, Trees, one_of, tree, tree_of, trees_in}
use Rattle.lg_eprune.specs.Cuts.{any_of, both, in_front, cut, cut_all, cut_any, has_member}
use Rattle.lg_eprune.proofs.Joined.{before, before_push, before_none, all_push}

pub next : (es : List Expr) (i : ℕ) (e : Expr) → i < length es → e ≡ get_or es i e → trees_in (drop i es) ≡ tree (tree_of e) (trees_in (drop (i + 1) es))
next es i e within read = ap trees_in (drop_more es i e within) ∙ ap (λ x. tree (tree_of x) (trees_in (drop (i + 1) es))) (sym read)

pushed : (kept : List Expr) (left : Expr) → map tree_of (kept ++ left ∷ []) ≡ map tree_of kept ++ tree_of left ∷ []
pushed kept left = map-append tree_of kept (left ∷ [])

module _ (test : Connector → Bool) (es : List Expr) (i : ℕ) (e : Expr) (within : i < length es) (read : e ≡ get_or es i e) (kept : List Expr) where
  pub all_more : (left : Expr) → ◌≡◌ {A = Option Tree} (Some (tree_of left)) (cut test (tree_of e))
      → option_map (before (map tree_of (kept ++ left ∷ []))) (cut_all test (trees_in (drop (i + 1) es))) ≡ option_map (before (map tree_of kept)) (cut_all test (trees_in (drop i es)))
  all_more left is =
      ap (λ ts. option_map (before ts) (cut_all test (trees_in (drop (i + 1) es)))) (pushed kept left)
      ∙ all_push (map tree_of kept) (tree_of left) (cut_all test (trees_in (drop (i + 1) es)))
      ∙ ap (λ o. option_map (before (map tree_of kept)) (both o (cut_all test (trees_in (drop (i + 1) es))))) is
      ∙ ap (λ ts. option_map (before (map tree_of kept)) (cut_all test ts)) (sym (next es i e within read))

  pub all_none : ◌≡◌ {A = Option Tree} None (cut test (tree_of e)) → ◌≡◌ {A = Option Trees} None (option_map (before (map tree_of kept)) (cut_all test (trees_in (drop i es))))
  all_none is =
      ap (λ o. option_map (before (map tree_of kept)) (both o (cut_all test (trees_in (drop (i + 1) es))))) is
      ∙ ap (λ ts. option_map (before (map tree_of kept)) (cut_all test ts)) (sym (next es i e within read))

  pub any_more : (left : Expr) → ◌≡◌ {A = Option Tree} (Some (tree_of left)) (cut test (tree_of e))
      → before (map tree_of (kept ++ left ∷ [])) (cut_any test (trees_in (drop (i + 1) es))) ≡ before (map tree_of kept) (cut_any test (trees_in (drop i es)))
  any_more left is =
      ap (λ ts. before ts (cut_any test (trees_in (drop (i + 1) es)))) (pushed kept left)
      ∙ before_push (map tree_of kept) (tree_of left) (cut_any test (trees_in (drop (i + 1) es)))
      ∙ ap (λ o. before (map tree_of kept) (in_front o (cut_any test (trees_in (drop (i + 1) es))))) is
      ∙ ap (λ ts. before (map tree_of kept) (cut_any test ts)) (sym (next es i e within read))

pub all_done : (test : Connector → Bool) (es kept : List Expr) (i : ℕ) → length es ≤ i
    → ◌≡◌ {A = Option Trees} (Some (trees_in kept)) (option_map (before (map tree_of kept)) (cut_all test (trees_in (drop i es))))
all_done test es kept i past =
    ap Some (sym (before_none (map tree_of kept))) ∙ ap (λ xs. option_map (before (map tree_of kept)) (cut_all test (trees_in xs))) (sym (drop_all i es past))

pub any_done : (test : Connector → Bool) (es kept : List Expr) (i : ℕ) → length es ≤ i → trees_in kept ≡ before (map tree_of kept) (cut_any test (trees_in (drop i es)))
any_done test es kept i past =
    sym (before_none (map tree_of kept)) ∙ ap (λ xs. before (map tree_of kept) (cut_any test (trees_in xs))) (sym (drop_all i es past))

-- whether there is a member
pub has_by : (es : List Expr) (b : Bool) → b ≡ (length es == 0) → not b ≡ has_member (trees_in es)
has_by [] b is = ap not is
has_by (e ∷ es) b is = ap not (is ∙ ne_eqb (suc (length es)) 0 (λ same. omega (arith, same)))

pub any_some : (es : List Expr) (b : Bool) → b ≡ (length es == 0) → b ≡ false → ◌≡◌ {A = Option Tree} (Some (one_of (trees_in es))) (any_of (trees_in es))
any_some [] b is no_member = absurd (true≢false (sym is ∙ no_member))
any_some (e ∷ es) b is some = refl
