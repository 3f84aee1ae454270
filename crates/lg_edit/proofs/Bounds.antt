-- An entry within its bounds keeps to its level with its macros put in.
use Rattle.std.proofs.Common.{◌≡◌, ℕ, ◌+◌, ◌*◌, ◌≤◌, List, [], ◌∷◌, ◌++◌, map, true, ◌&&◌, Option, Some, None, IfSome, All, refl, arith}
use Rattle.std.proofs.lemmas.Bool.{and_parts}
use Rattle.std.proofs.lemmas.List.Elements.{All-tail}
use Rattle.lg_gram.specs.EntryBounds.{bare, ReferencesLie, ReferencesLieIn, IsEntryInBounds}
use Rattle.lg_gram.specs.Filled.{Formulas, put_in, filled, filled_in, level_within, level_reached, highest, filled_level}
use Rattle.lg_gram.specs.Fits.{Fits, AllFit, FilledFits}
use Rattle.lg_gram.specs.Formulas.{IsFormula, is_small_price, prices_are_small, prices_in_are_small}
use Rattle.lg_gram.specs.Limits.{LEVEL}
use Rattle.lg_gram.specs.Measured.{IsSmall}
use Rattle.lg_gram.specs.Measures.{depth_of, depth_in}
use Rattle.lg_gram.specs.RawTrees.{RawTree, RawTrees, raw_empty, raw_leaf, named, raw_all, raw_one, raw_priced, no_raw_trees, raw_tree, macros_of, macros_in}
use Rattle.lg_gram.specs.Trees.{Tree}
use Rattle.lg_gram.specs.EntryViews.{EntryView}

module _ (formulas : Formulas) (all_fit : AllFit formulas) where
  -- ---- levels that the references reach

  abbrev reached : List (List ℕ × ℕ) → ℕ
  reached references = highest (map (level_reached formulas) references)

  reached_left : (xs ys : List (List ℕ × ℕ)) (bound : ℕ) → reached (xs ++ ys) ≤ bound → reached xs ≤ bound
  reached_left [] ys bound h = omega arith
  reached_left (x ∷ xs) ys bound h = let rest = reached_left xs ys bound (omega arith) in omega arith

  reached_right : (xs ys : List (List ℕ × ℕ)) (bound : ℕ) → reached (xs ++ ys) ≤ bound → reached ys ≤ bound
  reached_right [] ys bound h = h
  reached_right (x ∷ xs) ys bound h = reached_right xs ys bound (omega arith)

  macro_low : (found : Option (Tree × ℕ)) → IfSome found (λ m. Fits m.1 m.0) → level_within found ≤ LEVEL
  macro_low None h = omega arith
  macro_low (Some m) h = h.level_fits.few

  reached_low : (level : ℕ) (ms : List (List ℕ × ℕ)) → All (λ m. m.1 ≤ level) ms → reached ms ≤ level + 1 + LEVEL
  reached_low level [] h = omega arith
  reached_low level (m ∷ ms) h =
      let rest = reached_low level ms (All-tail (λ m. m.1 ≤ level) m ms h) in
      let here : m.1 ≤ level = h 0 m (omega arith) in
      let low = macro_low (formulas m.0) (all_fit m.0) in
      omega arith

  -- the count of brackets does not stop
  pub level_low : (e : EntryView) → IsEntryInBounds e → filled_level formulas e.level e.expr ≤ 2 * LEVEL + 1
  level_low e bounds =
      let rest = reached_low e.level (macros_of e.expr) bounds.brackets in
      let low = bounds.level in
      omega arith

  -- ---- depths

  put_shallow : (found : Option (Tree × ℕ)) (depth above bound : ℕ) → IfSome found (λ m. Fits m.1 m.0) → above ≤ 3 * depth + 2 → depth + 1 + level_within found ≤ bound
      → depth_of (put_in found) + above ≤ 3 * bound + 2
  put_shallow None depth above bound h lies low = omega arith
  put_shallow (Some m) depth above bound h lies low = let deep = h.level_fits.depth in omega arith

  mutual
    shallow : (t : RawTree) (above level bound : ℕ) → level ≤ bound → depth_of (bare t) + above ≤ 3 * level + 2 → ReferencesLie above t → reached (macros_of t) ≤ bound
        → depth_of (filled formulas t) + above ≤ 3 * bound + 2
    shallow raw_empty above level bound low h lie r = omega arith
    shallow (raw_leaf c) above level bound low h lie r = omega arith
    shallow (named name depth) above level bound low h lie r = put_shallow (formulas name) depth above bound (all_fit name) lie (omega arith)
    shallow (raw_all ts) above level bound low h lie r = shallow_in ts above level bound low h lie r
    shallow (raw_one ts) above level bound low h lie r = shallow_in ts above level bound low h lie r
    shallow (raw_priced t price) above level bound low h lie r = let inside = shallow t (above + 1) level bound low (omega arith) lie r in omega arith

    shallow_in : (ts : RawTrees) (above level bound : ℕ) → level ≤ bound → depth_in (filled_in (λ name. None) ts) + above ≤ 3 * level + 2 → ReferencesLieIn (above + 1) ts → reached (macros_in ts) ≤ bound
        → depth_in (filled_in formulas ts) + above ≤ 3 * bound + 2
    shallow_in no_raw_trees above level bound low h lie r = omega arith
    shallow_in (raw_tree t ts) above level bound low h lie r =
        let here = shallow t (above + 1) level bound low (omega arith) lie.0 (reached_left (macros_of t) (macros_in ts) bound r) in
        let rest = shallow_in ts above level bound low (omega arith) lie.1 (reached_right (macros_of t) (macros_in ts) bound r) in
        omega arith

  -- ---- costs

  put_small : (found : Option (Tree × ℕ)) → IfSome found (λ m. Fits m.1 m.0) → prices_are_small (put_in found) ≡ true
  put_small None h = refl
  put_small (Some m) h = h.prices

  mutual
    small : (t : RawTree) → prices_are_small (bare t) ≡ true → prices_are_small (filled formulas t) ≡ true
    small raw_empty h = refl
    small (raw_leaf c) h = refl
    small (named name depth) h = put_small (formulas name) (all_fit name)
    small (raw_all ts) h = small_in ts h
    small (raw_one ts) h = small_in ts h
    small (raw_priced t price) h =
        let parts = and_parts (is_small_price price) (prices_are_small (bare t)) h in
        (λ i. parts.0 i && small t parts.1 i)

    small_in : (ts : RawTrees) → prices_in_are_small (filled_in (λ name. None) ts) ≡ true → prices_in_are_small (filled_in formulas ts) ≡ true
    small_in no_raw_trees h = refl
    small_in (raw_tree t ts) h =
        let parts = and_parts (prices_are_small (bare t)) (prices_in_are_small (filled_in (λ name. None) ts)) h in
        (λ i. small t parts.0 i && small_in ts parts.1 i)

  -- ---- the entry

  pub entry_fits : (e : EntryView) → IsEntryInBounds e → filled_level formulas e.level e.expr ≤ LEVEL → FilledFits formulas e.level e.expr
  entry_fits e bounds few =
      let t = e.expr in
      let bare_depth = bounds.leaves in
      let deep = shallow t 0 e.level (filled_level formulas e.level t) (omega arith) (omega arith) bounds.named (omega arith) in
      record { level_fits = record { few = few; depth = omega arith }; prices = small t bounds.prices }

-- a formula that is within the measures and keeps to its level is within the limits
pub formula_within : (level : ℕ) (t : Tree) → IsSmall t → Fits level t → IsFormula t
formula_within level t is fits =
    let side = is.side in
    let few = fits.level_fits.few in
    let deep = fits.level_fits.depth in
    record { nodes = is.nodes; choices = is.choices; left_side = omega arith; right_side = omega arith; depth = omega arith; prices = fits.prices }
