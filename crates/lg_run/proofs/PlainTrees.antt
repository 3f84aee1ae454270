-- No connector of a formula has a line feed: none of an expression with its macros put in, and none of a choice.
use Rattle.std.proofs.Common.{◌≡◌, ℕ, List, Option, Some, None, refl}
use Rattle.std.specs.List.{AllByRecursion}
use Rattle.lg_gram.specs.Connectors.{Connector, connector_text}
use Rattle.lg_gram.specs.Filled.{Formulas, put_in, filled, filled_in}
use Rattle.lg_gram.specs.Measures.{Choice, choices_of}
use Rattle.lg_gram.specs.RawTrees.{RawTree, RawTrees, raw_empty, raw_leaf, named, raw_all, raw_one, raw_priced, no_raw_trees, raw_tree}
use Rattle.lg_gram.specs.Trees.{Tree, Trees, empty, leaf, all_of, one_of, priced, no_trees, tree}
use Rattle.lg_expr.proofs.AllOf.{all_left, all_right}
use Rattle.lg_script.specs.SingleLines.{IsSingleLine, connector_texts, texts_in}
use Rattle.lg_run.specs.PlainInputs.{IsPlainTree, ArePlainTrees}
use Rattle.lg_run.proofs.LeafChoices.{OfTree, OfTrees, of_choices}

-- what macros stand for
abbrev pub ArePlainFormulas : Formulas → Type 0
ArePlainFormulas formulas = (name : List ℕ) (m : Tree × ℕ) → formulas name ≡ Some m → IsPlainTree m.0

module _ (formulas : Formulas) (each : ArePlainFormulas formulas) where
  put_plain : (name : List ℕ) (o : Option (Tree × ℕ)) → formulas name ≡ o → IsPlainTree (put_in o)
  put_plain name None is = tt
  put_plain name (Some m) is = each name m is

  mutual
    pub filled_plain : (t : RawTree) → AllByRecursion IsSingleLine (connector_texts t) → IsPlainTree (filled formulas t)
    filled_plain raw_empty h = tt
    filled_plain (raw_leaf c) h = h.0
    filled_plain (named name depth) h = put_plain name (formulas name) refl
    filled_plain (raw_all ts) h = all_filled ts h
    filled_plain (raw_one ts) h = all_filled ts h
    filled_plain (raw_priced t price) h = filled_plain t h

    all_filled : (ts : RawTrees) → AllByRecursion IsSingleLine (texts_in ts) → ArePlainTrees (filled_in formulas ts)
    all_filled no_raw_trees h = tt
    all_filled (raw_tree t ts) h = (filled_plain t (all_left IsSingleLine (connector_texts t) (texts_in ts) h), all_filled ts (all_right IsSingleLine (connector_texts t) (texts_in ts) h))

-- ---- choices

abbrev pub ArePlainConnectors : List Connector → Type 0
ArePlainConnectors cs = AllByRecursion (λ (c : Connector). IsSingleLine (connector_text c)) cs

abbrev pub IsPlainChoice : Choice → Type 0
IsPlainChoice c = ArePlainConnectors c.left × ArePlainConnectors c.right

mutual
  plain_leaves : (t : Tree) → IsPlainTree t → OfTree (λ (c : Connector). IsSingleLine (connector_text c)) t
  plain_leaves empty h = tt
  plain_leaves (leaf c) h = h
  plain_leaves (all_of ts) h = all_leaves ts h
  plain_leaves (one_of ts) h = all_leaves ts h
  plain_leaves (priced t price) h = plain_leaves t h

  all_leaves : (ts : Trees) → ArePlainTrees ts → OfTrees (λ (c : Connector). IsSingleLine (connector_text c)) ts
  all_leaves no_trees h = tt
  all_leaves (tree t ts) h = (plain_leaves t h.0, all_leaves ts h.1)

pub choices_plain : (t : Tree) → IsPlainTree t → AllByRecursion IsPlainChoice (choices_of t)
choices_plain t h = of_choices (λ (c : Connector). IsSingleLine (connector_text c)) t (plain_leaves t h)
