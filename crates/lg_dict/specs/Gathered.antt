-- What entries come to, once they are taken apart.
use Rattle.std.specs.Prelude.{◌≡◌, ◌<◌, ℕ, List, length, map, All}
use Rattle.std.specs.declared.vec.Vec.{Vec}
use Rattle.indexmap.specs.IndexMap.{IndexMap, values}
use Rattle.lg_gram.specs.declared.entry.Entry.{Entry}
use Rattle.lg_gram.specs.declared.expr.Expr.{Expr}
use Rattle.lg_dict.specs.Dictionary.{words_with_formulas, macros_with_formulas}
use Rattle.lg_dict.specs.Tables.{text_entries, with_trees, with_macros, IsMacro}
use Rattle.lg_dict.specs.declared.tables.Macro.{Macro}

-- The formulas of the entries in their order, and by their numbers each word with its formula, and each macro with its formula and its level.
pub record AreGathered {A S : Type 0} (entries : List Entry) (formulas : List Expr) (words : IndexMap (Vec ℕ A) ℕ S) (macros : IndexMap (Vec ℕ A) Macro S) : Type 0 where
  pub formulas_are : formulas ≡ map (λ e. e.formula) entries
  pub words_are : with_trees formulas (text_entries words) ≡ words_with_formulas entries
  pub within : All (λ number. number < length formulas) (values words)
  pub macros_are : with_macros formulas (text_entries macros) ≡ macros_with_formulas entries
  pub fit : All (IsMacro formulas) (values macros)
