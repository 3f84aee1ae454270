-- What contracts see of an entry as it is written: where its expression lies in memory is no part of it.
use Rattle.std.specs.Prelude.{ℕ, List}
use Rattle.lg_gram.specs.RawTrees.{RawTree, raw_tree_of}
use Rattle.lg_gram.specs.declared.entry.Item.{Item}
use Rattle.lg_gram.specs.declared.entry.RawEntry.{RawEntry}

-- its items, its expression, the greatest number of brackets open at once, and the line of its first item
pub record EntryView : Type 0 where
  pub items : List Item
  pub expr : RawTree
  pub level : ℕ
  pub line : ℕ

abbrev pub entry_view : RawEntry → EntryView
entry_view e = record { items = e.items; expr = raw_tree_of e.expr; level = e.level; line = e.line }
