use Rattle.std.proofs.Common.{◌≡◌, ◌++◌, map}
use Rattle.std.specs.List.{IsDistinct}
use Rattle.std.specs.Vec.Iter.{into_iter_items}
use Rattle.lg_dict.specs.Tables.{text_entries, text_keys, same_text}
use Rattle.lg_dict.proofs.tables.add_names.Given as goal

-- the names that are left make of the table what all of them make of it
abbrev pub invariant-loop-name : goal.invariant-loop-name
invariant-loop-name g l = record {
  apart : IsDistinct same_text (text_keys l.table ++ into_iter_items l.name-iterator);
  named : text_entries l.table ++ map (λ name. (name, l.value)) (into_iter_items l.name-iterator) ≡ text_entries l.initial.table ++ map (λ name. (name, l.value)) l.fn.names;
}
