use Rattle.std.proofs.Common.{◌≡◌, ◌++◌, take}
use Rattle.std.specs.List.{flat_map}
use Rattle.lg_export.specs.Exports.{line_of_macro}
use Rattle.lg_export.proofs.text.write_macros.Given as goal

abbrev pub invariant-loop-name : goal.invariant-loop-name
invariant-loop-name l = l.out.items ≡ l.initial.out.items ++ flat_map (line_of_macro l.view) (take l.name-index l.names)
