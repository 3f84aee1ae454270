use Rattle.std.proofs.Common.{◌≡◌, ◌++◌, ◌-◌}
use Rattle.std.specs.List.{flat_map, range_with_len}
use Rattle.lg_gen.specs.Made.{entry_line, made_dictionary}
use Rattle.lg_gen.proofs.texts.write_dictionary.Given as goal

-- the words that are left give the rest
abbrev pub invariant-loop-number : goal.invariant-loop-number
invariant-loop-number l = l.out.items ++ flat_map entry_line (range_with_len l.number (l.words - l.number)) ≡ l.fn.out.items ++ made_dictionary l.words
