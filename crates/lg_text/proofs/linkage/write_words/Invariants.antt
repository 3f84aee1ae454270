use Rattle.std.proofs.Common.{◌≡◌, ◌++◌}
use Rattle.std.specs.List.{flat_map}
use Rattle.lg_text.specs.Texts.{word_line}
use Rattle.lg_text.proofs.linkage.write_words.Given as goal

-- the lines of the words so far are written
abbrev pub invariant-loop-position : goal.invariant-loop-position
invariant-loop-position l = l.out.items ≡ l.initial.out.items ++ flat_map (λ word. word_line (word.0, (word.1.0.now, word.1.1.now))) l.yielded
