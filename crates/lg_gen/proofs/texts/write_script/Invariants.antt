use Rattle.std.proofs.Common.{◌≡◌, ◌++◌, ◌-◌}
use Rattle.lg_gen.specs.Made.{sentence_lines, made_script}
use Rattle.lg_gen.proofs.texts.write_script.Given as goal

-- the sentences that are left give the rest
abbrev pub invariant-loop : goal.invariant-loop
invariant-loop l = l.out.items ++ sentence_lines l.words (l.sentences - l.counter) l.draws.state ≡ l.fn.out.items ++ made_script l.seed l.words l.sentences
