use Rattle.std.proofs.Common.{◌≡◌, ◌++◌, ◌-◌}
use Rattle.lg_gen.specs.Made.{drawn_words, after}
use Rattle.lg_gen.proofs.texts.write_drawn.Given as goal

-- the words that are left give the rest
abbrev pub invariant-loop : goal.invariant-loop
invariant-loop l = record {
  text : l.out.items ++ drawn_words l.words (l.count - l.counter) l.draws.state ≡ l.fn.out.items ++ drawn_words l.words l.count l.fn.draws.state;
  state : after (l.count - l.counter) l.draws.state ≡ after l.count l.fn.draws.state;
}
