use Rattle.std.proofs.Common.{◌++◌, ◌-◌, ◌+◌, ◌≤◌, ◌<◌, ℕ, rules, ap, sym, ◌∙◌}
use Rattle.lg_gen.specs.Made.{drawn_words, after}
use Rattle.lg_gen.proofs.Steps.{piece_more, nothing_more, draw_left, no_draw_left, after_left, none_after}
use Rattle.lg_gen.proofs.texts.write_drawn.Goals as goal

pub loop-preserved : goal.loop-preserved
loop-preserved c =
    let more : c.loop.counter < c.args.count = search rules in
    let one = c.in_ok-write_one_drawn.ensures in
    record {
      text = ap (λ (s : ℕ). c.write_one_drawn.new.out.items ++ drawn_words c.args.words (c.args.count - (c.loop.counter + 1)) s) one.state
          ∙ piece_more _ _ _ _ _ _ one.text (draw_left _ _ _ _ more) c.loop.invariant.text;
      state = ap (λ (s : ℕ). after (c.args.count - (c.loop.counter + 1)) s) one.state ∙ sym (after_left _ _ _ more) ∙ c.loop.invariant.state;
    }

pub returns-clause-text : goal.returns-clause-text
returns-clause-text c =
    let all : c.args.count ≤ c.loop.counter = search rules in
    nothing_more _ _ _ (no_draw_left _ _ _ _ all) c.loop.invariant.text

pub returns-clause-state : goal.returns-clause-state
returns-clause-state c =
    let all : c.args.count ≤ c.loop.counter = search rules in
    sym (none_after _ _ _ all) ∙ c.loop.invariant.state
