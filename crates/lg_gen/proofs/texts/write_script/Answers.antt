use Rattle.std.proofs.Common.{◌++◌, ◌<◌, ◌-◌, ◌+◌, ℕ, ap, ◌∙◌, rules}
use Rattle.lg_gen.specs.Made.{sentence_lines}
use Rattle.lg_gen.proofs.Steps.{piece_more, sentence_left}
use Rattle.lg_gen.proofs.texts.write_script.Goals as goal

pub loop-preserved : goal.loop-preserved
loop-preserved c =
    let more : c.loop.counter < c.args.sentences = search rules in
    ap (λ (s : ℕ). c.write_sentence.new.out.items ++ sentence_lines c.args.words (c.args.sentences - (c.loop.counter + 1)) s) c.in_ok-write_sentence.ensures.state
    ∙ piece_more _ _ _ _ _ _ c.in_ok-write_sentence.ensures.text (sentence_left _ _ _ _ more) c.loop.invariant
