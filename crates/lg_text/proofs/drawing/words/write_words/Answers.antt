use Rattle.std.proofs.Common.{◌≡◌, ◌+◌, ◌++◌, ◌∷◌, [], map, OnOk, get_or, replicate, append_assoc, subst, sym, ap, ◌∙◌, arith}
use Rattle.std.specs.List.{zip}
use Rattle.lg_text.specs.Diagrams.{cell, cells_line, width}
use Rattle.lg_text.proofs.Columns.{length-cells, cell_at, words_more, words_end}
use Rattle.lg_text.proofs.drawing.words.write_words.Goals as goal

-- one more word is written
pub loop-i-preserved : goal.loop-i-preserved
loop-i-preserved c =
    let tokens = c.args.tokens.now in
    let choices = c.args.choices.now in
    let texts = map cell (zip tokens choices) in
    let starts = c.args.starts.now in
    let i = c.loop-i.i in
    let within = c.loop-i-test.true in
    let long = length-cells tokens choices c.requires.choices in
    let same = c.requires.starts in
    let text : cell (c.index-tokens-i.result, c.index-choices-i.result) ≡ get_or texts i [] =
    (λ t. cell (c.index-tokens-i.is t, c.index-choices-i.is t)) ∙ sym (cell_at tokens choices c.requires.choices i c.index-tokens-i.result c.index-choices-i.result within) in
    let again : cell (c.index-tokens-i-in-loop-i.result, c.index-choices-i-in-loop-i.result) ≡ get_or texts i [] =
    (λ t. cell (c.index-tokens-i-in-loop-i.is t, c.index-choices-i-in-loop-i.is t)) ∙ sym (cell_at tokens choices c.requires.choices i c.index-tokens-i-in-loop-i.result c.index-choices-i-in-loop-i.result within) in
    words_more texts starts i c.loop-i.at c.in_ok-at.at (cell (c.index-tokens-i.result, c.index-choices-i.result)) _ _ _ _ (omega arith) (omega arith) text
    (c.in_ok-at.ensures ∙ ap (λ n. get_or starts i 0 + n) (c.in_ok-cell_width.ensures ∙ ap width again))
    (c.in_ok-write_spaces.ensures ∙ ap (λ n. c.loop-i.out.items ++ replicate n 32) c.saturating_sub.ensures) c.in_ok-write_cell.ensures c.loop-i.invariant

pub returns : goal.returns
returns c =
    let texts = map cell (zip c.args.tokens.now c.args.choices.now) in
    let long = length-cells c.args.tokens.now c.args.choices.now c.requires.choices in
    let all = words_end texts c.args.starts.now c.loop-i.i c.loop-i.at _ _ (let past = c.loop-i-test.false in omega arith) c.loop-i.invariant in
    subst (λ text. OnOk c.write_bytes.result (c.write_bytes.new.out.items ≡ text))
    (ap (λ text. text ++ 10 ∷ []) all ∙ append_assoc c.args.out.now.items (cells_line 0 texts c.args.starts.now) (10 ∷ []))
    c.write_bytes.ensures.ok
