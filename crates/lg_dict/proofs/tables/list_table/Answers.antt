use Rattle.std.proofs.Common.{◌<◌, ℕ, Vec, Global, length, filter, take_all, arith, ap, ◌∙◌}
use Rattle.std.proofs.lemmas.List.{length-map}
use Rattle.lg_dict.specs.Tables.{text_keys, is_under}
use Rattle.lg_dict.proofs.Lookups.{listed-more}
use Rattle.lg_dict.proofs.tables.list_table.Goals as goal

pub loop-number-preserved : goal.loop-number-preserved
loop-number-preserved c = λ text.
    let words = text_keys c.args.words.now in
    let count = length-map c.args.words.now.entries (λ (e : Vec ℕ Global × ℕ). e.0.items) in
    let within : c.loop-number.number < length words = omega (arith, count, c.len-number-end.ensures.len) in
    listed-more c.args.by words text c.loop-number.number c.loop-number.lists c.list_word.new.lists c.word_at.result.now within c.word_at.ensures (c.in_ok-list_word.ensures text) (c.loop-number.invariant text)

-- all words were seen
pub returns : goal.returns
returns c = λ text.
    let words = text_keys c.args.words.now in
    let count = length-map c.args.words.now.entries (λ (e : Vec ℕ Global × ℕ). e.0.items) in
    c.loop-number.invariant text ∙ ap (filter (λ word. is_under c.args.by text word)) (take_all c.loop-number.number words (omega (arith, count, c.len-number-end.ensures.len)))
