use Rattle.std.proofs.Common.{sym, ◌∙◌, arith}
use Rattle.std.proofs.lemmas.List.{get_or_default}
use Rattle.std.proofs.lemmas.Cmp.{nat_list_cmp_total, on_total}
use Rattle.lg_answer.specs.Steps.{word_cmp}
use Rattle.lg_gram.proofs.Lists.{adjacent_more, rising_from}
use Rattle.lg_answer.proofs.expanded.words_rise.Goals as goal

pub loop-i-preserved : goal.loop-i-preserved
loop-i-preserved c =
    let first = c.index-words-i.result in
    let second = c.index-words-i-in-loop-i.is ∙ get_or_default c.args.words.now c.loop-i.i c.index-words-i-in-loop-i.result first (omega arith) in
    adjacent_more word_cmp c.args.words.now c.loop-i.i first (omega arith) (omega arith) c.loop-i.invariant
    (sym (λ j. word_cmp (c.index-words-i.is j) (second j)) ∙ c.is_before.ensures.0 c.if-not-is_before.false)

pub returns : goal.returns
returns c h = rising_from (on_total (λ w. w.word) nat_list_cmp_total) c.args.words.now (λ k d less. c.loop-i.invariant k d (omega arith))
