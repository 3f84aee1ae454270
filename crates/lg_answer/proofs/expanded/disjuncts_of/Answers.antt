use Rattle.lg_answer.proofs.Made.{apart_listed, made_rising, made_sorted}
use Rattle.lg_answer.proofs.expanded.disjuncts_of.Goals as goal

pub in_order-requires : goal.in_order-requires
in_order-requires c = apart_listed c.args.words.now c.in_ok-all.all.items c.requires c.in_ok-all.ensures.all

pub returns-then-words_rise : goal.returns-then-words_rise
returns-then-words_rise c =
    let rise = c.in_ok-all.ensures.rise (c.words_rise.ensures c.if-words_rise.true) in
    rw c.of.ensures (made_rising c.args.words.now c.in_ok-all.all.items rise c.in_ok-all.ensures.all)

pub returns : goal.returns
returns c =
    let kept = c.in_ok-kept.ensures in
    rw c.of-2.ensures (made_sorted c.args.words.now c.in_ok-all.all.items c.in_ok-kept.kept.items c.in_ok-all.ensures.all kept.rise kept.same)
