use Rattle.std.proofs.Common.{length, ap, sym, ◌∙◌}
use Rattle.lg_idiom.proofs.Added.{adds_if, all_within}
use Rattle.lg_idiom.proofs.Chains.{told_apart, taken_within}
use Rattle.lg_idiom.proofs.sentence.idioms.Goals as goal

pub by_word-requires : goal.by_word-requires
by_word-requires c = told_apart c.args.view.now c.items.result.now c.in_ok-taken.taken.items c.in_ok-taken.ensures

pub positions_of-requires : goal.positions_of-requires
positions_of-requires c =
    all_within c.in_ok-taken.taken.items c.in_ok-chains.chains.items c.deref.result.now _ _ c.in_ok-chains.ensures.same c.deref.ensures.value (ap length (c.items.ensures ∙ sym c.items-2.ensures))
    (taken_within c.args.view.now c.items.result.now c.in_ok-taken.taken.items c.in_ok-taken.ensures)

pub returns : goal.returns
returns c =
    adds_if c.args.view.now c.items.result.now c.args.tokens.now c.in_ok-taken.taken.items c.in_ok-chains.chains.items _ _ c.positions_of.result c.items.ensures c.deref.ensures.value (ap length c.items-2.ensures)
    c.in_ok-taken.ensures c.in_ok-chains.ensures.rise c.in_ok-chains.ensures.same c.positions_of.ensures
