use Rattle.std.proofs.Common.{sym, subst}
use Rattle.lg_idiom.specs.Idioms.{AreFitting}
use Rattle.lg_idiom.specs.Sentences.{AreTakenOf}
use Rattle.lg_idiom.proofs.Chains.{fitting_placed, none_before, more_taken, at_end}
use Rattle.lg_idiom.proofs.sentence.taken_of.Goals as goal

pub loop-start-init : goal.loop-start-init
loop-start-init c = none_before c.args.view.now c.args.tokens.now c.new-taken.result c.new-taken.ensures

pub take_words-requires : goal.take_words-requires
take_words-requires c =
    let fit = subst (AreFitting c.args.view.now c.args.tokens.now c.loop-start.start) (sym c.items.ensures) c.in_ok-words.ensures in
    fitting_placed c.args.view.now c.args.tokens.now c.requires c.loop-start.start c.items.result.now fit

pub loop-start-preserved : goal.loop-start-preserved
loop-start-preserved c =
    let fit = subst (AreFitting c.args.view.now c.args.tokens.now c.loop-start.start) (sym c.items.ensures) c.in_ok-words.ensures in
    more_taken c.args.view.now c.args.tokens.now c.loop-start.start c.items.result.now fit c.loop-start.taken c.take_words.new.self c.in_ok-take_words.ensures c.loop-start.invariant

pub returns : goal.returns
returns c =
    subst (λ chains. AreTakenOf c.args.view.now c.args.tokens.now chains.items) (sym c.into_chains.ensures)
    (at_end c.args.view.now c.args.tokens.now c.loop-start.start c.loop-start.taken c.loop-start.auto.start-end c.loop-start-test.false c.loop-start.invariant)
