use Rattle.std.proofs.Common.{sym, subst}
use Rattle.lg_dict.specs.Dictionary.{Dictionary, NoWordIsLonger}
use Rattle.lg_dict.proofs.Changed.{nothing_changed}
use Rattle.lg_dict.proofs.view.View.of.Goals as goal

pub invariant_of-result : goal.invariant_of-result
invariant_of-result c = record {
  laid = c.new.ensures.laid;
  longest = subst (λ (d : Dictionary). NoWordIsLonger d c.longest.result) (sym (nothing_changed c.args.base.now c.new.result c.new.ensures.words c.new.ensures.macros)) c.longest.ensures.bounds;
}

pub returns : goal.returns
returns c = nothing_changed c.args.base.now c.new.result c.new.ensures.words c.new.ensures.macros
