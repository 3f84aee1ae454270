use Rattle.lg_sharpen.proofs.narrow.narrow.Goals as goal

pub returns : goal.returns
returns c = λ g f e a v. c.narrow_down.ensures g f e a (c.narrow_up.ensures g f e a v)
