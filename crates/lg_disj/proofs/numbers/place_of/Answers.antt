use Rattle.lg_disj.proofs.Numbering.{came, was_there}
use Rattle.lg_disj.proofs.numbers.place_of.Goals as goal

pub returns-then-is_at : goal.returns-then-is_at
returns-then-is_at c = was_there c.args.lists.now.keys c.args.list.now c.at-guess.result (c.is_at.ensures c.if-is_at.true)

pub returns : goal.returns
returns c =
    let s = c.in_ok-place.ensures.stored in
    came c.args.lists.now.keys c.insert_full.new.self.keys c.args.list s.0 c.in_ok-place.place c.in_ok-place.ensures.keys s.1 s.2
