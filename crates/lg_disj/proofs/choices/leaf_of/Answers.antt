use Rattle.std.proofs.Common.{rules}
use Rattle.lg_disj.proofs.Leaf.{leaf_was_there, leaf_came}
use Rattle.lg_disj.proofs.choices.leaf_of.Goals as goal

pub returns-then-is_leaf : goal.returns-then-is_leaf
returns-then-is_leaf c = leaf_was_there c.args.leaves.now.items c.args.connector.now c.at-guess.result (rw c.deref.ensures.value at (c.is_leaf.ensures c.if-is_leaf.true))

pub returns : goal.returns
returns c = leaf_came c.args.leaves.now.items c.push.new.self.items c.args.connector.now c.len-place.result c.in_ok-push.ensures.items (search rules)
