use Rattle.std.proofs.Common.{ap, ◌∙◌, map, arith}
use Rattle.lg_disj.specs.Lists.{list_in}
use Rattle.lg_disj.proofs.Spans.{list_pushed}
use Rattle.lg_disj.proofs.lists.Lists.push.Goals as goal

pub returns-clause-exact : goal.returns-clause-exact
returns-clause-exact c =
    ap (map (list_in c.push_leaves.new.connectors.items)) c.in_ok-push.ensures.items
    ∙ list_pushed c.args.self.now.connectors.items _ c.push_leaves.new.connectors.items c.args.self.now.spans.items _ c.requires.within c.in_ok-push_leaves.ensures (omega arith) (omega arith)
