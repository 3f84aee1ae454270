use Rattle.lg_region.specs.declared.chains.Side.TheVariants.{Left, Right}
use Rattle.lg_region.proofs.Expanding.{led_left}
use Rattle.lg_region.proofs.group.lead_of.Goals as goal

pub returns-else-llist-eq0-clause-led : goal.returns-else-llist-eq0-clause-led
returns-else-llist-eq0-clause-led c = λ k l r.
    led_left c.args.lists.now.positions c.args.lists.now.lists c.args.llist c.class-else-llist-eq0.result k c.are_numbered.ensures c.requires.llist c.if-llist-eq0.false c.class-else-llist-eq0.ensures.value l

pub returns-else-llist-eq0-clause-left : goal.returns-else-llist-eq0-clause-left
returns-else-llist-eq0-clause-left c = λ some i. record { side = Left; class = c.class-else-llist-eq0.ensures.value i }

pub returns-then-llist-eq0-clause-right : goal.returns-then-llist-eq0-clause-right
returns-then-llist-eq0-clause-right c = λ none i. record { side = Right; class = c.class.ensures.value i }
