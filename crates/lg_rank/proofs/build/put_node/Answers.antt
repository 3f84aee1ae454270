use Rattle.std.proofs.Common.{true≢false, sym, ◌∙◌}
use Rattle.lg_rank.proofs.build.put_node.Goals as goal

pub returns-in_ok-push : goal.returns-in_ok-push
returns-in_ok-push c = record {
  is_new = c.in_ok-number.is_new;
  adds = c.in_ok-number.ensures.added;
  known = λ f. absurd (true≢false (sym c.if-is_new.true ∙ f));
  made = λ t. (c.idle.result, c.in_ok-push.ensures.items, c.idle.ensures.ways, record { idle = c.idle.ensures.idle; made = c.idle.ensures.made; waiting = c.idle.ensures.waiting });
}
