use Rattle.std.proofs.Common.{◌<◌, ap, sym, subst, ◌∙◌}
use Rattle.lg_memo.specs.Views.{has_number}
use Rattle.lg_forest.specs.Known.{AreKept}
use Rattle.lg_forest.proofs.Kept.{all_under}
use Rattle.lg_forest.proofs.workers.known_of.Goals as goal

pub close-requires-clause-all : goal.close-requires-clause-all
close-requires-clause-all g c κs = λ n less. ap (λ l. has_number l n) c.in_ok-seats.ensures.1 ∙ c.in_ok-memo.ensures.all n (subst (λ z. n < z) c.in_ok-memo.ensures.seats less)

pub gathered-requires : goal.gathered-requires
gathered-requires g c =
    all_under c.in_ok-shards.shards.items AreKept (λ s. s.entries.items) c.in_ok-memo.memo.table.shared.key.name.value c.args.lists.now.positions (c.in_ok-memo.ensures.name ∙ sym c.requires.positions) c.in_ok-shards.ensures.right
