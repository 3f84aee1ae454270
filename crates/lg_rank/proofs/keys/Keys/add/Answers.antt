use Rattle.std.proofs.Common.{ap, ◌∙◌, List, not}
use Rattle.std.specs.List.{list_any}
use Rattle.indexmap.specs.IndexSet.{insert_key}
use Rattle.lg_region.specs.declared.key.Key.{Key}
use Rattle.lg_rank.proofs.Numbers.{key_eq, key_added}
use Rattle.lg_rank.proofs.keys.Keys.add.Goals as goal

pub returns-clause-added : goal.returns-clause-added
returns-clause-added c =
    let e = c.self.view_is in
    key_added c.args.self.now c.args.key c.insert_full.new.self.keys c.in_ok-number.number c.in_ok-number.is_new
    (c.in_ok-number.ensures.added ∙ ap (λ (z : List Key). not (list_any (key_eq c.args.key) z)) e)
    (c.in_ok-number.ensures.keys ∙ ap (λ (z : List Key). insert_key key_eq z c.args.key) e)
    c.in_ok-number.ensures.stored
