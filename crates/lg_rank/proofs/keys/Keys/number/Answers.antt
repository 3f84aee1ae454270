use Rattle.std.proofs.Common.{ap, ◌∙◌, List, position}
use Rattle.std.specs.List.{list_any}
use Rattle.lg_region.specs.declared.key.Key.{Key}
use Rattle.lg_rank.proofs.Numbers.{key_eq, number_found}
use Rattle.lg_rank.proofs.keys.Keys.number.Goals as goal

pub returns : goal.returns
returns c =
    let e = c.self.view_is in
    number_found c.args.self.now c.args.key.now c.get_index_of.result (c.get_index_of.ensures.index ∙ ap (λ (z : List Key). position (key_eq c.args.key.now) z) e) (c.get_index_of.ensures.found ∙ ap (λ (z : List Key). list_any (key_eq c.args.key.now) z) e)
