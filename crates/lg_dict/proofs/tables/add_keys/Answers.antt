use Rattle.std.proofs.Common.{◌≡◌, ◌++◌, map, ap, ◌∙◌, rules}
use Rattle.std.specs.Map.Iter.{deref}
use Rattle.std.proofs.lemmas.Map.Iter.{iter_end}
use Rattle.indexmap.specs.IndexMap.{keys}
use Rattle.lg_dict.proofs.Gathered.{keys_read}
use Rattle.lg_dict.proofs.tables.add_keys.Goals as goal

-- all keys were yielded
pub returns : goal.returns
returns g c =
    let all : map deref c.loop-key.yielded ≡ keys c.args.table.now = search (rules, iter_end) in
    c.loop-key.invariant ∙ ap (λ l. map (λ key. key.now) c.args.found.now.items ++ l) (keys_read c.args.table.now c.loop-key.yielded all)
