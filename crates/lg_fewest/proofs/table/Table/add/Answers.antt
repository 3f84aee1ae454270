use Rattle.std.proofs.Common.{◌≡◌, ◌⊎◌, subst, Contains}
use Rattle.lg_fewest.proofs.Tables.{put}
use Rattle.lg_fewest.proofs.table.Table.add.Goals as goal

pub returns : goal.returns
returns c = λ s x has. subst (λ z. Contains z (s, x) ⊎ ((s ≡ c.args.span) × (x ≡ c.args.least))) c.self.view_is
    (put c.self.inside.found c.insert.new.self c.args.span c.args.least c.in_ok-insert.ensures.unique c.in_ok-insert.ensures.updates.0 s x has)
