use Rattle.std.proofs.Common.{sym, subst, refl}
use Rattle.lg_region.specs.Ways.{HasWay}
use Rattle.lg_region.proofs.Going.{plain_way}
use Rattle.lg_region.proofs.ways.has_way.Goals as goal

pub returns-then-apart : goal.returns-then-apart
returns-then-apart c =
    let lists = c.args.lists.now.lists in
    (λ t. subst (λ z. HasWay lists c.args.near c.args.far z) (sym c.if-apart.true) (plain_way lists c.args.near c.args.far c.requires.near c.requires.far), λ h. refl)
