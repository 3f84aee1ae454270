use Rattle.std.proofs.Common.{subst}
use Rattle.std.specs.List.{Any}
use Rattle.lg_member.proofs.Celling.{adds_none, adds_one}
use Rattle.lg_member.proofs.cells.push_site.Goals as goal

pub returns-then-has_wider-clause-added : goal.returns-then-has_wider-clause-added
returns-then-has_wider-clause-added g c =
    adds_none g.S.Wide.wider c.args.site.now c.args.cell.now.items (subst (λ z. Any (λ w. g.S.Wide.wider w c.args.site.now) z) c.deref.ensures.value (c.has_wider.ensures.0 c.if-has_wider.true))

pub returns-clause-added : goal.returns-clause-added
returns-clause-added g c = adds_one g.S.Wide.wider g.met.S.Wide.itself c.args.site.now c.args.cell.now.items c.push.new.self.items c.in_ok-push.ensures.items
