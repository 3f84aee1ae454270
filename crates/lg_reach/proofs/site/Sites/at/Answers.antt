use Rattle.std.proofs.Common.{◌↔◌, cond, sym, subst}
use Rattle.std.specs.List.{Contains}
use Rattle.lg_member.specs.Cells.{Stands}
use Rattle.lg_reach.specs.declared.site.Site.{Site}
use Rattle.lg_reach.proofs.site.Sites.at.Goals as goal

pub returns-then-right : goal.returns-then-right
returns-then-right c =
    subst (λ z. (site : Site) → Contains c.at.result.now site ↔ Stands (cond z c.args.self.now.rights c.args.self.now.lefts) c.args.position c.args.class site) (sym c.if-right.true) c.at.ensures

pub returns-else-right : goal.returns-else-right
returns-else-right c =
    subst (λ z. (site : Site) → Contains c.at-else-right.result.now site ↔ Stands (cond z c.args.self.now.rights c.args.self.now.lefts) c.args.position c.args.class site) (sym c.if-right.false) c.at-else-right.ensures
