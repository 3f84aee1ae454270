use Rattle.std.proofs.Common.{slice_get, subst, sym, ap, ◌∙◌}
use Rattle.lg_gram.specs.Levels.{IsLevel}
use Rattle.lg_gram.specs.Linkages.{linkage_cmp}
use Rattle.lg_region.specs.Parts.{UnderWhole}
use Rattle.lg_rank.specs.Fronts.{IsFront, IsNext}
use Rattle.lg_rank.specs.Rankings.{Ranking}
use Rattle.lg_rank.proofs.ranked.Ranked.next.Goals as goal

pub returns-clause-listed : goal.returns-clause-listed
returns-clause-listed c = λ level lev.
    let e = c.self.view_is in
    c.in_ok-found.ensures.listed c.self.inside.nulls level c.self.invariant (subst (λ (r : Ranking). IsLevel r.positions r.nulls level) (sym e) lev) ∙ ap (λ (r : Ranking). slice_get level r.position) e

pub returns-clause-next : goal.returns-clause-next
returns-clause-next c = λ gs front long.
    let e = c.self.view_is in
    subst (λ (r : Ranking). IsNext linkage_cmp (UnderWhole r.positions r.nulls) gs c.in_ok-found.found) e
    (c.in_ok-found.ensures.next c.self.inside.nulls gs c.self.invariant (subst (λ (r : Ranking). IsFront linkage_cmp (UnderWhole r.positions r.nulls) gs) (sym e) front) (long ∙ ap (λ (r : Ranking). r.position) (sym e)))
