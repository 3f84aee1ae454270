use Rattle.std.proofs.Common.{is_some, slice_get, subst, sym, ap, ◌∙◌}
use Rattle.lg_gram.specs.Levels.{IsLevel}
use Rattle.lg_gram.specs.Linkages.{linkage_cmp}
use Rattle.lg_region.specs.Parts.{UnderWhole}
use Rattle.lg_rank.specs.Fronts.{IsFront, IsNext}
use Rattle.lg_rank.specs.Rankings.{Ranking, IsThere}
use Rattle.lg_rank.proofs.ranked.Ranked.pass.Goals as goal

pub returns-then-there-clause-listed : goal.returns-then-there-clause-listed
returns-then-there-clause-listed c = λ level lev.
    let e = c.self.view_is in
    c.in_ok-there.ensures.listed c.self.inside.nulls level c.self.invariant (subst (λ (r : Ranking). IsLevel r.positions r.nulls level) (sym e) lev) ∙ ap (λ (r : Ranking). is_some (slice_get level r.position)) e

pub returns-else-there-clause-listed : goal.returns-else-there-clause-listed
returns-else-there-clause-listed c = λ level lev.
    let e = c.self.view_is in
    c.in_ok-there.ensures.listed c.self.inside.nulls level c.self.invariant (subst (λ (r : Ranking). IsLevel r.positions r.nulls level) (sym e) lev) ∙ ap (λ (r : Ranking). is_some (slice_get level r.position)) e

pub returns-then-there-clause-next : goal.returns-then-there-clause-next
returns-then-there-clause-next c = λ gs front long.
    let e = c.self.view_is in
    subst (λ (r : Ranking). IsThere (IsNext linkage_cmp (UnderWhole r.positions r.nulls) gs) c.in_ok-there.there) e
    (c.in_ok-there.ensures.next c.self.inside.nulls gs c.self.invariant (subst (λ (r : Ranking). IsFront linkage_cmp (UnderWhole r.positions r.nulls) gs) (sym e) front) (long ∙ ap (λ (r : Ranking). r.position) (sym e)))

pub returns-else-there-clause-next : goal.returns-else-there-clause-next
returns-else-there-clause-next c = λ gs front long.
    let e = c.self.view_is in
    subst (λ (r : Ranking). IsThere (IsNext linkage_cmp (UnderWhole r.positions r.nulls) gs) c.in_ok-there.there) e
    (c.in_ok-there.ensures.next c.self.inside.nulls gs c.self.invariant (subst (λ (r : Ranking). IsFront linkage_cmp (UnderWhole r.positions r.nulls) gs) (sym e) front) (long ∙ ap (λ (r : Ranking). r.position) (sym e)))
