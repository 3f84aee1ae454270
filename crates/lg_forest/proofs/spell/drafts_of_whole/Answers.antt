use Rattle.std.proofs.Common.{sym, ap, subst, IfOk}
use Rattle.lg_region.specs.declared.key.Key.TheVariants.{Whole}
use Rattle.lg_region.specs.Parts.{UnderWhole}
use Rattle.lg_forest.specs.Drafts.{AreDraftsOf}
use Rattle.lg_forest.proofs.Forested.{whole_none}
use Rattle.lg_forest.proofs.spell.drafts_of_whole.Goals as goal

pub returns-in-None : goal.returns-in-None
returns-in-None c =
    let n = c.in-None.ensures in
    subst (λ z. AreDraftsOf c.args.problem.now (UnderWhole c.args.problem.now c.args.forest.now.unused) z) (sym c.new.ensures.items)
    (whole_none c.args.problem.now c.requires.0 c.args.forest.now c.requires.1 (Whole c.unused.result) (ap Whole c.unused.ensures) c.in-None.ensures)

pub returns-in-Some : goal.returns-in-Some
returns-in-Some c =
    subst (λ z. IfOk c.drafts_under.result (λ all. AreDraftsOf c.args.problem.now (UnderWhole c.args.problem.now z) all.items)) c.unused.ensures (c.drafts_under.ensures c.requires.0 c.requires.1)
