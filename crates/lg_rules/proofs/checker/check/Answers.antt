use Rattle.std.proofs.Common.{◌≡◌, ◌↔◌, sym, subst}
use Rattle.lg_rules.specs.Places.{ArePlaced, HasShortSides}
use Rattle.lg_rules.specs.Verdicts.{IsVerdict, IsSound}
use Rattle.lg_rules.specs.declared.verdict.Verdict.TheVariants.{Good}
use Rattle.lg_rules.proofs.Limits.{same_linkage, short_sides}
use Rattle.lg_rules.proofs.checker.check.Goals as goal

pub verdict_of-requires-clause-short : goal.verdict_of-requires-clause-short
verdict_of-requires-clause-short c =
    let g = c.args.g.now in
    let same = same_linkage g _ _ c.chosen-chosen.ensures.value c.links.ensures.value in
    let short = short_sides c.args.problem.now g c.positions-positions.ensures.limits c.requires in
    subst HasShortSides (sym same) short

pub verdict_of-requires-clause-placed : goal.verdict_of-requires-clause-placed
verdict_of-requires-clause-placed c =
    let g = c.args.g.now in
    let same = same_linkage g _ _ c.chosen-chosen.ensures.value c.links.ensures.value in
    subst ArePlaced (sym same) c.requires.placed

pub returns-clause-verdict : goal.returns-clause-verdict
returns-clause-verdict c =
    let g = c.args.g.now in
    let same = same_linkage g _ _ c.chosen-chosen.ensures.value c.links.ensures.value in
    subst (λ z. IsVerdict z c.verdict_of.result) same c.verdict_of.ensures.verdict

-- the linkage is one of the problem, so that it is good where it is sound
pub returns-clause-good : goal.returns-clause-good
returns-clause-good c =
    let g = c.args.g.now in
    let same = same_linkage g _ _ c.chosen-chosen.ensures.value c.links.ensures.value in
    let h = subst (λ z. (c.verdict_of.result ≡ Good) ↔ IsSound z) same c.verdict_of.ensures.good in
    let set = c.chosen-chosen.ensures.limits.rise in (
      λ is. (let sound = h.0 is in record {
        belongs = record { same_length = c.requires.same_length; listed = c.requires.listed; set = set };
        rules = sound.rules;
        connected = sound.connected;
      }),
      λ good. h.1 (record { rules = good.rules; connected = good.connected }),
    )
