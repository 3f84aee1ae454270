use Rattle.lg_rules.specs.Places.{linkage_of}
use Rattle.lg_rules.specs.Verdicts.{IsSound}
use Rattle.lg_rules.specs.declared.verdict.Verdict.TheVariants.{Unmatched, Unsatisfied, Crossing, Apart, Twice, Order}
use Rattle.lg_rules.proofs.FewLinks.{few_links}
use Rattle.lg_rules.proofs.Cases.{sound_none, case_unsound, unmatched_verdict, unsatisfied_verdict, crossing_verdict, apart_verdict, twice_verdict, order_verdict}
use Rattle.lg_rules.proofs.checker.verdict_of.Goals as goal

-- ---- the links can be numbered

pub first_unmatched-requires-clause-few_links : goal.first_unmatched-requires-clause-few_links
first_unmatched-requires-clause-few_links c = let r = c.requires in few_links (linkage_of c.args.chosen.now c.args.links.now) r.few r.short r.placed r.rise

pub first_crossing-requires : goal.first_crossing-requires
first_crossing-requires c = let r = c.requires in few_links (linkage_of c.args.chosen.now c.args.links.now) r.few r.short r.placed r.rise

pub first_twins-requires : goal.first_twins-requires
first_twins-requires c = let r = c.requires in few_links (linkage_of c.args.chosen.now c.args.links.now) r.few r.short r.placed r.rise

-- ---- each rule's least case, where the rules before it hold

pub returns-in-Some-clause-verdict : goal.returns-in-Some-clause-verdict
returns-in-Some-clause-verdict c =
    unmatched_verdict (linkage_of c.args.chosen.now c.args.links.now) c.in-Some.link c.in-Some.ensures.some

pub returns-in-Some-clause-good : goal.returns-in-Some-clause-good
returns-in-Some-clause-good c = case_unsound c.links_are_ordered.ensures.total (linkage_of c.args.chosen.now c.args.links.now) c.requires.rise (Unmatched c.in-Some.link) c.in-Some.ensures.some.here

pub returns-in-Some-first_unsatisfied-clause-verdict : goal.returns-in-Some-first_unsatisfied-clause-verdict
returns-in-Some-first_unsatisfied-clause-verdict c =
    unsatisfied_verdict (linkage_of c.args.chosen.now c.args.links.now) c.in-Some-first_unsatisfied.position c.in-Some-first_unsatisfied.right c.in-Some-first_unsatisfied.place c.in-Some-first_unsatisfied.ensures.some
    c.in_default.ensures.none

pub returns-in-Some-first_unsatisfied-clause-good : goal.returns-in-Some-first_unsatisfied-clause-good
returns-in-Some-first_unsatisfied-clause-good c = case_unsound c.links_are_ordered.ensures.total (linkage_of c.args.chosen.now c.args.links.now) c.requires.rise (Unsatisfied c.in-Some-first_unsatisfied.position c.in-Some-first_unsatisfied.right c.in-Some-first_unsatisfied.place) c.in-Some-first_unsatisfied.ensures.some.here.here

pub returns-in-Some-first_crossing-clause-verdict : goal.returns-in-Some-first_crossing-clause-verdict
returns-in-Some-first_crossing-clause-verdict c =
    crossing_verdict (linkage_of c.args.chosen.now c.args.links.now) c.in-Some-first_crossing.outer c.in-Some-first_crossing.inner c.in-Some-first_crossing.ensures.some
    c.in_default.ensures.none c.in_default-first_unsatisfied.ensures.none

pub returns-in-Some-first_crossing-clause-good : goal.returns-in-Some-first_crossing-clause-good
returns-in-Some-first_crossing-clause-good c = case_unsound c.links_are_ordered.ensures.total (linkage_of c.args.chosen.now c.args.links.now) c.requires.rise (Crossing c.in-Some-first_crossing.outer c.in-Some-first_crossing.inner) c.in-Some-first_crossing.ensures.some.here

pub returns-in-Some-first_apart-clause-verdict : goal.returns-in-Some-first_apart-clause-verdict
returns-in-Some-first_apart-clause-verdict c =
    apart_verdict (linkage_of c.args.chosen.now c.args.links.now) c.in-Some-first_apart.position c.in-Some-first_apart.ensures.some
    c.in_default.ensures.none c.in_default-first_unsatisfied.ensures.none c.in_default-first_crossing.ensures.none

pub returns-in-Some-first_apart-clause-good : goal.returns-in-Some-first_apart-clause-good
returns-in-Some-first_apart-clause-good c = case_unsound c.links_are_ordered.ensures.total (linkage_of c.args.chosen.now c.args.links.now) c.requires.rise (Apart c.in-Some-first_apart.position) c.in-Some-first_apart.ensures.some.here

pub returns-in-Some-first_twins-clause-verdict : goal.returns-in-Some-first_twins-clause-verdict
returns-in-Some-first_twins-clause-verdict c =
    twice_verdict (linkage_of c.args.chosen.now c.args.links.now) c.in-Some-first_twins.one c.in-Some-first_twins.other c.in-Some-first_twins.ensures.some
    c.in_default.ensures.none c.in_default-first_unsatisfied.ensures.none c.in_default-first_crossing.ensures.none c.in_default-first_apart.ensures.none

pub returns-in-Some-first_twins-clause-good : goal.returns-in-Some-first_twins-clause-good
returns-in-Some-first_twins-clause-good c = case_unsound c.links_are_ordered.ensures.total (linkage_of c.args.chosen.now c.args.links.now) c.requires.rise (Twice c.in-Some-first_twins.one c.in-Some-first_twins.other) c.in-Some-first_twins.ensures.some.here

pub returns-in-Some-first_disorder-clause-verdict : goal.returns-in-Some-first_disorder-clause-verdict
returns-in-Some-first_disorder-clause-verdict c =
    order_verdict (linkage_of c.args.chosen.now c.args.links.now) c.in-Some-first_disorder.position c.in-Some-first_disorder.right c.in-Some-first_disorder.place c.in-Some-first_disorder.ensures.some
    c.in_default.ensures.none c.in_default-first_unsatisfied.ensures.none c.in_default-first_crossing.ensures.none c.in_default-first_apart.ensures.none c.links_are_ordered.ensures.total c.requires.rise c.in_default-first_twins.ensures.none

pub returns-in-Some-first_disorder-clause-good : goal.returns-in-Some-first_disorder-clause-good
returns-in-Some-first_disorder-clause-good c = case_unsound c.links_are_ordered.ensures.total (linkage_of c.args.chosen.now c.args.links.now) c.requires.rise (Order c.in-Some-first_disorder.position c.in-Some-first_disorder.right c.in-Some-first_disorder.place) c.in-Some-first_disorder.ensures.some.here.here

-- ---- all rules hold

pub returns-clause-verdict : goal.returns-clause-verdict
returns-clause-verdict c =
    let sound : IsSound (linkage_of c.args.chosen.now c.args.links.now) = record {
      rules = record {
        matched = c.in_default.ensures.none;
        satisfied = c.in_default-first_unsatisfied.ensures.none;
        planar = c.in_default-first_crossing.ensures.none;
        ordered = c.in_default-first_disorder.ensures.none;
        exclusive = c.in_default-first_twins.ensures.none;
      };
      connected = c.in_default-first_apart.ensures.none;
    } in
    sound_none c.links_are_ordered.ensures.total (linkage_of c.args.chosen.now c.args.links.now) c.requires.rise sound
