use Rattle.std.proofs.Common.{ℕ, ◌≤◌, length, get_or, arith}
use Rattle.lg_gram.specs.Limits.{LINKAGE_POSITIONS}
use Rattle.lg_rules.specs.Places.{linkage_of}
use Rattle.lg_rules.proofs.Labels.{ends_within, apart_least, connected_none}
use Rattle.lg_rules.proofs.checker.connectivity.first_apart.Goals as goal

-- the links end at positions, and each position has a label
pub label_islands-requires : goal.label_islands-requires
label_islands-requires c =
    record { within = ends_within (linkage_of c.args.chosen.now c.args.links.now) c.requires.placed LINKAGE_POSITIONS c.requires.few }

-- the least position of another label is the least apart
pub returns-clause-some : goal.returns-clause-some
returns-clause-some c =
    let few : length c.args.chosen.now ≤ length c.label_islands.new.labels = omega arith in
    let first = c.in_ok-first.ensures.some in
    apart_least (linkage_of c.args.chosen.now c.args.links.now) (length c.label_islands.new.labels) few (λ (k : ℕ). get_or c.label_islands.new.labels k 0)
    c.label_islands.ensures c.in_ok-first.first (record { linked = first.here; least = first.earlier })
    c.first_labelled_otherwise.result c.first_labelled_otherwise.ensures.some

-- where all linked positions have one label, all are joined
pub returns-clause-none : goal.returns-clause-none
returns-clause-none c =
    let few : length c.args.chosen.now ≤ length c.label_islands.new.labels = omega arith in
    let first = c.in_ok-first.ensures.some in
    connected_none (linkage_of c.args.chosen.now c.args.links.now) (length c.label_islands.new.labels) few (λ (k : ℕ). get_or c.label_islands.new.labels k 0)
    c.label_islands.ensures c.in_ok-first.first (record { linked = first.here; least = first.earlier })
    c.first_labelled_otherwise.result c.first_labelled_otherwise.ensures.none
