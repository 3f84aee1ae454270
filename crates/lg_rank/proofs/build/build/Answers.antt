use Rattle.std.proofs.Common.{length, refl}
use Rattle.lg_rank.specs.Values.{nothing_of}
use Rattle.lg_rank.proofs.Building.{Laws, listing}
use Rattle.lg_rank.proofs.Noding.{nodes_are}
use Rattle.lg_rank.proofs.build.build.Goals as goal

pub returns : goal.returns
returns c =
    let (from, is) = c.requires in
    let positions = c.args.problem.now in
    let forest = c.args.forest.now in
    let keys = c.root_of.new.made.keys in
    let nodes = c.root_of.new.made.nodes.items in
    let laws : Laws positions is.lists = record { problem = c.positions-positions.ensures.limits; valid = c.cuts_are_valid.ensures; regions = c.alternatives_decide.ensures.region; wholes = c.alternatives_decide.ensures.whole; numbers = c.numbers_tell_lists_apart.ensures positions is.lists is.numbered } in
    listing positions from forest is c.positions-positions.ensures.limits keys c.in_ok-root.ensures.made.placed nodes (nodes_are c.regions_are_cut_once.ensures positions from forest is laws keys nodes c.in_ok-root.ensures.made)
    (nothing_of (length positions)) forest.unused c.in_ok-root.root refl c.in_ok-root.ensures.root
