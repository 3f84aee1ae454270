use Rattle.std.proofs.Common.{ℕ, sym, subst}
use Rattle.lg_rank.specs.Tables.{forest_of, IsNth}
use Rattle.lg_rank.specs.Values.{value_of}
use Rattle.lg_rank.proofs.Following.{front_there}
use Rattle.lg_rank.proofs.Listing.{level_there, root_in, still_listing}
use Rattle.lg_rank.proofs.ranked.has_linkage.Goals as goal

pub has_part-requires-clause-within : goal.has_part-requires-clause-within
has_part-requires-clause-within c =
    let is = c.requires.listing in
    root_in is.0 (value_of c.args.nothing.now) c.args.table.now.nodes.items is.1 c.args.root is.2

pub has_part-requires-clause-forest : goal.has_part-requires-clause-forest
has_part-requires-clause-forest c =
    let is = c.requires.listing in
    c.values_are_linkages.ensures.forest is.0 (value_of c.args.nothing.now) (forest_of c.args.table.now.nodes.items) is.2.subjects is.2.forest

pub returns-clause-next : goal.returns-clause-next
returns-clause-next c = λ positions nulls gs is front long.
    let z = value_of c.args.nothing.now in
    let nodes = c.has_part.new.self.nodes.items in
    front_there (record { stand = c.values_are_linkages.ensures; sentences = c.sentences_are_cut_once.ensures }) positions z nodes nulls c.args.root gs c.in_ok-there.there
    (still_listing positions z c.args.table.now.nodes.items nodes nulls c.args.root c.has_part.ensures.table c.has_part.ensures.same is) front (subst (λ (i : ℕ). IsNth z nodes c.args.root i c.in_ok-there.there) (sym long) c.in_ok-there.ensures.value)

pub returns-clause-listed : goal.returns-clause-listed
returns-clause-listed c = λ positions nulls level is lev.
    let z = value_of c.args.nothing.now in
    let old = c.args.table.now.nodes.items in
    let forest = c.values_are_linkages.ensures.forest positions z (forest_of old) is.subjects is.forest in
    level_there (record { stand = c.values_are_linkages.ensures; sentences = c.sentences_are_cut_once.ensures }) positions z old c.has_part.new.self.nodes.items nulls c.args.root level c.args.i c.in_ok-there.there is lev c.has_part.ensures.table (forest.laws 0).total
    (λ all list. c.in_ok-there.ensures.listed all list) c.in_ok-there.ensures.value
