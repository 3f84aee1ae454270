use Rattle.std.proofs.lemmas.Option.{slice_get_within}
use Rattle.lg_rank.specs.Tables.{rows_at}
use Rattle.lg_rank.specs.Values.{value_of}
use Rattle.lg_rank.proofs.Reading.{live_holds}
use Rattle.lg_rank.proofs.Steps.{all_made, least_first, least_live}
use Rattle.lg_rank.proofs.node.choose.Goals as goal

pub row_of-row-requires : goal.row_of-row-requires
row_of-row-requires c =
    let b = least_first (value_of c.args.nothing.now) c.args.nodes.now c.args.k c.in-Some.place (c.requires.forest.laws c.args.k).total c.requires.table c.requires.begun c.in-Some.ensures in
    slice_get_within (rows_at c.args.nodes.now c.args.k) c.in-Some.place b.row b.here

pub way_of-way-requires-clause-p_in : goal.way_of-way-requires-clause-p_in
way_of-way-requires-clause-p_in c =
    let z = value_of c.args.nothing.now in
    let b = least_first z c.args.nodes.now c.args.k c.in-Some.place (c.requires.forest.laws c.args.k).total c.requires.table c.requires.begun c.in-Some.ensures in
    (live_holds z c.args.nodes.now c.args.k c.in-Some.place c.row_of-row.result c.requires.table c.requires.begun c.row_of-row.ensures (least_live z c.args.nodes.now c.args.k c.in-Some.place c.row_of-row.result b c.row_of-row.ensures)).way_in

pub returns-in-None : goal.returns-in-None
returns-in-None c = all_made (value_of c.args.nothing.now) c.args.nodes.now c.args.k c.requires.forest c.requires.table c.requires.begun c.in-None.ensures

pub returns-in-Some : goal.returns-in-Some
returns-in-Some c = record {
  begun = c.requires.begun;
  row = c.row_of-row.ensures;
  least = least_first (value_of c.args.nothing.now) c.args.nodes.now c.args.k c.in-Some.place (c.requires.forest.laws c.args.k).total c.requires.table c.requires.begun c.in-Some.ensures;
  first = c.in-Some.ensures;
  way = c.way_of-way.ensures;
}
