use Rattle.std.proofs.Common.{List, ◌∷◌, [], map, ◌∙◌, ap, Vec, Global, Bor, arith}
use Rattle.std.specs.List.{flat_map}
use Rattle.std.proofs.lemmas.List.{length-map, map-append}
use Rattle.lg_gram.specs.Connectors.{Connector}
use Rattle.lg_region.specs.Fronts.{fronts_of}
use Rattle.lg_region.specs.declared.numbering.Sides.{Sides}
use Rattle.lg_region.proofs.Growing.{few_fronts, none_numbered, room_for, rows_none, rows_step, rows_all}
use Rattle.lg_region.proofs.numbering.numbered.Goals as goal

abbrev now : Bor (List Connector) → List Connector
now f = f.now

abbrev row_items : Vec Sides Global → List Sides
row_items v = v.items

pub loop-position-init : goal.loop-position-init
loop-position-init c =
    let a = c.requires.empty in
    let b = c.requires.no_tails in
    let m = length-map c.args.fronts.now.items now in
    rows_none (map now c.args.fronts.now.items) c.args.tails.now.keys (map row_items c.new-rows.result.items) (omega arith) (ap (map row_items) c.new-rows.ensures.items)

pub row_of-requires-clause-room : goal.row_of-requires-clause-room
row_of-requires-clause-room c =
    let a = length-map c.args.fronts.now.items now in
    let b = length-map c.loop-position.fronts.items now in
    let r = room_for (flat_map fronts_of) c.args.positions.now c.loop-position.position-index c.position-item.result (map now c.args.fronts.now.items) (map now c.loop-position.fronts.items) c.loop-position.invariant.numbers.few c.loop-position-test.true c.position-item.is in
    let q = few_fronts c.args.positions.now c.requires.problem in
    let z = c.requires.empty in
    let e = c.items.ensures in
    rw e (omega arith)

pub loop-position-preserved : goal.loop-position-preserved
loop-position-preserved c =
    rows_step (map now c.args.fronts.now.items) c.args.tails.now.keys (map now c.loop-position.fronts.items) c.loop-position.tails.keys (map now c.row_of.new.fronts.items) c.row_of.new.tails.keys
    c.args.positions.now c.loop-position.position-index c.position-item.result c.items.result.now (map row_items c.loop-position.rows.items) (map row_items c.push.new.self.items) c.in_ok-row.row.items
    c.loop-position-test.true c.position-item.is c.items.ensures (ap (map row_items) c.in_ok-push.ensures.items ∙ map-append row_items c.loop-position.rows.items (c.in_ok-row.row ∷ []))
    c.loop-position.invariant c.in_ok-row.ensures.numbers c.in_ok-row.ensures.sides

pub returns-clause-lists : goal.returns-clause-lists
returns-clause-lists c =
    let r = rows_all (map now c.args.fronts.now.items) c.args.tails.now.keys (map now c.loop-position.fronts.items) c.loop-position.tails.keys c.args.positions.now c.loop-position.position-index (map row_items c.loop-position.rows.items) c.loop-position-test.false c.loop-position.invariant in
    r.numbers.numbered [] (none_numbered (map now c.args.fronts.now.items) c.args.tails.now.keys (length-map c.args.fronts.now.items now ∙ c.requires.empty) c.requires.no_tails)

pub returns-clause-few : goal.returns-clause-few
returns-clause-few c =
    let r = rows_all (map now c.args.fronts.now.items) c.args.tails.now.keys (map now c.loop-position.fronts.items) c.loop-position.tails.keys c.args.positions.now c.loop-position.position-index (map row_items c.loop-position.rows.items) c.loop-position-test.false c.loop-position.invariant in
    let none = c.requires.empty in
    let old = length-map c.args.fronts.now.items now in
    let few = r.numbers.few in
    let level = r.numbers.level in
    let all = few_fronts c.args.positions.now c.requires.problem in
    omega arith

pub returns-clause-sides : goal.returns-clause-sides
returns-clause-sides c =
    let r = rows_all (map now c.args.fronts.now.items) c.args.tails.now.keys (map now c.loop-position.fronts.items) c.loop-position.tails.keys c.args.positions.now c.loop-position.position-index (map row_items c.loop-position.rows.items) c.loop-position-test.false c.loop-position.invariant in
    r.sides [] (none_numbered (map now c.args.fronts.now.items) c.args.tails.now.keys (length-map c.args.fronts.now.items now ∙ c.requires.empty) c.requires.no_tails)
