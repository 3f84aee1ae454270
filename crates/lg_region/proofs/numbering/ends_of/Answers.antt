use Rattle.std.proofs.Common.{List, [], map, Bor, rules}
use Rattle.std.proofs.lemmas.List.{get_or-map}
use Rattle.lg_gram.specs.Connectors.{Connector}
use Rattle.lg_region.proofs.Ends.{ends_more, ends_none, front_some}
use Rattle.lg_region.proofs.numbering.ends_of.Goals as goal

abbrev now : Bor (List Connector) → List Connector
now f = f.now

pub overflow_sub-fronts : goal.overflow_sub-fronts
overflow_sub-fronts c =
    let fronts = c.args.fronts.now in
    let i = c.loop-index.index in
    let same = get_or-map now fronts i c.index-fronts-index.result [] c.loop-index-test.true in
    front_some (map now fronts) c.args.tails.now.keys i c.index.result.now _ c.requires.tails c.index.ensures same

pub loop-index-init : goal.loop-index-init
loop-index-init c = ends_none (map now c.args.fronts.now) c.args.kinds.now.keys c.args.firsts.now.items _ c.requires.no_kinds c.requires.no_firsts (search rules)

pub loop-index-preserved : goal.loop-index-preserved
loop-index-preserved c =
    let fronts = c.args.fronts.now in
    let i = c.loop-index.index in
    let t = c.index.result.now in
    let same = get_or-map now fronts i c.index-fronts-index.result [] c.loop-index-test.true in
    ends_more (map now fronts) c.args.tails.now.keys c.loop-index.kinds.keys _ c.loop-index.firsts.items _ c.loop-index.ends.items c.push.new.self.items i c.in_ok-kind.kind _ _ t _ c.requires.tails c.index.ensures same (search rules) (search rules)
    c.loop-index.invariant c.in_ok-kind.ensures c.in_ok-push.ensures.items
