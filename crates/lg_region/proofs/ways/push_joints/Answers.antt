use Rattle.std.proofs.Common.{refl}
use Rattle.lg_region.proofs.Going.{joined_ways_added, no_near, no_far, way_match, ways_none}
use Rattle.lg_region.proofs.Once.{on_ok}
use Rattle.lg_region.proofs.ways.push_joints.Goals as goal

pub returns-then-not-can_join : goal.returns-then-not-can_join
returns-then-not-can_join g c =
    ways_none c.args.lists.now.lists c.args.near c.args.far (g.T.OnWay.on c.args.number) c.args.out.now.items (λ w is. let e = c.if-not-can_join.ensures.1 (w, is) in absurd cc)

pub returns-in_default : goal.returns-in_default
returns-in_default g c =
    let lists = c.args.lists.now.lists in
    ways_none lists c.args.near c.args.far (g.T.OnWay.on c.args.number) c.args.out.now.items (λ w. no_near lists c.args.near c.args.far w c.in_default.ensures.value)

pub returns-in_default-end : goal.returns-in_default-end
returns-in_default-end g c =
    let lists = c.args.lists.now.lists in
    ways_none lists c.args.near c.args.far (g.T.OnWay.on c.args.number) c.args.out.now.items (λ w. no_far lists c.args.near c.args.far w c.in_default-end.ensures.value)

pub returns : goal.returns
returns g c =
    let lists = c.args.lists.now.lists in
    let e = c.in-Some.first in
    let f = c.in-Some-end.second in
    let w = c.if-not-can_join.ensures.0 refl in
    on_ok c.push_joined.result c.push_joined.ensures
    (joined_ways_added c.args.lists.now.positions lists c.args.near c.args.far e f (g.T.OnWay.on c.args.number) c.args.out.now.items c.push_joined.new.out.items
    c.in-Some.ensures.lists c.in-Some.ensures.value c.in-Some-end.ensures.value (way_match lists c.args.near c.args.far e f w.0 c.in-Some.ensures.value c.in-Some-end.ensures.value w.1))
