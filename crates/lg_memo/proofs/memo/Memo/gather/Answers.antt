use Rattle.lg_memo.specs.Steps.{IsFree}
use Rattle.lg_memo.proofs.Gathered.{all_but_last, flat_last, flat_next}
use Rattle.lg_memo.proofs.memo.Memo.gather.Goals as goal

pub loop-seat-init : goal.loop-seat-init
loop-seat-init g c =
    let shared = c.args.self.now.table.shared in
    let old = c.args.seats.items in
    let new = c.pop.new.self.items in
    let parts = all_but_last old new c.pop.result c.in-Some.all c.pop.ensures.items c.in-Some.is (λ s. IsFree shared.table_id shared.key s.seat.table_id s.seat.me) c.requires.free in (
      parts.0,
      parts.1,
      flat_last old new c.pop.result c.in-Some.all c.pop.ensures.items c.in-Some.is (λ s. s.seat.me.0.numbers),
      flat_last old new c.pop.result c.in-Some.all c.pop.ensures.items c.in-Some.is (λ s. s.seat.me.0.known),
    )

pub join-requires-clause-other : goal.join-requires-clause-other
join-requires-clause-other g c κs within =
    let shared = c.args.self.now.table.shared in
    (all_but_last c.loop-seat.seats.items c.pop-in-loop-seat.new.self.items c.pop-in-loop-seat.result c.in-Some-pop.seat c.pop-in-loop-seat.ensures.items c.in-Some-pop.is
    (λ s. IsFree shared.table_id shared.key s.seat.table_id s.seat.me) c.loop-seat.invariant.1).0

pub loop-seat-preserved : goal.loop-seat-preserved
loop-seat-preserved g c =
    let shared = c.args.self.now.table.shared in
    let old = c.loop-seat.seats.items in
    let new = c.pop-in-loop-seat.new.self.items in
    let e = c.pop-in-loop-seat.ensures.items in
    let is = c.in-Some-pop.is in
    let inv = c.loop-seat.invariant in
    let all = c.loop-seat.all.seat.me.0 in
    let now = c.join.new.self.seat.me.0 in (
      c.join.ensures.free,
      (all_but_last old new c.pop-in-loop-seat.result c.in-Some-pop.seat e is (λ s. IsFree shared.table_id shared.key s.seat.table_id s.seat.me) inv.1).1,
      flat_next old new c.pop-in-loop-seat.result c.in-Some-pop.seat e is (λ s. s.seat.me.0.numbers) all.numbers _ now.numbers inv.2 (λ i. (c.join.ensures.joined i).numbers),
      flat_next old new c.pop-in-loop-seat.result c.in-Some-pop.seat e is (λ s. s.seat.me.0.known) all.known _ now.known inv.3 (λ i. (c.join.ensures.joined i).known),
    )
