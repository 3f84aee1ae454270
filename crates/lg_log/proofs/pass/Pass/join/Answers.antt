use Rattle.std.proofs.Common.{◌≡◌, true, ap, ◌∙◌, arith, vec_capacity}
use Rattle.lg_log.specs.Steps.{Seated}
use Rattle.lg_log.proofs.Joining.{join_allows}
use Rattle.lg_log.proofs.Reading.{settle_allows}
use Rattle.lg_log.proofs.Ready.{same_table, next_word_is_there}
use Rattle.lg_log.proofs.pass.Pass.join.Goals as goal

pub join_seat-requires : goal.join_seat-requires
join_seat-requires c =
    let seat = c.self.inside.seat in
    let other = c.other.inside.seat in
    let table = c.log.inside.table.shared in
    let there = same_table seat.table_id table.table_id seat.me.0 table.key.items c.args.self.now c.args.log.now c.self.view_is c.log.view_is c.requires.log in
    let there₂ = same_table other.table_id table.table_id other.me.0 table.key.items c.args.other c.args.log.now c.other.view_is c.log.view_is c.requires.other_log in
    let within = next_word_is_there seat.table_id table.table_id seat.me c.self.inside.seen.items (vec_capacity c.self.inside.seen) c.self.invariant there in
    (there, there₂, c.other.invariant.no_slot, omega (arith, within), join_allows table.key.items seat.id seat.me.0 other.id other.me.0 c.self.invariant.live)

pub load-requires : goal.load-requires
load-requires c =
    let seat = c.self.inside.seat in
    let table = c.log.inside.table.shared in
    let there = same_table seat.table_id table.table_id seat.me.0 table.key.items c.args.self.now c.args.log.now c.self.view_is c.log.view_is c.requires.log in
    let within = next_word_is_there seat.table_id table.table_id seat.me c.self.inside.seen.items (vec_capacity c.self.inside.seen) c.self.invariant there in
    let live : c.join_seat.new.seat.me.0.live ≡ true = ap (λ (m : Seated). m.0.live) c.join_seat.ensures.2 ∙ c.self.invariant.live in
    (c.join_seat.ensures.0 ∙ there, omega (arith, within), settle_allows table.key.items table.table_id.slots c.join_seat.new.seat.id c.join_seat.new.seat.me live)
