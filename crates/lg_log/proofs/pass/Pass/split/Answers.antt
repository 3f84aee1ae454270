use Rattle.std.proofs.Common.{sym, ap, arith, eqb, subst, vec_capacity}
use Rattle.std.specs.List.{IsDistinct}
use Rattle.lg_log.specs.Passes.{Standing}
use Rattle.lg_log.proofs.Ready.{same_table, next_word_is_there}
use Rattle.lg_log.proofs.Splitting.{split_allows}
use Rattle.lg_log.proofs.pass.Pass.split.Goals as goal

pub split_seat-seat-requires : goal.split_seat-seat-requires
split_seat-seat-requires c =
    let seat = c.self.inside.seat in
    let table = c.log.inside.table.shared in
    let there = same_table seat.table_id table.table_id seat.me.0 table.key.items c.args.self.now c.args.log.now c.self.view_is c.log.view_is (ap (λ (p : Standing). p.log) c.requires.start) in
    let within = next_word_is_there seat.table_id table.table_id seat.me c.self.inside.seen.items (vec_capacity c.self.inside.seen) c.self.invariant there in
    let distinct : IsDistinct eqb seat.me.0.sessions = subst (λ (p : Standing). IsDistinct eqb p.sessions) (sym c.self.view_is) c.requires.distinct in
    (there, omega (arith, within), split_allows table.key.items seat.id seat.me.0 c.self.invariant.no_note c.self.invariant.live distinct)
