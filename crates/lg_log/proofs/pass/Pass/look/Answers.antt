use Rattle.std.proofs.Common.{◌≡◌, ℕ, ap, ◌∙◌, length, List, vec_capacity}
use Rattle.lg_log.proofs.Reading.{look_allows}
use Rattle.lg_log.proofs.Ready.{ready_with_code, same_table, next_word_is_there, is_other, no_other}
use Rattle.lg_log.proofs.pass.Pass.look.Goals as goal

pub load-next-requires : goal.load-next-requires
load-next-requires c =
    let seat = c.self.inside.seat in
    let table = c.log.inside.table.shared in
    let there = same_table seat.table_id table.table_id seat.me.0 table.key.items c.args.self.now c.args.log.now c.self.view_is c.log.view_is c.requires in
    let within = next_word_is_there seat.table_id table.table_id seat.me c.self.inside.seen.items (vec_capacity c.self.inside.seen) c.self.invariant there in
    let long : c.len.result ≡ length seat.me.0.seen = c.len.ensures ∙ c.self.inside.seen.ok.0 ∙ ap (λ (l : List ℕ). length l) c.self.invariant.same in
    (there, rw long within, rw long (look_allows table.key.items table.table_id.slots seat.id seat.me c.self.invariant.no_note c.self.invariant.live))

pub invariant_of-self-2 : goal.invariant_of-self-2
invariant_of-self-2 c =
    let e = c.load-next.ensures in
    let seat = c.self.inside.seat in
    let found = e.2.2 c.if-next-eq0.false in
    let live = c.self.invariant.live in
    ready_with_code seat.table_id seat.me c.self.inside.seen.items (vec_capacity c.self.inside.seen) c.self.invariant c.load-next.new.seat.table_id c.load-next.new.seat.me c.load-next.result e.0 found.0 e.2.0
    found.1.fresh (found.1.good live) (found.1.room live) c.append.new.seen.items (vec_capacity c.append.new.seen) c.append.ensures.items c.append.ensures.capacity

pub returns-clause-whole : goal.returns-clause-whole
returns-clause-whole c =
    let seat = c.self.inside.seat in
    let found = c.load-next.ensures.2.2 c.if-next-eq0.false in
    λ all. absurd (no_other c.args.self.now c.load-next.result all (is_other seat.table_id seat.me.0 c.load-next.result c.args.self.now c.self.view_is c.self.invariant.live found.1))
