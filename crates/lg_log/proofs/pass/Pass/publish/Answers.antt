use Rattle.std.proofs.Common.{◌≡◌, ℕ, ap, ◌∙◌, length, List, true, false, eqb, vec_capacity}
use Rattle.std.specs.List.{list_any}
use Rattle.lg_log.specs.Codes.{is_code, is_of}
use Rattle.lg_log.specs.Passes.{Standing}
use Rattle.lg_log.proofs.Publishing.{publish_allows}
use Rattle.lg_log.proofs.Ready.{ready_with_code, same_table, next_word_is_there, is_other, no_other}
use Rattle.lg_log.proofs.pass.Pass.publish.Goals as goal

pub compare_exchange-found-requires : goal.compare_exchange-found-requires
compare_exchange-found-requires c =
    let seat = c.self.inside.seat in
    let table = c.log.inside.table.shared in
    let ready = c.self.invariant in
    let there = same_table seat.table_id table.table_id seat.me.0 table.key.items c.args.self.now c.args.log.now c.self.view_is c.log.view_is c.requires.log in
    let within = next_word_is_there seat.table_id table.table_id seat.me c.self.inside.seen.items (vec_capacity c.self.inside.seen) ready there in
    let long : c.len.result ≡ length seat.me.0.seen = c.len.ensures ∙ c.self.inside.seen.ok.0 ∙ ap (λ (l : List ℕ). length l) ready.same in
    let code : is_code seat.me.0.counts c.args.code ≡ true = ap (λ (p : Standing). is_code p.log.counts c.args.code) c.self.view_is ∙ c.requires.code in
    let carried : is_of seat.me.0.sessions c.args.code ≡ true = ap (λ (p : Standing). is_of p.sessions c.args.code) c.self.view_is ∙ c.requires.carried in
    let fresh : list_any (eqb c.args.code) seat.me.0.seen ≡ false = ap (λ (p : Standing). list_any (eqb c.args.code) p.seen) c.self.view_is ∙ c.requires.fresh in
    (there, rw long within, rw long (publish_allows table.key.items table.table_id.slots seat.id seat.me c.args.code ready.no_note ready.live code carried fresh))

pub invariant_of-self : goal.invariant_of-self
invariant_of-self c =
    let e = c.compare_exchange-found.ensures in
    let seat = c.self.inside.seat in
    let won = e.2.1 c.if-found-eq0.true in
    let code : is_code seat.me.0.counts c.args.code ≡ true = ap (λ (p : Standing). is_code p.log.counts c.args.code) c.self.view_is ∙ c.requires.code in
    let fresh : list_any (eqb c.args.code) seat.me.0.seen ≡ false = ap (λ (p : Standing). list_any (eqb c.args.code) p.seen) c.self.view_is ∙ c.requires.fresh in
    ready_with_code seat.table_id seat.me c.self.inside.seen.items (vec_capacity c.self.inside.seen) c.self.invariant c.compare_exchange-found.new.seat.table_id c.compare_exchange-found.new.seat.me c.args.code e.0 won.0 e.2.0
    fresh code (won.1 c.self.invariant.live) c.append.new.seen.items (vec_capacity c.append.new.seen) c.append.ensures.items c.append.ensures.capacity

pub invariant_of-self-2 : goal.invariant_of-self-2
invariant_of-self-2 c =
    let e = c.compare_exchange-found.ensures in
    let seat = c.self.inside.seat in
    let found = e.2.2 c.if-found-eq0.false in
    let live = c.self.invariant.live in
    ready_with_code seat.table_id seat.me c.self.inside.seen.items (vec_capacity c.self.inside.seen) c.self.invariant c.compare_exchange-found.new.seat.table_id c.compare_exchange-found.new.seat.me c.compare_exchange-found.result e.0 found.0 e.2.0
    found.1.fresh (found.1.good live) (found.1.room live) c.append-2.new.seen.items (vec_capacity c.append-2.new.seen) c.append-2.ensures.items c.append-2.ensures.capacity

pub returns-clause-whole : goal.returns-clause-whole
returns-clause-whole c =
    let seat = c.self.inside.seat in
    let found = c.compare_exchange-found.ensures.2.2 c.if-found-eq0.false in
    λ all. absurd (no_other c.args.self.now c.compare_exchange-found.result all (is_other seat.table_id seat.me.0 c.compare_exchange-found.result c.args.self.now c.self.view_is c.self.invariant.live found.1))
