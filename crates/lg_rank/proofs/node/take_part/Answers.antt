use Rattle.std.proofs.Common.{List, length, subst, sym, ap, arith}
use Rattle.std.proofs.lemmas.Option.{slice_get_within}
use Rattle.lg_rank.specs.Values.{value_of}
use Rattle.lg_rank.specs.Tables.{IsTable, Holds}
use Rattle.lg_rank.specs.declared.node.Node.{Node}
use Rattle.lg_rank.proofs.Steps.{after_holds, first_holds, place_in, took_either}
use Rattle.lg_rank.proofs.node.take_part.Goals as goal

pub with_part-requires-clause-table : goal.with_part-requires-clause-table
with_part-requires-clause-table c = subst (λ n. IsTable (value_of c.args.nothing.now) n) (sym c.as_slice.ensures.value) c.requires.table

pub with_part-requires-clause-holds : goal.with_part-requires-clause-holds
with_part-requires-clause-holds c = λ live. subst (λ n. Holds (value_of c.args.nothing.now) n c.args.k c.args.after) (sym c.as_slice.ensures.value)
    (after_holds (value_of c.args.nothing.now) c.args.nodes.now.items c.args.k c.args.choice c.args.after c.requires.table c.requires.chosen c.requires.goes_on live)

pub last_with_part-requires-clause-within : goal.last_with_part-requires-clause-within
last_with_part-requires-clause-within c =
    let within = slice_get_within c.args.nodes.now.items c.args.k c.requires.chosen.begun.node c.requires.chosen.begun.here in
    let same = ap (λ (n : List Node). length n) c.as_slice-2.ensures.value in
    omega arith

pub last_with_part-requires-clause-table : goal.last_with_part-requires-clause-table
last_with_part-requires-clause-table c = subst (λ n. IsTable (value_of c.args.nothing.now) n) (sym c.as_slice-2.ensures.value) c.requires.table

pub last_with_part-requires-clause-holds : goal.last_with_part-requires-clause-holds
last_with_part-requires-clause-holds c = λ row e. subst (λ n. Holds (value_of c.args.nothing.now) n c.args.k row) (sym c.as_slice-2.ensures.value)
    (first_holds (value_of c.args.nothing.now) c.args.nodes.now.items c.args.k c.args.choice c.args.first row c.requires.table c.requires.chosen c.requires.begin e)

pub index_mut-requires : goal.index_mut-requires
index_mut-requires c =
    let within = slice_get_within c.args.nodes.now.items c.args.k c.requires.chosen.begun.node c.requires.chosen.begun.here in
    let same = ap (λ (n : List Node). length n) c.as_slice.ensures.value in
    let size = c.as_slice.ensures.len in
    omega arith

pub put-requires-clause-within : goal.put-requires-clause-within
put-requires-clause-within c = (place_in (value_of c.args.nothing.now) c.args.nodes.now.items c.args.k c.args.choice c.index_mut.result.now c.requires.chosen c.index_mut.ensures.value).1

pub put-requires-clause-first : goal.put-requires-clause-first
put-requires-clause-first c = (place_in (value_of c.args.nothing.now) c.args.nodes.now.items c.args.k c.args.choice c.index_mut.result.now c.requires.chosen c.index_mut.ensures.value).2

pub returns-clause-stepped : goal.returns-clause-stepped
returns-clause-stepped c =
    (took_either (value_of c.args.nothing.now) c.args.nodes.now.items c.as_slice.result.now c.as_slice-2.result.now c.args.k c.args.choice c.args.after c.args.first c.in_ok-again.again c.in_ok-opened.opened c.index_mut.result.now c.put.new.node c.put.result
    (record { forest = c.requires.forest; table = c.requires.table; chosen = c.requires.chosen; goes_on = c.requires.goes_on; begin = c.requires.begin }) c.index_mut.ensures.value c.as_slice.ensures.value c.as_slice-2.ensures.value c.in_ok-again.ensures c.in_ok-opened.ensures c.put.ensures.ok c.put.ensures.err).0

pub returns-clause-more : goal.returns-clause-more
returns-clause-more c =
    (took_either (value_of c.args.nothing.now) c.args.nodes.now.items c.as_slice.result.now c.as_slice-2.result.now c.args.k c.args.choice c.args.after c.args.first c.in_ok-again.again c.in_ok-opened.opened c.index_mut.result.now c.put.new.node c.put.result
    (record { forest = c.requires.forest; table = c.requires.table; chosen = c.requires.chosen; goes_on = c.requires.goes_on; begin = c.requires.begin }) c.index_mut.ensures.value c.as_slice.ensures.value c.as_slice-2.ensures.value c.in_ok-again.ensures c.in_ok-opened.ensures c.put.ensures.ok c.put.ensures.err).1
