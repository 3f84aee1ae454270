use Rattle.std.proofs.Common.{ap, length, arith}
use Rattle.std.proofs.lemmas.List.{length-map}
use Rattle.lg_disj.specs.declared.arena.Row.{Row}
use Rattle.lg_disj.specs.declared.numbers.Numbered.{Numbered}
use Rattle.lg_disj.specs.Places.{row_in}
use Rattle.lg_disj.proofs.Kept_rows.{kept_rise, kept_exactly, kept_lie, kept_placed, kept_by}
use Rattle.lg_disj.proofs.cheapest.cheapest.Goals as goal

abbrev row : Numbered → Row
row k = k.row

pub returns-clause-rise : goal.returns-clause-rise
returns-clause-rise c =
    kept_rise c.args.leaves.now c.in_ok-ranks.ranks.items c.in_ok-ranks.ensures c.args.all.places.items c.args.all.rows.items c.in_ok-rows.rows.items
    c.requires.arena c.requires.stand.placed (kept_by _ _ _ _ _ _ _ _ _ _ _ c.deref.ensures.value c.deref-2.ensures.value c.in_ok-ranked.ensures c.deref-3.ensures.value c.deref-4.ensures.value
    c.deref-5.ensures.value c.in_ok-rows.ensures c.in_ok-numbered.ensures.kept)

pub returns-clause-exactly : goal.returns-clause-exactly
returns-clause-exactly c =
    kept_exactly c.args.leaves.now c.in_ok-ranks.ranks.items c.in_ok-ranks.ensures c.args.all.places.items c.connectors_are_ordered.ensures.exact
    c.args.all.rows.items c.in_ok-rows.rows.items c.requires.arena c.requires.stand.placed c.requires.stand.sided (kept_by _ _ _ _ _ _ _ _ _ _ _ c.deref.ensures.value c.deref-2.ensures.value c.in_ok-ranked.ensures c.deref-3.ensures.value c.deref-4.ensures.value
    c.deref-5.ensures.value c.in_ok-rows.ensures c.in_ok-numbered.ensures.kept)

pub returns-clause-few : goal.returns-clause-few
returns-clause-few c =
    let f = row_in c.args.all.places.items in
    omega (
      arith,
      length-map c.in_ok-rows.rows.items f,
      length-map c.args.all.rows.items f,
      ap length c.in_ok-rows.ensures,
      length-map c.deref-5.result.now row,
      ap length c.deref-5.ensures.value,
      c.in_ok-numbered.ensures.few,
      ap length c.deref-4.ensures.value,
    )

pub returns-clause-arena : goal.returns-clause-arena
returns-clause-arena c =
    kept_lie c.args.leaves.now c.in_ok-ranks.ranks.items c.in_ok-ranks.ensures c.args.all.places.items c.args.all.rows.items c.in_ok-rows.rows.items
    c.requires.arena c.requires.stand.placed (kept_by _ _ _ _ _ _ _ _ _ _ _ c.deref.ensures.value c.deref-2.ensures.value c.in_ok-ranked.ensures c.deref-3.ensures.value c.deref-4.ensures.value
    c.deref-5.ensures.value c.in_ok-rows.ensures c.in_ok-numbered.ensures.kept)

pub returns-clause-placed : goal.returns-clause-placed
returns-clause-placed c =
    kept_placed c.args.leaves.now c.in_ok-ranks.ranks.items c.in_ok-ranks.ensures c.args.all.places.items c.args.all.rows.items c.in_ok-rows.rows.items
    c.requires.arena c.requires.stand.placed (kept_by _ _ _ _ _ _ _ _ _ _ _ c.deref.ensures.value c.deref-2.ensures.value c.in_ok-ranked.ensures c.deref-3.ensures.value c.deref-4.ensures.value
    c.deref-5.ensures.value c.in_ok-rows.ensures c.in_ok-numbered.ensures.kept)
