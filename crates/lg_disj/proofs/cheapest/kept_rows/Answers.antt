use Rattle.std.proofs.Common.{◌≡◌, rules, is_lt, map, length, ap, arith}
use Rattle.std.specs.Ordering.{eq_by_cmp}
use Rattle.std.proofs.lemmas.Fn.{always_returns_same, dedup_same}
use Rattle.std.proofs.lemmas.List.{length-map}
use Rattle.std.proofs.lemmas.List.MinMax.{ranks_by}
use Rattle.std.proofs.lemmas.List.Sorted.{length_permutation}
use Rattle.lg_disj.specs.declared.numbers.Numbered.{Numbered}
use Rattle.lg_disj.specs.declared.arena.Row.{Row}
use Rattle.lg_disj.specs.Ranks.{lists_numbers_cmp, numbers_cmp}
use Rattle.lg_disj.proofs.Numbering.{arranged, kept_by_numbers, numbers_total, same_rows}
use Rattle.lg_disj.proofs.cheapest.kept_rows.Goals as goal

abbrev row : Numbered → Row
row k = k.row

pub returns-clause-kept : goal.returns-clause-kept
returns-clause-kept c =
    let sorted = c.sort_by.new.self.items in
    let moved = arranged c.in_ok-numbered.numbered.items c.deref_mut.result.now c.arrange.new.numbered _ sorted _ c.in_ok-sort_by.ensures.permutation c.deref_mut.ensures.value c.in_ok-arrange.ensures (omega arith) in
    let order = c.in_ok-sort_by.ensures.sorted (λ a b. is_lt (numbers_cmp a b)) (ranks_by numbers_total (λ g. g))
    (always_returns_same _ (λ a r. is_lt r ≡ is_lt (numbers_cmp a.0.now a.1.0.now)) _ (λ a r q k. search rules)) in
    let deduped = dedup_same _ (eq_by_cmp lists_numbers_cmp) _ (λ x y b f' x' y' k. search rules) sorted c.dedup_by.new.self.items c.dedup_by.ensures.filtered in
    kept_by_numbers c.args.ranked.now c.args.rows.now c.in_ok-numbered.numbered.items sorted (map row c.dedup_by.new.self.items) c.in_ok-numbered.ensures moved order
    (ap (map row) deduped)

pub returns-clause-few : goal.returns-clause-few
returns-clause-few c =
    let sorted = c.sort_by.new.self.items in
    let moved = arranged c.in_ok-numbered.numbered.items c.deref_mut.result.now c.arrange.new.numbered _ sorted _ c.in_ok-sort_by.ensures.permutation c.deref_mut.ensures.value c.in_ok-arrange.ensures (omega arith) in
    omega (
      arith,
      c.dedup_by.ensures.bound,
      c.in_ok-sort_by.ensures.len,
      length_permutation c.in_ok-numbered.numbered.items sorted moved,
      length-map c.in_ok-numbered.numbered.items row,
      ap length (same_rows c.args.ranked.now c.args.rows.now c.in_ok-numbered.numbered.items c.in_ok-numbered.ensures),
    )
