use Rattle.std.proofs.Common.{ℕ, ◌+◌, ◌<◌, length, ap, sym, ◌∙◌, arith, le_trans}
use Rattle.std.specs.Slots.{slots_items, slots_filled, slots_counts}
use Rattle.std.proofs.lemmas.List.{length_push}
use mathlib.Core.Option.{some}
use lib.ListN.{get_elem?}
use Rattle.lg_memo.proofs.Drained.{never_none, one_drained, empty_below, full_above}
use Rattle.lg_memo.proofs.closing.drain.Goals as goal

pub unreachable-requires : goal.unreachable-requires
unreachable-requires g c =
    let inv = c.loop-number.invariant in
    let k : ℕ = c.loop-number.number in
    let counts = slots_counts c.args.closed.slots in
    let less : k < length (slots_items c.args.closed.slots) = omega (arith, c.loop-number-test.true, c.requires.count, counts.0) in
    never_none (slots_items c.args.closed.slots) k c.take.result c.requires.stored less (ap (λ l. get_elem? l k) (sym inv.1) ∙ c.take.ensures.value) c.in_default.is

pub loop-number-preserved : goal.loop-number-preserved
loop-number-preserved g c =
    let inv = c.loop-number.invariant in
    let k : ℕ = c.loop-number.number in
    let counts = slots_counts c.args.closed.slots in
    let less : k < length (slots_items c.args.closed.slots) = omega (arith, c.loop-number-test.true, c.requires.count, counts.0) in
    let others = c.take.ensures.others in
    let before = c.loop-number.shards.items in
    let at = ap (λ l. get_elem? l k) (sym inv.1) ∙ c.take.ensures.value ∙ ap (λ o. some o) c.in-Some.is in (
      one_drained (slots_items c.args.closed.slots) k before c.push.new.self.items c.in-Some.shard less at inv.0 c.in-Ok.ensures.items,
      others.0 ∙ inv.1,
      others.2 ∙ inv.2,
      empty_below (slots_filled c.loop-number.closed.slots) (slots_filled c.take.new.self.slots) k others.1 inv.3,
      full_above (slots_filled c.loop-number.closed.slots) (slots_filled c.take.new.self.slots) k c.args.count others.1 inv.4,
      ap (λ l. length l) c.in-Ok.ensures.items ∙ length_push before c.in-Some.shard ∙ ap (λ (n : ℕ). n + 1) inv.5,
      le_trans inv.6 c.in-Ok.ensures.capacity,
    )
