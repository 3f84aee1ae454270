use Rattle.std.proofs.Common.{◌+◌, ◌%◌, ◌<◌, length, ap, sym, ◌∙◌, subst, arith, add-one, length-set}
use Rattle.std.proofs.lemmas.Grind.{get_or_default_zero}
use Rattle.lg_forest.specs.Slots.{AreLinked, keys_in, nexts_in}
use Rattle.lg_forest.proofs.Slotting.{linked_next, pairs_same, read_at}
use Rattle.lg_forest.proofs.slots.linked.Goals as goal

pub loop-at-preserved : goal.loop-at-preserved
loop-at-preserved g c =
    let spread = g.K.Spread.spread in
    let slots = c.loop-at.slots.items in
    let n = c.loop-at.at in
    let heads = c.loop-at.heads.items in
    let b = c.bucket_of-bucket.result in
    let s = c.index_mut-slot.result.now in
    let test = c.loop-at-test.true in
    let long = c.loop-at.invariant.long in
    let count = c.loop-at.invariant.count in
    let within = c.bucket_of-bucket.ensures.within in
    let small : b < length heads = omega arith in
    let l : n < length slots = omega arith in
    let at = read_at slots n s l c.index_mut-slot.ensures.value in
    let bucket = c.bucket_of-bucket.ensures.value ∙ ap (λ z. z % c.args.count) c.spread.ensures ∙ ap (λ z. spread s.key % z) (sym count) in
    let next = c.index.ensures ∙ get_or_default_zero heads b c.index.result.now small in
    record {
      linked = linked_next slots n s c.index.result.now at spread heads b (n + 1) (add-one n) bucket small next c.loop-at.invariant.linked;
      count = length-set heads b (n + 1) ∙ count;
      same = pairs_same slots n s c.index.result.now at ∙ c.loop-at.invariant.same;
      long = length-set slots n _ ∙ long;
    }

pub returns-clause-linked : goal.returns-clause-linked
returns-clause-linked g c =
    let test = c.loop-at-test.false in
    let end = c.loop-at.auto.at-end in
    let long = c.loop-at.invariant.long in
    subst (λ z. AreLinked g.K.Spread.spread (keys_in c.loop-at.slots.items) c.loop-at.heads.items (nexts_in c.loop-at.slots.items) z) (omega arith) c.loop-at.invariant.linked
