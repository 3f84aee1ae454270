use Rattle.std.proofs.Common.{◌≡◌, ◌==◌, suc, Bool, true, false, List, [], ◌∷◌, length, get_or, replicate, inl, inr, refl, ap, ◌∙◌, arith}
use Rattle.std.proofs.lemmas.Bool.Decides.{nat_tests}
use Rattle.std.proofs.lemmas.List.{take_all}
use Rattle.lg_pp.proofs.Parting.{leasts_none, are_heads, leasts_more, leasts_stay}
use Rattle.lg_pp.proofs.group.leasts.Goals as goal
use Rattle.lg_pp.proofs.group.leasts.Goals.{then-not-is_empty+in_ok-leasts-2, else-not-is_empty}

pub loop-row-init : goal.loop-row-init
loop-row-init c =
    let all : c.in_ok-leasts.leasts.items ≡ replicate c.args.count 0 = c.in_ok-leasts.ensures.items_if_clones_equal (λ y same. same) in
    rw all (leasts_none c.args.rows.now c.args.count)

pub parted-requires-clause-heads : goal.parted-requires-clause-heads
parted-requires-clause-heads c =
    rw c.deref.ensures.value (are_heads c.args.rows.now c.loop-row.row-index c.row-item.result c.loop-row-test.true c.row-item.is c.args.count c.loop-row.leasts.items c.loop-row.invariant)

has_flags : (row items at : List Bool) (empty : Bool) → items ≡ row → row ≡ at → empty ≡ (length items == 0) → empty ≡ false → at ≡ [] → ⊥
has_flags row items at empty e f is not none = let z : length items ≡ 0 = ap length (e ∙ f ∙ none) in grind (arith, nat_tests)

no_flags : (row items : List Bool) (empty : Bool) → items ≡ row → empty ≡ (length items == 0) → empty ≡ true → row ≡ []
no_flags [] items empty e is t = refl
no_flags (b ∷ bs) items empty e is t = absurd (let z : length items ≡ suc (length bs) = ap length e in grind (arith, nat_tests))

-- a row that is not empty has a flag for each link
pub parted-requires-clause-flags : goal.parted-requires-clause-flags
parted-requires-clause-flags c =
    let row = c.row-item.result in
    let at = get_or c.args.rows.now c.loop-row.row-index row in
    let count = c.loop-row.invariant.same_length in
    elim (c.requires c.loop-row.row-index row c.loop-row-test.true) [
      | inl none ↦ absurd (has_flags row c.items.result.now at c.is_empty.result c.items.ensures c.row-item.is c.is_empty.ensures c.if-not-is_empty.true none)
      | inr long ↦ let e : length row ≡ length at = ap length c.row-item.is in rw (c.deref.ensures.value, c.items-then-not-is_empty.ensures) (omega (arith, long, e, count))
    ]

-- one more row parts the classes, where it has flags
pub loop-row-preserved : goal.loop-row-preserved
loop-row-preserved c =
    let rows = c.args.rows.now in
    let i = c.loop-row.row-index in
    let row = c.row-item.result in
    elim c.if-not-is_empty.branch [
      | then-not-is_empty+in_ok-leasts-2 w ↦
          rw w.leasts-is (leasts_more rows i row c.loop-row-test.true c.row-item.is c.args.count c.loop-row.leasts.items c.loop-row.invariant w.in_ok-leasts-2.leasts.items
          (rw (w.deref.ensures.value, w.items-then-not-is_empty.ensures) at w.in_ok-leasts-2.ensures))
      | else-not-is_empty w ↦
          rw w.leasts-is (leasts_stay rows i row c.loop-row-test.true c.row-item.is c.args.count c.loop-row.leasts.items c.loop-row.invariant
          (no_flags row c.items.result.now c.is_empty.result c.items.ensures c.is_empty.ensures w.if-not-is_empty.false))
    ]

pub returns : goal.returns
returns c =
    let e = take_all c.loop-row.row-index c.args.rows.now (omega arith) in
    rw (← e) c.loop-row.invariant
