use Rattle.std.proofs.Common.{arith, rules, refl, length, take, drop, ◌-◌, Some}
use Rattle.lg_gram.specs.Limits.{LINKAGE_POSITIONS}
use Rattle.lg_rules.proofs.Choosing.{chosen_all, none_first, none_skipped, one_more, one_skipped, chosen_each, cons_of_item}
use Rattle.lg_rules.proofs.Fitting.{later_fit, next_fits, next_short}
use Rattle.lg_rules.proofs.list.choosing.+choose.Goals as goal
use Rattle.lg_rules.proofs.list.choosing.+choose.Goals.{then-spare-gt0+in_ok-next-in-len1-up+in_ok-choose-in-len1-up, else-spare-gt0, then-can_stand+in_ok-next-in-len1-up-2+in_ok-choose-in-len1-up-2, else-can_stand}

pub choose-requires-then-can_stand : goal.choose-requires-then-can_stand
choose-requires-then-can_stand t c =
    let chosen = c.args.chosen.now in
    let rows = c.args.rows.now in
    let row = c.row-item.result in
    let later = take (length rows - 1) (drop 1 rows) in
    let split = cons_of_item rows row (omega arith) c.row-item.is in
    let next = c.in_ok-next-in-len1-up-2.next in (
      search rules,
      (
        next_short chosen rows row later split LINKAGE_POSITIONS c.requires.positions (Some c.disjunct-item.result) next c.in_ok-next-in-len1-up-2.ensures,
        (
          next_fits chosen rows row later split c.requires.fit c.requires.rows_fit c.items-disjunct-items.result.now c.items-disjunct-items.ensures c.loop-disjunct.disjunct-index c.disjunct-item.result
              c.loop-disjunct-test.true c.disjunct-item.is next c.in_ok-next-in-len1-up-2.ensures,
          later_fit chosen rows row later split c.requires.rows_fit,
        ),
      ),
    )

pub loop-disjunct-init : goal.loop-disjunct-init
loop-disjunct-init t c =
    let later = take (length c.args.rows.now - 1) (drop 1 c.args.rows.now) in
    elim c.if-spare-gt0.branch [
      | then-spare-gt0+in_ok-next-in-len1-up+in_ok-choose-in-len1-up w ↦
          rw w.out-is (none_first c.args.chosen.now later c.args.spare w.in_ok-next-in-len1-up.next c.args.out.now.items w.choose.new.out.items (omega arith) w.in_ok-next-in-len1-up.ensures w.in_ok-choose-in-len1-up.ensures)
      | else-spare-gt0 w ↦ rw w.out-is (none_skipped c.args.chosen.now later c.args.spare c.args.out.now.items (omega arith))
    ]

pub loop-disjunct-preserved : goal.loop-disjunct-preserved
loop-disjunct-preserved t c =
    let later = take (length c.args.rows.now - 1) (drop 1 c.args.rows.now) in
    elim c.if-can_stand.branch [
      | then-can_stand+in_ok-next-in-len1-up-2+in_ok-choose-in-len1-up-2 w ↦
          rw w.out-is
          (one_more c.args.chosen.now later c.args.spare c.items-disjunct-items.result.now c.loop-disjunct.disjunct-index c.disjunct-item.result w.in_ok-next-in-len1-up-2.next c.args.out.now.items c.loop-disjunct.out.items
          w.choose-then-can_stand.new.out.items c.loop-disjunct-test.true c.disjunct-item.is w.in_ok-next-in-len1-up-2.ensures c.loop-disjunct.invariant w.in_ok-choose-in-len1-up-2.ensures)
      | else-can_stand w ↦
          rw w.out-is
          (one_skipped c.args.chosen.now later c.args.spare c.items-disjunct-items.result.now c.loop-disjunct.disjunct-index c.disjunct-item.result c.args.out.now.items c.loop-disjunct.out.items
          (length later) c.can_stand.result c.loop-disjunct-test.true c.disjunct-item.is refl
          (rw c.items.ensures at c.can_stand.ensures.1) w.if-can_stand.false c.loop-disjunct.invariant)
    ]

pub returns-in_ok-add_sound-in-empty : goal.returns-in_ok-add_sound-in-empty
returns-in_ok-add_sound-in-empty t c =
    chosen_all c.args.chosen.now c.args.rows.now c.args.spare (omega arith) c.args.out.now.items c.add_sound.new.out.items c.in_ok-add_sound-in-empty.ensures

pub returns-after-loop-disjunct : goal.returns-after-loop-disjunct
returns-after-loop-disjunct t c =
    let rows = c.args.rows.now in
    let later = take (length rows - 1) (drop 1 rows) in
    chosen_each c.args.chosen.now later c.args.spare c.row-item.result rows c.loop-disjunct.disjunct-index c.args.out.now.items c.loop-disjunct.out.items
    (cons_of_item rows c.row-item.result (omega arith) c.row-item.is) (rw c.items-disjunct-items.ensures at c.loop-disjunct-test.false) (rw c.items-disjunct-items.ensures at c.loop-disjunct.invariant)
