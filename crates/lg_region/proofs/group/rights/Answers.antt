use Rattle.std.proofs.Common.{◌<◌, ◌+◌, length, get_or, [], refl, arith, rules}
use Rattle.lg_region.proofs.Splitting.{led_itself, led_next, rights_all, rights_more, rights_none, rights_skip, right_known}
use Rattle.lg_region.proofs.group.rights.Goals as goal

pub loop-number-init : goal.loop-number-init
loop-number-init c = record {
  later = omega arith;
  led = c.requires.group.first;
  rights = rights_none c.args.lists.now c.args.gap.now c.args.group.now _ (search rules);
}

pub loop-number-preserved : goal.loop-number-preserved
loop-number-preserved c =
    let numbers = c.args.lists.now in
    let gap = c.args.gap.now in
    let group = c.args.group.now in
    let number = c.loop-number.number in
    let listed = c.requires.group.listed in
    let test = c.loop-number-test.true in
    let led = c.loop-number.invariant.led in
    let before = c.loop-number.invariant.later in
    let l : number < length (get_or numbers.positions group.word []) = omega arith in
    let next = led_next numbers gap.lead group.word number c.next-number.result l led c.next-number.ensures in
    let later = next.later in
    record {
      later = omega arith;
      led = led_itself numbers gap.lead group.word (number + 1) c.next-number.result next;
      rights = rights_skip numbers gap group c.push_ways.new.out.items (number + 1) c.next-number.result listed next
          (rights_more numbers gap group number c.sides-sides.result _ c.loop-number.rights.items c.push_ways.new.out.items c.in_ok-push_ways.ensures.ways
          before test listed led.same c.sides-sides.ensures refl c.in_ok-push_ways.ensures.exactly c.in_ok-push_ways.ensures.added c.loop-number.invariant.rights);
    }

pub loop-number-smaller : goal.loop-number-smaller
loop-number-smaller c =
    let numbers = c.args.lists.now in
    let group = c.args.group.now in
    let number = c.loop-number.number in
    let listed = c.requires.group.listed in
    let test = c.loop-number-test.true in
    let l : number < length (get_or numbers.positions group.word []) = omega arith in
    let later = (led_next numbers c.args.gap.now.lead group.word number c.next-number.result l c.loop-number.invariant.led c.next-number.ensures).later in
    omega arith

pub returns : goal.returns
returns c = rights_all c.args.lists.now c.args.gap.now c.args.group.now c.loop-number.rights.items c.loop-number.number c.loop-number-test.false c.loop-number.invariant.rights

pub push_ways-requires : goal.push_ways-requires
push_ways-requires c =
    let a = c.loop-number-test.true in
    let b = c.requires.group.listed in
    let l : c.loop-number.number < length (get_or c.args.lists.now.positions c.args.group.now.word []) = omega arith in
    record { near = right_known c.args.lists.now c.args.group.now.word c.loop-number.number c.sides-sides.result l c.sides-sides.ensures; far = c.requires.gap.rlist }
