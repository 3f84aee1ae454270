use Rattle.std.proofs.Common.{◌<◌, ◌+◌, length, get_or, [], refl, arith}
use Rattle.lg_region.specs.Groups.{right_of}
use Rattle.lg_region.proofs.Splitting.{led_itself, led_next, none_all, none_more, right_is, right_known, rights_none}
use Rattle.lg_region.proofs.opening.has_right.Goals as goal

pub loop-number-init : goal.loop-number-init
loop-number-init c = record {
  later = omega arith;
  led = c.requires.group.first;
  none = rights_none c.args.lists.now c.args.gap.now c.args.group.now [] refl;
}

pub has_way-found-requires-clause-near : goal.has_way-found-requires-clause-near
has_way-found-requires-clause-near c =
    let a = c.loop-number-test.true in
    let b = c.requires.group.listed in
    let l : c.loop-number.number < length (get_or c.args.lists.now.positions c.args.group.now.word []) = omega arith in
    right_known c.args.lists.now c.args.group.now.word c.loop-number.number c.sides-sides.result l c.sides-sides.ensures

pub returns-then-found : goal.returns-then-found
returns-then-found c =
    let w = c.has_way-found.ensures.0 c.if-found.true in (
      λ t. (
        right_of c.loop-number.number w.0,
        right_is c.args.lists.now c.args.gap.now c.args.group.now c.loop-number.number c.sides-sides.result _ w.0 c.loop-number.invariant.later c.loop-number-test.true
            c.loop-number.invariant.led.same c.sides-sides.ensures refl w.1,
      ),
      λ h. refl,
    )

pub loop-number-preserved : goal.loop-number-preserved
loop-number-preserved c =
    let numbers = c.args.lists.now in
    let gap = c.args.gap.now in
    let group = c.args.group.now in
    let number = c.loop-number.number in
    let listed = c.requires.group.listed in
    let test = c.loop-number-test.true in
    let led = c.loop-number.invariant.led in
    let before = c.loop-number.invariant.later in
    let l : number < length (get_or numbers.positions group.word []) = omega arith in
    let next = led_next numbers gap.lead group.word number c.next-number.result l led c.next-number.ensures in
    let later = next.later in
    record {
      later = omega arith;
      led = led_itself numbers gap.lead group.word (number + 1) c.next-number.result next;
      none = none_more numbers gap group number c.next-number.result c.sides-sides.result _ before test listed led.same c.sides-sides.ensures refl
          (λ h. let t = c.has_way-found.ensures.1 h in let f = c.if-found.false in absurd cc) next c.loop-number.invariant.none;
    }

pub loop-number-smaller : goal.loop-number-smaller
loop-number-smaller c =
    let numbers = c.args.lists.now in
    let group = c.args.group.now in
    let number = c.loop-number.number in
    let listed = c.requires.group.listed in
    let test = c.loop-number-test.true in
    let l : number < length (get_or numbers.positions group.word []) = omega arith in
    let later = (led_next numbers c.args.gap.now.lead group.word number c.next-number.result l c.loop-number.invariant.led c.next-number.ensures).later in
    omega arith

pub returns : goal.returns
returns c = (λ t. absurd cc, λ h. absurd (none_all c.args.lists.now c.args.gap.now c.args.group.now c.loop-number.number c.loop-number-test.false c.loop-number.invariant.none h))
