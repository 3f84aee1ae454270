use Rattle.std.proofs.Common.{arith, rules, ◌≡◌, ◌∙◌, ◌<◌, ◌+◌, ◌-◌, ◌^◌, ◌++◌, ◌∷◌, [], length, get_or, take, drop, refl, ap, length-append, Vec, Global}
use Rattle.std.proofs.lemmas.Grind.{common_steps}
use Rattle.std.proofs.lemmas.List.{get_or_default}
use Rattle.lg_gram.specs.declared.linkage.Link.{Link}
use Rattle.lg_rules.proofs.Completing.{Owes, owes_all, owes_last, with_link, without_link, never_without, turn_links, turn_few, turn_shorter, front_links}
use Rattle.lg_rules.proofs.list.completing.+complete.Goals as goal
use Rattle.lg_rules.proofs.list.completing.+complete.Goals.{then-fits+in_ok-push+in_ok-complete, else-fits}

abbrev none : Link
none = record { left = 0; lplace = 0; right = 0; rplace = 0 }

pub complete-requires : goal.complete-requires
complete-requires t c =
    let chosen = c.args.chosen.now in
    let taken = c.args.taken.now.items in
    let rest = c.args.rest.now in
    let i = c.loop-i.i in
    let link = get_or rest i none in
    let later = take (length rest - (i + 1)) (drop (i + 1) rest) in
    let here = get_or_default rest i none link c.loop-i-test.true in
    let more : c.push.new.self.items ≡ taken ++ link ∷ [] = rw c.loop-i.invariant.restored at c.in_ok-push.ensures.items in
    let shorter : length later < length rest = turn_shorter chosen taken rest i link later c.loop-i-test.true here refl in (
      search rules,
      (
        c.requires.positions,
        (
          c.requires.fit,
          (
            rw more (turn_links chosen taken rest i link later c.loop-i-test.true here refl c.requires.are),
            rw more (turn_few chosen taken rest i link later c.loop-i-test.true here refl (2 ^ 32) c.requires.few),
          ),
        ),
      ),
    )

pub loop-i-init : goal.loop-i-init
loop-i-init t c = record { restored = refl; owed = owes_all c.args.chosen.now c.args.taken.now.items c.args.rest.now c.args.out.now.items }

-- the link was taken, or does not fit; now it is left out
pub loop-i-preserved : goal.loop-i-preserved
loop-i-preserved t c =
    let chosen = c.args.chosen.now in
    let taken = c.args.taken.now.items in
    let rest = c.args.rest.now in
    let old = c.args.out.now.items in
    let i = c.loop-i.i in
    let link = get_or rest i none in
    let later = take (length rest - (i + 1)) (drop (i + 1) rest) in
    let here = get_or_default rest i none link c.loop-i-test.true in
    record {
      restored = elim c.if-fits.branch [
        | then-fits+in_ok-push+in_ok-complete w ↦
            ap (λ (v : Vec Link Global). v.items) w.taken-is ∙ grind (arith, common_steps, c.loop-i.invariant.restored, w.in_ok-push.ensures.items, w.in_ok-complete.ensures.restored, w.pop.ensures.rest, w.pop.ensures.items)
        | else-fits w ↦ ap (λ (v : Vec Link Global). v.items) w.taken-is ∙ c.loop-i.invariant.restored
      ];
      owed = elim c.if-fits.branch [
        | then-fits+in_ok-push+in_ok-complete w ↦
            rw w.out-is
            (with_link chosen taken rest i link later c.loop-i-test.true here refl old c.loop-i.out.items c.loop-i.invariant.owed w.push.new.self.items w.complete.new.out.items
            (rw c.loop-i.invariant.restored at w.in_ok-push.ensures.items) w.in_ok-complete.ensures.added)
        | else-fits w ↦
            rw w.out-is
            (without_link chosen taken rest i link later c.loop-i-test.true here refl old c.loop-i.out.items c.loop-i.invariant.owed
            c.deref.result.now c.fits.result (c.deref.ensures.value ∙ c.loop-i.invariant.restored) c.fits.ensures.1 w.if-fits.false)
      ];
    }

pub returns-then-not-is_covered-clause-restored : goal.returns-then-not-is_covered-clause-restored
returns-then-not-is_covered-clause-restored t c =
    elim c.if-fits.branch [
      | then-fits+in_ok-push+in_ok-complete w ↦
          ap (λ (v : Vec Link Global). v.items) w.taken-is ∙ grind (arith, common_steps, c.loop-i.invariant.restored, w.in_ok-push.ensures.items, w.in_ok-complete.ensures.restored, w.pop.ensures.rest, w.pop.ensures.items)
      | else-fits w ↦ ap (λ (v : Vec Link Global). v.items) w.taken-is ∙ c.loop-i.invariant.restored
    ]

-- no linkage leaves the link out
pub returns-then-not-is_covered-clause-added : goal.returns-then-not-is_covered-clause-added
returns-then-not-is_covered-clause-added t c =
    let chosen = c.args.chosen.now in
    let taken = c.args.taken.now.items in
    let rest = c.args.rest.now in
    let old = c.args.out.now.items in
    let i = c.loop-i.i in
    let link = get_or rest i none in
    let later = take (length rest - (i + 1)) (drop (i + 1) rest) in
    let here = get_or_default rest i none link c.loop-i-test.true in
    let owed : Owes chosen taken rest old (drop (i + 1) rest) c.if-fits.out.items = elim c.if-fits.branch [
      | then-fits+in_ok-push+in_ok-complete w ↦
          rw w.out-is
          (with_link chosen taken rest i link later c.loop-i-test.true here refl old c.loop-i.out.items c.loop-i.invariant.owed w.push.new.self.items w.complete.new.out.items
          (rw c.loop-i.invariant.restored at w.in_ok-push.ensures.items) w.in_ok-complete.ensures.added)
      | else-fits w ↦
          rw w.out-is
          (without_link chosen taken rest i link later c.loop-i-test.true here refl old c.loop-i.out.items c.loop-i.invariant.owed
          c.deref.result.now c.fits.result (c.deref.ensures.value ∙ c.loop-i.invariant.restored) c.fits.ensures.1 w.if-fits.false)
    ] in
    never_without chosen taken rest i link later c.loop-i-test.true here refl old c.if-fits.out.items c.deref-in-loop-i.result.now c.is_covered.result c.requires.are owed
    (c.deref-in-loop-i.ensures.value ∙ returns-then-not-is_covered-clause-restored t c) c.is_covered.ensures.1 c.if-not-is_covered.true

pub keep-requires-clause-are : goal.keep-requires-clause-are
keep-requires-clause-are t c =
    rw (c.deref-2.ensures.value, c.loop-i.invariant.restored) (front_links c.args.chosen.now c.args.taken.now.items c.args.rest.now c.requires.are)

pub keep-requires-clause-few : goal.keep-requires-clause-few
keep-requires-clause-few t c =
    rw (c.deref-2.ensures.value, c.loop-i.invariant.restored) (omega (arith, c.requires.few, length-append c.args.taken.now.items c.args.rest.now))

pub returns-clause-restored : goal.returns-clause-restored
returns-clause-restored t c = c.loop-i.invariant.restored

pub returns-clause-added : goal.returns-clause-added
returns-clause-added t c =
    owes_last c.args.chosen.now c.args.taken.now.items c.args.rest.now c.loop-i.i c.args.out.now.items c.loop-i.out.items c.keep.new.out.items (omega arith) c.loop-i.invariant.owed
    (rw (c.deref-2.ensures.value, c.loop-i.invariant.restored) at c.in_ok-keep.ensures)
