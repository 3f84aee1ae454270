use Rattle.std.proofs.Common.{◌≡◌, length, get_or, [], ◌∷◌, ◌++◌, ap, subst, ◌∙◌, arith}
use Rattle.lg_region.specs.Groups.{IsGroup}
use Rattle.lg_region.specs.Openings.{GroupsOfWord}
use Rattle.lg_region.proofs.Grouped.{groups_none, groups_more}
use Rattle.lg_region.proofs.Splitting.{led_itself}
use Rattle.lg_region.proofs.opening.push_groups.Goals as goal

pub loop-from-init : goal.loop-from-init
loop-from-init c = record {
  led = led_itself c.args.lists.now c.args.gap.now.lead c.args.word 0 c.first-from.result c.first-from.ensures;
  added = groups_none c.args.lists.now c.args.gap.now c.args.word c.first-from.result c.args.groups.now.items c.requires.known.led c.first-from.ensures;
}

pub loop-from-preserved : goal.loop-from-preserved
loop-from-preserved c =
    let later = c.group_at-group.ensures.later in
    let g = c.group_at-group.result in
    let is : g ≡ record { word = c.args.word; left = g.left; from = c.loop-from.from; to = g.to } = λ i. record { word = c.group_at-group.ensures.word i; left = g.left; from = c.group_at-group.ensures.from i; to = g.to } in
    record {
      led = c.group_at-group.ensures.led;
      added = groups_more c.args.lists.now c.args.gap.now c.args.word g.left c.loop-from.from g.to c.args.groups.now.items c.loop-from.groups.items c.push.new.self.items (omega arith)
          (subst (IsGroup c.args.lists.now c.args.gap.now) is c.group_at-group.ensures.group) c.loop-from.invariant.added (c.in_ok-push.ensures.items ∙ ap (λ h. c.loop-from.groups.items ++ h ∷ []) is);
    }

pub returns : goal.returns
returns c =
    let e = c.count-count.ensures in
    let l = c.loop-from-test.false in
    let w = c.loop-from.invariant.led.within in
    let all : c.loop-from.from ≡ length (get_or c.args.lists.now.positions c.args.word []) = omega arith in
    subst (λ z. GroupsOfWord c.args.lists.now c.args.gap.now c.args.word z c.args.groups.now.items c.loop-from.groups.items) all c.loop-from.invariant.added
