use Rattle.std.proofs.Common.{◌≡◌, true, arith, length-append}
use Rattle.lg_gram.specs.declared.linkage.Link.{Link}
use Rattle.lg_rules.proofs.Partners.{has_pushed, has_skipped, has_all_partners}
use Rattle.lg_rules.proofs.list.candidates.push_partners.Goals as goal
use Rattle.lg_rules.proofs.list.candidates.push_partners.Goals.{then-can_link+in_ok-push, else-can_link}

pub loop-rplace-preserved : goal.loop-rplace-preserved
loop-rplace-preserved c =
    let chosen = c.args.chosen.now in
    let out = c.loop-rplace.out.items in
    let here : Link = record { left = c.args.left; lplace = c.args.lplace; right = c.args.right; rplace = c.loop-rplace.rplace } in
    record {
      those = elim c.if-can_link.branch [
        | then-can_link+in_ok-push w ↦ rw (w.out-is, w.in_ok-push.ensures.items) (has_pushed chosen out here (c.can_link.ensures.0 w.if-can_link.true) c.loop-rplace.invariant.those)
        | else-can_link w ↦ rw w.out-is (has_skipped chosen out here (λ can. let t : c.can_link.result ≡ true = c.can_link.ensures.1 can in cc) c.loop-rplace.invariant.those)
      ];
      few = elim c.if-can_link.branch [
        | then-can_link+in_ok-push w ↦ rw (w.out-is, w.in_ok-push.ensures.items, length-append) (omega arith)
        | else-can_link w ↦ rw w.out-is (omega arith)
      ];
    }

pub returns-clause-after : goal.returns-clause-after
returns-clause-after c =
    has_all_partners c.args.chosen.now c.loop-rplace.out.items c.args.left c.args.right c.args.lplace c.loop-rplace.rplace
    (rw c.left_at.ensures.value at c.loop-rplace-test.false) c.loop-rplace.invariant.those
