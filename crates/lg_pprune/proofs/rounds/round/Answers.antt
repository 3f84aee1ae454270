use Rattle.std.proofs.Common.{true, false, length, subst}
use Rattle.lg_pprune.specs.Sites.{IsTableOf, AreServed}
use Rattle.lg_member.specs.Members.{AreUsed, Keeps, are_on}
use Rattle.lg_pprune.proofs.Supporting.{round_keeps}
use Rattle.lg_pprune.proofs.rounds.round.Goals as goal

pub returns : goal.returns
returns c =
    let lefts = c.args.lefts.now in
    let rights = c.args.rights.now in
    let ms = c.args.members.now.items in
    let lu = c.in_ok-left_used.left_used.items in
    let ru = c.in_ok-right_used.right_used.items in
    let lt = c.in_ok-left_sites.left_sites in
    let rt = c.in_ok-right_sites.right_sites in
    let lg = c.in_ok-left_good.left_good.items in
    let rg = c.in_ok-right_good.right_good.items in
    round_keeps c.args.words lefts rights ms c.keep.new.members.items lu ru lg rg lt rt c.requires
    (subst (λ z. AreUsed false (length lefts) z lu) c.deref.ensures.value c.in_ok-left_used.ensures)
    (subst (λ z. AreUsed true (length rights) z ru) c.deref-2.ensures.value c.in_ok-right_used.ensures)
    (subst (λ z. IsTableOf false c.args.words lefts z lt) c.deref-3.ensures.value c.in_ok-left_sites.ensures)
    (subst (λ z. IsTableOf true c.args.words rights z rt) c.deref-4.ensures.value c.in_ok-right_sites.ensures)
    (subst (λ z. AreServed false c.args.words rt lefts z lg) c.deref-5.ensures.value c.in_ok-left_good.ensures)
    (subst (λ z. AreServed true c.args.words lt rights z rg) c.deref-6.ensures.value c.in_ok-right_good.ensures)
    (subst (λ z. Keeps (are_on z rg) ms c.keep.new.members.items) c.deref-7.ensures.value (subst (λ z. Keeps (are_on c.deref-7.result.now z) ms c.keep.new.members.items) c.deref-8.ensures.value c.keep.ensures))
