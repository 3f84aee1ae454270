use Rattle.std.proofs.Common.{◌≡◌, ◌≤◌, ◌+◌, length, refl, sym, subst, arith}
use Rattle.std.specs.List.{All}
use Rattle.std.proofs.lemmas.Grind.{common_steps}
use Rattle.std.proofs.lemmas.List.Elements.{All-filter}
use Rattle.lg_member.specs.Members.{IsKnown}
use Rattle.lg_pprune.proofs.Settling.{settled_none, settled_more, settled_all}
use Rattle.lg_pprune.proofs.rounds.settle.Goals as goal

pub loop-before-init : goal.loop-before-init
loop-before-init c =
    let e : c.len-before.result + 1 ≡ length c.args.members.now.items + 1 = (let e = c.len-before.ensures in grind (arith, common_steps)) in
    settled_none c.members_go_by_rounds.ensures c.args.words c.args.members.now.items c.args.members.now.items (c.len-before.result + 1) refl e

pub round-requires : goal.round-requires
round-requires c =
    let i = c.loop-before.invariant in
    subst (λ z. All (IsKnown c.args.lefts.now c.args.rights.now) z) (sym i.left.1.filtered) (All-filter i.left.0 (IsKnown c.args.lefts.now c.args.rights.now) c.args.members.now.items c.requires)

pub loop-before-preserved : goal.loop-before-preserved
loop-before-preserved c =
    let e : c.len-before-in-loop-before.result ≡ length c.loop-before.members.items = (let e = c.len-before-in-loop-before.ensures in grind (arith, common_steps)) in
    settled_more c.members_go_by_rounds.ensures c.args.words c.args.members.now.items c.loop-before.members.items c.round.new.members.items c.loop-before.before c.len-before-in-loop-before.result c.loop-before.invariant c.in_ok-round.ensures e

pub returns : goal.returns
returns c =
    let h : c.loop-before.before ≤ length c.loop-before.members.items = (let e = c.len.ensures in let t = c.loop-before-test.false in grind (arith, common_steps)) in
    settled_all c.args.words c.args.members.now.items c.loop-before.members.items c.loop-before.before c.loop-before.invariant h
