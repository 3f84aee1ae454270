use Rattle.std.proofs.Common.{map, subst}
use Rattle.lg_disj.specs.Outlines.{all_in}
use Rattle.lg_member.specs.Members.{AddsMembers}
use Rattle.lg_member.proofs.Adding.{grows_none, grows_more, members_none}
use Rattle.lg_member.proofs.Outlining.{positions_more}
use Rattle.lg_member.proofs.outlines.members_in.Goals as goal

pub loop-position-init : goal.loop-position-init
loop-position-init c = record {
  members = members_none (map all_in c.args.positions.now) c.args.lefts.now.items c.args.rights.now.items c.in_ok-members.members.items c.in_ok-members.ensures.items;
  lefts = grows_none c.args.lefts.now.items;
  rights = grows_none c.args.rights.now.items;
}

pub loop-position-preserved : goal.loop-position-preserved
loop-position-preserved c = record {
  members = positions_more c.args.positions.now c.loop-position.position c.index-positions-position.result c.loop-position.lefts.items c.loop-position.rights.items c.push_outlines.new.lefts.items c.push_outlines.new.rights.items
      c.loop-position.members.items c.push_outlines.new.members.items c.loop-position-test.true c.index-positions-position.is
      (subst (λ z. AddsMembers c.loop-position.position (all_in z) c.loop-position.lefts.items c.loop-position.rights.items c.push_outlines.new.lefts.items c.push_outlines.new.rights.items c.loop-position.members.items c.push_outlines.new.members.items) c.items.ensures c.in_ok-push_outlines.ensures.added)
      c.loop-position.invariant.members;
  lefts = grows_more c.args.lefts.now.items c.loop-position.lefts.items c.push_outlines.new.lefts.items c.loop-position.invariant.lefts c.push_outlines.ensures.lefts;
  rights = grows_more c.args.rights.now.items c.loop-position.rights.items c.push_outlines.new.rights.items c.loop-position.invariant.rights c.push_outlines.ensures.rights;
}

-- a list that could not grow keeps what it had
pub returns-in_err-push_outlines-clause-lefts : goal.returns-in_err-push_outlines-clause-lefts
returns-in_err-push_outlines-clause-lefts c = grows_more c.args.lefts.now.items c.loop-position.lefts.items c.push_outlines.new.lefts.items c.loop-position.invariant.lefts c.push_outlines.ensures.lefts

pub returns-in_err-push_outlines-clause-rights : goal.returns-in_err-push_outlines-clause-rights
returns-in_err-push_outlines-clause-rights c = grows_more c.args.rights.now.items c.loop-position.rights.items c.push_outlines.new.rights.items c.loop-position.invariant.rights c.push_outlines.ensures.rights
