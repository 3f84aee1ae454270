use Rattle.std.proofs.Common.{◌≤◌, map, refl, sym, subst}
use Rattle.std.proofs.lemmas.List.{length-map}
use Rattle.lg_disj.specs.Outlines.{all_in}
use Rattle.lg_gram.specs.Limits.{POSITIONS}
use Rattle.lg_sharpen.proofs.Pruned.{are_members}
use Rattle.lg_sharpen.proofs.problem.sharpen_outlines.Goals as goal

pub members_in-requires : goal.members_in-requires
members_in-requires c = subst (λ z. z ≤ POSITIONS) (length-map c.args.positions.now all_in) c.requires.few

pub left_of-requires : goal.left_of-requires
left_of-requires c = (
  map all_in c.args.positions.now,
  are_members (map all_in c.args.positions.now) _ _ c.members_in.new.lefts.items c.members_in.new.rights.items _ _ _ c.requires refl (sym (length-map c.args.positions.now all_in))
      c.in_ok-members.ensures.members c.deref.ensures.value c.deref-2.ensures.value,
)

pub returns : goal.returns
returns c =
    c.left_of.ensures (map all_in c.args.positions.now)
    (are_members (map all_in c.args.positions.now) _ _ c.members_in.new.lefts.items c.members_in.new.rights.items _ _ _ c.requires refl (sym (length-map c.args.positions.now all_in)) c.in_ok-members.ensures.members c.deref.ensures.value
    c.deref-2.ensures.value)
