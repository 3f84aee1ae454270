use Rattle.std.proofs.Common.{sym, subst}
use Rattle.std.specs.List.{All}
use Rattle.std.proofs.lemmas.List.Elements.{All-filter}
use Rattle.lg_member.specs.Members.{IsKnown}
use Rattle.lg_sharpen.specs.Bounds.{KeepsNeeds}
use Rattle.lg_sharpen.specs.Sites.{items_in}
use Rattle.lg_sharpen.proofs.Standing.{keeps_none, keeps_more, keeps_needs}
use Rattle.lg_sharpen.proofs.rounds.rounds.Goals as goal

pub loop-init : goal.loop-init
loop-init c = keeps_none c.members_go_by_rounds.ensures c.args.words c.args.most (items_in c.args.left_lists.now) (items_in c.args.right_lists.now) c.args.members.now.items

pub loop-preserved : goal.loop-preserved
loop-preserved c =
    let law = c.members_go_by_rounds.ensures in
    let ll = items_in c.args.left_lists.now in
    let rl = items_in c.args.right_lists.now in
    let ms = c.args.members.now.items in
    keeps_more law c.args.words c.args.most ll rl (items_in c.note_needs.new.left_lists) (items_in c.note_needs.new.right_lists) (items_in c.round.new.left_lists) (items_in c.round.new.right_lists) ms c.loop.members.items c.round.new.members.items
    (keeps_needs c.args.words c.args.most ll rl (items_in c.loop.left_lists) (items_in c.loop.right_lists) (items_in c.note_needs.new.left_lists) (items_in c.note_needs.new.right_lists) ms c.loop.members.items c.loop.invariant
    (subst (λ z. KeepsNeeds (items_in c.loop.left_lists) (items_in c.loop.right_lists) z (items_in c.note_needs.new.left_lists) (items_in c.note_needs.new.right_lists)) c.deref.ensures.value c.in_ok-note_needs.ensures))
    c.in_ok-round.ensures

pub returns : goal.returns
returns c = c.loop.invariant

pub round-requires-clause-known : goal.round-requires-clause-known
round-requires-clause-known c =
    let i = c.loop.invariant in
    subst (λ z. All (IsKnown c.args.lefts.now c.args.rights.now) z) (sym i.left.1.filtered) (All-filter i.left.0 (IsKnown c.args.lefts.now c.args.rights.now) c.args.members.now.items c.requires.known)
