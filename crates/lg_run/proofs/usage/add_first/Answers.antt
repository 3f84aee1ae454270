use Rattle.std.proofs.Common.{◌+◌, ◌++◌, List, subst, sym}
use Rattle.std.proofs.lemmas.Result.{on_ok_weaker}
use Rattle.lg_gram.specs.Linkages.{Linkage}
use Rattle.lg_run.specs.Counted.{IsShare}
use Rattle.lg_run.specs.Documents.{first_linkage}
use Rattle.lg_run.proofs.Shares.{good_first, room_for, share_same, share_more}
use Rattle.lg_run.proofs.usage.add_first.Goals as goal

-- what is printed is good
pub add-requires-clause-good : goal.add-requires-clause-good
add-requires-clause-good c = good_first c.args.kind c.args.reply.now c.requires.printable c.in-Some.linkage.now c.in-Some.ensures.0

-- the linkages are few
pub add-requires-clause-room : goal.add-requires-clause-room
add-requires-clause-room c =
    let r = c.requires.room in
    let good = good_first c.args.kind c.args.reply.now c.requires.printable c.in-Some.linkage.now c.in-Some.ensures.0 in
    room_for c.totals_are_few.ensures.uses r.0 r.1 c.in-Some.linkage.now c.args.share.now r.3 c.in-Some.ensures.1 good r.2

pub returns-in-None : goal.returns-in-None
returns-in-None c = λ n gs share. share_same n gs (first_linkage c.args.kind c.args.reply.now) c.args.share.now c.in-None.ensures share

pub returns-in-Some : goal.returns-in-Some
returns-in-Some c =
    let g = c.in-Some.linkage.now in
    let good = good_first c.args.kind c.args.reply.now c.requires.printable g c.in-Some.ensures.0 in
    on_ok_weaker c.add.result (λ adds. λ n gs share. subst (λ (l : List Linkage). IsShare (n + 1) (gs ++ l) c.add.new.self) (sym c.in-Some.ensures.0)
    (share_more c.totals_are_few.ensures.uses n gs g c.args.share.now share c.in-Some.ensures.1 good c.shares_agree.ensures.grow c.add.new.self adds)) c.add.ensures.ok
