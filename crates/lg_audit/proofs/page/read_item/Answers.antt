use Rattle.lg_audit.specs.Views.{texts}
use Rattle.lg_audit.proofs.Items.{no_item, failed, passed}
use Rattle.lg_audit.proofs.page.read_item.Goals as goal

pub returns-in-Some-failure : goal.returns-in-Some-failure
returns-in-Some-failure c = let cut = c.in-Some.ensures in failed c.args.text.now c.in-Some.line.now c.in-Some.rest.now cut.0 cut.1 _ _ c.in-Some-failure.ensures

pub returns-in_default-heading : goal.returns-in_default-heading
returns-in_default-heading c =
    let cut = c.in-Some.ensures in
    no_item c.args.text.now c.in-Some.line.now c.in-Some.rest.now cut.0 cut.1 c.in_default-failure.ensures c.in_default-heading.ensures

pub returns : goal.returns
returns c =
    let cut = c.in-Some.ensures in
    passed c.args.text.now c.in-Some.line.now c.in-Some.rest.now cut.0 cut.1 c.in_ok-words.after_words.now c.in_ok-links.after_links.now c.in_ok-unread.left.now
    c.in-Some-heading.number c.in-Some-heading.sums c.in_ok-words.words.items c.in_ok-links.links.items (texts c.in_ok-unread.unread.items) c.in-Some-heading.ensures
    (record { words = c.in_ok-words.ensures; links = c.in_ok-links.ensures; drawn = c.in_ok-unread.ensures })
