use Rattle.std.proofs.Common.{◌≡◌, length, ◌∙◌}
use Rattle.lg_answer.proofs.Looking.{page_of_same}
use Rattle.lg_answer.proofs.page.page_of.Goals as goal

pub returns-clause-page : goal.returns-clause-page
returns-clause-page c =
    let items = c.look_on.new.items in
    let count : c.len.result ≡ length items.items = c.len.ensures ∙ items.ok.0 in
    rw (c.of.ensures, count, c.position-from.ensures) (page_of_same c.args.know.now c.args.course.now c.look_on.new.course c.args.course.now.position c.args.want c.args.examine items.items c.in_ok-end.end
    c.in_ok-end.ensures.same c.in_ok-end.ensures.looked)
