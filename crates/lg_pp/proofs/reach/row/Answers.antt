use Rattle.std.proofs.Common.{◌≡◌, true}
use Rattle.std.proofs.lemmas.Result.{IfOk-weaker}
use Rattle.lg_pp.proofs.Reaching.{row_of_start, row_of_none}
use Rattle.lg_pp.proofs.reach.row.Goals as goal

-- the link starts a domain
pub returns-then-starts : goal.returns-then-starts
returns-then-starts c =
    IfOk-weaker c.domain.result _ _
    (λ row are know ignores says. row_of_start know c.args.g.now c.args.start.now row (says.0 c.if-starts.true) (are know ignores)) c.domain.ensures

-- it starts none
pub returns-else-starts : goal.returns-else-starts
returns-else-starts c = λ know ignores says.
    rw (c.of.ensures, c.new.ensures.items) (row_of_none know c.args.g.now c.args.start.now (λ is. let t : c.args.starts ≡ true = says.1 is in let f = c.if-starts.false in cc))
