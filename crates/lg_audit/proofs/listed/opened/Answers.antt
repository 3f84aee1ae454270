use Rattle.std.proofs.Common.{ap, ◌∙◌}
use Rattle.lg_audit.specs.Grounds.{basis_in}
use Rattle.lg_audit.specs.Replies.{dictionary_at}
use Rattle.lg_audit.proofs.Goings.{comes_listed, comes_beyond}
use Rattle.lg_audit.proofs.listed.opened.Goals as goal

pub returns-in_ok-bring-in-Listed-clause-comes : goal.returns-in_ok-bring-in-Listed-clause-comes
returns-in_ok-bring-in-Listed-clause-comes c = λ p h command asked.
    let here = c.in_ok-bring-in-Listed.ensures in
    comes_listed (basis_in c.args.basis.now) p h command c.args.reply.now _ c.bring.new.dated.version here.version c.first_page.result _ _ c.in-Listed.is (c.first_page.ensures p h command _ asked)

pub returns-in_ok-bring-in-Beyond-clause-comes : goal.returns-in_ok-bring-in-Beyond-clause-comes
returns-in_ok-bring-in-Beyond-clause-comes c = λ p h command asked.
    let basis = basis_in c.args.basis.now in
    let here = c.in_ok-bring-in-Beyond.ensures in
    comes_beyond basis p h command c.args.reply.now _ c.bring-in-Beyond.new.dated.version here.version c.past_bound.result _ c.in-Beyond.is
    (c.past_bound.ensures basis p h command c.args.first _ asked (here.dated.is ∙ ap (dictionary_at basis) here.version))
