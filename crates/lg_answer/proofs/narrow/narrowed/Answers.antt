use Rattle.lg_answer.proofs.InUse.{narrowed_problem, narrowed_ready}
use Rattle.lg_answer.proofs.narrow.narrowed.Goals as goal

pub returns-clause-narrowed : goal.returns-clause-narrowed
returns-clause-narrowed c =
    narrowed_problem c.expressions_have_disjuncts.ensures c.args.view.now c.args.tokens.now c.requires.listed c.args.idioms c.in_ok-words.words c.in_ok-words.ensures c.linkages_are_live.ensures
    c.in_ok-live.live c.in_ok-live.ensures

pub returns-clause-ready : goal.returns-clause-ready
returns-clause-ready c =
    narrowed_ready c.expressions_have_disjuncts.ensures c.args.view.now c.args.tokens.now c.requires.listed c.choices_are_counted.ensures c.added_are_few.ensures c.args.idioms c.in_ok-words.words
    c.in_ok-words.ensures c.in_ok-live.live c.in_ok-live.ensures
