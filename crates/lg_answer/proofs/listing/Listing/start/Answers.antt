use Rattle.lg_answer.proofs.Few.{few_words}
use Rattle.lg_answer.proofs.Wholes.{searched_whole}
use Rattle.lg_answer.specs.Wide.{problem_of}
use Rattle.lg_answer.proofs.listing.Listing.start.Goals as goal

pub searched-requires : goal.searched-requires
searched-requires g c = record { listed = (c.args.text.now, rw c.in-Ok.is at c.in_ok-tokens.ensures.listed) }

pub returns-clause-whole : goal.returns-clause-whole
returns-clause-whole g c = λ on none.
    let listed = rw c.in-Ok.is at c.in_ok-tokens.ensures.listed in
    (searched_whole c.idioms_stay_whole.ensures c.args.view.now c.in-Ok.tokens c.args.options.now (problem_of c.in_ok-wide.wide) c.in_ok-wide.stats c.in_ok-wide.ensures.searched c.in_ok-course.course.problem
    c.in_ok-course.ensures.keeps (few_words c.args.view.now c.in-Ok.tokens listed.unbound) on none).0

pub returns-clause-neighbours : goal.returns-clause-neighbours
returns-clause-neighbours g c = λ on none.
    let listed = rw c.in-Ok.is at c.in_ok-tokens.ensures.listed in
    (searched_whole c.idioms_stay_whole.ensures c.args.view.now c.in-Ok.tokens c.args.options.now (problem_of c.in_ok-wide.wide) c.in_ok-wide.stats c.in_ok-wide.ensures.searched c.in_ok-course.course.problem
    c.in_ok-course.ensures.keeps (few_words c.args.view.now c.in-Ok.tokens listed.unbound) on none).1

pub returns-clause-plain : goal.returns-clause-plain
returns-clause-plain g c = λ on none.
    let listed = rw c.in-Ok.is at c.in_ok-tokens.ensures.listed in
    (searched_whole c.idioms_stay_whole.ensures c.args.view.now c.in-Ok.tokens c.args.options.now (problem_of c.in_ok-wide.wide) c.in_ok-wide.stats c.in_ok-wide.ensures.searched c.in_ok-course.course.problem
    c.in_ok-course.ensures.keeps (few_words c.args.view.now c.in-Ok.tokens listed.unbound) on none).2
