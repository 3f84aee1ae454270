use Rattle.std.proofs.Common.{◌≡◌, get_or, rules}
use Rattle.lg_script.specs.Commands.{script_views}
use Rattle.lg_run.proofs.Answered.{of_each}
use Rattle.lg_run.specs.MadeRuns.{sums_text, IsMadeDocument}
use Rattle.lg_run.proofs.MadeAnswers.{are_scripts, few_replies, small_sums, made_document_is}
use Rattle.lg_run.proofs.made.made_document.Goals as goal

-- the made script may be run
pub answers-requires-clause-scripts : goal.answers-requires-clause-scripts
answers-requires-clause-scripts g c =
    let scripts = are_scripts c.args.seed c.args.words c.args.sentences c.in_ok-dict.dict (script_views c.in_ok-dict.scripts) c.in_ok-dict.ensures in
    search rules

-- its answers are few, and add little each
pub sums_of-sums-requires-clause-few : goal.sums_of-sums-requires-clause-few
sums_of-sums-requires-clause-few g c =
    let outcome = c.in_ok-outcome.outcome in
    few_replies c.args.seed c.args.words c.args.sentences c.in_ok-dict.dict (script_views c.in_ok-dict.scripts) c.in_ok-dict.ensures outcome.journal outcome.kept.items
    c.in_ok-outcome.ensures.legal c.in_ok-outcome.ensures.whole c.items.result.now (search rules) c.requires.sentences.few

pub sums_of-sums-requires-clause-small : goal.sums_of-sums-requires-clause-small
sums_of-sums-requires-clause-small g c =
    let outcome = c.in_ok-outcome.outcome in
    small_sums c.args.seed c.args.words c.args.sentences c.in_ok-dict.dict (script_views c.in_ok-dict.scripts) c.in_ok-dict.ensures outcome.journal outcome.kept.items
    c.in_ok-outcome.ensures.legal c.in_ok-outcome.ensures.whole c.items.result.now (search rules)

-- the sums are those over the answers
pub returns : goal.returns
returns g c =
    let outcome = c.in_ok-outcome.outcome in
    let rs = c.items.result.now in
    let is : rs ≡ get_or outcome.kept.items 0 rs = search rules in
    of_each c.text_of.result (λ text. text.items ≡ sums_text c.args.seed c.args.words c.args.sentences rs) (λ text. IsMadeDocument c.args.seed c.args.words c.args.sentences text.items)
    (λ text written. made_document_is c.args.seed c.args.words c.args.sentences c.in_ok-dict.dict (script_views c.in_ok-dict.scripts) c.in_ok-dict.ensures outcome.journal outcome.kept.items
    c.in_ok-outcome.ensures.legal c.in_ok-outcome.ensures.whole rs is text.items written)
    (c.text_of.ensures rs c.sums_of-sums.ensures)
