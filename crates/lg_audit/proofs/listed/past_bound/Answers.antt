use Rattle.std.proofs.Common.{sym, ◌∙◌, true≢false}
use Rattle.lg_audit.proofs.Comings.{not_past, is_past}
use Rattle.lg_audit.proofs.Goings.{beyond_same}
use Rattle.lg_audit.specs.Replies.{dictionary_at}
use Rattle.lg_audit.proofs.listed.past_bound.Goals as goal

pub returns-then-beyond : goal.returns-then-beyond
returns-then-beyond c = λ basis p h command first version asked is.
    let same = c.in-Ok.ensures.cases.0 ∙ c.bytes.ensures in
    is_past basis p h command c.args.text.now first asked version c.args.bound
    (beyond_same c.args.view.now (dictionary_at basis version) c.in-Ok.sentence.now c.args.text.now c.args.bound is same (c.in_ok-beyond.ensures.0 c.if-beyond.true))

pub returns : goal.returns
returns c = λ basis p h command first version asked is.
    let same = c.in-Ok.ensures.cases.0 ∙ c.bytes.ensures in
    not_past basis p h command c.args.text.now first asked version c.args.bound
    (λ past. true≢false (sym (c.in_ok-beyond.ensures.1 (beyond_same (dictionary_at basis version) c.args.view.now c.args.text.now c.in-Ok.sentence.now c.args.bound (sym is) (sym same) past)) ∙ c.if-beyond.false))
