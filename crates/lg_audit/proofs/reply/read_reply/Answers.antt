use Rattle.std.proofs.Common.{ℕ, List, arith, Bor}
use Rattle.std.proofs.lemmas.Result.{IfOk-weaker}
use Rattle.lg_audit.specs.declared.shown.ShownReply.{ShownReply}
use Rattle.lg_audit.specs.Answers.{reply_of}
use Rattle.lg_audit.proofs.ReplyLines.{no_head, replied}
use Rattle.lg_audit.proofs.reply.read_reply.Goals as goal

pub returns-in_default-told : goal.returns-in_default-told
returns-in_default-told c =
    let cut = c.in-Some.ensures in
    no_head c.args.session c.args.command (omega arith) (omega arith) c.args.kind c.args.text.now c.in-Some.line.now c.in-Some.rest.now cut.0 cut.1 c.in_default-told.ensures

pub returns : goal.returns
returns c =
    let cut = c.in-Some.ensures in
    IfOk-weaker c.answer.result _ _
    (replied c.args.session c.args.command (omega arith) (omega arith) c.args.kind c.args.text.now c.in-Some.line.now c.in-Some.rest.now cut.0 cut.1 c.in-Some-told.told.now c.in-Some-told.ensures
    (λ (f : ShownReply × Bor (List ℕ)). reply_of f.0) (λ (f : ShownReply × Bor (List ℕ)). f.1.now))
    c.answer.ensures
