use Rattle.std.proofs.Common.{◌≡◌, ◌+◌, ◌++◌, List, length, true, subst}
use Rattle.lg_gram.specs.declared.reply.CommandKind.{CommandKind}
use Rattle.lg_script.specs.Commands.{command_view}
use Rattle.lg_text.specs.Replies.{reply_text}
use Rattle.lg_run.specs.Counted.{IsShare}
use Rattle.lg_run.specs.Documents.{first_linkage, first_linkages}
use Rattle.lg_run.proofs.PrintedSessions.{printed_more}
use Rattle.lg_run.proofs.printer.PrinterKeeper.keep.Goals as goal

-- the text of the answer comes behind the others, and its first linkage is counted
pub returns : goal.returns
returns c = λ commands replies is at.
    let printer = c.args.self.now in
    let command = command_view c.args.command.now in
    let text = c.in_ok-text.text.items in
    let told = subst (λ (k : CommandKind). text ≡ reply_text printer.look c.args.place k c.args.reply) c.kind.ensures c.in_ok-text.ensures in
    printed_more printer c.args.place.session c.args.place.command commands replies command c.args.reply c.args.kept (record { pieces = c.add_text.new.pieces; share = c.count.new.share }) text is at told c.in_ok-add_text.ensures
    (λ asked. subst (λ (k : CommandKind). IsShare (length replies + 1) (first_linkages commands replies ++ first_linkage k c.args.reply) c.count.new.share) c.kind-2.ensures
    (c.in_ok-count.ensures (length replies) (first_linkages commands replies) asked (is.share asked)))
