use Rattle.std.proofs.Common.{◌≡◌, ◌↔◌, List, length, map, IsTrue, true≢false, sym, ◌∙◌}
use Rattle.std.proofs.lemmas.Bool.{false≢true}
use Rattle.std.proofs.lemmas.List.{length-map}
use Rattle.std.proofs.lemmas.Result.{IfOk-weaker}
use Rattle.lg_gram.specs.declared.reply.Reply.{Reply}
use Rattle.lg_script.specs.Commands.{command_view, script_views}
use Rattle.lg_script.specs.Histories.{HasPublished}
use Rattle.lg_audit.specs.Answers.{replies_of}
use Rattle.lg_audit.specs.Replies.{outline}
use Rattle.lg_audit.specs.Shares.{NamesEdits, HasShares}
use Rattle.lg_audit.proofs.Sharing.{named_Decides, shares_hold, lengths}
use Rattle.lg_audit.proofs.published.journal_holds.Goals as goal

pub returns-then-not-names_edits : goal.returns-then-not-names_edits
returns-then-not-names_edits c =
    let same = named_Decides (script_views c.args.scripts.now) c.args.journal.now in
    (λ e. absurd (false≢true e), λ both. absurd (true≢false (sym (same.1 both.0) ∙ sym c.names_edits.ensures ∙ c.if-not-names_edits.true)))

pub returns : goal.returns
returns c =
    let scripts = script_views c.args.scripts.now in
    let journal = c.args.journal.now in
    let all : List (List Reply) = map (map outline) (replies_of c.args.replies.now) in
    let n = length c.args.replies.now in
    let named = (named_Decides scripts journal).0 (sym c.names_edits.ensures ∙ c.if-not-names_edits.false) in
    let long = lengths c.args.replies.now in
    IfOk-weaker c.has_shares.result (λ holds. IsTrue holds ↔ HasShares journal all n) (λ holds. IsTrue holds ↔ (NamesEdits scripts journal × HasPublished journal all))
    (λ holds iff. shares_hold scripts journal all (long ∙ c.requires.sessions ∙ sym (length-map c.args.scripts.now (map command_view))) n holds long named iff) c.has_shares.ensures
