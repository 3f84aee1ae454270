use Rattle.std.proofs.Common.{◌≡◌, ◌<◌, ◌^◌, ◌++◌, true, List, length, All, refl, ap, sym, subst, arith}
use Rattle.lg_gram.specs.Linkages.{Linkage}
use Rattle.lg_script.specs.Commands.{CommandView, script_views}
use Rattle.lg_session.specs.Keepers.{IsKept}
use Rattle.lg_session.specs.Legal.{AnswerIs, run_of}
use Rattle.lg_run.specs.Documents.{listings, journal_with, AreUsageLines}
use Rattle.lg_run.specs.Inputs.{RunGiven}
use Rattle.lg_run.specs.Listers.{Lister}
use Rattle.lg_run.specs.Printers.{IsPrinted, HaveShares, printed_text, together}
use Rattle.lg_run.specs.declared.printer.PrintedSession.{PrintedSession}
use Rattle.lg_run.specs.declared.printer.Printer.{Printer}
use Rattle.lg_run.proofs.Printed.{answer_printed}
use Rattle.lg_run.proofs.PrintedSessions.{as_many_kept, first_lists, firsts_together, outcome_is, sessions_shared}
use Rattle.lg_run.proofs.Writing.{document_written}
use denote.Param.Send.{sendable}
use Rattle.std.proofs.Crossing.{crosses}
use Rattle.lg_run.proofs.Sends.{ranked_sends, wide_sends}
use Rattle.lg_run.proofs.top.write_sessions.Goals as goal

-- each answer that is right may be printed
pub run_sessions-requires-clause-takes : goal.run_sessions-requires-clause-takes
run_sessions-requires-clause-takes g c κs within = λ journal p held then command r is.
    answer_printed c.args.know.now c.args.setup.listing (script_views c.args.scripts.now) c.args.dict.now journal p held then command r
    (subst (λ (l : Lister). AnswerIs (record { meaning = listings l.know l.options; scripts = script_views c.args.scripts.now; base = c.args.dict.now; journal = journal }) p held command r then) c.new-lister.ensures is)

-- a listing may go to another thread with its session
pub run_sessions-requires-send-E-Held : goal.run_sessions-requires-send-E-Held
run_sessions-requires-send-E-Held g c κs within = search (sendable, crosses, ranked_sends, wide_sends) depth 80 fits 20000

-- there is one share a session, and each has counted few linkages
pub usage_lines-requires-clause-few : goal.usage_lines-requires-clause-few
usage_lines-requires-clause-few g c =
    let printer : Printer = record { look = c.args.setup.look; usage = c.args.setup.usage } in
    let is = c.in-Ok.ensures in
    let many = as_many_kept printer 1 (script_views c.args.scripts.now) is.replies c.in-Ok.outcome.kept.items is.are in
    omega (arith, many, c.requires.bounds.2.few, ap (λ (l : List PrintedSession). length l) c.as_slice.ensures.value)

pub usage_lines-requires-clause-shares : goal.usage_lines-requires-clause-shares
usage_lines-requires-clause-shares g c = λ asked.
    let printer : Printer = record { look = c.args.setup.look; usage = c.args.setup.usage } in
    let is = c.in-Ok.ensures in
    let scripts = script_views c.args.scripts.now in
    let short : All (λ (cs : List CommandView). length cs < 2 ^ 32) scripts = λ k d less. (c.requires.bounds.2.each k d less).few in
    (first_lists printer scripts is.replies, subst (HaveShares (first_lists printer scripts is.replies)) (sym c.as_slice.ensures.value) (sessions_shared printer 1 scripts is.replies c.in-Ok.outcome.kept.items asked short is.are))

-- the texts of the answers, and the journal with the lines of usage
pub returns-in-Ok-usage_lines-clause-written : goal.returns-in-Ok-usage_lines-clause-written
returns-in-Ok-usage_lines-clause-written g c =
    let printer : Printer = record { look = c.args.setup.look; usage = c.args.setup.usage } in
    let scripts = script_views c.args.scripts.now in
    let journal = c.in-Ok.outcome.journal in
    let kept = c.in-Ok.outcome.kept.items in
    let lines = c.in-Ok-usage_lines.lines.items in
    let is = subst (λ (l : Lister). IsKept (IsPrinted printer) (run_of (listings l.know l.options) c.args.scripts.now c.args.dict.now journal) kept) c.new-lister.ensures c.in-Ok.ensures in
    let firsts = first_lists printer scripts is.replies in
    let short : All (λ (cs : List CommandView). length cs < 2 ^ 32) scripts = λ k d less. (c.requires.bounds.2.each k d less).few in
    let have : c.args.setup.usage ≡ true → HaveShares firsts c.as_slice.result.now =
    λ asked. subst (HaveShares firsts) (sym c.as_slice.ensures.value) (sessions_shared printer 1 scripts is.replies kept asked short is.are) in
    let counted : AreUsageLines c.args.setup.usage (together firsts) lines = rw c.in-Ok-usage_lines.is at (c.usage_lines.ensures firsts have) in
    let fits = subst (λ (gs : List Linkage). AreUsageLines c.args.setup.usage gs lines) (firsts_together printer 1 scripts is.replies kept is.are) counted in
    document_written (g.O.Sink.written c.args.out.now) (g.O.Sink.written c.write_outcome.new.out) (RunGiven c.args.setup c.args.dict.now c.args.know.now scripts) (printed_text kept ++ journal_with lines journal) c.write_outcome.result
    (outcome_is printer c.args.setup c.args.dict.now c.args.know.now scripts journal kept lines refl is fits) (rw c.deref.ensures.value at c.write_outcome.ensures.written)
