use Rattle.std.proofs.Common.{◌≡◌, ◌∙◌, ◌<◌, ◌^◌, length, IfOk, sym, subst, arith}
use Rattle.std.proofs.lemmas.Result.{IfOk-weaker}
use Rattle.lg_knowread.specs.declared.knowledge.Knowledge.{Knowledge}
use Rattle.lg_session.specs.Legal.{IsLegal, AnswersAll, run_of}
use Rattle.lg_script.specs.Commands.{script_views}
use Rattle.lg_session.specs.Keepers.{IsKept}
use Rattle.lg_answer.specs.Pages.{default_options}
use Rattle.lg_run.specs.Words.{HasCounts}
use Rattle.lg_run.specs.Documents.{listings, no_knowledge}
use Rattle.lg_run.specs.Listers.{Lister}
use denote.Param.Send.{sendable}
use Rattle.std.proofs.Crossing.{crosses}
use Rattle.lg_run.proofs.MadeAnswers.{whole_legal, whole_all}
use Rattle.lg_run.proofs.Sends.{ranked_sends, wide_sends}
use Rattle.lg_run.proofs.made.answers.Goals as goal

-- there are no rules, and the usual numbers are in their range
pub new-lister-requires-clause-few : goal.new-lister-requires-clause-few
new-lister-requires-clause-few g c = subst (λ (k : Knowledge). length k.rules < 2 ^ 32) (sym c.no_knowledge-know.ensures) (omega arith)

pub new-lister-requires-clause-range : goal.new-lister-requires-clause-range
new-lister-requires-clause-range g c = subst HasCounts (sym c.default.ensures) (record { want = (omega arith, omega arith); examine = (omega arith, omega arith); workers = (omega arith, omega arith) })

-- the answers are those of the lister over no knowledge
pub returns-clause-legal : goal.returns-clause-legal
returns-clause-legal g c =
    let usual : Lister = record { know = no_knowledge; options = default_options } in
    let is : c.new-lister.result ≡ usual = c.new-lister.ensures ∙ (λ i. record { know = c.no_knowledge-know.ensures i; options = c.default.ensures i }) in
    let legal = IfOk-weaker c.run_sessions.result
    (λ outcome. IsKept (λ session commands replies kept. kept ≡ replies) (run_of (listings c.new-lister.result.know c.new-lister.result.options) c.args.scripts.now c.args.dict.now outcome.journal) outcome.kept.items)
    (λ outcome. IsLegal (run_of (listings c.new-lister.result.know c.new-lister.result.options) c.args.scripts.now c.args.dict.now outcome.journal) outcome.kept.items)
    (λ outcome kept. whole_legal _ outcome.kept.items kept) c.run_sessions.ensures in
    subst (λ (l : Lister). IfOk c.run_sessions.result (λ outcome. IsLegal (run_of (listings l.know l.options) c.args.scripts.now c.args.dict.now outcome.journal) outcome.kept.items)) is legal

pub returns-clause-whole : goal.returns-clause-whole
returns-clause-whole g c =
    IfOk-weaker c.run_sessions.result
    (λ outcome. IsKept (λ session commands replies kept. kept ≡ replies) (run_of (listings c.new-lister.result.know c.new-lister.result.options) c.args.scripts.now c.args.dict.now outcome.journal) outcome.kept.items)
    (λ outcome. AnswersAll (script_views c.args.scripts.now) outcome.kept.items)
    (λ outcome kept. whole_all _ outcome.kept.items kept) c.run_sessions.ensures

-- a listing may go to another thread with its session
pub run_sessions-requires-send-E-Held : goal.run_sessions-requires-send-E-Held
run_sessions-requires-send-E-Held g c κs within = search (sendable, crosses, ranked_sends, wide_sends) depth 80 fits 20000
