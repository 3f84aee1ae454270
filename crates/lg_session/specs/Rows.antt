-- What rows of sessions have come to, each session with its answers.
use Rattle.std.specs.Prelude.{◌≡◌, ℕ, ◌+◌, ◌<◌, ◌==◌, List, [], ◌∷◌, length, map, filter, All}
use Rattle.std.specs.List.{enumerate_from}
use Rattle.lg_gram.specs.declared.reply.Reply.{Reply}
use Rattle.lg_dict.specs.Dictionary.{Dictionary}
use Rattle.lg_log.specs.Passes.{LogId, Standing, HasAllOf, at_start}
use Rattle.lg_script.specs.declared.command.Command.{Command}
use Rattle.lg_script.specs.Commands.{CommandView, script_views}
use Rattle.lg_script.specs.EditNumbers.{edit_counts}
use Rattle.lg_script.specs.Histories.{published_by}
use Rattle.lg_session.specs.declared.job.Job.{Job}
use Rattle.lg_script.specs.Codes.{commands_of, places_of, AreScripts}
use Rattle.lg_session.specs.Engines.{Meaning}
use Rattle.lg_session.specs.Legal.{Run, IsLegalSession}
use Rattle.lg_session.specs.Paths.{EndsIn}

-- what sessions are held against: the meaning of their engine, their scripts, and the dictionary at their start
pub record Ground : Type 1 where
  pub meaning : Meaning
  pub scripts : List (List CommandView)
  pub base : Dictionary

abbrev pub ground_of : Meaning → List (List Command) → Dictionary → Ground
ground_of meaning scripts base = record { meaning = meaning; scripts = script_views scripts; base = base }

abbrev pub run_on : Ground → List ℕ → Run
run_on g history = record { meaning = g.meaning; scripts = g.scripts; base = g.base; journal = places_of g.scripts history }

-- By this history the answers of a session, numbered from 0, are legal, and there is one for each command. Of its edits the
-- history has those that were answered as published. Its turns take steps of the core, and end in this history.
pub record IsRight (g : Ground) (history : List ℕ) (session : ℕ) (replies : List Reply) : Type 0 where
  pub legal : IsLegalSession (run_on g history) (session + 1) (commands_of g.scripts session) replies
  pub whole : length replies ≡ length (commands_of g.scripts session)
  pub own : filter (λ p. p.session == session + 1) (places_of g.scripts history) ≡ published_by (session + 1) replies
  pub ends : EndsIn g.scripts g.base history session replies

-- A session has ended: its answers are right by every history that goes on from what was seen with edits of others alone.
abbrev pub HasEnded : Ground → List ℕ → ℕ → List Reply → Type 0
HasEnded g seen session replies = (history : List ℕ) → HasAllOf (session ∷ []) seen history → IsRight g history session replies

-- each session of a row has ended, with its own answers
abbrev pub HaveEnded : Ground → List ℕ → List ℕ → List (List Reply) → Type 0
HaveEnded g seen [] [] = Unit {0}
HaveEnded g seen (session ∷ sessions) (replies ∷ lists) = HasEnded g seen session replies × HaveEnded g seen sessions lists
HaveEnded g seen sessions lists = ⊥

-- a row of sessions has ended, and their pass has come so far
pub record AreDone (g : Ground) (log : LogId) (sessions : List ℕ) (pass : Standing) (lists : List (List Reply)) : Type 0 where
  pub same_log : pass.log ≡ log
  pub carried : pass.sessions ≡ sessions
  pub ended : HaveEnded g pass.seen sessions lists

-- this is kept of the answers of each session of a row
abbrev pub AreKeptOf : {K : Type 0} → (ℕ → List CommandView → List Reply → K → Type 0) → List (List CommandView) → List ℕ → List (List Reply) → List K → Type 0
AreKeptOf keeps scripts [] [] [] = Unit {0}
AreKeptOf keeps scripts (session ∷ sessions) (replies ∷ lists) (k ∷ kept) = keeps (session + 1) (commands_of scripts session) replies k × AreKeptOf keeps scripts sessions lists kept
AreKeptOf keeps scripts sessions lists kept = ⊥

-- a row of sessions has ended, their pass has come so far, and this is kept of their answers
pub record AreDoneWith {K : Type 0} (keeps : ℕ → List CommandView → List Reply → K → Type 0) (g : Ground) (log : LogId) (sessions : List ℕ) (pass : Standing) (kept : List K) : Type 0 where
  pub lists : List (List Reply)
  pub done : AreDone g log sessions pass lists
  pub are : AreKeptOf keeps g.scripts sessions lists kept

-- a session that has not begun: its script is there, and its pass has seen nothing and carries it alone
abbrev pub IsFresh : LogId → List (List CommandView) → Job → Type 0
IsFresh log scripts job = (job.session < length scripts) × (job.pass ≡ at_start log (job.session ∷ []))

-- some of the sessions of these scripts, which have not begun, and their log
abbrev pub MayRun : LogId → List (List CommandView) → List Job → Type 0
MayRun log scripts jobs = (0 < length jobs) × AreScripts scripts × (log.counts ≡ edit_counts scripts) × All (IsFresh log scripts) jobs

abbrev pub numbers_of : List Job → List ℕ
numbers_of jobs = map (λ job. job.session) jobs

-- sessions that have not begun, numbered from this number on, each with its pass
abbrev pub jobs_from : ℕ → List Standing → List Job
jobs_from first passes = map (λ p. record { session = p.0; pass = p.1 }) (enumerate_from first passes)
