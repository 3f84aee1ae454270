-- What the journal and the versions of the answers determine: every answer.
use Rattle.std.specs.Prelude.{◌≡◌, true, ℕ, List, map, None}
use Rattle.lg_base.specs.Contents.{Contents}
use Rattle.lg_gram.specs.declared.reply.Place.{Place}
use Rattle.lg_gram.specs.declared.reply.Reply.{Reply}
use Rattle.lg_gram.specs.declared.reply.Reply.TheVariants.{Listed}
use Rattle.lg_dict.specs.Dictionary.{Dictionary}
use Rattle.lg_knowread.specs.declared.knowledge.Knowledge.{Knowledge}
use Rattle.lg_answer.specs.declared.options.Options.{Options}
use Rattle.lg_script.specs.Commands.{CommandView}
use Rattle.lg_script.specs.Histories.{reply_version}
use Rattle.lg_session.specs.Legal.{IsLegal}
use Rattle.lg_run.specs.Documents.{listings, IsOutcome}
use Rattle.lg_run.specs.Shown.{IsRunOf}
use Rattle.lg_run.specs.declared.setup.Setup.{Setup}

-- the versions that the answers of each session name
abbrev pub versions_named : List (List Reply) → List (List ℕ)
versions_named replies = map (λ (rs : List Reply). map reply_version rs) replies

-- an answer without its numbers of disjuncts
abbrev pub without_stats : Reply → Reply
without_stats (Listed version tokens page stats) = Listed version tokens page None
without_stats reply = reply

-- legal answers to sessions with this journal
abbrev pub AreAnswersBy : Knowledge → Options → List (List CommandView) → Dictionary → List Place → List (List Reply) → Type 0
AreAnswersBy know options scripts base journal replies = IsLegal (record { meaning = listings know options; scripts = scripts; base = base; journal = journal }) replies

-- The journal and the versions that answers name determine every answer: all of it if disjuncts are counted, and else all but their
-- numbers.
abbrev pub AnswersAreDetermined : Type 0
AnswersAreDetermined =
    (know : Knowledge) (options : Options) (scripts : List (List CommandView)) (base : Dictionary) (journal : List Place) (replies others : List (List Reply))
    → AreAnswersBy know options scripts base journal replies → AreAnswersBy know options scripts base journal others → versions_named replies ≡ versions_named others
    → (map (λ (rs : List Reply). map without_stats rs) replies ≡ map (λ (rs : List Reply). map without_stats rs) others) × (options.count ≡ true → replies ≡ others)

-- The document of a run determines every answer, but for numbers of disjuncts that were not asked for: runs of the same inputs that write
-- the same document gave the same answers.
abbrev pub DocumentsTellAnswers : Type 0
DocumentsTellAnswers =
    (contents : Contents) (words : List (List ℕ)) (setup : Setup) (dict : Dictionary) (know : Knowledge) (scripts : List (List CommandView)) (document : List ℕ)
    → IsRunOf contents words setup dict know scripts → (one other : IsOutcome setup dict know scripts document)
    → map (λ (rs : List Reply). map without_stats rs) one.replies ≡ map (λ (rs : List Reply). map without_stats rs) other.replies
