-- What the document of a run shows: the journal, and of each answer its place, its kind and its version.
use Rattle.std.specs.Prelude.{◌≡◌, ℕ, ◌+◌, ◌<◌, ◌≤◌, ◌^◌, List, [], ◌∷◌, ◌++◌, length, map, ⊤}
use Rattle.std.specs.declared.option.Option.{Option}
use Rattle.std.specs.Io.KnownBytes.{Appends}
use Rattle.std.specs.List.{AllByRecursion}
use Rattle.lg_base.specs.Contents.{Contents}
use Rattle.lg_gram.specs.declared.reply.Place.{Place}
use Rattle.lg_gram.specs.declared.reply.Reply.{Reply}
use Rattle.lg_dict.specs.Dictionary.{Dictionary}
use Rattle.lg_knowread.specs.declared.knowledge.Knowledge.{Knowledge}
use Rattle.lg_text.specs.declared.look.Look.{Look}
use Rattle.lg_run.specs.declared.setup.Setup.{Setup}
use Rattle.lg_run.specs.declared.status.Status.{Status}
use Rattle.lg_run.specs.declared.status.Status.TheVariants.{Done}
use Rattle.lg_script.specs.Commands.{CommandView}
use Rattle.lg_script.specs.Kinds.{kind_of}
use Rattle.lg_text.specs.Shown.{Answered, IsPlain, IsPlainReply, IsPlace, shown_of}
use Rattle.lg_run.specs.Documents.{outcome_text, IsOutcome}
use Rattle.lg_run.specs.Inputs.{accepted, RunGiven, InputsAre}
use Rattle.lg_run.specs.Words.{Run, TaskIs}

-- a session's answers with their places and kinds, from the command of that number on
abbrev pub placed : ℕ → ℕ → List CommandView → List Reply → List Answered
placed session n (command ∷ commands) (r ∷ rs) = record { place = record { session = session; command = n }; kind = kind_of command; reply = r } ∷ placed session (n + 1) commands rs
placed session n commands [] = []
placed session n [] rs = []

-- all answers, by sessions and commands
abbrev pub all_placed : ℕ → List (List CommandView) → List (List Reply) → List Answered
all_placed session (commands ∷ scripts) (rs ∷ replies) = placed session 1 commands rs ++ all_placed (session + 1) scripts replies
all_placed session scripts [] = []
all_placed session [] replies = []

-- The numbers of answers and of the journal are of their types, also how many edits it has, and no text of an answer has a line feed.
pub record ArePlain (scripts : List (List CommandView)) (replies : List (List Reply)) (journal : List Place) : Type 0 where
  pub answers : AllByRecursion IsPlain (all_placed 1 scripts replies)
  pub places : AllByRecursion IsPlace journal
  pub few : length journal < 2 ^ 64

-- The document of a run determines the journal and, of each answer in order, its place, its kind and its version, whatever stands before
-- its last line.
abbrev pub OutcomesAreShown : Type 0
OutcomesAreShown =
    (look look' : Look) (scripts others : List (List CommandView)) (replies answers : List (List Reply)) (journal edits : List Place) (lines more : List ℕ)
    → ArePlain scripts replies journal → ArePlain others answers edits → outcome_text look scripts replies journal lines ≡ outcome_text look' others answers edits more
    → (map shown_of (all_placed 1 scripts replies) ≡ map shown_of (all_placed 1 others answers)) × (journal ≡ edits)

-- fewer than 2^32 scripts, with fewer than 2^32 commands each
pub record HasShortScripts (scripts : List (List CommandView)) : Type 0 where
  pub few : length scripts + 1 ≤ 2 ^ 32
  pub each : AllByRecursion (λ (commands : List CommandView). length commands < 2 ^ 32) scripts

-- no text of an answer has a line feed
abbrev pub HasPlainTexts : List (List Reply) → Type 0
HasPlainTexts replies = AllByRecursion (λ rs. AllByRecursion IsPlainReply rs) replies

-- A document that is that of two runs shows of both the same journal and, of each answer in order, the same place, kind and version.
abbrev pub RunsAreShown : Type 0
RunsAreShown =
    (setup setup' : Setup) (dict dict' : Dictionary) (know know' : Knowledge) (scripts scripts' : List (List CommandView)) (document : List ℕ)
    (one : IsOutcome setup dict know scripts document) (other : IsOutcome setup' dict' know' scripts' document)
    → HasShortScripts scripts → HasShortScripts scripts' → HasPlainTexts one.replies → HasPlainTexts other.replies
    → (map shown_of (all_placed 1 scripts one.replies) ≡ map shown_of (all_placed 1 scripts' other.replies)) × (one.journal ≡ other.journal)

-- Words that ask for sessions, and what files with these contents give for them.
pub record IsRunOf (contents : Contents) (words : List (List ℕ)) (setup : Setup) (dict : Dictionary) (know : Knowledge) (scripts : List (List CommandView)) : Type 0 where
  pub dictionary : List ℕ
  pub knowledge : List ℕ
  pub files : List (List ℕ)
  pub form : TaskIs words (Run setup dictionary knowledge files)
  pub names : List (List ℕ)
  pub read : InputsAre contents (Run setup dictionary knowledge files) names (accepted (RunGiven setup dict know scripts))

-- Whatever the inputs of two runs were: a document that is that of both shows of both the same journal and, of each answer in order, the
-- same place, kind and version.
abbrev pub RunsOfInputsAreShown : Type 0
RunsOfInputsAreShown =
    (contents contents' : Contents) (words words' : List (List ℕ)) (setup setup' : Setup) (dict dict' : Dictionary) (know know' : Knowledge) (scripts scripts' : List (List CommandView)) (document : List ℕ)
    → IsRunOf contents words setup dict know scripts → IsRunOf contents' words' setup' dict' know' scripts'
    → (one : IsOutcome setup dict know scripts document) (other : IsOutcome setup' dict' know' scripts' document)
    → (map shown_of (all_placed 1 scripts one.replies) ≡ map shown_of (all_placed 1 scripts' other.replies)) × (one.journal ≡ other.journal)

-- A run that was written whole: however the bytes that were appended are seen as the document of the run that the words ask for, they show
-- the same journal and, of each answer in order, the same place, kind and version.
abbrev pub ShowsWhatItSays : Contents → List (List ℕ) → Option (List ℕ) → Option (List ℕ) → Status → Type 0
ShowsWhatItSays contents words old new Done =
    (setup : Setup) (dict : Dictionary) (know : Knowledge) (scripts : List (List CommandView)) (document : List ℕ)
    → IsRunOf contents words setup dict know scripts → Appends old new document → (one other : IsOutcome setup dict know scripts document)
    → (map shown_of (all_placed 1 scripts one.replies) ≡ map shown_of (all_placed 1 scripts other.replies)) × (one.journal ≡ other.journal)
ShowsWhatItSays contents words old new _ = ⊤
