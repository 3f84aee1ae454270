-- What keeps the answers of sessions.
use Rattle.std.specs.Prelude.{ℕ, ◌+◌, List, [], ◌∷◌, Option}
use Rattle.lg_gram.specs.declared.reply.Place.{Place}
use Rattle.lg_gram.specs.declared.reply.Reply.{Reply}
use Rattle.lg_script.specs.Commands.{CommandView}
use Rattle.lg_session.specs.Legal.{Run, Holding, AnswerIs, IsLegal, AnswersAll}
use Rattle.lg_session.specs.Rows.{Ground}

-- each answer that is right by some journal may be kept
abbrev pub TakesAll : Ground → (CommandView → Reply → Type 0) → Type 0
TakesAll g takes = (journal : List Place) (p : Place) (held then : Option Holding) (command : CommandView) (r : Reply)
    → AnswerIs (record { meaning = g.meaning; scripts = g.scripts; base = g.base; journal = journal }) p held command r then → takes command r

-- This is kept of the answers of each session, from the session of that number on.
abbrev pub AreKept : {K : Type 0} → (ℕ → List CommandView → List Reply → K → Type 0) → ℕ → List (List CommandView) → List (List Reply) → List K → Type 0
AreKept keeps session [] [] [] = Unit {0}
AreKept keeps session (commands ∷ scripts) (rs ∷ replies) (k ∷ kept) = keeps session commands rs k × AreKept keeps (session + 1) scripts replies kept
AreKept keeps session scripts replies kept = ⊥

-- The answers of a run are legal, every command is answered, and this is kept of them.
pub record IsKept {K : Type 0} (keeps : ℕ → List CommandView → List Reply → K → Type 0) (run : Run) (kept : List K) : Type 0 where
  pub replies : List (List Reply)
  pub legal : IsLegal run replies
  pub whole : AnswersAll run.scripts replies
  pub are : AreKept keeps 1 run.scripts replies kept
