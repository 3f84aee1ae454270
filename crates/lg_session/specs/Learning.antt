-- What a session learns of the shared history, and what becomes of its edits there. The words are those of the functions that do so.
use Rattle.std.specs.Prelude.{◌≡◌, ℕ, ◌≤◌, ◌<◌, false, None, Some, List, [], ◌∷◌, ◌++◌, length}
use Rattle.std.specs.List.{list_any}
use Rattle.lg_gram.specs.declared.edit.EditRefusal.{EditRefusal}
use Rattle.lg_gram.specs.declared.reply.Reply.{Reply}
use Rattle.lg_gram.specs.declared.reply.Reply.TheVariants.{Published, Refused}
use Rattle.lg_dict.specs.Dictionary.{Dictionary}
use Rattle.lg_edit.specs.Edits.{EditView, accept, after_edit}
use Rattle.lg_log.specs.Codes.{is_of}
use Rattle.lg_log.specs.Passes.{Standing, with_code, at_end}
use Rattle.lg_script.specs.Commands.{CommandView}
use Rattle.lg_script.specs.Histories.{dictionary_after, unknown_name}
use Rattle.lg_script.specs.Codes.{place_of, places_of}

-- a pass, beside the dictionary after what it has seen
abbrev pub Known : Type 0
Known = Standing × Dictionary

-- more was seen, edits of other sessions alone, and the dictionary is that after them
pub record Learns (scripts : List (List CommandView)) (before after : Known) : Type 0 where
  pub same_log : after.0.log ≡ before.0.log
  pub same_sessions : after.0.sessions ≡ before.0.sessions
  pub codes : List ℕ
  pub seen : after.0.seen ≡ before.0.seen ++ codes
  pub others : list_any (is_of before.0.sessions) codes ≡ false
  pub applied : after.1 ≡ dictionary_after scripts before.1 (places_of scripts codes)
  pub ends : before.0.ends ≤ after.0.ends

-- Step by step: codes of others are found and learned, and a look that finds the end of the history leaves a dictionary that is such.
pub data Walks (scripts : List (List CommandView)) (Over : Dictionary → Type 0) : Known → Known → Type 0 where
  rests : (x : Known) → Walks scripts Over x x
  finds : (x y : Known) (code : ℕ) → Walks scripts Over x y → is_of y.0.sessions code ≡ false
      → Walks scripts Over x (with_code y.0 code, dictionary_after scripts y.1 (place_of scripts code ∷ []))
  passes : (x y : Known) → Walks scripts Over x y → Over y.1 → Walks scripts Over x (at_end y.0, y.1)

-- no such look, or one that leaves an edit which is accepted
abbrev pub Nowhere : Dictionary → Type 0
Nowhere dict = ⊥

abbrev pub Accepts : EditView → Dictionary → Type 0
Accepts edit dict = accept dict edit ≡ None

-- and then one look more found the end
pub record WalksUp (scripts : List (List CommandView)) (Over : Dictionary → Type 0) (before after : Known) : Type 0 where
  pub then : Known
  pub walks : Walks scripts Over before then
  pub last : after ≡ (at_end then.0, then.1)

-- a look found the end of the history just where the pass stands
pub record MeetsEnd (before after : Standing) : Type 0 where
  pub looked : before.ends < after.ends
  pub last : after.end_at ≡ length after.seen

pub record CatchesUp (scripts : List (List CommandView)) (Over : Dictionary → Type 0) (before after : Known) : Type 0 where
  pub learns : Learns scripts before after
  pub meets : MeetsEnd before.0 after.0
  pub walks : WalksUp scripts Over before after

-- An edit with this code was published just after all that was learned, and the dictionary there accepts it.
pub record Publishes (scripts : List (List CommandView)) (code : ℕ) (edit : EditView) (before after : Known) (version : ℕ) : Type 0 where
  pub then : Known
  pub learns : Learns scripts before then
  pub walks : Walks scripts (Accepts edit) before then
  pub accepted : accept then.1 edit ≡ None
  pub published : after.0 ≡ with_code then.0 code
  pub made : after.1 ≡ after_edit then.1 edit
  pub newest : version ≡ length after.0.seen

-- The edit is refused by the dictionary at the end of the history.
pub record Refuses (scripts : List (List CommandView)) (edit : EditView) (before after : Known) (version : ℕ) (cause : EditRefusal) (name : List ℕ) : Type 0 where
  pub up : CatchesUp scripts (Accepts edit) before after
  pub refused : accept after.1 edit ≡ Some cause
  pub named : name ≡ unknown_name edit cause
  pub newest : version ≡ length after.0.seen

abbrev pub IsEdited : List (List CommandView) → ℕ → EditView → Known → Known → Reply → Type 0
IsEdited scripts code edit before after (Published version) = Publishes scripts code edit before after version
IsEdited scripts code edit before after (Refused version cause name) = Refuses scripts edit before after version cause name
IsEdited scripts code edit before after reply = ⊥
