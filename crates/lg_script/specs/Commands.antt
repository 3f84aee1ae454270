-- What a command line says, or why it is none.
use Rattle.std.specs.Prelude.{◌≡◌, ◌≢◌, ◌≤◌, ◌⊎◌, ℕ, ◌+◌, ◌*◌, ◌-◌, Bool, true, false, List, [], ◌∷◌, ◌++◌, length, map, codes, Result, Ok, Err}
use Rattle.std.specs.List.{AllByRecursion}
use Rattle.lg_lex.specs.declared.run.Separators.TheVariants.{Blanks}
use Rattle.lg_lex.specs.Runs.{AreSeparators, AreInner, EndsRun}
use Rattle.lg_dictread.specs.declared.entry_text.EntryError.{EntryError}
use Rattle.lg_dictread.specs.EntryTexts.{EntryTextIs}
use Rattle.lg_gram.specs.EntryViews.{EntryView}
use Rattle.lg_edit.specs.Edits.{EditView, puts, sets, removes, edit_view, DefinesWords, DefinesOneMacro}
use Rattle.lg_script.specs.declared.command.Command.{Command}
use Rattle.lg_script.specs.declared.command.Command.TheVariants as commands
use Rattle.lg_script.specs.Lines.{IsTrimmed}

-- a command as contracts see it: where an expression lies in memory is no part of it
pub data CommandView : Type 0 where
  parses : List ℕ → CommandView
  lists : ℕ → ℕ → List ℕ → CommandView
  goes_on : CommandView
  makes : EditView → CommandView
  asks : CommandView

abbrev pub command_view : Command → CommandView
command_view (commands.Parse sentence) = parses sentence
command_view (commands.List from want sentence) = lists from want sentence
command_view commands.More = goes_on
command_view (commands.Edit edit) = makes (edit_view edit)
command_view commands.Version = asks

-- the scripts of sessions as contracts see them
abbrev pub script_views : List (List Command) → List (List CommandView)
script_views scripts = map (map command_view) scripts

abbrev pub is_edit : CommandView → Bool
is_edit (makes edit) = true
is_edit _ = false

-- why a line is no command
pub data Fault : Type 0 where
  unknown_command : Fault
  bad_number : Fault
  bad_edit : Fault

-- a digit, with its value
abbrev pub IsDigit : ℕ → Type 0
IsDigit b = (48 ≤ b) × (b ≤ 57)

-- the number that digits write
abbrev pub written_number : ℕ → List ℕ → ℕ
written_number so_far [] = so_far
written_number so_far (b ∷ bs) = written_number (10 * so_far + (b - 48)) bs

-- one to seven digits that write a number from 1 to 1,000,000
pub record IsNumber (digits : List ℕ) (n : ℕ) : Type 0 where
  pub some : digits ≢ []
  pub few : length digits ≤ 7
  pub all_digits : AllByRecursion IsDigit digits
  pub value : n ≡ written_number 0 digits
  pub least : 1 ≤ n
  pub most : n ≤ 1000000

-- two numbers with blanks between, and after blanks a sentence
pub record IsListing (rest : List ℕ) (from want : ℕ) (sentence : List ℕ) : Type 0 where
  pub first : List ℕ
  pub gap : List ℕ
  pub second : List ℕ
  pub more : List ℕ
  pub split : rest ≡ first ++ (gap ++ (second ++ (more ++ sentence)))
  pub first_is : IsNumber first from
  pub second_is : IsNumber second want
  pub apart : (gap ≢ []) × AreSeparators Blanks gap × AreSeparators Blanks more
  pub ends : EndsRun Blanks (more ++ sentence)
  pub trimmed : IsTrimmed sentence

-- the text is no entry, or one with other items
pub data IsNoEdit (Allowed : EntryView → Type 0) (rest : List ℕ) : Type 0 where
  no_entry : (error : EntryError) → EntryTextIs rest (Err error) → IsNoEdit Allowed rest
  other_items : (e : EntryView) → EntryTextIs rest (Ok e) → (Allowed e → ⊥) → IsNoEdit Allowed rest

-- it is none of the command words
abbrev pub IsUnknown : List ℕ → Type 0
IsUnknown word = (word ≢ codes "parse") × (word ≢ codes "list") × (word ≢ codes "more") × (word ≢ codes "version")
    × (word ≢ codes "set") × (word ≢ codes "macro") × (word ≢ codes "del")

-- a command by its word and its rest, or the fault
pub data CommandIs : List ℕ → List ℕ → Result CommandView Fault → Type 0 where
  parse : (rest : List ℕ) → CommandIs (codes "parse") rest (Ok (parses rest))
  list : (rest : List ℕ) (from want : ℕ) (sentence : List ℕ) → IsListing rest from want sentence → CommandIs (codes "list") rest (Ok (lists from want sentence))
  no_list : (rest : List ℕ) → ((from want : ℕ) (sentence : List ℕ) → IsListing rest from want sentence → ⊥) → CommandIs (codes "list") rest (Err bad_number)
  more : CommandIs (codes "more") [] (Ok goes_on)
  more_than_more : (rest : List ℕ) → rest ≢ [] → CommandIs (codes "more") rest (Err unknown_command)
  version : CommandIs (codes "version") [] (Ok asks)
  more_than_version : (rest : List ℕ) → rest ≢ [] → CommandIs (codes "version") rest (Err unknown_command)
  set : (rest : List ℕ) (e : EntryView) → EntryTextIs rest (Ok e) → DefinesWords e → CommandIs (codes "set") rest (Ok (makes (puts e)))
  no_set : (rest : List ℕ) → IsNoEdit DefinesWords rest → CommandIs (codes "set") rest (Err bad_edit)
  macro : (rest : List ℕ) (e : EntryView) → EntryTextIs rest (Ok e) → DefinesOneMacro e → CommandIs (codes "macro") rest (Ok (makes (sets e)))
  no_macro : (rest : List ℕ) → IsNoEdit DefinesOneMacro rest → CommandIs (codes "macro") rest (Err bad_edit)
  del : (rest : List ℕ) → rest ≢ [] → AreInner Blanks rest → CommandIs (codes "del") rest (Ok (makes (removes rest)))
  no_del : (rest : List ℕ) → (rest ≡ []) ⊎ (AreInner Blanks rest → ⊥) → CommandIs (codes "del") rest (Err bad_edit)
  unknown : (word rest : List ℕ) → IsUnknown word → CommandIs word rest (Err unknown_command)
