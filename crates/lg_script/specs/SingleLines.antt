-- No text that a script's commands say has a line feed, since each command stands on a line.
use Rattle.std.specs.Prelude.{◌≢◌, ℕ, List, [], ◌∷◌, ◌++◌, Ok}
use Rattle.std.specs.List.{AllByRecursion}
use Rattle.lg_gram.specs.Connectors.{connector_text}
use Rattle.lg_gram.specs.RawTrees.{RawTree, RawTrees, raw_empty, raw_leaf, named, raw_all, raw_one, raw_priced, no_raw_trees, raw_tree}
use Rattle.lg_lex.specs.Classes.{line_feed}
use Rattle.lg_edit.specs.Edits.{EditView, puts, sets, removes, names_of}
use Rattle.lg_script.specs.Commands.{CommandView, parses, lists, goes_on, makes, asks}
use Rattle.lg_script.specs.Histories.{names_in}
use Rattle.lg_script.specs.Scripts.{ScriptIs}

-- no byte is a line feed
abbrev pub IsSingleLine : List ℕ → Type 0
IsSingleLine text = AllByRecursion (λ b. b ≢ line_feed) text

-- the connectors of an expression, in reading order, without their signs
abbrev mutual
  pub connector_texts : RawTree → List (List ℕ)
  connector_texts raw_empty = []
  connector_texts (raw_leaf c) = connector_text c ∷ []
  connector_texts (named name depth) = []
  connector_texts (raw_all ts) = texts_in ts
  connector_texts (raw_one ts) = texts_in ts
  connector_texts (raw_priced t price) = connector_texts t

  pub texts_in : RawTrees → List (List ℕ)
  texts_in no_raw_trees = []
  texts_in (raw_tree t ts) = connector_texts t ++ texts_in ts

-- what an edit defines and the connectors of its expression, or the word that it removes
abbrev pub edit_texts : EditView → List (List ℕ)
edit_texts (puts e) = names_of e ++ connector_texts e.expr
edit_texts (sets e) = names_of e ++ connector_texts e.expr
edit_texts (removes word) = word ∷ []

-- the sentence of a command, or the texts of its edit and the macros that it names
abbrev pub command_texts : CommandView → List (List ℕ)
command_texts (parses sentence) = sentence ∷ []
command_texts (lists from want sentence) = sentence ∷ []
command_texts goes_on = []
command_texts (makes edit) = edit_texts edit ++ names_in edit
command_texts asks = []

abbrev pub HasSingleLines : CommandView → Type 0
HasSingleLines command = AllByRecursion IsSingleLine (command_texts command)

-- The commands of every script that is read have no line feed.
abbrev pub ScriptsHaveSingleLines : Type 0
ScriptsHaveSingleLines = (bytes : List ℕ) (commands : List CommandView) → ScriptIs bytes (Ok commands) → AllByRecursion HasSingleLines commands
