-- What the readers make of made texts.
use Rattle.std.specs.Prelude.{◌≡◌, ℕ, ◌≤◌, ◌<◌, ◌^◌, List, [], length, Ok}
use Rattle.std.specs.List.{All}
use Rattle.lg_base.specs.Contents.{Contents}
use Rattle.lg_dictread.specs.Limits.{FILE}
use Rattle.lg_dictread.specs.Texts.{Meaning, DictionaryIs, stands}
use Rattle.lg_script.specs.Commands.{CommandView, parses}
use Rattle.lg_script.specs.Scripts.{ScriptIs}
use Rattle.lg_gen.specs.Made.{made_dictionary, made_script}

-- a made number of words or of sentences
pub record IsMade (n : ℕ) : Type 0 where
  pub some : 1 ≤ n
  pub few : n ≤ 100000

-- a made dictionary is no longer than a file may be, and stands for entries; no word file is asked for
abbrev pub DictionariesAreAccepted : Type 0
DictionariesAreAccepted =
    (contents : Contents) (words : ℕ) → IsMade words → (length (made_dictionary words) ≤ FILE) × ((entries : List Meaning) × DictionaryIs contents (made_dictionary words) [] (stands entries))

-- a command that parses a sentence
abbrev pub IsParse : CommandView → Type 0
IsParse c = (sentence : List ℕ) × (c ≡ parses sentence)

-- a made script is no longer than a file may be, and stands for a parse for each sentence
abbrev pub ScriptsAreAccepted : Type 0
ScriptsAreAccepted =
    (seed words sentences : ℕ) → seed < 2 ^ 32 → IsMade words → IsMade sentences
    → (length (made_script seed words sentences) ≤ FILE) × ((commands : List CommandView) × ScriptIs (made_script seed words sentences) (Ok commands) × (length commands ≡ sentences) × All IsParse commands)
