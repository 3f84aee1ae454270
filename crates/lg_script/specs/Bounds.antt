-- What the commands of every script keep to that is read from a file.
use Rattle.std.specs.Prelude.{ℕ, ◌≤◌, ◌<◌, ◌^◌, List, length, All}
use Rattle.std.specs.Str.{IsUtf8}
use Rattle.lg_edit.specs.Edits.{DefinesAsItMay, IsEditInBounds}
use Rattle.lg_script.specs.Commands.{CommandView, parses, lists, goes_on, makes, asks}

-- a sentence is UTF-8, with fewer than 2^32 bytes
pub record IsSentence (text : List ℕ) : Type 0 where
  pub utf8 : IsUtf8 text
  pub short : length text < 2 ^ 32

-- the number of a candidate, and how many candidates are wanted
abbrev pub IsCount : ℕ → Type 0
IsCount n = (1 ≤ n) × (n ≤ 1000000)

abbrev pub IsInBounds : CommandView → Type 0
IsInBounds (parses sentence) = IsSentence sentence
IsInBounds (lists from want sentence) = IsCount from × IsCount want × IsSentence sentence
IsInBounds goes_on = Unit {0}
IsInBounds (makes edit) = DefinesAsItMay edit × IsEditInBounds edit
IsInBounds asks = Unit {0}

-- fewer than 2^32 commands, each within its bounds
pub record AreInBounds (commands : List CommandView) : Type 0 where
  pub few : length commands < 2 ^ 32
  pub each : All IsInBounds commands
