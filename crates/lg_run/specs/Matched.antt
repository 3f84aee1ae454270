-- What clap's matches tell of the options.
use Rattle.std.specs.Prelude.{◌≡◌, ℕ, List, Some}
use Rattle.clap.specs.Words.{Rule, new_rule, first_value, found_of}
use Rattle.clap.specs.declared.builder.action.ArgAction.TheVariants.{Set}
use Rattle.clap.specs.declared.parser.matches.ArgMatches.{ArgMatches}
use Rattle.lg_run.specs.Words.{value_of}

-- an option of this name, with one value
abbrev pub option_rule : List ℕ → Rule
option_rule name = record (new_rule name) { long = Some name; action = Some Set }

-- each name has the value that the options give it
abbrev pub TellsSettings : ArgMatches → List (List ℕ × List ℕ) → Type 0
TellsSettings matches settings = (name : List ℕ) → first_value (found_of matches) name ≡ value_of name settings
