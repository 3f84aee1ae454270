-- The form of the words of the command line: `one` or `run`, then options, then operands; `gen` and three numbers; `export`, two
-- operands and a number; or `audit` and operands.
use Rattle.std.specs.Prelude.{◌≡◌, ◌≢◌, ℕ, ◌<◌, ◌≤◌, ◌^◌, Bool, true, false, not, IsTrue, List, [], ◌∷◌, ◌++◌, codes, nat_eq, bytes_eq, length, All, Contains, Option, None, Some, if◌then◌else◌}
use Rattle.lg_answer.specs.Pages.{default_options}
use Rattle.lg_answer.specs.declared.options.Nulls.{Nulls}
use Rattle.lg_answer.specs.declared.options.Options.{Options}
use Rattle.lg_answer.specs.declared.options.Nulls.TheVariants.{First, Passing}
use Rattle.std.specs.List.{AllByRecursion}
use Rattle.lg_forest.specs.Forests.{AreWorkers}
use Rattle.lg_gen.specs.Accepted.{IsMade}
use Rattle.lg_script.specs.Bounds.{IsCount}
use Rattle.lg_script.specs.Commands.{IsNumber, IsDigit, written_number}
use Rattle.lg_text.specs.declared.look.Look.{Look}
use Rattle.lg_run.specs.declared.options.Kind.{Kind}
use Rattle.lg_run.specs.declared.options.Kind.TheVariants as kinds
use Rattle.lg_run.specs.declared.setup.Setup.{Setup}

-- what the words ask for
pub data Task : Type 0 where
  -- the linkages of one sentence: how they are listed and printed, the name of the dictionary, and the sentence
  One : Setup → List ℕ → List ℕ → Task
  -- the answers to scripts: how linkages are listed and printed, and the names of the dictionary, of the knowledge and of the scripts
  Run : Setup → List ℕ → List ℕ → List (List ℕ) → Task
  -- the sums of a made session: the seed, and how many words and sentences are made
  Gen : ℕ → ℕ → ℕ → Task
  -- the text of a version: the names of the dictionary and of a script, and how many of its edits are made
  Export : List ℕ → List ℕ → ℕ → Task
  -- whether a document of scripts is right: the names of the dictionary, of the knowledge, of the document and of the scripts
  Audit : List ℕ → List ℕ → List ℕ → List (List ℕ) → Task

-- ---- options

-- a word that says which linkages decide how many words may stay unlinked
pub data WritesNulls : List ℕ → Nulls → Type 0 where
  first : WritesNulls (codes "first") First
  passing : WritesNulls (codes "passing") Passing

-- a word that says whether something is done
pub data WritesSwitch : List ℕ → Bool → Type 0 where
  on : WritesSwitch (codes "on") true
  off : WritesSwitch (codes "off") false

-- how many workers look for the linkages of a sentence: from 1 to 16
pub record WritesWorkers (value : List ℕ) (n : ℕ) : Type 0 where
  pub number : IsNumber value n
  pub few : AreWorkers n

-- a value of each kind
abbrev pub HasForm : Kind → List ℕ → Type 0
HasForm kinds.Number value = (n : ℕ) × IsNumber value n
HasForm kinds.Nulls value = (n : Nulls) × WritesNulls value n
HasForm kinds.Switch value = (b : Bool) × WritesSwitch value b
HasForm kinds.Workers value = (n : ℕ) × WritesWorkers value n

-- names of options, each with the kind of its value
abbrev pub Known : Type 0
Known = List (List ℕ × Kind)

-- the options of `one`, and those of `run`, which has one more
abbrev pub one_options : Known
one_options =
    (codes "want", kinds.Number) ∷ (codes "examine", kinds.Number) ∷ (codes "nulls", kinds.Nulls) ∷ (codes "prune", kinds.Switch)
    ∷ (codes "stats", kinds.Switch) ∷ (codes "diagram", kinds.Switch) ∷ (codes "workers", kinds.Workers) ∷ (codes "idioms", kinds.Switch) ∷ []

abbrev pub run_options : Known
run_options = one_options ++ (codes "usage", kinds.Switch) ∷ []

-- an option that is known, with a value of its kind
pub record IsKnown (known : Known) (name value : List ℕ) : Type 0 where
  pub kind : Kind
  pub listed : Contains known (name, kind)
  pub form : HasForm kind value

-- the value that options give to a name
abbrev pub value_of : List ℕ → List (List ℕ × List ℕ) → Option (List ℕ)
value_of name [] = None
value_of name (setting ∷ settings) = if bytes_eq setting.0 name then Some setting.1 else value_of name settings

-- known options one after another, each in two words or in one, `--NAME VALUE` or `--NAME=VALUE`, with their names and values; no
-- name is given twice
pub data AreOptions (known : Known) : List (List ℕ) → List (List ℕ × List ℕ) → Type 0 where
  none : AreOptions known [] []
  apart : (name value : List ℕ) (words : List (List ℕ)) (settings : List (List ℕ × List ℕ)) → IsKnown known name value → value_of name settings ≡ None
      → AreOptions known words settings → AreOptions known ((codes "--" ++ name) ∷ value ∷ words) ((name, value) ∷ settings)
  joined : (name value : List ℕ) (words : List (List ℕ)) (settings : List (List ℕ × List ℕ)) → IsKnown known name value → value_of name settings ≡ None
      → AreOptions known words settings → AreOptions known ((codes "--" ++ (name ++ (codes "=" ++ value))) ∷ words) ((name, value) ∷ settings)

-- a number that an option gives, or the usual one
abbrev pub GivesNumber : Option (List ℕ) → ℕ → ℕ → Type 0
GivesNumber None usual n = n ≡ usual
GivesNumber (Some value) usual n = IsNumber value n

-- the same of what an option chooses
abbrev pub GivesNulls : Option (List ℕ) → Nulls → Nulls → Type 0
GivesNulls None usual n = n ≡ usual
GivesNulls (Some value) usual n = WritesNulls value n

-- the same of what an option switches
abbrev pub GivesSwitch : Option (List ℕ) → Bool → Bool → Type 0
GivesSwitch None usual b = b ≡ usual
GivesSwitch (Some value) usual b = WritesSwitch value b

-- the same of a number of workers
abbrev pub GivesWorkers : Option (List ℕ) → ℕ → ℕ → Type 0
GivesWorkers None usual n = n ≡ usual
GivesWorkers (Some value) usual n = WritesWorkers value n

-- nothing is printed beside linkages, where nothing else is asked
abbrev pub default_look : Look
default_look = record { diagram = false; stats = false }

abbrev pub default_setup : Setup
default_setup = record { listing = default_options; look = default_look; usage = false }

-- what options come to; disjuncts are counted where their numbers are printed
pub record Gives (settings : List (List ℕ × List ℕ)) (setup : Setup) : Type 0 where
  pub want : GivesNumber (value_of (codes "want") settings) default_options.want setup.listing.want
  pub examine : GivesNumber (value_of (codes "examine") settings) default_options.examine setup.listing.examine
  pub nulls : GivesNulls (value_of (codes "nulls") settings) default_options.nulls setup.listing.nulls
  pub prune : GivesSwitch (value_of (codes "prune") settings) default_options.prune setup.listing.prune
  pub stats : GivesSwitch (value_of (codes "stats") settings) default_look.stats setup.look.stats
  pub diagram : GivesSwitch (value_of (codes "diagram") settings) default_look.diagram setup.look.diagram
  pub workers : GivesWorkers (value_of (codes "workers") settings) default_options.workers setup.listing.workers
  pub idioms : GivesSwitch (value_of (codes "idioms") settings) default_options.idioms setup.listing.idioms
  pub usage : GivesSwitch (value_of (codes "usage") settings) false setup.usage
  pub count : setup.listing.count ≡ setup.look.stats

-- the options of a command that knows these
pub record OptionsAre (known : Known) (words : List (List ℕ)) (setup : Setup) : Type 0 where
  pub settings : List (List ℕ × List ℕ)
  pub read : AreOptions known words settings
  pub given : Gives settings setup

-- ---- operands

abbrev pub begins_with_dash : List ℕ → Bool
begins_with_dash [] = false
begins_with_dash (b ∷ bs) = nat_eq b 45

abbrev pub is_operand : List ℕ → Bool
is_operand word = not (begins_with_dash word)

-- the most bytes of a sentence
abbrev pub SENTENCE : ℕ
SENTENCE = 67108864

-- the most scripts
abbrev pub SCRIPTS : ℕ
SCRIPTS = 64

-- ---- numbers of made input

-- at most so many digits, and at least one, that write a number
pub record WritesNumber (most : ℕ) (digits : List ℕ) (n : ℕ) : Type 0 where
  pub some : digits ≢ []
  pub few : length digits ≤ most
  pub all_digits : AllByRecursion IsDigit digits
  pub value : n ≡ written_number 0 digits

-- a seed: up to ten digits that write a number below 2^32
pub record IsSeed (digits : List ℕ) (n : ℕ) : Type 0 where
  pub writes : WritesNumber 10 digits n
  pub small : n < 2 ^ 32

-- how many words or sentences are made: up to six digits that write a number from 1 to 100,000
pub record IsMadeCount (digits : List ℕ) (n : ℕ) : Type 0 where
  pub writes : WritesNumber 6 digits n
  pub made : IsMade n

-- how many edits are made: up to six digits that write a number up to 100,000
pub record IsEditCount (digits : List ℕ) (n : ℕ) : Type 0 where
  pub writes : WritesNumber 6 digits n
  pub few : n ≤ 100000

-- ---- commands

-- `one OPTIONS DICT SENTENCE`, `run OPTIONS DICT KNOWLEDGE SCRIPT..` with 1 to 64 scripts, `gen SEED WORDS SENTENCES`, `export DICT SCRIPT N`,
-- and `audit DICT KNOWLEDGE DOCUMENT SCRIPT..` with 1 to 64 scripts
pub data TaskIs : List (List ℕ) → Task → Type 0 where
  one : (front : List (List ℕ)) (setup : Setup) (dictionary sentence : List ℕ) → OptionsAre one_options front setup
      → IsTrue (is_operand dictionary) → IsTrue (is_operand sentence) → length sentence ≤ SENTENCE
      → TaskIs (codes "one" ∷ (front ++ dictionary ∷ sentence ∷ [])) (One setup dictionary sentence)
  run : (front : List (List ℕ)) (setup : Setup) (dictionary knowledge : List ℕ) (scripts : List (List ℕ)) → OptionsAre run_options front setup
      → All (λ word. IsTrue (is_operand word)) (dictionary ∷ knowledge ∷ scripts) → 1 ≤ length scripts → length scripts ≤ SCRIPTS
      → TaskIs (codes "run" ∷ (front ++ dictionary ∷ knowledge ∷ scripts)) (Run setup dictionary knowledge scripts)
  gen : (a b c : List ℕ) (seed words sentences : ℕ) → IsSeed a seed → IsMadeCount b words → IsMadeCount c sentences
      → TaskIs (codes "gen" ∷ a ∷ b ∷ c ∷ []) (Gen seed words sentences)
  export : (dictionary script digits : List ℕ) (n : ℕ) → IsTrue (is_operand dictionary) → IsTrue (is_operand script) → IsEditCount digits n
      → TaskIs (codes "export" ∷ dictionary ∷ script ∷ digits ∷ []) (Export dictionary script n)
  audit : (dictionary knowledge document : List ℕ) (scripts : List (List ℕ)) → All (λ word. IsTrue (is_operand word)) (dictionary ∷ knowledge ∷ document ∷ scripts)
      → 1 ≤ length scripts → length scripts ≤ SCRIPTS
      → TaskIs (codes "audit" ∷ dictionary ∷ knowledge ∷ document ∷ scripts) (Audit dictionary knowledge document scripts)

-- ---- what holds of each task

-- its sentence is no longer than a sentence may be, its scripts are no more than there may be, and its numbers are those that may be
-- made, or edits that a script may have
abbrev pub IsShort : Task → Type 0
IsShort (One setup dictionary sentence) = length sentence ≤ SENTENCE
IsShort (Run setup dictionary knowledge scripts) = (1 ≤ length scripts) × (length scripts ≤ SCRIPTS)
IsShort (Gen seed words sentences) = (seed < 2 ^ 32) × IsMade words × IsMade sentences
IsShort (Export dictionary script n) = n ≤ 100000
IsShort (Audit dictionary knowledge document scripts) = (1 ≤ length scripts) × (length scripts ≤ SCRIPTS)

-- its numbers are those that an option may set
pub record HasCounts (options : Options) : Type 0 where
  pub want : IsCount options.want
  pub examine : IsCount options.examine
  pub workers : AreWorkers options.workers

abbrev pub AreInRange : Setup → Type 0
AreInRange setup = HasCounts setup.listing
