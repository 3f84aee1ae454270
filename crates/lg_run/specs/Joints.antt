-- Dictionaries by which sentences are listed have no joints.
use Rattle.std.specs.Prelude.{ℕ, List}
use Rattle.lg_base.specs.Contents.{Contents}
use Rattle.lg_gram.specs.declared.reply.Place.{Place}
use Rattle.lg_dict.specs.Dictionary.{Dictionary}
use Rattle.lg_idiom.specs.Overlays.{HasNoJoints}
use Rattle.lg_knowread.specs.declared.knowledge.Knowledge.{Knowledge}
use Rattle.lg_script.specs.Commands.{CommandView}
use Rattle.lg_script.specs.Histories.{version_of}
use Rattle.lg_run.specs.Inputs.{accepted, Given, OneGiven, RunGiven, InputsAre}
use Rattle.lg_run.specs.Words.{Task}
use Rattle.lg_run.specs.declared.setup.Setup.{Setup}

-- a dictionary by which a command lists sentences: the one that is read, or a version of it, whatever the journal is
pub data ListsBy : Given → Dictionary → Type 0 where
  one : (setup : Setup) (dict : Dictionary) (sentence : List ℕ) → ListsBy (OneGiven setup dict sentence) dict
  run : (setup : Setup) (dict : Dictionary) (know : Knowledge) (scripts : List (List CommandView)) (journal : List Place) (version : ℕ)
      → ListsBy (RunGiven setup dict know scripts) (version_of scripts dict journal version)

-- No dictionary by which a command lists sentences has a joint, whatever the files hold.
abbrev pub DictionariesHaveNoJoints : Type 0
DictionariesHaveNoJoints = (contents : Contents) (task : Task) (names : List (List ℕ)) (given : Given) (dict : Dictionary)
    → InputsAre contents task names (accepted given) → ListsBy given dict → HasNoJoints dict
