-- What an export prints is a dictionary.
use Rattle.std.specs.Prelude.{◌≡◌, ℕ, List}
use Rattle.lg_base.specs.Contents.{Contents}
use Rattle.lg_dict.specs.Dictionary.{Dictionary}
use Rattle.lg_export.specs.ReadBack.{ReadsBack}
use Rattle.lg_export.specs.Spelling.{dictionary_spelled}
use Rattle.lg_run.specs.Words.{Export}
use Rattle.lg_run.specs.Inputs.{accepted, ExportGiven, InputsAre}

-- the text of a version, which stands for entries of the same words and macros, and asks for no word file
pub record IsDictionaryText (text : List ℕ) : Type 0 where
  pub version : Dictionary
  pub spelled : text ≡ dictionary_spelled version
  pub reads_back : ReadsBack version

-- so is every text that comes of the inputs of an export
abbrev pub ExportsAreDictionaries : Type 0
ExportsAreDictionaries = (contents : Contents) (dictionary script : List ℕ) (n : ℕ) (names : List (List ℕ)) (text : List ℕ)
    → InputsAre contents (Export dictionary script n) names (accepted (ExportGiven text)) → IsDictionaryText text
