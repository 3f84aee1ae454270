-- The inputs that are made of a seed, as the readers take them.
use Rattle.std.proofs.Common.{◌≡◌, ◌∙◌, ◌≤◌, ◌<◌, ◌^◌, ℕ, List, [], ◌∷◌, length, map, Ok, All, refl, sym, ap, subst}
use Rattle.lg_base.specs.Contents.{Contents}
use Rattle.lg_gram.specs.declared.entry.Entry.{Entry}
use Rattle.lg_dict.specs.Dictionary.{Dictionary, dictionary_of}
use Rattle.lg_dictread.specs.Findings.{Asked, names_of}
use Rattle.lg_dictread.specs.Limits.{FILE}
use Rattle.lg_dictread.specs.Texts.{Meaning, TextAnswer, DictionaryGives, DictionaryIs, stands}
use Rattle.lg_dictread.specs.DictTexts.{entry_meaning}
use Rattle.lg_gen.specs.Accepted.{IsMade, IsParse, DictionariesAreAccepted, ScriptsAreAccepted}
use Rattle.lg_gen.specs.Made.{made_dictionary, made_script}
use Rattle.lg_script.specs.Bounds.{AreInBounds}
use Rattle.lg_script.specs.Commands.{CommandView}
use Rattle.lg_script.specs.Scripts.{Outcome, ScriptIs}
use Rattle.lg_run.specs.Inputs.{dictionary_from}
use Rattle.lg_run.specs.Sums.{AreMade}
use Rattle.lg_run.proofs.Dictionaries.{OneDictionary, same_dictionary}

-- ---- dictionaries that ask for no word file

asked_none : (asked : List Asked) → [] ≡ names_of asked → asked ≡ []
asked_none [] e = refl
asked_none (a ∷ asked) e = absurd (cc e)

pub gives_alone : (contents : Contents) (bytes : List ℕ) (answer : TextAnswer) → DictionaryIs contents bytes [] answer → DictionaryGives bytes [] answer
gives_alone contents bytes answer d = subst (λ (asked : List Asked). DictionaryGives bytes asked answer) (asked_none d.asked d.names_are) d.gives

is_alone : (contents : Contents) (bytes : List ℕ) (answer : TextAnswer) → DictionaryGives bytes [] answer → DictionaryIs contents bytes [] answer
is_alone contents bytes answer gives = record { asked = []; names_are = refl; found = tt; gives = gives }

same_entries : (a b : List Meaning) → stands a ≡ stands b → a ≡ b
same_entries a b e = cc

pub read_alone : OneDictionary → (contents : Contents) (bytes : List ℕ) (names : List (List ℕ)) (entries : List Entry) (meanings : List Meaning)
    → DictionaryIs contents bytes names (stands (map entry_meaning entries)) → DictionaryGives bytes [] (stands meanings) → dictionary_of entries ≡ dictionary_from meanings
read_alone one contents bytes names entries meanings is gives =
    let same = one contents bytes names [] (stands (map entry_meaning entries)) (stands meanings) is (is_alone contents bytes (stands meanings) gives) in
    sym (same_dictionary entries) ∙ ap dictionary_from (same_entries (map entry_meaning entries) meanings same.1)

-- ---- scripts

-- what the law of scripts says
abbrev pub OneScript : Type 0
OneScript = (bytes : List ℕ) (x y : Outcome) → ScriptIs bytes x → ScriptIs bytes y → x ≡ y

same_commands : (a b : List CommandView) → ◌≡◌ {A = Outcome} (Ok a) (Ok b) → a ≡ b
same_commands a b e = cc

pub read_one : OneScript → (bytes : List ℕ) (read commands : List CommandView) → ScriptIs bytes (Ok read) → ScriptIs bytes (Ok commands) → read ≡ commands
read_one one bytes read commands is given = same_commands read commands (one bytes (Ok read) (Ok commands) is given)

-- ---- both

module _ (dictionaries : DictionariesAreAccepted) (scripts : ScriptsAreAccepted) (seed words sentences : ℕ) (is_words : IsMade words) (are_sentences : IsMade sentences) where
  pub entries_made : Contents → (entries : List Meaning) × DictionaryGives (made_dictionary words) [] (stands entries)
  entries_made contents = let d = dictionaries contents words is_words in (d.1.0, gives_alone contents (made_dictionary words) (stands d.1.0) d.1.1)

  module _ (small : seed < 2 ^ 32) where
    pub short_script : length (made_script seed words sentences) ≤ FILE
    short_script = (scripts seed words sentences small is_words are_sentences).0

    pub commands_made : (commands : List CommandView) × ScriptIs (made_script seed words sentences) (Ok commands) × (length commands ≡ sentences) × All IsParse commands
    commands_made = (scripts seed words sentences small is_words are_sentences).1

    pub are_made : ((bytes : List ℕ) (commands : List CommandView) → length bytes ≤ FILE → ScriptIs bytes (Ok commands) → AreInBounds commands) → Contents → (dict : Dictionary) (read : List (List CommandView))
        → ((entries : List Meaning) → DictionaryGives (made_dictionary words) [] (stands entries) → dict ≡ dictionary_from entries)
        → ((commands : List CommandView) → ScriptIs (made_script seed words sentences) (Ok commands) → read ≡ commands ∷ []) → AreMade seed words sentences dict read
    are_made bounds contents dict read is_dict is_read =
        let e = entries_made contents in
        let c = commands_made in
        record {
          entries = e.0;
          read_dictionary = e.1;
          dictionary = is_dict e.0 e.1;
          commands = c.0;
          read_script = c.1;
          script = is_read c.0 c.1;
          bounds = bounds (made_script seed words sentences) c.0 short_script c.1;
          count = c.2;
          parse = c.3;
        }
