-- What calls that read the form of options promise.
use Rattle.std.specs.Prelude.{◌≡◌, ◌≢◌, ℕ, Bool, true, List, [], ◌∷◌, ◌++◌, Contains, bytes_eq, codes, map, nat_eq, None, if◌then◌else◌}
use Rattle.std.specs.List.{AllByRecursion, list_any}
use Rattle.lg_run.specs.Words.{HasForm, Known, AreOptions, value_of, is_operand}
use Rattle.lg_run.specs.declared.options.Kind.{Kind}
use Rattle.lg_run.specs.declared.options.Kind.TheVariants as kinds
use Rattle.lg_run.specs.declared.options.Setting.{Setting}
use Rattle.lg_run.specs.declared.options.Setting.TheVariants.{Want, Examine, Nulls, Prune, Stats, Diagram, Workers, Idioms, Usage}

-- the name of an option
abbrev pub name_of : Setting → List ℕ
name_of Want = codes "want"
name_of Examine = codes "examine"
name_of Nulls = codes "nulls"
name_of Prune = codes "prune"
name_of Stats = codes "stats"
name_of Diagram = codes "diagram"
name_of Workers = codes "workers"
name_of Idioms = codes "idioms"
name_of Usage = codes "usage"

-- how its value is written
abbrev pub value_kind : Setting → Kind
value_kind Want = kinds.Number
value_kind Examine = kinds.Number
value_kind Nulls = kinds.Nulls
value_kind Prune = kinds.Switch
value_kind Stats = kinds.Switch
value_kind Diagram = kinds.Switch
value_kind Workers = kinds.Workers
value_kind Idioms = kinds.Switch
value_kind Usage = kinds.Switch

-- options by their names
abbrev pub named : List Setting → Known
named settings = map (λ (s : Setting). (name_of s, value_kind s)) settings

-- the word that begins an option
abbrev pub option_word : Setting → List ℕ
option_word setting = codes "--" ++ name_of setting

-- no equals sign stands in a word
abbrev pub IsPlain : List ℕ → Type 0
IsPlain word = AllByRecursion (λ (b : ℕ). b ≢ 61) word

-- words that begin with a word and a value, in two words or in one
pub data Begins (word value : List ℕ) (behind : List (List ℕ)) : List (List ℕ) → Type 0 where
  apart : IsPlain word → Begins word value behind (word ∷ value ∷ behind)
  joined : IsPlain word → Begins word value behind ((word ++ 61 ∷ value) ∷ behind)

-- words that begin with an option that is known
pub record BeginsWith (known : List Setting) (words : List (List ℕ)) (setting : Setting) (value : List ℕ) (behind : List (List ℕ)) : Type 0 where
  pub there : Contains known setting
  pub form : HasForm (value_kind setting) value
  pub begins : Begins (option_word setting) value behind words

-- what stands in a word before its first equals sign, or all of it
abbrev pub front_of : List ℕ → List ℕ
front_of [] = []
front_of (b ∷ bs) = if nat_eq b 61 then [] else b ∷ front_of bs

-- one of the words begins the option that begins with this word
abbrev pub is_given : List ℕ → List (List ℕ) → Bool
is_given word done = list_any (λ (other : List ℕ). bytes_eq (front_of other) word) done

-- no option begins here, nor any other word with a dash
pub data Ends : List (List ℕ) → Type 0 where
  nothing : Ends []
  operand : (word : List ℕ) (words : List (List ℕ)) → is_operand word ≡ true → Ends (word ∷ words)

-- words that are options, which give what the words before them do not, and behind them no option
pub record Cuts (known : List Setting) (done words front : List (List ℕ)) (settings : List (List ℕ × List ℕ)) (behind : List (List ℕ)) : Type 0 where
  pub split : words ≡ front ++ behind
  pub read : AreOptions (named known) front settings
  pub ends : Ends behind
  pub new : (setting : Setting) → is_given (option_word setting) done ≡ true → value_of (name_of setting) settings ≡ None

-- words cut into options and what stands behind them
pub record IsCut (known : Known) (words front behind : List (List ℕ)) : Type 0 where
  pub settings : List (List ℕ × List ℕ)
  pub split : words ≡ front ++ behind
  pub read : AreOptions known front settings
  pub ends : Ends behind
