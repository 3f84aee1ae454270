-- Which dictionary words a token stands for.
use Rattle.std.specs.Prelude.{◌≡◌, ◌≢◌, ◌⊎◌, ◌↔◌, ℕ, ◌+◌, ◌<◌, List, [], ◌∷◌, ◌++◌, Bool, true, false, ◌||◌, ◌==◌, codes, Some, slice_get, Any, Contains}
use Rattle.std.specs.List.{list_all}
use Rattle.std.specs.List.Sorted.{IsStrictlySortedBy}
use Rattle.std.specs.Char.{is_ascii_uppercase, is_ascii_digit}
use Rattle.std.specs.Ordering.{nat_cmp}
use Rattle.std.specs.Cmp.Lexicographic.{slice_cmp}
use Rattle.lg_dict.specs.Dictionary.{Dictionary, IsWordOf}
use Rattle.lg_token.specs.declared.special.Special.{Special}
use Rattle.lg_token.specs.declared.special.Special.TheVariants.{Numbers, Capitalized, Hyphenated, Unknown}

-- some word equals the text or has it as stem
abbrev pub Has : Dictionary → List ℕ → Type 0
Has dict text = (word : List ℕ) × IsWordOf dict text word

-- it begins with A to Z
abbrev pub is_capitalized : List ℕ → Bool
is_capitalized [] = false
is_capitalized (b ∷ bs) = is_ascii_uppercase b

-- with its first byte lowered
abbrev pub lowered : List ℕ → List ℕ
lowered [] = []
lowered (b ∷ bs) = (b + 32) ∷ bs

-- A word of the text. The initial token of a sentence, where it begins with a capital letter, also has the words of the
-- lowered text.
abbrev pub IsNamed : Dictionary → Bool → List ℕ → List ℕ → Type 0
IsNamed dict initial text word =
    IsWordOf dict text word ⊎ ((initial ≡ true) × (is_capitalized text ≡ true) × IsWordOf dict (lowered text) word)

-- it has such a word
abbrev pub IsKnown : Dictionary → Bool → List ℕ → Type 0
IsKnown dict initial text = (word : List ℕ) × IsNamed dict initial text word

-- a digit, `.` (46) or `,` (44)
abbrev pub is_in_number : ℕ → Bool
is_in_number b = is_ascii_digit b || b == 46 || b == 44

abbrev pub BeginsWithDigit : List ℕ → Type 0
BeginsWithDigit text = (first : ℕ) × (rest : List ℕ) × (text ≡ first ∷ rest) × (is_ascii_digit first ≡ true)

abbrev pub EndsWithDigit : List ℕ → Type 0
EndsWithDigit text = (front : List ℕ) × (last : ℕ) × (text ≡ front ++ last ∷ []) × (is_ascii_digit last ≡ true)

-- it begins and ends with a digit, and all its bytes are digits, `.` or `,`
pub record IsNumber (text : List ℕ) : Type 0 where
  pub begins : BeginsWithDigit text
  pub ends : EndsWithDigit text
  pub inner : list_all is_in_number text ≡ true

-- it has a `-` (45) with another byte somewhere before it and somewhere after it
pub record IsHyphenated (text : List ℕ) : Type 0 where
  pub before : List ℕ
  pub after : List ℕ
  pub parts : text ≡ before ++ 45 ∷ after
  pub left : Any (λ b. b ≢ 45) before
  pub right : Any (λ b. b ≢ 45) after

-- the words that stand for what a dictionary does not have, after link-parser
abbrev pub special_word : Special → List ℕ
special_word Numbers = codes "NUMBERS"
special_word Capitalized = codes "CAPITALIZED-WORDS"
special_word Hyphenated = codes "HYPHENATED-WORDS"
special_word Unknown = codes "UNKNOWN-WORD"

abbrev pub Applies : Special → List ℕ → Type 0
Applies Numbers text = IsNumber text
Applies Capitalized text = is_capitalized text ≡ true
Applies Hyphenated text = IsHyphenated text
Applies Unknown text = Unit {0}

-- in the order in which they are tried
abbrev pub specials : List Special
specials = Numbers ∷ Capitalized ∷ Hyphenated ∷ Unknown ∷ []

-- it applies to the text, and the dictionary has it, with any subscript
abbrev pub MayStand : Dictionary → List ℕ → Special → Type 0
MayStand dict text special = Applies special text × Has dict (special_word special)

-- the first that may stand for the text
pub record IsFirstSpecial (dict : Dictionary) (text : List ℕ) (special : Special) : Type 0 where
  pub place : ℕ
  pub here : slice_get specials place ≡ Some special
  pub stands : MayStand dict text special
  pub first : (k : ℕ) (other : Special) → k < place → slice_get specials k ≡ Some other → MayStand dict text other → ⊥

-- a word of the first special word that may stand for the text
abbrev pub IsSpecialWord : Dictionary → List ℕ → List ℕ → Type 0
IsSpecialWord dict text word = (s : Special) × IsFirstSpecial dict text s × IsWordOf dict (special_word s) word

-- a word of a token: of its text, or, where there is none, of a special word
pub data IsTokenWord (dict : Dictionary) (initial : Bool) (text word : List ℕ) : Type 0 where
  named : IsNamed dict initial text word → IsTokenWord dict initial text word
  special : (IsKnown dict initial text → ⊥) → IsSpecialWord dict text word → IsTokenWord dict initial text word

-- exactly the words of this kind, increasing by bytes
pub record AreWords (IsOne : List ℕ → Type 0) (words : List (List ℕ)) : Type 0 where
  pub rise : IsStrictlySortedBy (slice_cmp nat_cmp) words
  pub exactly : (word : List ℕ) → Contains words word ↔ IsOne word

-- all words of a token
abbrev pub AreTokenWords : Dictionary → Bool → List ℕ → List (List ℕ) → Type 0
AreTokenWords dict initial text words = AreWords (IsTokenWord dict initial text) words
