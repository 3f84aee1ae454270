-- Which sentences are listed: those with few enough tokens, whose words have few enough choices.
use Rattle.std.specs.Prelude.{◌≡◌, ℕ, ◌^◌, min, nat_lt, List, length, Option, Some, None, if◌then◌else◌}
use Rattle.std.specs.List.{sum_by}
use Rattle.std.specs.Option.{option_map_or}
use Rattle.std.specs.FinMap.{get}
use Rattle.lg_gram.specs.Limits.{POSITIONS}
use Rattle.lg_gram.specs.Measures.{choice_count}
use Rattle.lg_gram.specs.declared.listing.Token.{Token}
use Rattle.lg_gram.specs.declared.listing.Bound.{Bound}
use Rattle.lg_gram.specs.declared.listing.Bound.TheVariants.{TooManyWords, TooWide}
use Rattle.lg_dict.specs.Dictionary.{Dictionary}
use Rattle.lg_token.specs.Tokens.{AreTokens}

-- the most choices of all words of a sentence that is listed
abbrev pub LISTED_CHOICES : ℕ
LISTED_CHOICES = 4000000

-- where the count of choices stops
abbrev pub CHOICES_COUNTED : ℕ
CHOICES_COUNTED = 2 ^ 60

-- how many choices a word has, and all words of all tokens
abbrev pub word_choices : Dictionary → List ℕ → ℕ
word_choices dict word = option_map_or choice_count (get dict.words word) 0

abbrev pub token_choices : Dictionary → Token → ℕ
token_choices dict t = sum_by (word_choices dict) t.words

abbrev pub all_choices : Dictionary → List Token → ℕ
all_choices dict tokens = sum_by (token_choices dict) tokens

-- why these tokens are not listed: more than a problem may have positions, or else too many choices
abbrev pub bound_of : Dictionary → List Token → Option Bound
bound_of dict tokens =
    if nat_lt POSITIONS (length tokens) then Some (TooManyWords (length tokens))
    else (if nat_lt LISTED_CHOICES (all_choices dict tokens) then Some (TooWide (min (all_choices dict tokens) CHOICES_COUNTED))
    else None)

-- the tokens of a sentence that is listed
pub record AreListed (dict : Dictionary) (text : List ℕ) (tokens : List Token) : Type 0 where
  pub of_text : AreTokens dict text tokens
  pub unbound : bound_of dict tokens ≡ None

-- the sentence is not listed for this reason
pub record IsBeyond (dict : Dictionary) (text : List ℕ) (bound : Bound) : Type 0 where
  pub tokens : List Token
  pub of_text : AreTokens dict text tokens
  pub is_bound : bound_of dict tokens ≡ Some bound
