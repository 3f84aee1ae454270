-- What is taken on the way.
use Rattle.std.specs.Prelude.{◌≡◌, ℕ, ◌+◌, List, [], ◌∷◌, ◌++◌}
use Rattle.lg_token.specs.Bounds.{LISTED_CHOICES}
use Rattle.std.specs.List.{Contains}
use Rattle.std.specs.declared.cmp.Ordering.TheVariants.{Equal}
use Rattle.lg_idiom.specs.Idioms.{Chain, chain_choices, word_cmp, AreTaken}
use Rattle.lg_idiom.specs.declared.taken.Taken.{Taken}

-- the choices of all of them
abbrev pub choices_of_all : List Chain → ℕ
choices_of_all [] = 0
choices_of_all (c ∷ cs) = chain_choices c + choices_of_all cs

-- what is taken of these chains, and how many choices are left
pub record HasTaken (chains : List Chain) (t : Taken) : Type 0 where
  pub taken : AreTaken 0 chains t.chains.items
  pub left : t.left + choices_of_all t.chains.items ≡ LISTED_CHOICES

-- these chains more
abbrev pub TakesMore : List Chain → Taken → Taken → Type 0
TakesMore more old new = (chains : List Chain) → HasTaken chains old → HasTaken (chains ++ more) new

-- chains that the order by word and start does not tell apart are one
abbrev pub AreToldApart : List Chain → Type 0
AreToldApart chains = (c d : Chain) → Contains chains c → Contains chains d → word_cmp c d ≡ Equal → c ≡ d
