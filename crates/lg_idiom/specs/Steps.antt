-- What the steps give on the way to the idioms of a sentence.
use Rattle.std.specs.Prelude.{◌≡◌, ◌⊎◌, ℕ, ◌+◌, List, [], ◌∷◌, drop, Bool, true, false, ◌&&◌, not, ◌==◌, nat_eq, Option, MatchOption, nat_le, nat_lt, ◌-◌}
use Rattle.std.specs.Cmp.Lexicographic.{pointwise}
use Rattle.lg_gram.specs.Formulas.{IsFormula}
use Rattle.lg_gram.specs.Trees.{Tree, tree_of}
use Rattle.lg_gram.specs.declared.expr.Expr.{Expr}
use Rattle.lg_gram.specs.declared.listing.Token.{Token}
use Rattle.lg_dict.specs.Dictionary.{Dictionary, IsCompoundOf}
use Rattle.lg_dict.specs.Compounds.{parts_of}
use Rattle.lg_token.specs.Words.{is_capitalized, lowered}
use Rattle.lg_eprune.specs.Live.{WordTree}
use Rattle.lg_idiom.specs.Idioms.{Chain, IsUsable, formula_at}

abbrev pub is_wall : Token → Bool
is_wall t = t.from == t.to

-- a compound that begins with the text, or, for the first token that is no wall, with the lowered text
abbrev pub IsBegun : Dictionary → Bool → List ℕ → List ℕ → Type 0
IsBegun dict initial text word =
    IsCompoundOf dict text word ⊎ ((initial ≡ true) × (is_capitalized text ≡ true) × IsCompoundOf dict (lowered text) word)

-- a later token stands for the part
abbrev pub is_later : List ℕ → Token → Bool
is_later part token = not (is_wall token) && pointwise nat_eq token.text part

-- the tokens stand for the parts, one after another
abbrev pub do_follow : List (List ℕ) → List Token → Bool
do_follow [] tokens = true
do_follow (part ∷ parts) [] = false
do_follow (part ∷ parts) (token ∷ tokens) = is_later part token && do_follow parts tokens

-- the tokens stand for the parts of the word after its first
abbrev pub does_go_on : List Token → List ℕ → Bool
does_go_on tokens word = do_follow (drop 1 (parts_of word)) tokens

-- the chain, if it may be used
abbrev pub IsChainIf : Chain → Option Chain → Type 0
IsChainIf c made = MatchOption made (IsUsable c → ⊥) (λ chain. (chain ≡ c) × IsUsable c)

-- a formula of this tree, if it is within the limits
abbrev pub IsLastIf : Tree → Option Expr → Type 0
IsLastIf t made = MatchOption made (IsFormula t → ⊥) (λ f. (tree_of f ≡ t) × IsFormula t)

-- the chain covers position p, and what it adds there
abbrev pub covers : ℕ → Chain → Bool
covers p c = nat_le c.start p && nat_lt p (c.start + c.count)

abbrev pub added_by : ℕ → Chain → WordTree
added_by p c = record { word = c.word; tree = formula_at c (p - c.start) }
