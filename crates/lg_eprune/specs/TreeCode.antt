-- A code of trees, by which a proof tells values apart: the tree in prefix notation, which a stack reads from its end.
use Rattle.std.specs.Prelude.{◌≡◌, ◌⊎◌, ℕ, zero, suc, ℤ, Bool, List, [], ◌∷◌}
use Rattle.std.specs.Coded.{Coded, code_by, coded_ℕ, coded_ℤ, coded_bool, coded_list, coded×, coded⊎}
use mathlib.Core.Logic.{inl, inr}
use mathlib.Core.Path.{refl, ap, ◌∙◌}
use Rattle.lg_gram.specs.Connectors.{Connector}
use Rattle.lg_gram.specs.Trees.{Tree, Trees, empty, leaf, all_of, one_of, priced, no_trees, tree}
use Rattle.lg_eprune.specs.Live.{WordTree}

abbrev Parts : Type 0
Parts = (List ℕ × List ℕ) × (Bool × Bool)

-- a number for what has no content, a connector, or a price
abbrev Token : Type 0
Token = (ℕ ⊎ Parts) ⊎ ℤ

abbrev Item : Type 0
Item = Tree ⊎ Trees

abbrev parts : Connector → Parts
parts c = ((c.caps, c.subs), (c.multi, c.right))

abbrev from_parts : Parts → Connector
from_parts p = record { caps = p.0.0; subs = p.0.1; multi = p.1.0; right = p.1.1 }

abbrev plain : ℕ → Token
plain n = inl (inl n)

abbrev mutual
  written : Tree → List Token → List Token
  written empty rest = plain 0 ∷ rest
  written (leaf c) rest = inl (inr (parts c)) ∷ rest
  written (all_of ts) rest = plain 1 ∷ written_all ts rest
  written (one_of ts) rest = plain 2 ∷ written_all ts rest
  written (priced t price) rest = inr price ∷ written t rest

  written_all : Trees → List Token → List Token
  written_all no_trees rest = plain 3 ∷ rest
  written_all (tree t ts) rest = plain 4 ∷ written t (written_all ts rest)

abbrev join_all : List Item → List Item
join_all [] = []
join_all (inl t ∷ stack) = stack
join_all (inr ts ∷ stack) = inl (all_of ts) ∷ stack

abbrev join_one : List Item → List Item
join_one [] = []
join_one (inl t ∷ stack) = stack
join_one (inr ts ∷ stack) = inl (one_of ts) ∷ stack

abbrev add_price : ℤ → List Item → List Item
add_price price [] = []
add_price price (inl t ∷ stack) = inl (priced t price) ∷ stack
add_price price (inr ts ∷ stack) = stack

abbrev put_first : Tree → List Item → List Item
put_first t [] = []
put_first t (inl u ∷ stack) = stack
put_first t (inr ts ∷ stack) = inr (tree t ts) ∷ stack

abbrev put_tree : List Item → List Item
put_tree [] = []
put_tree (inl t ∷ stack) = put_first t stack
put_tree (inr ts ∷ stack) = stack

abbrev number_step : ℕ → List Item → List Item
number_step zero stack = inl empty ∷ stack
number_step (suc zero) stack = join_all stack
number_step (suc (suc zero)) stack = join_one stack
number_step (suc (suc (suc zero))) stack = inr no_trees ∷ stack
number_step (suc (suc (suc (suc n)))) stack = put_tree stack

abbrev token_step : Token → List Item → List Item
token_step (inl (inl n)) stack = number_step n stack
token_step (inl (inr p)) stack = inl (leaf (from_parts p)) ∷ stack
token_step (inr price) stack = add_price price stack

abbrev stack_of : List Token → List Item
stack_of [] = []
stack_of (token ∷ tokens) = token_step token (stack_of tokens)

abbrev top : List Item → Tree
top [] = empty
top (inl t ∷ stack) = t
top (inr ts ∷ stack) = empty

mutual
  pub stack_of-written : (t : Tree) (rest : List Token) → stack_of (written t rest) ≡ inl t ∷ stack_of rest
  stack_of-written empty rest = refl
  stack_of-written (leaf c) rest = refl
  stack_of-written (all_of ts) rest = ap join_all (stack_of-written_all ts rest)
  stack_of-written (one_of ts) rest = ap join_one (stack_of-written_all ts rest)
  stack_of-written (priced t price) rest = ap (add_price price) (stack_of-written t rest)

  pub stack_of-written_all : (ts : Trees) (rest : List Token) → stack_of (written_all ts rest) ≡ inr ts ∷ stack_of rest
  stack_of-written_all no_trees rest = refl
  stack_of-written_all (tree t ts) rest =
      ap put_tree (stack_of-written t (written_all ts rest)) ∙ ap (put_first t) (stack_of-written_all ts rest)

abbrev coded_token : Coded Token
coded_token = coded⊎ (coded⊎ coded_ℕ (coded× (coded× (coded_list coded_ℕ) (coded_list coded_ℕ)) (coded× coded_bool coded_bool))) coded_ℤ

abbrev pub coded_tree : Coded Tree
coded_tree = code_by (List Token) (coded_list coded_token) (λ t. written t []) (λ tokens. top (stack_of tokens)) (λ t. ap top (stack_of-written t []))

abbrev pub coded_word : Coded WordTree
coded_word = code_by (List ℕ × Tree) (coded× (coded_list coded_ℕ) coded_tree) (λ w. (w.word, w.tree)) (λ p. record { word = p.0; tree = p.1 }) (λ _. refl)

abbrev pub coded_words : Coded (List WordTree)
coded_words = coded_list coded_word

abbrev pub coded_positions : Coded (List (List WordTree))
coded_positions = coded_list coded_words
