-- What is linked in a tree: the choice of each position, and the links.
use Rattle.std.specs.Prelude.{ℕ, suc, zero, ◌==◌, ◌&&◌, ◌||◌, nat_lt, Bool, if◌then◌else◌, List, [], ◌∷◌, ◌++◌, take, drop, Option, None, Some}
use Rattle.std.specs.List.{count_by}
use Rattle.lg_gram.specs.declared.linkage.Link.{Link}
use Rattle.lg_rank.specs.declared.tree.Tree.{Tree, Nothing, Word'}

-- the pair of k stands before that of l
abbrev pub comes_before : Link → Link → Bool
comes_before l k = nat_lt k.left l.left || ((k.left == l.left) && nat_lt k.right l.right)

-- one more link, behind those of earlier pairs
abbrev pub with_link : Option Link → List Link → List Link
with_link None links = links
with_link (Some l) links = let n = count_by (comes_before l) links in take n links ++ l ∷ drop n links

-- the choice of position i, where those before the word are chosen on its left and those behind it on its right
abbrev pub picked : ℕ → ℕ → (ℕ → ℕ) → (ℕ → ℕ) → ℕ → ℕ
picked word choice left right i = if nat_lt i word then left i else if i == word then choice else right i

-- 0 where position i is unlinked, and else one more than the number of its disjunct
abbrev pub choice_at : Tree → ℕ → ℕ
choice_at Nothing i = 0
choice_at (Word' word choice near far p left q right) i = picked word choice (choice_at left) (choice_at right) i

abbrev pub row_from : (ℕ → ℕ) → ℕ → ℕ → List ℕ
row_from f i zero = []
row_from f i (suc n) = f i ∷ row_from f (suc i) n

-- the choices of n positions from i on
abbrev pub choices_from : Tree → ℕ → ℕ → List ℕ
choices_from t i n = row_from (choice_at t) i n

-- the links in order
abbrev pub links_of : Tree → List Link
links_of Nothing = []
links_of (Word' word choice near far p left q right) = with_link near (links_of left) ++ with_link far (links_of right)
