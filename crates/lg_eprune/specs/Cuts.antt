-- A formula without the leaves that a test refuses, and sweeps over the positions that refuse leaves without a partner.
use Rattle.std.specs.Prelude.{◌≡◌, ◌↔◌, ◌⊎◌, ℕ, ◌+◌, ◌*◌, ◌%◌, ◌==◌, ◌||◌, ◌&&◌, not, true, false, Bool, Option, Some, None, List, [], ◌∷◌, ◌++◌, nat_eq, fold, reverse, slice_index_or, if◌then◌else◌}
use Rattle.std.specs.Bool.{beq}
use Rattle.std.specs.List.{Contains, flat_map, list_any}
use Rattle.std.specs.Option.{option_map}
use Rattle.std.specs.Cmp.Lexicographic.{pointwise}
use Rattle.lg_gram.specs.Names.{STAR}
use Rattle.lg_gram.specs.Connectors.{Connector}
use Rattle.lg_gram.specs.Trees.{Tree, Trees, empty, leaf, all_of, one_of, priced, no_trees, tree}
use Rattle.lg_eprune.specs.Live.{WordTree}

-- subscripts agree at each place that both have
abbrev pub do_agree : List ℕ → List ℕ → Bool
do_agree [] ys = true
do_agree (x ∷ xs) [] = true
do_agree (x ∷ xs) (y ∷ ys) = ((x == y) || (x == STAR) || (y == STAR)) && do_agree xs ys

-- the first may be linked to the second on its right
abbrev pub do_match : Connector → Connector → Bool
do_match a b = a.right && not b.right && pointwise nat_eq a.caps b.caps && do_agree a.subs b.subs

-- one of the two may be linked to the other on its right
abbrev pub do_join : Connector → Connector → Bool
do_join a b = do_match a b || do_match b a

-- a connector has the given direction, or one that was seen joins it
unfoldable pub stays : Bool → List Connector → Connector → Bool
stays right seen c = beq c.right right || list_any (λ d. do_join d c) seen

abbrev pub any_of : Trees → Option Tree
any_of no_trees = None
any_of (tree t ts) = Some (one_of (tree t ts))

abbrev pub both : Option Tree → Option Trees → Option Trees
both None o = None
both (Some t) None = None
both (Some t) (Some ts) = Some (tree t ts)

abbrev pub in_front : Option Tree → Trees → Trees
in_front None ts = ts
in_front (Some t) ts = tree t ts

-- a tree without the leaves that the test refuses; none where nothing of it is left
abbrev mutual
  pub cut : (Connector → Bool) → Tree → Option Tree
  cut test empty = Some empty
  cut test (leaf c) = if test c then Some (leaf c) else None
  cut test (all_of ts) = option_map all_of (cut_all test ts)
  cut test (one_of ts) = any_of (cut_any test ts)
  cut test (priced t price) = option_map (λ left. priced left price) (cut test t)

  -- members of which each is left
  pub cut_all : (Connector → Bool) → Trees → Option Trees
  cut_all test no_trees = Some no_trees
  cut_all test (tree t ts) = both (cut test t) (cut_all test ts)

  -- the members that are left
  pub cut_any : (Connector → Bool) → Trees → Trees
  cut_any test no_trees = no_trees
  cut_any test (tree t ts) = in_front (cut test t) (cut_any test ts)

abbrev pub has_member : Trees → Bool
has_member no_trees = false
has_member (tree t ts) = true

-- the test refuses no leaf, and each `or` has a member
abbrev mutual
  pub is_whole : (Connector → Bool) → Tree → Bool
  is_whole test empty = true
  is_whole test (leaf c) = test c
  is_whole test (all_of ts) = are_whole test ts
  is_whole test (one_of ts) = has_member ts && are_whole test ts
  is_whole test (priced t price) = is_whole test t

  pub are_whole : (Connector → Bool) → Trees → Bool
  are_whole test no_trees = true
  are_whole test (tree t ts) = is_whole test t && are_whole test ts

-- the connectors of a direction
abbrev mutual
  pub leaves : Bool → Tree → List Connector
  leaves right empty = []
  leaves right (leaf c) = if beq c.right right then c ∷ [] else []
  leaves right (all_of ts) = leaves_in right ts
  leaves right (one_of ts) = leaves_in right ts
  leaves right (priced t price) = leaves right t

  pub leaves_in : Bool → Trees → List Connector
  leaves_in right no_trees = []
  leaves_in right (tree t ts) = leaves right t ++ leaves_in right ts

abbrev pub word_leaves : Bool → List WordTree → List Connector
word_leaves right words = flat_map (λ w. leaves right w.tree) words

-- the same of a word, of words, and whether anything goes
abbrev pub cut_word : (Connector → Bool) → WordTree → Option WordTree
cut_word test w = option_map (λ t. record { word = w.word; tree = t }) (cut test w.tree)

abbrev pub with_word : Option WordTree → List WordTree → List WordTree
with_word None ws = ws
with_word (Some w) ws = w ∷ ws

abbrev pub cut_words : (Connector → Bool) → List WordTree → List WordTree
cut_words test [] = []
cut_words test (w ∷ ws) = with_word (cut_word test w) (cut_words test ws)

abbrev pub do_lose : (Connector → Bool) → List WordTree → Bool
do_lose test [] = false
do_lose test (w ∷ ws) = not (is_whole test w.tree) || do_lose test ws

-- One sweep: of each list of words the leaves go whose direction is not the given one and which nothing joins that was seen before.
abbrev pub swept : Bool → List Connector → List (List WordTree) → List (List WordTree)
swept right seen [] = []
swept right seen (ws ∷ rest) =
    let kept = cut_words (stays right seen) ws in
    kept ∷ swept right (seen ++ word_leaves right kept) rest

abbrev pub sweep_loses : Bool → List Connector → List (List WordTree) → Bool
sweep_loses right seen [] = false
sweep_loses right seen (ws ∷ rest) =
    do_lose (stays right seen) ws || sweep_loses right (seen ++ word_leaves right (cut_words (stays right seen) ws)) rest

-- a sweep from the last position to the first
abbrev pub swept_back : List (List WordTree) → List (List WordTree)
swept_back now = reverse (swept false [] (reverse now))

-- A sweep back, and then one to the right if the first took something.
abbrev pub next_round : List (List WordTree) → List (List WordTree)
next_round now = if sweep_loses false [] (reverse now) then swept true [] (swept_back now) else swept_back now

abbrev pub round_loses : List (List WordTree) → Bool
round_loses now = if sweep_loses false [] (reverse now) then sweep_loses true [] (swept_back now) else false

-- the class of some capital letters
abbrev pub class_of : List ℕ → ℕ
class_of caps = fold (λ n c. (n * 31 + c) % 256) 0 caps

-- the connectors that a table has in the class of these capital letters
abbrev pub listed_at : List (List Connector) → List ℕ → List Connector
listed_at table caps = slice_index_or table (class_of caps) []

-- a connector has the given direction, or one of the table joins it
abbrev pub is_met : Bool → List (List Connector) → Connector → Bool
is_met right table c = stays right (listed_at table c.caps) c

-- the table has these connectors, each in its class
abbrev pub IsSeen : List (List Connector) → List Connector → Type 0
IsSeen table seen = (caps : List ℕ) (d : Connector) → Contains (listed_at table caps) d ↔ (Contains seen d × (class_of d.caps ≡ class_of caps))

-- the table got these connectors, each in its class
pub record Lists (old : List (List Connector)) (more : List Connector) (new : List (List Connector)) : Type 0 where
  pub tells : (caps : List ℕ) (d : Connector) → Contains (listed_at new caps) d ↔ (Contains (listed_at old caps) d ⊎ (Contains more d × (class_of d.caps ≡ class_of caps)))

-- the list got this connector
abbrev pub Adds : List Connector → Connector → List Connector → Type 0
Adds old c new = (d : Connector) → Contains new d ↔ (Contains old d ⊎ (c ≡ d))
