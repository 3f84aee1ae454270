-- The chains of a sentence, start by start, and what they add to its positions.
use Rattle.std.specs.Prelude.{◌≡◌, ◌↔◌, ℕ, suc, ◌+◌, ◌<◌, ◌≤◌, List, [], ◌∷◌, ◌++◌, length, map, filter, slice_get, Some, IsSome, if◌then◌else◌, ◌&&◌, nat_le, nat_lt}
use Rattle.std.specs.List.{Contains}
use Rattle.std.specs.List.Sorted.{IsStrictlySortedBy}
use Rattle.std.specs.FinMap.{get}
use Rattle.std.specs.Global.{Vec}
use Rattle.std.specs.Option.{option_map_or}
use Rattle.lg_gram.specs.Limits.{POSITIONS}
use Rattle.lg_gram.specs.Trees.{empty}
use Rattle.lg_gram.specs.declared.listing.Token.{Token}
use Rattle.lg_dict.specs.Dictionary.{Dictionary}
use Rattle.lg_dict.specs.Compounds.{parts_of}
use Rattle.lg_eprune.specs.Live.{WordTree}
use Rattle.lg_idiom.specs.Idioms.{Chain, IsChain, AreChains, AreTaken, AreIdioms, chain_cmp}
use Rattle.lg_idiom.specs.Steps.{covers, added_by}
use Rattle.lg_idiom.specs.Takings.{HasTaken}
use Rattle.lg_idiom.specs.declared.taken.Taken.{Taken}

-- ---- what the call gives

-- The formulas that idioms add to each position, where each stands as a word of the dictionary with a tree.
abbrev pub AddIdioms : Dictionary → List Token → List (List WordTree) → Type 0
AddIdioms dict tokens positions = AreIdioms dict tokens (map (map (λ w. (w.word, w.tree))) positions)

-- ---- the chains of one start after another

-- a compound of the dictionary that lies within a sentence from this position on
pub record IsPlaced (dict : Dictionary) (start : ℕ) (word : List ℕ) : Type 0 where
  pub known : IsSome (get dict.words word)
  pub several : 2 ≤ length (parts_of word)
  pub within : start + length (parts_of word) ≤ POSITIONS

-- its chain, with this rank
abbrev pub chain_of : Dictionary → ℕ → ℕ → List ℕ → Chain
chain_of dict start rank word = record {
  start = start;
  rank = rank;
  count = length (parts_of word);
  word = word;
  formula = option_map_or (λ t. t) (get dict.words word) empty;
}

-- the chains of compounds, with the ranks from this one on
abbrev pub chains_from : Dictionary → ℕ → ℕ → List (List ℕ) → List Chain
chains_from dict start rank [] = []
chains_from dict start rank (word ∷ words) = chain_of dict start rank word ∷ chains_from dict start (suc rank) words

-- all chains that start before a position, in order
pub record AreChainsBefore (dict : Dictionary) (tokens : List Token) (n : ℕ) (cs : List Chain) : Type 0 where
  pub rise : IsStrictlySortedBy chain_cmp cs
  pub exactly : (c : Chain) → Contains cs c ↔ (IsChain dict tokens c × (c.start < n))

-- what is taken of them
pub record HasTakenBefore (dict : Dictionary) (tokens : List Token) (n : ℕ) (t : Taken) : Type 0 where
  pub chains : List Chain
  pub all : AreChainsBefore dict tokens n chains
  pub has : HasTaken chains t

-- what is taken of all chains of a sentence
pub record AreTakenOf (dict : Dictionary) (tokens : List Token) (taken : List Chain) : Type 0 where
  pub chains : List Chain
  pub all : AreChains dict tokens chains
  pub are_taken : AreTaken 0 chains taken

-- ---- what they add

-- what chains add to a position, in their order
abbrev pub added_at : List Chain → ℕ → List WordTree
added_at chains p = map (added_by p) (filter (covers p) chains)

-- what they add to each of so many positions
pub record AreAddedTo (chains : List Chain) (count : ℕ) (positions : List (List WordTree)) : Type 0 where
  pub all : length positions ≡ count
  pub each : (p : ℕ) → p < count → slice_get positions p ≡ Some (added_at chains p)

-- it ends by this position
abbrev pub LiesWithin : ℕ → Chain → Type 0
LiesWithin end c = c.start + c.count ≤ end

-- the words of each position
abbrev pub rows : List (Vec WordTree) → List (List WordTree)
rows positions = map (λ v. v.items) positions

-- what a chain adds to a position before this end
abbrev pub added_before : Chain → ℕ → ℕ → List WordTree
added_before c end p = if nat_le c.start p && nat_lt p end then added_by p c ∷ [] else []

-- a chain has added it, to each position
pub record HasAdded (c : Chain) (end : ℕ) (old new : List (List WordTree)) : Type 0 where
  pub same_length : length new ≡ length old
  pub each : (p : ℕ) (words : List WordTree) → slice_get old p ≡ Some words → slice_get new p ≡ Some (words ++ added_before c end p)
