-- Idioms: compounds of the dictionary that stand for several tokens in a row.
use Rattle.std.specs.Prelude.{◌≡◌, ◌⊎◌, ◌↔◌, ℕ, zero, suc, ◌+◌, ◌-◌, ◌<◌, ◌≤◌, List, [], ◌∷◌, length, map, Bool, true, false, Some, IsSome, slice_get, nat_eq}
use Rattle.std.specs.List.{Contains}
use Rattle.std.specs.List.Sorted.{IsStrictlySortedBy}
use Rattle.std.specs.FinMap.{get}
use Rattle.std.specs.Ordering.{nat_cmp, on, then_cmp}
use Rattle.std.specs.declared.cmp.Ordering.{Ordering}
use Rattle.std.specs.Cmp.Lexicographic.{slice_cmp}
use Rattle.lg_gram.specs.Connectors.{Connector}
use Rattle.lg_gram.specs.Names.{joint_text}
use Rattle.lg_gram.specs.Limits.{JOINT_RANK}
use Rattle.lg_gram.specs.Formulas.{IsFormula}
use Rattle.lg_gram.specs.Measures.{choice_count}
use Rattle.lg_gram.specs.Trees.{Tree, leaf, all_of, no_trees, tree}
use Rattle.lg_gram.specs.declared.listing.Token.{Token}
use Rattle.lg_dict.specs.Dictionary.{Dictionary}
use Rattle.lg_dict.specs.Compounds.{parts_of, is_compound}
use Rattle.lg_token.specs.Words.{is_capitalized, lowered}
use Rattle.lg_token.specs.Bounds.{LISTED_CHOICES}

-- ---- which compounds fit where

-- a wall has an empty span
abbrev pub IsWall : Token → Type 0
IsWall t = t.from ≡ t.to

-- position j has the first token that is no wall
pub record IsInitial (tokens : List Token) (j : ℕ) : Type 0 where
  pub walls_before : (i : ℕ) (t : Token) → i < j → slice_get tokens i ≡ Some t → IsWall t

-- The token at position j stands for the part: its text is the part, or, for the first token that is no wall, its text with its first
-- letter A to Z made small.
pub record StandsForPart (tokens : List Token) (j : ℕ) (part : List ℕ) : Type 0 where
  pub token : Token
  pub there : slice_get tokens j ≡ Some token
  pub no_wall : IsWall token → ⊥
  pub same : (token.text ≡ part) ⊎ (IsInitial tokens j × (is_capitalized token.text ≡ true) × (lowered token.text ≡ part))

-- A compound of the dictionary fits at position s: the tokens from there on stand for its parts, one after another.
pub record FitsAt (dict : Dictionary) (tokens : List Token) (s : ℕ) (word : List ℕ) : Type 0 where
  pub known : IsSome (get dict.words word)
  pub compound : is_compound word ≡ true
  pub parts : (i : ℕ) (part : List ℕ) → slice_get (parts_of word) i ≡ Some part → StandsForPart tokens (s + i) part

-- the compounds that fit at a position, increasing by bytes; the rank of one is its place among them
pub record AreFitting (dict : Dictionary) (tokens : List Token) (s : ℕ) (words : List (List ℕ)) : Type 0 where
  pub rise : IsStrictlySortedBy (slice_cmp nat_cmp) words
  pub exactly : (word : List ℕ) → Contains words word ↔ FitsAt dict tokens s word

-- ---- the chain of a compound

-- A compound that fits: where it starts, its rank there, how many parts it has, the word, and its formula.
pub record Chain : Type 0 where
  pub start : ℕ
  pub rank : ℕ
  pub count : ℕ
  pub word : List ℕ
  pub formula : Tree

-- the joint of this number in the chain, to the right or to the left
abbrev pub joint_of : Chain → ℕ → Bool → Connector
joint_of c number right = record { caps = joint_text c.rank c.start number; subs = []; multi = false; right = right }

abbrev pub pair : Tree → Tree → Tree
pair t u = all_of (tree t (tree u no_trees))

-- The formula that the chain adds to its i-th position, i > 0: the joint to the one before, and the joint to the next one, or at the end the
-- compound's own formula.
abbrev pub later_formula : Chain → ℕ → Bool → Tree
later_formula c i true = pair (leaf (joint_of c (i - 1) false)) c.formula
later_formula c i false = pair (leaf (joint_of c (i - 1) false)) (leaf (joint_of c i true))

-- and to its first position: the joint to the next one
abbrev pub formula_at : Chain → ℕ → Tree
formula_at c zero = leaf (joint_of c 0 true)
formula_at c (suc i) = later_formula c (suc i) (nat_eq (suc (suc i)) c.count)

-- the choices of all its formulas: one of each but the last, and there those of the compound's formula
abbrev pub chain_choices : Chain → ℕ
chain_choices c = (c.count - 1) + choice_count c.formula

-- the chain may be used: its rank fits into a joint's name, and its last formula is within the limits
pub record IsUsable (c : Chain) : Type 0 where
  pub rank : c.rank ≤ JOINT_RANK
  pub last : IsFormula (formula_at c (c.count - 1))

-- the chain of a compound that fits
pub record IsChain (dict : Dictionary) (tokens : List Token) (c : Chain) : Type 0 where
  pub words : List (List ℕ)
  pub fitting : AreFitting dict tokens c.start words
  pub ranked : slice_get words c.rank ≡ Some c.word
  pub counted : c.count ≡ length (parts_of c.word)
  pub has : get dict.words c.word ≡ Some c.formula

-- by start and then by rank
abbrev pub chain_cmp : Chain → Chain → Ordering
chain_cmp = then_cmp (on (λ c. c.start) nat_cmp) (on (λ c. c.rank) nat_cmp)

-- all chains of a sentence, in order
pub record AreChains (dict : Dictionary) (tokens : List Token) (cs : List Chain) : Type 0 where
  pub rise : IsStrictlySortedBy chain_cmp cs
  pub exactly : (c : Chain) → Contains cs c ↔ IsChain dict tokens c

-- The chains that are taken of some, where so many choices were taken before: each that is usable and with which the choices are not too
-- many. The others are left out.
pub data AreTaken : ℕ → List Chain → List Chain → Type 0 where
  no_chain : (n : ℕ) → AreTaken n [] []
  taken : (n : ℕ) (c : Chain) (cs ts : List Chain) → IsUsable c → n + chain_choices c ≤ LISTED_CHOICES → AreTaken (n + chain_choices c) cs ts → AreTaken n (c ∷ cs) (c ∷ ts)
  left_out : (n : ℕ) (c : Chain) (cs ts : List Chain) → (IsUsable c → n + chain_choices c ≤ LISTED_CHOICES → ⊥) → AreTaken n cs ts → AreTaken n (c ∷ cs) ts

-- ---- what is added to the positions

-- the chain covers position p
abbrev pub Covers : Chain → ℕ → Type 0
Covers c p = (c.start ≤ p) × (p < c.start + c.count)

-- by word and then by start
abbrev pub word_cmp : Chain → Chain → Ordering
word_cmp = then_cmp (on (λ c. c.word) (slice_cmp nat_cmp)) (on (λ c. c.start) nat_cmp)

-- the formulas that the chains add to a position, each under its compound, by word and then by start
pub record AreAdded (taken : List Chain) (p : ℕ) (added : List (List ℕ × Tree)) : Type 0 where
  pub here : List Chain
  pub rise : IsStrictlySortedBy word_cmp here
  pub exactly : (c : Chain) → Contains here c ↔ (Contains taken c × Covers c p)
  pub are : added ≡ map (λ c. (c.word, formula_at c (p - c.start))) here

-- The formulas that idioms add to each position of a sentence.
pub record AreIdioms (dict : Dictionary) (tokens : List Token) (positions : List (List (List ℕ × Tree))) : Type 0 where
  pub chains : List Chain
  pub taken : List Chain
  pub all : AreChains dict tokens chains
  pub are_taken : AreTaken 0 chains taken
  pub same_length : length positions ≡ length tokens
  pub each : (p : ℕ) (added : List (List ℕ × Tree)) → slice_get positions p ≡ Some added → AreAdded taken p added
