-- The work step by step: what the loops over words, tokens and candidates keep.
use Rattle.std.specs.Prelude.{◌≡◌, ◌↔◌, ◌<◌, ℕ, ◌≤◌, ◌+◌, List, [], ◌∷◌, ◌++◌, length, map, take, drop, All, Contains, Bool, true, false, MatchBool, Option, Some, None, ◌⊎◌, slice_index_or}
use Rattle.std.specs.List.{AllZip, flat_map, enumerate_from}
use Rattle.std.specs.FinMap.{get}
use Rattle.std.specs.List.Sorted.{IsStrictlySortedBy}
use Rattle.std.specs.declared.cmp.Ordering.{Ordering}
use Rattle.std.specs.declared.cmp.Ordering.TheVariants.{Equal}
use Rattle.std.specs.Ordering.{nat_cmp, on}
use Rattle.std.specs.Cmp.Lexicographic.{slice_cmp}
use Rattle.lg_gram.specs.Disjuncts.{disjunct_cmp, IsDisjunctOf}
use Rattle.lg_gram.specs.Problems.{FitsProblem, IsProblem}
use Rattle.lg_gram.specs.Trees.{Tree}
use Rattle.lg_gram.specs.Linkages.{Linkage, unlinked}
use Rattle.lg_gram.specs.declared.disjunct.Disjunct.{Disjunct}
use Rattle.lg_gram.specs.declared.listing.Token.{Token}
use Rattle.lg_gram.specs.declared.listing.PageItem.{PageItem}
use Rattle.lg_gram.specs.declared.listing.Stats.{Stats}
use Rattle.lg_dict.specs.Dictionary.{Dictionary}
use Rattle.lg_disj.specs.Exist.{HasNames}
use Rattle.lg_eprune.specs.Live.{WordTree}
use Rattle.lg_knowread.specs.declared.knowledge.Knowledge.{Knowledge}
use Rattle.lg_pp.specs.Breaks.{Judges}
use Rattle.lg_token.specs.Bounds.{AreListed}
use Rattle.lg_reach.specs.Ends.{IsLinkageOf}
use Rattle.lg_reach.specs.Reach.{HaveFewer, HaveUsed}
use Rattle.lg_idiom.specs.Sentences.{AddIdioms}
use Rattle.lg_token.specs.Problems.{IsProblemOf}
use Rattle.lg_answer.specs.Problems.{IsProblemInUse}
use Rattle.lg_answer.specs.Candidates.{Course, HasCome, AreAll}
use Rattle.lg_answer.specs.Pages.{passed, HasLinkagesOf, AreStats}
use Rattle.lg_answer.specs.declared.options.Options.{Options}

-- the tokens of a sentence that is listed
abbrev pub AreOfSentence : Dictionary → List Token → Type 0
AreOfSentence dict tokens = (text : List ℕ) × AreListed dict text tokens

-- a word with its formula, if it has one
abbrev pub of_word : List ℕ → Option Tree → List WordTree
of_word word None = []
of_word word (Some t) = record { word = word; tree = t } ∷ []

-- those of the words that the dictionary has, with their formulas
abbrev pub word_trees : Dictionary → List (List ℕ) → List WordTree
word_trees dict words = flat_map (λ w. of_word w (get dict.words w)) words

-- the connectors of the formulas have names
abbrev pub AreNamed : List WordTree → Type 0
AreNamed ws = All (λ w. HasNames w.tree) ws

-- those words, and the connectors of their formulas have names
pub record AreWordTrees (dict : Dictionary) (words : List (List ℕ)) (ws : List WordTree) : Type 0 where
  pub are : ws ≡ word_trees dict words
  pub named : AreNamed ws

-- a word was added at the end with its formula, if it has one
pub record AddsTree (dict : Dictionary) (word : List ℕ) (old new : List WordTree) : Type 0 where
  pub more : List WordTree
  pub grown : new ≡ old ++ more
  pub found : AreWordTrees dict (word ∷ []) more

-- for each token its words with their formulas
abbrev pub AreWordTreesFor : Dictionary → List Token → List (List WordTree) → Type 0
AreWordTreesFor dict tokens positions = AllZip (λ t ws. AreWordTrees dict t.words ws) tokens positions

-- what idioms add to each position, where they are in use, and else nothing
abbrev pub AreAddedInUse : Bool → Dictionary → List Token → List (List WordTree) → Type 0
AreAddedInUse true dict tokens added = AddIdioms dict tokens added
AreAddedInUse false dict tokens added = added ≡ []

-- for each token its words with their formulas, and behind them what idioms add
pub record AreExprsInUse (idioms : Bool) (dict : Dictionary) (tokens : List Token) (exprs : List (List WordTree)) : Type 0 where
  pub words : List (List WordTree)
  pub of_tokens : AreWordTreesFor dict tokens words
  pub added : List (List WordTree)
  pub of_idioms : AreAddedInUse idioms dict tokens added
  pub same_length : length exprs ≡ length words
  pub both : (i : ℕ) → slice_index_or exprs i [] ≡ slice_index_or words i [] ++ slice_index_or added i []
  pub named : (i : ℕ) → AreNamed (slice_index_or exprs i [])

-- the words of each position, and behind them what is added there
abbrev pub behind : List (List WordTree) → List (List WordTree) → List (List WordTree)
behind [] added = []
behind (ws ∷ words) [] = []
behind (ws ∷ words) (more ∷ added) = (ws ++ more) ∷ behind words added

-- a disjunct of one of these words
abbrev pub IsOfTrees : List WordTree → Disjunct → Type 0
IsOfTrees ws d = (w : WordTree) × Contains ws w × IsDisjunctOf w.word w.tree d

-- disjuncts of these words that their order does not tell apart are one
abbrev pub AreApart : List WordTree → Type 0
AreApart ws = (d e : Disjunct) → IsOfTrees ws d → IsOfTrees ws e → disjunct_cmp d e ≡ Equal → d ≡ e

-- the same of disjuncts in a list
abbrev pub AreToldApart : List Disjunct → Type 0
AreToldApart ds = (d e : Disjunct) → Contains ds d → Contains ds e → disjunct_cmp d e ≡ Equal → d ≡ e

-- words by their bytes
abbrev pub word_cmp : WordTree → WordTree → Ordering
word_cmp = on (λ w. w.word) (slice_cmp nat_cmp)

-- the disjuncts of these words, in any order, within the limits of a problem
pub record AreListedOf (ws : List WordTree) (ds : List Disjunct) : Type 0 where
  pub exactly : (d : Disjunct) → Contains ds d ↔ IsOfTrees ws d
  pub fit : All FitsProblem ds

-- the disjuncts of these words, in order, each once
pub record AreExpanded (ws : List WordTree) (ds : List Disjunct) : Type 0 where
  pub rise : IsStrictlySortedBy disjunct_cmp ds
  pub exactly : (d : Disjunct) → Contains ds d ↔ IsOfTrees ws d

-- the same within the limits of a problem
pub record AreMade (ws : List WordTree) (ds : List Disjunct) : Type 0 where
  pub expanded : AreExpanded ws ds
  pub fit : All FitsProblem ds

-- A problem of some of the choices of these words, among them all that a good linkage with at most so many unlinked words uses.
pub record IsWithin (words : List (List WordTree)) (nulls : ℕ) (problem : List (List Disjunct)) : Type 0 where
  pub kept : List (List WordTree)
  pub fewer : HaveFewer words kept
  pub used : (g : Linkage) → IsLinkageOf words g → unlinked g ≤ nulls → HaveUsed g words kept
  pub listed : AllZip AreListedOf kept problem
  pub limits : IsProblem problem

-- these tokens have this problem in use, and also one without idioms
pub record HaveProblem (idioms : Bool) (dict : Dictionary) (tokens : List Token) (problem : List (List Disjunct)) : Type 0 where
  pub of_tokens : IsProblemInUse idioms dict tokens problem
  pub same_length : length problem ≡ length tokens
  pub plain : List (List Disjunct)
  pub of_plain : IsProblemOf dict tokens plain

-- a problem with the good linkages of that of these tokens
pub record IsNarrowed (idioms : Bool) (dict : Dictionary) (tokens : List Token) (kept : List (List Disjunct)) : Type 0 where
  pub problem : List (List Disjunct)
  pub of_tokens : HaveProblem idioms dict tokens problem
  pub keeps : HasLinkagesOf problem kept
  pub same_length : length kept ≡ length tokens

-- what is searched for these tokens, and the numbers of disjuncts where they are counted
pub record IsSearched (dict : Dictionary) (tokens : List Token) (options : Options) (kept : List (List Disjunct)) (stats : Stats) : Type 0 where
  pub problem : List (List Disjunct)
  pub of_tokens : HaveProblem options.idioms dict tokens problem
  pub keeps : HasLinkagesOf problem kept
  pub counted : options.count ≡ true → AreStats problem options.prune stats
  pub same_length : length kept ≡ length tokens

-- The candidates that a page has looked at so far, which did not stop before any of them.
pub record AreLookedAt (know : Knowledge) (candidates : List Linkage) (from want examine : ℕ) (items : List PageItem) : Type 0 where
  pub within : from + length items ≡ length candidates
  pub numbered : map (λ item. (item.number, item.linkage)) items ≡ enumerate_from (from + 1) (drop from candidates)
  pub judged : All (λ item. Judges know item.linkage item.broken) items
  pub goes_on : (k : ℕ) → k < length items → (passed (take k items) < want) × (k < examine)

-- a candidate of this number that was looked at
pub record IsLookedAt (know : Knowledge) (number : ℕ) (g : Linkage) (item : PageItem) : Type 0 where
  pub number_is : item.number ≡ number
  pub linkage : item.linkage ≡ g
  pub judged : Judges know g item.broken

-- A page has looked at these candidates and stops: at the end where none is left, and else where enough have passed or were looked at.
pub record HasLooked (know : Knowledge) (course : Course) (from want examine : ℕ) (items : List PageItem) (end : Bool) : Type 0 where
  pub front : List Linkage
  pub come : HasCome know course front
  pub looked : AreLookedAt know front from want examine items
  pub stops : MatchBool end ((passed items < want) × (length items < examine) × AreAll course.problem know course.nulls front) ((passed items ≡ want) ⊎ (length items ≡ examine))
