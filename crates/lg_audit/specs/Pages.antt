-- What a page shows, part by part: the disjunct of a line, the choices of all positions, a linkage, and linkages in their order.
use Rattle.std.specs.Prelude.{◌≡◌, ◌⊎◌, ℕ, ◌+◌, ◌≤◌, true, List, [], ◌∷◌, ◌++◌, length, map, Contains, Option, Some, None, IfSome}
use Rattle.std.specs.Borrow.{Bor}
use Rattle.std.specs.FinMap.{get}
use Rattle.std.specs.List.{All, AllByRecursion, AllZip, range_with_len}
use Rattle.std.specs.List.Sorted.{IsStrictlySortedBy}
use Rattle.std.specs.declared.cmp.Ordering.TheVariants.{Less}
use Rattle.lg_gram.specs.Linkages.{Linkage, linkage_cmp, unlinked, total_cost, total_length}
use Rattle.lg_gram.specs.Problems.{FitsProblem}
use Rattle.lg_gram.specs.Rules.{Good}
use Rattle.lg_gram.specs.Trees.{Tree}
use Rattle.lg_gram.specs.declared.disjunct.Disjunct.{Disjunct}
use Rattle.lg_gram.specs.declared.linkage.Link.{Link}
use Rattle.lg_gram.specs.declared.listing.Token.{Token}
use Rattle.lg_dict.specs.Dictionary.{Dictionary}
use Rattle.lg_disj.specs.Exist.{HasNames}
use Rattle.lg_knowread.specs.declared.knowledge.Knowledge.{Knowledge}
use Rattle.lg_pp.specs.Breaks.{Judges}
use Rattle.lg_text.specs.Texts.{label_text}
use Rattle.lg_token.specs.Problems.{IsOfWords}
use Rattle.lg_audit.specs.Lines.{ShownChoice, ShownWord, ShownLink, ShownLinkage, ShownItem, ShownPage}
use Rattle.lg_audit.specs.declared.shown.ShownEnd.{ShownEnd}
use Rattle.lg_audit.specs.declared.shown.ShownSums.{ShownSums}
use Rattle.lg_audit.specs.Replies.{shown_choice, shown_word, shown_linkage, number_of, linkages_on, IsNamed}

-- ---- what the positions use

-- a disjunct of one of these words that is shown so
pub record IsShownAs (dict : Dictionary) (words : List (List ℕ)) (c : ShownChoice) (d : Disjunct) : Type 0 where
  pub of_words : IsOfWords dict words d
  pub is : shown_choice d ≡ c

-- the same, within the limits of a problem
pub record IsFoundAs (dict : Dictionary) (words : List (List ℕ)) (c : ShownChoice) (d : Disjunct) : Type 0 where
  pub shown : IsShownAs dict words c d
  pub fits : FitsProblem d

-- the token at a position uses this, or nothing, and is shown so
pub record IsShownAt (dict : Dictionary) (position : ℕ) (t : Token) (w : ShownWord) (o : Option Disjunct) : Type 0 where
  pub of_words : IfSome o (IsOfWords dict t.words)
  pub is : shown_word (position, (t, o)) ≡ w

abbrev pub MayFit : Option Disjunct → Type 0
MayFit o = IfSome o FitsProblem

pub record IsFoundAt (dict : Dictionary) (position : ℕ) (t : Token) (w : ShownWord) (o : Option Disjunct) : Type 0 where
  pub shown : IsShownAt dict position t w o
  pub fits : MayFit o

-- the tokens from a position on use these, and are shown so
abbrev pub AreShown : Dictionary → ℕ → List Token → List ShownWord → List (Option Disjunct) → Type 0
AreShown dict position [] [] [] = Unit {0}
AreShown dict position (t ∷ ts) (w ∷ ws) (o ∷ os) = IsShownAt dict position t w o × AreShown dict (position + 1) ts ws os
AreShown dict position _ _ _ = ⊥

pub record AreFound (dict : Dictionary) (position : ℕ) (ts : List Token) (ws : List ShownWord) (os : List (Option Disjunct)) : Type 0 where
  pub shown : AreShown dict position ts ws os
  pub fit : AllByRecursion MayFit os

-- the connectors of each word's formula have names
abbrev pub HasNamedWords : Dictionary → List (List ℕ) → Type 0
HasNamedWords dict words = (word : List ℕ) (t : Tree) → Contains words word → get dict.words word ≡ Some t → HasNames t

abbrev pub HaveNamedWords : Dictionary → List Token → Type 0
HaveNamedWords dict tokens = AllByRecursion (λ (t : Token). HasNamedWords dict t.words) tokens

-- ---- a linkage

-- what each position uses, as a problem of its own
abbrev pub alone : Option Disjunct → List Disjunct
alone None = []
alone (Some d) = d ∷ []

abbrev pub problem_of : List (Option Disjunct) → List (List Disjunct)
problem_of chosen = map alone chosen

-- the links that lines show
abbrev pub links_in : List ShownLink → List Link
links_in shown = map (λ (s : ShownLink). s.link) shown

-- what is shown of a linkage's sums, and of its links
abbrev pub sums_of : Linkage → ShownSums
sums_of g = record { unused = unlinked g; cost = total_cost g; length = total_length g }

abbrev pub shown_links : Linkage → List ShownLink
shown_links g = map (λ (l : Link). record { link = l; label = label_text g l }) g.links

-- the linkage keeps all rules, and its sums and links are shown so
pub record Keeps (know : Knowledge) (sums : ShownSums) (links : List ShownLink) (g : Linkage) : Type 0 where
  pub good : Good (problem_of g.chosen) g
  pub passes : Judges know g None
  pub has_sums : sums_of g ≡ sums
  pub has_links : shown_links g ≡ links

-- A linkage of these tokens that keeps all rules, and is shown so.
pub record IsOneOf (know : Knowledge) (dict : Dictionary) (tokens : List Token) (s : ShownLinkage) (g : Linkage) : Type 0 where
  pub chosen : AreShown dict 0 tokens s.words g.chosen
  pub good : Good (problem_of g.chosen) g
  pub passes : Judges know g None
  pub is : shown_linkage tokens g ≡ s

-- ---- a page

-- linkages of these tokens that keep all rules, each shown so
abbrev pub AreOnesOf : Knowledge → Dictionary → List Token → List ShownLinkage → List Linkage → Type 0
AreOnesOf know dict tokens shown gs = AllZip (IsOneOf know dict tokens) shown gs

-- what a page of so many candidates that begins with candidate `from` says of the next one
abbrev pub BeginsWith : ℕ → ℕ → ShownEnd → Type 0
BeginsWith from count last = ((1 ≤ count) × (last.next ≡ from + count)) ⊎ ((count ≡ 0) × (2 ≤ last.next) × (last.next ≤ from) × (last.end ≡ true))

-- The candidates count from this one on, as many as the last line says, and each rule and position that is named is there.
pub record IsFramed (know : Knowledge) (tokens : List Token) (from : ℕ) (items : List ShownItem) (last : ShownEnd) : Type 0 where
  pub examined : last.examined ≡ length items
  pub begins : BeginsWith from (length items) last
  pub numbered : map number_of items ≡ range_with_len from (length items)
  pub named : All (IsNamed know tokens) items

-- the first of these, if there is one, is behind the last of those before
abbrev pub LiesBehind : Option (Bor Linkage) → List Linkage → Type 0
LiesBehind None shown = Unit {0}
LiesBehind (Some g) [] = Unit {0}
LiesBehind (Some g) (h ∷ hs) = linkage_cmp g.now h ≡ Less

-- a page of these tokens, with the linkages that it shows, by its lines
pub record IsPageFor (know : Knowledge) (dict : Dictionary) (tokens : List Token) (from : ℕ) (before shown : List Linkage) (page : ShownPage) : Type 0 where
  pub framed : IsFramed know tokens from page.items page.last
  pub ones : AreOnesOf know dict tokens (linkages_on page) shown
  pub counted : page.last.shown ≡ length shown
  pub rise : IsStrictlySortedBy linkage_cmp (before ++ shown)
