-- Shares that are counted apart and merged.
use Rattle.std.specs.Prelude.{◌≡◌, ℕ, List, [], ◌∷◌, ◌++◌}
use Rattle.std.specs.List.Sorted.{IsPermutation}
use Rattle.lg_gram.specs.Linkages.{Linkage}
use Rattle.lg_usage.specs.Totals.{Totals, AreTotals, Adds, IsSum, HaveNoZero, count_in, no_totals}

-- How totals come about: one share counts some linkages, one after another, or two are merged.
pub data Merging : Type 0 where
  share : List Linkage → Merging
  merged : Merging → Merging → Merging

-- the linkages that are counted in all shares
abbrev pub linkages_of : Merging → List Linkage
linkages_of (share gs) = gs
linkages_of (merged a b) = linkages_of a ++ linkages_of b

-- totals grow by these linkages, one after another
abbrev pub AddsAll : Totals → List Linkage → Totals → Type 0
AddsAll old [] new = new ≡ old
AddsAll old (g ∷ gs) new = (t : Totals) × Adds old g t × AddsAll t gs new

-- what comes of it
abbrev pub Gives : Merging → Totals → Type 0
Gives (share gs) t = AddsAll no_totals gs t
Gives (merged a b) t = (x : Totals) × (y : Totals) × Gives a x × Gives b y × IsSum x y t

-- What the shares give is the totals of their linkages.
abbrev pub GivesTotals : Type 0
GivesTotals = (m : Merging) (t : Totals) → Gives m t → AreTotals (linkages_of m) t

-- The same linkages in any order have the same totals.
abbrev pub TotalsAreEqual : Type 0
TotalsAreEqual = (gs hs : List Linkage) (t u : Totals) → IsPermutation gs hs → AreTotals gs t → AreTotals hs u → t ≡ u

-- Shares that are merged in any order and grouping give what one share gives to which all linkages were added.
abbrev pub SharesAgree : Type 0
SharesAgree = (m : Merging) (gs : List Linkage) (t u : Totals) → IsPermutation (linkages_of m) gs → Gives m t → AddsAll no_totals gs u → t ≡ u

-- totals are equal that count each word and each label alike
abbrev pub CountsDecide : Type 0
CountsDecide = (t u : Totals) → HaveNoZero t → HaveNoZero u
    → ((text : List ℕ) → count_in t.words text ≡ count_in u.words text) → ((text : List ℕ) → count_in t.labels text ≡ count_in u.labels text) → t ≡ u

-- Totals go on from linkage to linkage, and from share to share.
pub record TotalsGrow : Type 0 where
  pub none : AreTotals [] no_totals
  pub one : (gs : List Linkage) (g : Linkage) (t u : Totals) → AreTotals gs t → Adds t g u → AreTotals (gs ++ g ∷ []) u
  pub both : (gs hs : List Linkage) (t u sum : Totals) → AreTotals gs t → AreTotals hs u → IsSum t u sum → AreTotals (gs ++ hs) sum
