-- What is wrong with a linkage: the cases in which a rule fails, and the first of them.
use Rattle.std.specs.Prelude.{◌≡◌, ◌≢◌, ℕ, ◌<◌, ◌≤◌, Bool, false, List, [], ◌∷◌, Some, slice_get, ◌⊎◌, if◌then◌else◌}
use Rattle.std.specs.Ordering.{nat_cmp, on}
use Rattle.std.specs.declared.cmp.Ordering.{Ordering}
use Rattle.std.specs.declared.cmp.Ordering.TheVariants.{Less}
use Rattle.std.specs.Cmp.Lexicographic.{slice_cmp}
use Rattle.lg_gram.specs.Connectors.{Connector}
use Rattle.lg_gram.specs.Linkages.{Linkage, link_length}
use Rattle.lg_gram.specs.Walks.{Walk, LinkFrom}
use Rattle.lg_gram.specs.Rules.{rights_of, lefts_of, IsLinked, HasLink, Joins, Rules, IsConnected}
use Rattle.lg_gram.specs.declared.linkage.Link.{Link}
use Rattle.lg_rules.specs.Places.{side_of}
use Rattle.lg_rules.specs.declared.verdict.Verdict.{Verdict}
use Rattle.lg_rules.specs.declared.verdict.Verdict.TheVariants.{Good, Unmatched, Unsatisfied, Crossing, Apart, Twice, Order}

-- the position at which a link has the right, or the left, as its side, and the place there
abbrev pub end_of : Bool → Link → ℕ
end_of right l = if right then l.left else l.right

abbrev pub place_of : Bool → Link → ℕ
place_of right l = if right then l.lplace else l.rplace

-- a link stands at this place of this side
abbrev pub IsAt : Bool → ℕ → ℕ → Link → Type 0
IsAt right i p l = (end_of right l ≡ i) × (place_of right l ≡ p)

-- link n joins two connectors that do not match
abbrev pub UnmatchedAt : Linkage → ℕ → Type 0
UnmatchedAt g n = (l : Link) × (slice_get g.links n ≡ Some l) × (Joins (rights_of g) (lefts_of g) l → ⊥)

-- the connector at this place has no link, or has two and is not multi
abbrev pub UnsatisfiedAt : Linkage → ℕ → Bool → ℕ → Type 0
UnsatisfiedAt g i right p =
    (c : Connector) × (slice_get (side_of g right i) p ≡ Some c)
    × (((l : Link) → HasLink g l → IsAt right i p l → ⊥)
    ⊎ ((c.multi ≡ false) × ((k : Link) × (l : Link) × HasLink g k × HasLink g l × IsAt right i p k × IsAt right i p l × (k ≢ l))))

-- links m and n cross
abbrev pub CrossingAt : Linkage → ℕ → ℕ → Type 0
CrossingAt g m n =
    (k : Link) × (l : Link) × (slice_get g.links m ≡ Some k) × (slice_get g.links n ≡ Some l)
    × (k.left < l.left) × (l.left < k.right) × (k.right < l.right)

-- the position is linked, and no position before it is
pub record IsFirstLinked (g : Linkage) (first : ℕ) : Type 0 where
  pub linked : IsLinked g first
  pub least : (i : ℕ) → i < first → IsLinked g i → ⊥

-- no walk joins the linked position to the first linked one
abbrev pub ApartAt : Linkage → ℕ → Type 0
ApartAt g i = IsLinked g i × ((first : ℕ) × IsFirstLinked g first × (Walk (LinkFrom (HasLink g)) first i → ⊥))

-- two links, m and n, join the same two positions
abbrev pub TwiceAt : Linkage → ℕ → ℕ → Type 0
TwiceAt g m n =
    (k : Link) × (l : Link) × (slice_get g.links m ≡ Some k) × (slice_get g.links n ≡ Some l)
    × (m ≢ n) × (k.left ≡ l.left) × (k.right ≡ l.right)

-- this place joins a word that is not nearer than a word joined at a later place of its side
abbrev pub OrderAt : Linkage → ℕ → Bool → ℕ → Type 0
OrderAt g i right p =
    (k : Link) × (l : Link) × HasLink g k × HasLink g l × IsAt right i p k × (end_of right l ≡ i) × (p < place_of right l)
    × (link_length l ≤ link_length k)

-- the linkage has this case
abbrev pub Case : Linkage → Verdict → Type 0
Case g Good = ⊥
Case g (Unmatched n) = UnmatchedAt g n
Case g (Unsatisfied i right p) = UnsatisfiedAt g i right p
Case g (Crossing m n) = CrossingAt g m n
Case g (Apart i) = ApartAt g i
Case g (Twice m n) = TwiceAt g m n
Case g (Order i right p) = OrderAt g i right p

abbrev pub side_number : Bool → ℕ
side_number right = if right then 1 else 0

-- the rule, and then the named numbers in turn, left before right
abbrev pub verdict_key : Verdict → List ℕ
verdict_key Good = []
verdict_key (Unmatched n) = 1 ∷ n ∷ []
verdict_key (Unsatisfied i right p) = 2 ∷ i ∷ side_number right ∷ p ∷ []
verdict_key (Crossing m n) = 3 ∷ m ∷ n ∷ []
verdict_key (Apart i) = 4 ∷ i ∷ []
verdict_key (Twice m n) = 5 ∷ m ∷ n ∷ []
verdict_key (Order i right p) = 6 ∷ i ∷ side_number right ∷ p ∷ []

abbrev pub verdict_cmp : Verdict → Verdict → Ordering
verdict_cmp = on verdict_key (slice_cmp nat_cmp)

pub record IsLeastCase (g : Linkage) (v : Verdict) : Type 0 where
  pub is_case : Case g v
  pub least : (w : Verdict) → Case g w → verdict_cmp w v ≢ Less

-- the answer to a linkage: Good where it has no case, else its least case
abbrev pub IsVerdict : Linkage → Verdict → Type 0
IsVerdict g Good = (w : Verdict) → Case g w → ⊥
IsVerdict g (Unmatched n) = IsLeastCase g (Unmatched n)
IsVerdict g (Unsatisfied i right p) = IsLeastCase g (Unsatisfied i right p)
IsVerdict g (Crossing m n) = IsLeastCase g (Crossing m n)
IsVerdict g (Apart i) = IsLeastCase g (Apart i)
IsVerdict g (Twice m n) = IsLeastCase g (Twice m n)
IsVerdict g (Order i right p) = IsLeastCase g (Order i right p)

-- the linkage keeps all rules, whatever problem it is of
pub record IsSound (g : Linkage) : Type 0 where
  pub rules : Rules (rights_of g) (lefts_of g) (HasLink g)
  pub connected : IsConnected (IsLinked g) (LinkFrom (HasLink g))
