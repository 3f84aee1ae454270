-- What chains do in the linkages of a sentence.
use Rattle.std.specs.Prelude.{◌≡◌, ◌⊎◌, ◌↔◌, ℕ, ◌+◌, ◌-◌, ◌<◌, ◌≤◌, ◌==◌, true, List, [], ◌++◌, length, drop, Contains, Some, None, IfSome, if◌then◌else◌, slice_index_or}
use Rattle.lg_gram.specs.Connectors.{Connector}
use Rattle.lg_gram.specs.Disjuncts.{IsDisjunctOf}
use Rattle.lg_gram.specs.Labels.{label_at}
use Rattle.lg_gram.specs.Linkages.{Linkage}
use Rattle.lg_gram.specs.Names.{IsJoint, joint_fits}
use Rattle.lg_gram.specs.Rules.{Good, HasLink, IsLinked, chosen_at}
use Rattle.lg_gram.specs.declared.disjunct.Disjunct.{Disjunct}
use Rattle.lg_gram.specs.declared.linkage.Link.{Link}
use Rattle.lg_idiom.specs.Idioms.{Chain, Covers, formula_at}

-- ---- problems with chains

-- no connector of the disjunct is a joint
abbrev pub HasNoJoint : Disjunct → Type 0
HasNoJoint d = (c : Connector) → Contains (d.left ++ d.right) c → IsJoint c.caps → ⊥

-- a disjunct that one of the chains adds to position p
abbrev pub IsAddedAt : List Chain → ℕ → Disjunct → Type 0
IsAddedAt taken p d = (c : Chain) × Contains taken c × Covers c p × IsDisjunctOf c.word (formula_at c (p - c.start)) d

-- Chains of several positions, told apart by start and rank, whose numbers fit into the names of joints. Their compounds' own formulas have no
-- joint.
pub record AreChainsOfIdioms (taken : List Chain) : Type 0 where
  pub apart : (c d : Chain) → Contains taken c → Contains taken d → c.start ≡ d.start → c.rank ≡ d.rank → c ≡ d
  pub several : (c : Chain) → Contains taken c → 2 ≤ c.count
  pub fits : (c : Chain) → Contains taken c → (i : ℕ) → i + 1 < c.count → joint_fits c.rank c.start i ≡ true
  pub no_joint : (c : Chain) → Contains taken c → (d : Disjunct) → IsDisjunctOf c.word c.formula d → HasNoJoint d

-- A problem with chains laid over a plain one, which has no joint: at each position the plain disjuncts, and those that the chains add.
pub record AreLaidOver (taken : List Chain) (plain positions : List (List Disjunct)) : Type 0 where
  pub same_length : length positions ≡ length plain
  pub no_joint : (p : ℕ) (d : Disjunct) → Contains (slice_index_or plain p []) d → HasNoJoint d
  pub exactly : (p : ℕ) (d : Disjunct) → Contains (slice_index_or positions p []) d ↔ (Contains (slice_index_or plain p []) d ⊎ IsAddedAt taken p d)

-- ---- chains in linkages

-- the linkage uses the chain at its i-th position
abbrev pub UsesAt : Linkage → Chain → ℕ → Type 0
UsesAt g c i = (d : Disjunct) × (chosen_at g (c.start + i) ≡ Some d) × IsDisjunctOf c.word (formula_at c i) d

-- at all of its positions, and at none
abbrev pub UsesAll : Linkage → Chain → Type 0
UsesAll g c = (i : ℕ) → i < c.count → UsesAt g c i

abbrev pub UsesNone : Linkage → Chain → Type 0
UsesNone g c = (i : ℕ) → i < c.count → UsesAt g c i → ⊥

-- the link's label is a joint
abbrev pub IsJointLink : Linkage → Link → Type 0
IsJointLink g l = IfSome (label_at g l) (λ n. IsJoint n.caps) × ((label_at g l ≡ None) → ⊥)

-- ---- laws

-- A good linkage uses each chain at all of its positions or at none.
abbrev pub ChainsAreWhole : Type 0
ChainsAreWhole = (taken : List Chain) (plain positions : List (List Disjunct)) → AreChainsOfIdioms taken → AreLaidOver taken plain positions
    → (g : Linkage) → Good positions g → (c : Chain) → Contains taken c → UsesAll g c ⊎ UsesNone g c

-- Links of joints join neighbours.
abbrev pub JointsJoinNeighbours : Type 0
JointsJoinNeighbours = (taken : List Chain) (plain positions : List (List Disjunct)) → AreChainsOfIdioms taken → AreLaidOver taken plain positions
    → (g : Linkage) → Good positions g → (l : Link) → HasLink g l → IsJointLink g l → l.right ≡ l.left + 1

-- The good linkages without a chain are exactly those of the plain problem.
abbrev pub PlainLinkagesStay : Type 0
PlainLinkagesStay = (taken : List Chain) (plain positions : List (List Disjunct)) → AreChainsOfIdioms taken → AreLaidOver taken plain positions
    → (g : Linkage) → (Good positions g × ((c : Chain) → Contains taken c → UsesNone g c)) ↔ Good plain g

-- ---- a chain stands for its word at the last of its positions

-- the last position of a chain
abbrev pub last_of : Chain → ℕ
last_of c = c.start + (c.count - 1)

-- before the last one
abbrev pub IsEarlier : Chain → ℕ → Type 0
IsEarlier c i = (c.start ≤ i) × (i < last_of c)

-- the problem with the compound as a word at the last position, and nothing at those before it
pub record IsAsOneWord (c : Chain) (positions one : List (List Disjunct)) : Type 0 where
  pub same_length : length one ≡ length positions
  pub earlier : (i : ℕ) → IsEarlier c i → slice_index_or one i [] ≡ []
  pub last : (d : Disjunct) → Contains (slice_index_or one (last_of c) []) d ↔ IsDisjunctOf c.word c.formula d
  pub others : (i : ℕ) → (IsEarlier c i → ⊥) → (i ≡ last_of c → ⊥) → slice_index_or one i [] ≡ slice_index_or positions i []

-- a link as it is without the first connector of the left list at a position
abbrev pub lowered_at : ℕ → Link → Link
lowered_at e l = if l.right == e then record l { rplace = l.rplace - 1 } else l

-- The linkage h is g without the chain's joints: its earlier positions are unlinked, and the last one has its word's own disjunct.
pub record IsWithoutJoints (c : Chain) (g h : Linkage) : Type 0 where
  pub same_length : length h.chosen ≡ length g.chosen
  pub earlier : (i : ℕ) → IsEarlier c i → chosen_at h i ≡ None
  pub last : (d : Disjunct) → chosen_at g (last_of c) ≡ Some d → chosen_at h (last_of c) ≡ Some (record d { left = drop 1 d.left })
  pub others : (i : ℕ) → (IsEarlier c i → ⊥) → (i ≡ last_of c → ⊥) → chosen_at h i ≡ chosen_at g i
  pub links : (l : Link) → HasLink h l ↔ ((k : Link) × HasLink g k × (IsEarlier c k.left → ⊥) × (IsEarlier c k.right → ⊥) × (l ≡ lowered_at (last_of c) k))

-- A good linkage that uses a chain is, without its joints, a good linkage with the compound as a word at its last position; and each of these
-- in which that position is linked comes so from exactly one.
abbrev pub ChainsStandForWords : Type 0
ChainsStandForWords = (taken : List Chain) (plain positions one : List (List Disjunct)) (c : Chain) → AreChainsOfIdioms taken → AreLaidOver taken plain positions → Contains taken c
    → last_of c < length positions → IsAsOneWord c positions one
    → ((g : Linkage) → Good positions g → UsesAll g c → (h : Linkage) × IsWithoutJoints c g h × Good one h)
    × ((h : Linkage) → Good one h → IsLinked h (last_of c)
    → (g : Linkage) × Good positions g × UsesAll g c × IsWithoutJoints c g h × ((f : Linkage) → Good positions f → UsesAll f c → IsWithoutJoints c f h → f ≡ g))
