-- Disjuncts of a word by classes, which the capital letters of a list's last connector tell.
use Rattle.std.specs.Prelude.{◌≡◌, ◌≢◌, ℕ, suc, ◌+◌, ◌-◌, ◌*◌, ◌%◌, ◌<◌, ◌≤◌, List, length, map, fold, Option, None, Some, slice_get, slice_index}
use Rattle.lg_gram.specs.Connectors.{Connector}
use Rattle.lg_gram.specs.declared.disjunct.Disjunct.{Disjunct}
use Rattle.lg_region.specs.declared.chains.Side.{Side}
use Rattle.lg_region.specs.declared.chains.Side.TheVariants.{Left, Right}
use Rattle.lg_region.specs.declared.chains.Chain.{Chain}
use Rattle.lg_region.specs.declared.chains.ByClass.{ByClass}

-- the class of some capital letters
abbrev pub class_of_caps : List ℕ → ℕ
class_of_caps caps = fold (λ n c. (n * 31 + c) % 256) 0 caps

abbrev pub class_at : Option Connector → ℕ
class_at None = 0
class_at (Some c) = class_of_caps c.caps

-- the class of a list: that of its last connector
abbrev pub class_of : List Connector → ℕ
class_of cs = class_at (slice_get cs (length cs - 1))

abbrev pub list_on : Side → Disjunct → List Connector
list_on Left d = d.left
list_on Right d = d.right

-- from a number on, the first disjunct of the class has this number, or there is none and it is their count
pub record IsNext (side : Side) (ds : List Disjunct) (class start next : ℕ) : Type 0 where
  pub later : start ≤ next
  pub within : next ≤ length ds
  pub others : (n : ℕ) (d : Disjunct) → start ≤ n → n < next → slice_get ds n ≡ Some d → class_of (list_on side d) ≢ class
  pub same : (d : Disjunct) → slice_get ds next ≡ Some d → class_of (list_on side d) ≡ class

-- the classes of the lists of disjuncts on one side
abbrev pub classes_on : Side → List Disjunct → List ℕ
classes_on side ds = map (λ d. class_of (list_on side d)) ds

-- from a number on, the first of a class has this number, or there is none and it is how many classes there are
pub record IsNextOf (classes : List ℕ) (class start next : ℕ) : Type 0 where
  pub later : start ≤ next
  pub within : next ≤ length classes
  pub others : (n : ℕ) → start ≤ n → n < next → slice_index classes n ≢ class
  pub same : next < length classes → slice_index classes next ≡ class

-- the classes up to this number are not yet looked at
pub record IsChainFrom (classes : List ℕ) (start : ℕ) (firsts nexts : List ℕ) : Type 0 where
  pub all : length firsts ≡ 256
  pub level : length nexts ≡ length classes
  pub first : (class : ℕ) → class < 256 → IsNextOf classes class start (slice_index firsts class)
  pub next : (n : ℕ) → start ≤ n → n < length classes → IsNextOf classes (slice_index classes n) (suc n) (slice_index nexts n)

abbrev pub IsChain : List ℕ → Chain → Type 0
IsChain classes t = IsChainFrom classes 0 t.firsts.items t.nexts.items

-- The run of a disjunct ends with a disjunct of its class, or with the word; those of its class before that have its left list.
pub record IsRunEnd (side : Side) (ds : List Disjunct) (d : Disjunct) (number end : ℕ) : Type 0 where
  pub later : number < end
  pub next : IsNext side ds (class_of (list_on side d)) end end
  pub same : (n : ℕ) (x : Disjunct) → number ≤ n → n < end → slice_get ds n ≡ Some x → class_of (list_on side x) ≡ class_of (list_on side d) → x.left ≡ d.left

-- for each disjunct, the next one of its class
abbrev pub AreNexts : Side → List Disjunct → List ℕ → Type 0
AreNexts side ds nexts = (n : ℕ) (d : Disjunct) → slice_get ds n ≡ Some d → IsNext side ds (class_of (list_on side d)) (suc n) (slice_index nexts n)

-- for each disjunct from a number on, the end of its run
abbrev pub AreRunEnds : Side → List Disjunct → ℕ → List ℕ → Type 0
AreRunEnds side ds start runs = (n : ℕ) (d : Disjunct) → start ≤ n → slice_get ds n ≡ Some d → IsRunEnd side ds d n (slice_index runs n)

-- the disjuncts of a word by the class of their list on one side
pub record IsByClass (side : Side) (ds : List Disjunct) (t : ByClass) : Type 0 where
  pub all : length t.chain.firsts.items ≡ 256
  pub level : length t.chain.nexts.items ≡ length ds
  pub level_runs : length t.runs.items ≡ length ds
  pub first : (class : ℕ) → class < 256 → IsNext side ds class 0 (slice_index t.chain.firsts.items class)
  pub next : AreNexts side ds t.chain.nexts.items
  pub run : AreRunEnds side ds 0 t.runs.items
