-- Forests: the demanded keys that have a linkage, and of each the alternatives whose keys have one.
use Rattle.std.specs.Prelude.{◌≡◌, ◌↔◌, ℕ, ◌+◌, ◌≤◌, List, length, IfSome}
use Rattle.std.specs.List.{Contains}
use Rattle.std.specs.Map.{keys_of}
use Rattle.lg_gram.specs.Connectors.{Connector}
use Rattle.lg_gram.specs.declared.disjunct.Disjunct.{Disjunct}
use Rattle.lg_region.specs.Fronts.{AreOnce, AreListsOf}
use Rattle.lg_region.specs.Keys.{IsAltOf}
use Rattle.lg_region.specs.declared.key.Key.{Key}
use Rattle.lg_region.specs.declared.alternative.Alt.{Alt}
use Rattle.lg_forest.specs.Demands.{HasLinkageUnder, left_key, right_key, IsDemanded}

-- every key of an alternative has a linkage
pub record IsLive (positions : List (List Disjunct)) (lists : List (List Connector)) (a : Alt) : Type 0 where
  pub left : IfSome (left_key a) (HasLinkageUnder positions lists)
  pub right : IfSome (right_key a) (HasLinkageUnder positions lists)

-- the alternatives of a key all of whose keys have a linkage, each once
pub record AreLive (positions : List (List Disjunct)) (lists : List (List Connector)) (k : Key) (alts : List Alt) : Type 0 where
  pub exactly : (a : Alt) → Contains alts a ↔ (IsAltOf positions lists k a × IsLive positions lists a)
  pub once : AreOnce alts

-- the number of unlinked words, and each key with its alternatives
pub record Forest : Type 0 where
  pub unused : ℕ
  pub entries : List (Key × List Alt)

-- The forest of a problem, asked for with `from` unlinked words and more, until the whole sentence has a linkage: exactly the
-- demanded keys that have a linkage, each once, and with each its live alternatives.
pub record IsForest (positions : List (List Disjunct)) (from : ℕ) (forest : Forest) : Type 0 where
  pub ends : from ≤ forest.unused
  pub within : forest.unused ≤ length positions
  pub lists : List (List Connector)
  pub numbered : AreListsOf positions lists
  pub nodes : (k : Key) → Contains (keys_of forest.entries) k ↔ (IsDemanded positions lists from forest.unused k × HasLinkageUnder positions lists k)
  pub once : AreOnce (keys_of forest.entries)
  pub alts : (k : Key) (alts : List Alt) → Contains forest.entries (k, alts) → AreLive positions lists k alts

-- how many keys of a kind there are
pub record CountsKeys (P : Key → Type 0) (n : ℕ) : Type 0 where
  pub keys : List Key
  pub exactly : (k : Key) → Contains keys k ↔ P k
  pub once : AreOnce keys
  pub count : n ≡ length keys

-- so many may look for a forest
abbrev pub AreWorkers : ℕ → Type 0
AreWorkers workers = (1 ≤ workers) × (workers ≤ 16)

-- at most so many steps were counted, and exactly so many where one worked alone
pub record HasStepped (workers before after n : ℕ) : Type 0 where
  pub at_most : after ≤ before + n
  pub alone : workers ≡ 1 → after ≡ before + n
