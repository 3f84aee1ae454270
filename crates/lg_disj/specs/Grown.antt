-- What a call that lists choices adds: leaves behind those that are there, and choices behind those that are there.
use Rattle.std.specs.Prelude.{◌≡◌, ◌<◌, ℕ, List, Some, ◌++◌, length, map, slice_get}
use Rattle.std.specs.List.{All}
use Rattle.lg_gram.specs.Connectors.{Connector}
use Rattle.lg_gram.specs.Measures.{Choice}
use Rattle.lg_disj.specs.Choices.{IsSided}
use Rattle.lg_disj.specs.Places.{Places, choice_by}

-- each of its places is that of a leaf
pub record IsPlaced (leaves : List Connector) (p : Places) : Type 0 where
  pub left : All (λ n. n < length leaves) p.left
  pub right : All (λ n. n < length leaves) p.right

-- the listed choices stand for these, each with its connectors in the list of their direction
pub record StandFor (leaves : List Connector) (listed : List Places) (cs : List Choice) : Type 0 where
  pub told : map (choice_by leaves) listed ≡ cs
  pub placed : All (IsPlaced leaves) listed
  pub sided : All IsSided cs

-- the leaves have only grown
pub record Grows (old new : List Connector) : Type 0 where
  pub more : List Connector
  pub grown : new ≡ old ++ more

-- listed choices that stand for these came behind those that were there
pub record Lists (leaves : List Connector) (old new : List Places) (cs : List Choice) : Type 0 where
  pub fresh : List Places
  pub added : new ≡ old ++ fresh
  pub stand : StandFor leaves fresh cs

-- this connector came to the leaves, or was one, and stands at this place
pub record ComesAs (old new : List Connector) (c : Connector) (place : ℕ) : Type 0 where
  pub grows : Grows old new
  pub there : slice_get new place ≡ Some c
