-- The lists of two ends before and after a joint between them, in numbers.
use Rattle.std.specs.Prelude.{◌≡◌, ◌↔◌, ℕ, suc, ◌≤◌, Bool, cond, false, List, [], ◌∷◌, ◌++◌, length, take, map, Some, IsSome, slice_get}
use Rattle.std.specs.List.{Contains, flat_map}
use Rattle.lg_gram.specs.Connectors.{Connector}
use Rattle.lg_region.specs.Chains.{class_of}
use Rattle.lg_region.specs.Cuts.{IsCutAt}
use Rattle.lg_region.specs.Fronts.{AreOnce, list_of}
use Rattle.lg_region.specs.declared.key.Joint.{Joint}
use Rattle.lg_region.specs.declared.ways.Way.{Way}
use Rattle.lg_region.specs.declared.ways.End.{End}
use Rattle.lg_region.specs.declared.ways.Rests.{Rests}
use Rattle.lg_region.specs.declared.ways.Rests.TheVariants.{One, Two}

-- a list has the values of P, each once, and no others
pub record AreExactly {A : Type 0} (xs : List A) (P : A → Type 0) : Type 0 where
  pub each : (x : A) → Contains xs x ↔ P x
  pub once : AreOnce xs

-- what one list has more than another are the values of P, each once
pub record AddsExactly {A : Type 0} (old new : List A) (P : A → Type 0) : Type 0 where
  pub more : List A
  pub added : new ≡ old ++ more
  pub exactly : AreExactly more P

-- what a list had stands in front still
pub record KeepsFront {A : Type 0} (old new : List A) : Type 0 where
  pub more : List A
  pub added : new ≡ old ++ more

-- what is kept of the end of a list, but for its kind
pub record IsEndOf (lists : List (List Connector)) (number : ℕ) (e : End) : Type 0 where
  pub itself : e.id ≡ number
  pub known : number ≤ length lists
  pub known_shorter : e.shorter ≤ length lists
  pub at_end : suc e.place ≡ length (list_of lists number)
  pub last : Connector
  pub is_last : slice_get (list_of lists number) e.place ≡ Some last
  pub is_multi : e.is_multi ≡ last.multi
  pub class_is : e.class ≡ class_of (list_of lists number)
  pub rest : list_of lists e.shorter ≡ take e.place (list_of lists number)

abbrev pub rest_items : Rests → List ℕ
rest_items (One items) = items
rest_items (Two items) = items

-- without the last connector, and whole where that is multi
abbrev pub rests_of : End → List ℕ
rests_of e = cond e.is_multi (e.shorter ∷ e.id ∷ []) (e.shorter ∷ [])

abbrev pub way_of : Joint → ℕ → ℕ → Way
way_of joint near far = record { joint = Some joint; near = near; far = far }

abbrev pub joined_ways : End → End → List Way
joined_ways e f =
    let joint : Joint = record { near = e.place; far = f.place } in
    flat_map (λ rest. map (way_of joint rest) (rests_of f)) (rests_of e)

-- the lists of a way are those of two numbers, before and after a joint, which may be none only where `apart` is true
pub record IsWayOf (lists : List (List Connector)) (near far : ℕ) (apart : Bool) (w : Way) : Type 0 where
  pub known_near : w.near ≤ length lists
  pub known_far : w.far ≤ length lists
  pub cut : IsCutAt w.joint (list_of lists near) (list_of lists far) (list_of lists w.near) (list_of lists w.far)
  pub joined : apart ≡ false → IsSome w.joint

-- what is made of the ways on of two lists, each once, is added
pub record AddsWays {A : Type 0} (lists : List (List Connector)) (near far : ℕ) (apart : Bool) (make : Way → A) (old new : List A) : Type 0 where
  pub ways : List Way
  pub exactly : AreExactly ways (IsWayOf lists near far apart)
  pub added : new ≡ old ++ map make ways

abbrev pub HasWay : List (List Connector) → ℕ → ℕ → Bool → Type 0
HasWay lists near far apart = (w : Way) × IsWayOf lists near far apart w
