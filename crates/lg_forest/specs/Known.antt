-- What workers found of keys before the caller walks.
use Rattle.std.specs.Prelude.{◌≡◌, ◌↔◌, Bool, true, List}
use mathlib.Core.Path.{sym, subst}
use Rattle.std.specs.List.{Contains}
use Rattle.lg_gram.specs.Connectors.{Connector}
use Rattle.lg_gram.specs.declared.disjunct.Disjunct.{Disjunct}
use Rattle.lg_region.specs.Fronts.{Numbering, AreListsOf, AreOnce}
use Rattle.lg_region.specs.Keys.{IsValidKey, IsAltOf}
use Rattle.lg_region.specs.declared.key.Key.{Key}
use Rattle.lg_region.specs.declared.alternative.Alt.{Alt}
use Rattle.lg_region.specs.contracts.key.KeyPartialEq.TheImpl.{eq-value}
use Rattle.lg_memo.specs.Entries.{AreAlike}

-- exactly the alternatives of a key, each once
pub record AreAltsOf (positions : List (List Disjunct)) (lists : List (List Connector)) (k : Key) (alts : List Alt) : Type 0 where
  pub exactly : (a : Alt) → Contains alts a ↔ IsAltOf positions lists k a
  pub once : AreOnce alts

-- what is kept for a key of a problem is right: its alternatives, if it may be asked for
abbrev pub AreKept : List (List Disjunct) → Key → List Alt → Type 0
AreKept positions k alts = (lists : List (List Connector)) → AreListsOf positions lists → IsValidKey positions lists k → AreAltsOf positions lists k alts

-- each key has its alternatives, if it may be asked for
abbrev pub AreKnown : Numbering → List (Key × List Alt) → Type 0
AreKnown n known = (k : Key) (alts : List Alt) → Contains known (k, alts) → IsValidKey n.positions n.lists k → AreAltsOf n.positions n.lists k alts

-- whether two keys are the same
abbrev pub same_key : Key → Key → Bool
same_key = eq-value.it

-- equal keys have the same right values
pub alike_if_equal : {N K V : Type 0} (Right : N → K → V → Type 0) (same : K → K → Bool) → ((a b : K) → same a b ≡ true → a ≡ b) → AreAlike Right same
alike_if_equal {N} {K} {V} Right same equal a b e name value = (
  (λ r. subst (λ (z : K). Right name z value) (equal a b e) r),
  (λ r. subst (λ (z : K). Right name z value) (sym (equal a b e)) r),
)
