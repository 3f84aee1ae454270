-- What the entries of a shard say.
use Rattle.std.specs.Prelude.{◌≡◌, ◌↔◌, Bool, true, List}
use Rattle.std.specs.List.{All, list_any}

-- each value is right for its key, under this name
abbrev pub AreRight : {N K V : Type 0} → (N → K → V → Type 0) → N → List (K × V) → Type 0
AreRight {N} {K} {V} Right name entries = All (λ (e : K × V). Right name e.0 e.1) entries

-- whether some entry has the same key as this one
abbrev pub has_key : {K V : Type 0} → (K → K → Bool) → List (K × V) → K → Bool
has_key {K} {V} same entries key = list_any (λ (e : K × V). same e.0 key) entries

-- two keys that are the same have the same right values, under every name
abbrev pub AreAlike : {N K V : Type 0} → (N → K → V → Type 0) → (K → K → Bool) → Type 0
AreAlike {N} {K} {V} Right same = (a b : K) → same a b ≡ true → (name : N) (value : V) → Right name a value ↔ Right name b value
