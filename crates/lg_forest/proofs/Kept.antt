-- What workers keep is right, and so is what is known of them.
use Rattle.std.proofs.Common.{◌≡◌, ◌⊎◌, inl, inr, sym, subst, List, [], ◌∷◌, ◌++◌, All, Contains, IfOk, IfErr}
use Rattle.std.specs.declared.result.Result.{Result}
use Rattle.std.specs.declared.result.Result.TheVariants.{Ok, Err}
use Rattle.std.proofs.lemmas.List.Elements.{All-push, All-same}
use Rattle.lg_memo.specs.Entries.{AreRight}
use Rattle.lg_region.specs.Fronts.{Numbering, AreListsOf, all_fronts}
use Rattle.lg_region.specs.Keys.{IsValidKey}
use Rattle.lg_region.specs.declared.key.Key.{Key}
use Rattle.lg_region.specs.declared.alternative.Alt.{Alt}
use Rattle.lg_forest.specs.Known.{AreAltsOf, AreKept, AreKnown}
use Rattle.lg_forest.proofs.FirstMet.{first_met_same}

-- what is kept for a key are its alternatives
pub alts_kept : (n : Numbering) (k : Key) (alts : List Alt) → AreListsOf n.positions n.lists → IsValidKey n.positions n.lists k → AreKept n.positions k alts → AreAltsOf n.positions n.lists k alts
alts_kept n k alts first valid right = right n.lists first valid

-- the alternatives of a key may be kept, since there is one list of the numbers
pub kept_alts : (n : Numbering) (k : Key) (alts copy : List Alt) → AreListsOf n.positions n.lists → copy ≡ alts → AreAltsOf n.positions n.lists k alts → AreKept n.positions k copy
kept_alts n k alts copy first e right =
    let here : AreAltsOf n.positions n.lists k copy = subst (λ z. AreAltsOf n.positions n.lists k z) (sym e) right in
    λ lists first' valid. subst (λ z. AreAltsOf n.positions z k copy) (first_met_same (all_fronts n.positions) n.lists lists first first') here

-- what was kept is known from now on
pub known_more : (n : Numbering) (old new : List (Key × List Alt)) (k : Key) (alts : List Alt) → AreListsOf n.positions n.lists → AreKnown n old → AreKept n.positions k alts → ((q : Key) (a : List Alt) → Contains new (q, a) → Contains old (q, a) ⊎ ((q ≡ k) × (a ≡ alts))) → AreKnown n new
known_more n old new k alts first known right from q a has valid =
    elim (from q a has) [
      | inl was ↦ known q a was valid
      | inr e ↦ (
          let there = right n.lists first (subst (λ z. IsValidKey n.positions n.lists z) e.0 valid) in
          subst (λ z. AreAltsOf n.positions n.lists q z) (sym e.1) (subst (λ z. AreAltsOf n.positions n.lists z alts) (sym e.0) there))
    ]

-- what is right under one name is right under the same
pub right_under : {N K V : Type 0} (Right : N → K → V → Type 0) (name whole : N) (pairs : List (K × V)) → name ≡ whole → AreRight Right name pairs → AreRight Right whole pairs
right_under Right name whole pairs same right = subst (λ n. AreRight Right n pairs) same right

pub all_under : {X N K V : Type 0} (shards : List X) (Right : N → K → V → Type 0) (pairs : X → List (K × V)) (name whole : N) → name ≡ whole → All (λ s. AreRight Right name (pairs s)) shards → All (λ s. AreRight Right whole (pairs s)) shards
all_under shards Right pairs name whole same rights = subst (λ n. All (λ s. AreRight Right n (pairs s)) shards) same rights

-- a pair that is right is kept, or nothing changed
pub kept_more : {T E N K V : Type 0} (r : Result T E) (Right : N → K → V → Type 0) (name : N) (old new : List (K × V)) (k : K) (v : V) → IfOk r (λ _. new ≡ old ++ (k, v) ∷ []) → IfErr r (λ _. new ≡ old)
    → AreRight Right name old → Right name k v → AreRight Right name new
kept_more {T} {E} {N} {K} {V} (Ok x) Right name old new k v ok err all one = All-same (λ (e : K × V). Right name e.0 e.1) new (old ++ (k, v) ∷ []) ok (All-push (λ (e : K × V). Right name e.0 e.1) old (k, v) all one)
kept_more {T} {E} {N} {K} {V} (Err x) Right name old new k v ok err all one = All-same (λ (e : K × V). Right name e.0 e.1) new old err all
