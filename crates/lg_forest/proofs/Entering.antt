-- The search's table: keys with alternatives, and keys without.
use Rattle.std.proofs.Common.{◌≡◌, ◌≢◌, ◌↔◌, ◌⊎◌, inl, inr, suc, List, [], ◌∷◌, ◌++◌, length, map, OnErr, OnOk, refl, sym, ap, ◌∙◌, subst, Contains, arith, length-append}
use Rattle.std.proofs.lemmas.List.{length-map, map-append}
use Rattle.std.proofs.lemmas.List.Elements.{Contains-append_cases, Contains-append_left, Contains-push, Contains-push_cases}
use Rattle.std.specs.Map.{keys_of}
use Rattle.std.specs.declared.result.Result.{Result}
use Rattle.std.specs.declared.result.Result.TheVariants.{Ok, Err}
use Rattle.lg_region.proofs.Once.{once_append}
use Rattle.lg_region.specs.Fronts.{AreOnce}
use Rattle.lg_region.specs.declared.alternative.Alt.{Alt}
use Rattle.lg_region.specs.declared.key.Key.{Key}
use Rattle.lg_forest.specs.Entries.{AreEntries, IsEntered, dead_entry, entries_of}
use Rattle.lg_forest.proofs.Once.{contains_map, in_append_right, map_found}

abbrev Entries : Type 0
Entries = List (Key × List Alt)

dead_keys : (dead : List Key) → keys_of (map dead_entry dead) ≡ dead
dead_keys [] = refl
dead_keys (k ∷ dead) = ap (λ z. k ∷ z) (dead_keys dead)

pub keys_seen : (live : Entries) (dead : List Key) → keys_of (entries_of live dead) ≡ keys_of live ++ dead
keys_seen live dead = map-append (λ (e : Key × List Alt). e.0) live (map dead_entry dead) ∙ ap (λ z. keys_of live ++ z) (dead_keys dead)

pub keys_once : (live : Entries) (dead : List Key) → AreOnce (keys_of live) → AreOnce dead → AreEntries live dead → AreOnce (keys_of (entries_of live dead))
keys_once live dead once once' are = subst (λ z. AreOnce z) (sym (keys_seen live dead)) (once_append (keys_of live) dead once once' are.apart)

-- ---- what is there

pub entry_cases : (live : Entries) (dead : List Key) (k : Key) (a : List Alt) → Contains (entries_of live dead) (k, a) → Contains live (k, a) ⊎ (Contains dead k × (a ≡ []))
entry_cases live dead k a h = elim (Contains-append_cases live (map dead_entry dead) (k, a) h) [
  | inl l ↦ inl l
  | inr d ↦ (let x = map_found dead_entry dead (k, a) d in inr (subst (λ z. Contains dead z) (ap (λ (e : Key × List Alt). e.0) x.2) x.1, sym (ap (λ (e : Key × List Alt). e.1) x.2)))
]

pub live_there : (live : Entries) (dead : List Key) (k : Key) (a : List Alt) → Contains live (k, a) → Contains (entries_of live dead) (k, a)
live_there live dead k a h = Contains-append_left live (map dead_entry dead) (k, a) h

pub dead_there : (live : Entries) (dead : List Key) (k : Key) (a : List Alt) → a ≡ [] → Contains dead k → Contains (entries_of live dead) (k, a)
dead_there live dead k a none h = subst (λ z. Contains (entries_of live dead) (k, z)) (sym none) (in_append_right live (map dead_entry dead) (k, []) (contains_map dead_entry dead k h))

pub key_cases : (live : Entries) (dead : List Key) (k : Key) → Contains (keys_of (entries_of live dead)) k → Contains (keys_of live) k ⊎ Contains dead k
key_cases live dead k h = Contains-append_cases (keys_of live) dead k (subst (λ z. Contains z k) (keys_seen live dead) h)

pub live_key : (live : Entries) (dead : List Key) (k : Key) → Contains (keys_of live) k → Contains (keys_of (entries_of live dead)) k
live_key live dead k h = subst (λ z. Contains z k) (sym (keys_seen live dead)) (Contains-append_left (keys_of live) dead k h)

pub dead_key : (live : Entries) (dead : List Key) (k : Key) → Contains dead k → Contains (keys_of (entries_of live dead)) k
dead_key live dead k h = subst (λ z. Contains z k) (sym (keys_seen live dead)) (in_append_right (keys_of live) dead k h)

-- those with alternatives
pub only_live : (live : Entries) (dead : List Key) → AreEntries live dead → (k : Key) (a : List Alt) → Contains live (k, a) ↔ (Contains (entries_of live dead) (k, a) × (a ≢ []))
only_live live dead are k a = (
  λ h. (live_there live dead k a h, are.some k a h),
  λ h. elim (entry_cases live dead k a h.0) [ inl l ↦ l | inr d ↦ absurd (h.1 d.1) ],
)

-- ---- one key more

module _ (live : Entries) (key : Key) where
  -- without alternatives
  module _ (old new : List Key) (fresh : Contains (keys_of (entries_of live old)) key → ⊥) (is : (k : Key) → Contains new k ↔ (Contains old k ⊎ (k ≡ key))) where
    pub dead_entered : (alts : List Alt) → alts ≡ [] → length new ≡ suc (length old) → IsEntered (entries_of live old) key alts (entries_of live new)
    dead_entered alts none longer = record {
      entries = λ k a. (
        (λ h. elim (entry_cases live new k a h) [
          | inl l ↦ inl (live_there live old k a l)
          | inr d ↦ elim ((is k).0 d.0) [ inl was ↦ inl (dead_there live old k a d.1 was) | inr e ↦ inr (e, d.1 ∙ sym none) ]
        ]),
        (λ h. elim h [
          | inl was ↦ elim (entry_cases live old k a was) [ inl l ↦ live_there live new k a l | inr d ↦ dead_there live new k a d.1 ((is k).1 (inl d.0)) ]
          | inr e ↦ dead_there live new k a (e.1 ∙ none) ((is k).1 (inr e.0))
        ]),
      );
      longer = (
          let before = length-append live (map dead_entry old) in
          let after = length-append live (map dead_entry new) in
          let some = length-map old dead_entry in
          let more = length-map new dead_entry in
          omega arith
          );
    }

    pub dead_are : AreEntries live old → AreEntries live new
    dead_are are = record {
      some = are.some;
      apart = λ k l d. elim ((is k).0 d) [ inl was ↦ are.apart k l was | inr e ↦ fresh (live_key live old key (subst (λ z. Contains (keys_of live) z) e l)) ];
    }

  -- with alternatives
  module _ (dead : List Key) (alts : List Alt) (new : Entries) (grown : new ≡ live ++ (key, alts) ∷ []) where
    pub live_entered : IsEntered (entries_of live dead) key alts (entries_of new dead)
    live_entered = record {
      entries = λ k a. (
        (λ h. elim (entry_cases new dead k a h) [
          | inl l ↦ elim (Contains-push_cases live (key, alts) (k, a) (subst (λ z. Contains z (k, a)) grown l)) [
            | inl was ↦ inl (live_there live dead k a was)
            | inr e ↦ inr (sym (ap (λ (p : Key × List Alt). p.0) e), sym (ap (λ (p : Key × List Alt). p.1) e))
          ]
          | inr d ↦ inl (dead_there live dead k a d.1 d.0)
        ]),
        (λ h. elim h [
          | inl was ↦ elim (entry_cases live dead k a was) [
            | inl l ↦ live_there new dead k a (subst (λ z. Contains z (k, a)) (sym grown) (Contains-append_left live ((key, alts) ∷ []) (k, a) l))
            | inr d ↦ dead_there new dead k a d.1 d.0
          ]
          | inr e ↦ (
              let same : (key, alts) ≡ (k, a) = λ i. (sym e.0 i, sym e.1 i) in
              live_there new dead k a (subst (λ z. Contains z (k, a)) (sym grown) (subst (λ (z : Key × List Alt). Contains (live ++ (key, alts) ∷ []) z) same (Contains-push live (key, alts))))
              )
        ]),
      );
      longer = (
          let before = length-append live (map dead_entry dead) in
          let after = length-append new (map dead_entry dead) in
          let more = ap length grown ∙ length-append live ((key, alts) ∷ []) in
          omega arith
          );
    }

    pub live_are : alts ≢ [] → (Contains (keys_of (entries_of live dead)) key → ⊥) → AreEntries live dead → AreEntries new dead
    live_are some fresh are = record {
      some = λ k a h. elim (Contains-push_cases live (key, alts) (k, a) (subst (λ z. Contains z (k, a)) grown h)) [
        | inl was ↦ are.some k a was
        | inr e ↦ subst (λ (p : Key × List Alt). p.1 ≢ []) e some
      ];
      apart = λ k l d. elim (Contains-push_cases (keys_of live) key k (subst (λ z. Contains z k) (ap keys_of grown ∙ map-append (λ (e : Key × List Alt). e.0) live ((key, alts) ∷ [])) l)) [
        | inl was ↦ are.apart k was d
        | inr e ↦ fresh (dead_key live dead key (subst (λ z. Contains dead z) (sym e) d))
      ];
    }

-- whether there was room or not
pub dead_after : {T E : Type 0} (r : Result T E) (live : Entries) (key : Key) (old new : List Key) → (Contains (keys_of (entries_of live old)) key → ⊥) → OnOk r ((k : Key) → Contains new k ↔ (Contains old k ⊎ (k ≡ key))) → OnErr r (new ≡ old) → AreEntries live old → AreEntries live new
dead_after (Ok x) live key old new fresh is same are = dead_are live key old new fresh is are
dead_after (Err x) live key old new fresh is same are = subst (λ z. AreEntries live z) (sym same) are

pub live_after : {T E : Type 0} (r : Result T E) (live : Entries) (key : Key) (dead : List Key) (alts : List Alt) (new : Entries) → (Contains (keys_of (entries_of live dead)) key → ⊥) → alts ≢ [] → OnOk r (new ≡ live ++ (key, alts) ∷ []) → OnErr r (new ≡ live) → AreEntries live dead → AreEntries new dead
live_after (Ok x) live key dead alts new fresh some grown same are = live_are live key dead alts new grown some fresh are
live_after (Err x) live key dead alts new fresh some grown same are = subst (λ z. AreEntries z dead) (sym same) are

pub on_both : {T E : Type 0} (r : Result T E) (P Q R : Type 0) → (P → Q → R) → OnOk r P → OnOk r Q → OnOk r R
on_both (Ok x) P Q R f p q = f p q
on_both (Err x) P Q R f p q = tt
