-- What a hash table tells of its entries, where `==` at the keys tells whether they are the same.
use Rattle.std.proofs.Common.{◌≡◌, ◌↔◌, refl, sym, ap, ◌∙◌, subst, Bool, true, false, List, [], ◌∷◌, Option, Some, None, IsSome, MatchOption, ◌⊎◌, inl, inr, IsTrue, cond, if◌then◌else◌, is_some, ◌+◌, length, Contains, arith, rules}
use Rattle.std.specs.Cmp.{IsEquivalence}
use Rattle.std.specs.Bool.{Decides}
use Rattle.std.specs.Map.{keys_of, lookup}
use Rattle.std.proofs.lemmas.Map.Views.{Contains-from_lookup, Contains-keys_from_lookup, IsSome-lookup_from_Contains, lookup-from_Contains}
use Rattle.indexmap.specs.IndexMap.{IndexMap, IsUnique, get}
use Rattle.lg_region.specs.declared.key.Key.{Key}
use Rattle.lg_forest.proofs.Once.{contains_none}
use Rattle.lg_region.specs.contracts.key.KeyPartialEq.TheImpl.{eq-value}

-- the test of `==` at keys
abbrev pub key_eq : Key → Key → Bool
key_eq = eq-value.it

pub keys_same : (x y : Key) → Decides (key_eq x y) (x ≡ y)
keys_same x y = search rules

pub keys_laws : IsEquivalence key_eq
keys_laws = search rules

-- the same of any keys
module _ {K X : Type 0} (eq : K → K → Bool) (same : (x y : K) → Decides (eq x y) (x ≡ y)) (laws : IsEquivalence eq) {S : Type 0} (old new : IndexMap K X S) (k : K) (unique : IsUnique eq new) where
  -- what is in a table after a change at one key
  pub changed_by : (w : Option X) → ((q : K) → get eq new q ≡ cond (eq k q) w (get eq old q)) → (q : K) (v : X) → Contains new.entries (q, v) → Contains old.entries (q, v) ⊎ ((k ≡ q) × (w ≡ Some v))
  changed_by w after q v has = by (eq k q) refl
    where
      now : get eq new q ≡ Some v
      now = lookup-from_Contains laws q v new.entries unique has

      by : (b : Bool) → eq k q ≡ b → Contains old.entries (q, v) ⊎ ((k ≡ q) × (w ≡ Some v))
      by true e = inr ((same k q).0 e, sym (after q ∙ ap (λ z. cond z w (get eq old q)) e) ∙ now)
      by false e = inl (Contains-from_lookup (λ x y. (same x y).0) q v old.entries (sym (after q ∙ ap (λ z. cond z w (get eq old q)) e) ∙ now))

  -- where it was taken out
  pub left_by : ((q : K) → get eq new q ≡ cond (eq k q) None (get eq old q)) → (q : K) (v : X) → Contains new.entries (q, v) → Contains old.entries (q, v)
  left_by after q v has = elim (changed_by None after q v has) [ inl old_one ↦ old_one | inr r ↦ absurd (none_some r.1) ]
    where
      none_some : None ≡ Some v → ⊥
      none_some e = cc

  -- where a value was put in
  pub put_by : (w : X) → ((q : K) → get eq new q ≡ cond (eq k q) (Some w) (get eq old q)) → (q : K) (v : X) → Contains new.entries (q, v) → Contains old.entries (q, v) ⊎ ((q ≡ k) × (v ≡ w))
  put_by w after q v has = elim (changed_by (Some w) after q v has) [ inl was ↦ inl was | inr r ↦ inr (sym r.0, same_value r.1) ]
    where
      same_value : Some w ≡ Some v → v ≡ w
      same_value e = cc

module _ {X : Type 0} where
  -- a look-up finds exactly the keys that are there
  pub has_key : (es : List (Key × X)) (k : Key) → IsTrue (is_some (lookup (key_eq k) es)) ↔ Contains (keys_of es) k
  has_key es k = (λ some. Contains-keys_from_lookup (λ x y. (keys_same x y).0) k es some, λ has. IsSome-lookup_from_Contains keys_laws k es has)

  pub no_keys : (es : List (Key × X)) (k : Key) → length es ≡ 0 → Contains (keys_of es) k → ⊥
  no_keys [] k none has = contains_none k has
  no_keys (e ∷ es) k none has = absurd (omega (arith, none))

  -- what is taken out of a table, and what is left in it
  pub taken : {S : Type 0} (old new : IndexMap Key X S) (k : Key) (r : Option X) → r ≡ lookup (key_eq k) old.entries → length new.entries + (if is_some r then 1 else 0) ≡ length old.entries
      → MatchOption r ((Contains (keys_of old.entries) k → ⊥) × (length new.entries ≡ length old.entries)) (λ v. Contains old.entries (k, v) × (length new.entries + 1 ≡ length old.entries))
  taken old new k (Some v) is len = (Contains-from_lookup (λ x y. (keys_same x y).0) k v old.entries (sym is), len)
  taken old new k None is len = ((λ has. (let some = subst (λ z. IsSome z) (sym is) (IsSome-lookup_from_Contains keys_laws k old.entries has) in absurd cc)), omega (arith, len))

  pub left_in : {S : Type 0} (old new : IndexMap Key X S) (k : Key) → IsUnique key_eq new → ((q : Key) → get key_eq new q ≡ cond (key_eq k q) None (get key_eq old q)) → (q : Key) (v : X) → Contains new.entries (q, v) → Contains old.entries (q, v)
  left_in old new k unique = left_by key_eq keys_same keys_laws old new k unique

  -- what was put in is there
  pub put_there : {S : Type 0} (new : IndexMap Key X S) (k : Key) (w : X) → lookup (key_eq k) new.entries ≡ Some w → Contains new.entries (k, w)
  put_there new k w at = Contains-from_lookup (λ x y. (keys_same x y).0) k w new.entries at

  pub put_in : {S : Type 0} (old new : IndexMap Key X S) (k : Key) (w : X) → IsUnique key_eq new → ((q : Key) → get key_eq new q ≡ cond (key_eq k q) (Some w) (get key_eq old q)) → (q : Key) (v : X) → Contains new.entries (q, v) → Contains old.entries (q, v) ⊎ ((q ≡ k) × (v ≡ w))
  put_in old new k w unique = put_by key_eq keys_same keys_laws old new k unique w
