-- The rows of keys.
use Rattle.std.proofs.Common.{◌≡◌, ◌≢◌, ℕ, ◌+◌, ◌*◌, ◌/◌, ◌%◌, ◌<◌, ◌≤◌, ◌⊎◌, inl, inr, true≢false, List, length, sym, ap, ◌∙◌, arith, rules}
use Rattle.std.proofs.lemmas.Bool.{cases_Bool}
use Rattle.std.specs.Bool.{Decides}
use Rattle.lg_region.specs.Keys.{IsValidKey}
use Rattle.lg_gram.specs.Connectors.{Connector}
use Rattle.lg_gram.specs.declared.disjunct.Disjunct.{Disjunct}
use Rattle.lg_region.specs.declared.key.Key.{Key}
use Rattle.lg_region.specs.declared.key.Key.TheVariants.{Whole, Region as Between}
use Rattle.lg_forest.specs.KeyRows.{IsSmall, key_at, place_of, row_of}
use Rattle.lg_forest.specs.KeySets.{AreRows}
use Rattle.lg_forest.specs.declared.key_set.Row.{Row}
use Rattle.lg_forest.specs.declared.key_set.Row.TheVariants as row
use Rattle.lg_forest.specs.contracts.key_set.RowPartialEq.TheImpl.{eq-value}

-- a key that may be asked for has room in a row
pub valid_small : (positions : List (List Disjunct)) (lists : List (List Connector)) (k : Key) → length positions ≤ 252 → IsValidKey positions lists k → IsSmall k
valid_small positions lists (Whole nulls) few valid = omega arith
valid_small positions lists (Between left right llist rlist nulls) few (l, r, valid) = let ends = valid.ends in let within = valid.within in let less = valid.few in (omega arith, omega arith, omega arith)

key_back : (k : Key) → key_at (row_of k) (place_of k) ≡ k
key_back (Whole nulls) = ap Whole (let e : 64 * (nulls / 64) + nulls % 64 ≡ nulls = omega arith in e)
key_back (Between left right llist rlist nulls) =
    let list : 16 * (llist / 16) + (llist % 16 * 4 + nulls % 4) / 4 ≡ llist = omega arith in
    let number : 4 * (nulls / 4) + (llist % 16 * 4 + nulls % 4) % 4 ≡ nulls = omega arith in
    (λ i. Between left right (list i) rlist (number i))

row_back : (r : Row) (place : ℕ) → place < 64 → row_of (key_at r place) ≡ r
row_back (row.Whole block) place l = ap row.Whole (let e : (64 * block + place) / 64 ≡ block = omega arith in e)
row_back (row.Region left right nulls block rlist) place l =
    let number : (4 * nulls + place % 4) / 4 ≡ nulls = omega arith in
    let list : (16 * block + place / 4) / 16 ≡ block = omega arith in
    (λ i. row.Region left right (number i) (list i) rlist)

place_back : (r : Row) (place : ℕ) → place < 64 → place_of (key_at r place) ≡ place
place_back (row.Whole block) place l = omega arith
place_back (row.Region left right nulls block rlist) place l = omega arith

place_small : (k : Key) → place_of k < 64
place_small (Whole nulls) = omega arith
place_small (Between left right llist rlist nulls) = omega arith

-- whether two rows are the same
cases_row : (r s : Row) → (r ≡ s) ⊎ (r ≢ s)
cases_row r s = elim (cases_Bool (eq-value.it r s)) [ inl t ↦ inl ((rows_same r s).0 t) | inr f ↦ inr (λ e. true≢false (sym ((rows_same r s).1 e) ∙ f)) ]
  where
    rows_same : (x y : Row) → Decides (eq-value.it x y) (x ≡ y)
    rows_same x y = search rules

pub key_rows : AreRows row_of place_of key_at
key_rows = record { key_back = key_back; row_back = row_back; place_back = place_back; within = place_small; same = cases_row }
