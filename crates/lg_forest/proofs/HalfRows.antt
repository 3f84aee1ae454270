-- The rows of halves.
use Rattle.std.proofs.Common.{◌≡◌, ◌≢◌, ℕ, ◌+◌, ◌*◌, ◌/◌, ◌%◌, ◌<◌, ◌⊎◌, inl, inr, true≢false, sym, ◌∙◌, arith, rules}
use Rattle.std.proofs.lemmas.Bool.{cases_Bool}
use Rattle.std.specs.Bool.{Decides}
use Rattle.lg_forest.specs.HalfRows.{half_at, half_place, half_row}
use Rattle.lg_forest.specs.KeySets.{AreRows}
use Rattle.lg_forest.specs.declared.halves.Half.{Half}
use Rattle.lg_forest.specs.declared.half_set.HalfRow.{HalfRow}
use Rattle.lg_forest.specs.contracts.half_set.HalfRowPartialEq.TheImpl.{eq-value}

half_back : (h : Half) → half_at (half_row h) (half_place h) ≡ h
half_back h =
    let list : 16 * (h.rlist / 16) + (h.rlist % 16 * 4 + h.nulls % 4) / 4 ≡ h.rlist = omega arith in
    let number : 4 * (h.nulls / 4) + (h.rlist % 16 * 4 + h.nulls % 4) % 4 ≡ h.nulls = omega arith in
    (λ i. record h { nulls = number i; rlist = list i })

row_back : (r : HalfRow) (place : ℕ) → place < 64 → half_row (half_at r place) ≡ r
row_back r place l =
    let number : (4 * r.nulls + place % 4) / 4 ≡ r.nulls = omega arith in
    let list : (16 * r.block + place / 4) / 16 ≡ r.block = omega arith in
    (λ i. record r { nulls = number i; block = list i })

place_back : (r : HalfRow) (place : ℕ) → place < 64 → half_place (half_at r place) ≡ place
place_back r place l = omega arith

place_small : (h : Half) → half_place h < 64
place_small h = omega arith

-- whether two rows are the same
cases_row : (r s : HalfRow) → (r ≡ s) ⊎ (r ≢ s)
cases_row r s = elim (cases_Bool (eq-value.it r s)) [ inl t ↦ inl ((rows_same r s).0 t) | inr f ↦ inr (λ e. true≢false (sym ((rows_same r s).1 e) ∙ f)) ]
  where
    rows_same : (x y : HalfRow) → Decides (eq-value.it x y) (x ≡ y)
    rows_same x y = search rules

pub half_rows : AreRows half_row half_place half_at
half_rows = record { key_back = half_back; row_back = row_back; place_back = place_back; within = place_small; same = cases_row }
