-- The entries of a stored tally.
use Rattle.std.proofs.Common.{◌≡◌, ◌≢◌, Some, ℕ, Bool, true, false, List, [], ◌∷◌, Vec, Less, if◌then◌else◌, refl, sym, ap, ◌∙◌, nat_lt, length, arith}
use Rattle.std.specs.List.{AllByRecursion}
use Rattle.std.specs.List.Sorted.{IsStrictlySortedBy}
use Rattle.std.specs.Map.{keys_of}
use Rattle.std.specs.Ordering.{nat_cmp}
use Rattle.std.specs.Cmp.Lexicographic.{slice_cmp, nat_list_cmp_total}
use Rattle.std.specs.FinMap.{get, entries, insert, remove, empty, get-remove, entries-insert, len-empty, len-entries}
use Rattle.std.specs.FinMap.Entries.{put, by_order}
use Rattle.std.proofs.lemmas.Map.Keys.{sorted_head, sorted_tail}
use Rattle.std.proofs.lemmas.Map.Text.{is_eq-slice_cmp}
use Rattle.std.proofs.lemmas.Slice.Eq.{bytes_eq-Decides}
use Rattle.lg_usage.specs.Totals.{Tally, count_in}
use Rattle.lg_usage.specs.Stored.{tally_of}
use Rattle.lg_usage.proofs.Tallies.{same_tally, counted, none_zero, no_zero_more}
use Rattle.lg_usage.proofs.Places.{byte_cmp, sum_is, none_above}

no_entries : {X : Type 0} (xs : List X) → length xs ≡ 0 → xs ≡ []
no_entries [] e = refl
no_entries (x ∷ xs) e = absurd (omega arith)

-- to take out what is not counted changes nothing
removed : (k : List ℕ) (t : Tally) → ((text : List ℕ) → get t text ≢ Some 0) → ((text : List ℕ) → get (remove t k) text ≢ Some 0) → count_in t k ≡ 0 → remove t k ≡ t
removed k t some some' none = same_tally (remove t k) t some' some
    (λ text. grind (arith, get-remove nat_list_cmp_total t k text, bytes_eq-Decides text k, is_eq-slice_cmp text k, none))

module _ {A : Type 0} where
  -- the entries whose number is above 0, by the bytes of their texts
  abbrev pub counted_of : List (Vec ℕ A × ℕ) → List (List ℕ × ℕ)
  counted_of [] = []
  counted_of (e ∷ es) = if nat_lt 0 e.1 then (e.0.items, e.1) ∷ counted_of es else counted_of es

  -- what is below all others goes in front
  put_below : (es : List (Vec ℕ A × ℕ)) (k : Vec ℕ A) (v : ℕ) → AllByRecursion (λ (y : Vec ℕ A). byte_cmp k y ≡ Less) (keys_of es)
      → put (slice_cmp nat_cmp) k.items v (counted_of es) ≡ (k.items, v) ∷ counted_of es
  put_below [] k v above = refl
  put_below (e ∷ es) k v above =
      elim (nat_lt 0 e.1) as (λ b. put (slice_cmp nat_cmp) k.items v (if b then (e.0.items, e.1) ∷ counted_of es else counted_of es) ≡ (k.items, v) ∷ (if b then (e.0.items, e.1) ∷ counted_of es else counted_of es)) [
        | true ↦ ap (λ o. by_order o ((k.items, v) ∷ (e.0.items, e.1) ∷ counted_of es) ((e.0.items, v) ∷ counted_of es) ((e.0.items, e.1) ∷ put (slice_cmp nat_cmp) k.items v (counted_of es))) above.0
        | false ↦ put_below es k v above.1
      ]

  one_entry : (b : Bool) (e : Vec ℕ A × ℕ) (es : List (Vec ℕ A × ℕ)) → nat_lt 0 e.1 ≡ b → IsStrictlySortedBy byte_cmp (keys_of (e ∷ es)) → entries (tally_of es) ≡ counted_of es
      → entries (if b then insert (tally_of es) e.0.items e.1 else remove (tally_of es) e.0.items) ≡ (if b then (e.0.items, e.1) ∷ counted_of es else counted_of es)
  one_entry true e es is rises rest =
      entries-insert nat_list_cmp_total (tally_of es) e.0.items e.1 ∙ ap (put (slice_cmp nat_cmp) e.0.items e.1) rest ∙ put_below es e.0 e.1 (sorted_head byte_cmp e.0 (keys_of es) rises)
  one_entry false e es is rises rest =
      let none : count_in (tally_of es) e.0.items ≡ 0 = counted es e.0.items ∙ sym (sum_is es e.0.items (sorted_tail byte_cmp e.0 (keys_of es) rises)) ∙ none_above es e.0 e.0.items refl (sorted_head byte_cmp e.0 (keys_of es) rises) in
      ap entries (removed e.0.items (tally_of es) (none_zero es) (no_zero_more false e (tally_of es) is (none_zero es)) none) ∙ rest

  -- where the texts rise, the tally has the entries whose number is above 0
  pub entries_are : (es : List (Vec ℕ A × ℕ)) → IsStrictlySortedBy byte_cmp (keys_of es) → entries (tally_of es) ≡ counted_of es
  entries_are [] rises = no_entries (entries (empty {R = slice_cmp nat_cmp})) (sym (len-entries _) ∙ len-empty (slice_cmp nat_cmp) ℕ)
  entries_are (e ∷ es) rises = one_entry (nat_lt 0 e.1) e es refl rises (entries_are es (sorted_tail byte_cmp e.0 (keys_of es) rises))
