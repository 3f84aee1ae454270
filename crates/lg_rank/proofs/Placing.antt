-- Rows that hold places alone mean the same when the parts have more values.
use Rattle.std.proofs.Common.{◌≡◌, ℕ, ◌<◌, Bool, true, false, List, get_or, Some, slice_get, refl, sym, ◌∙◌}
use Rattle.std.proofs.lemmas.Option.{get_or_from_slice_get}
use Rattle.lg_rank.specs.Fronts.{Extends}
use Rattle.lg_rank.specs.Merges.{Setting, Row, Ahead, IsRow, Merged, PlaceRow, held, seen_by}
use Rattle.lg_rank.proofs.Growing.{merged_grown, merged_seen}

same_at : {V : Type 0} (xs ys : List V) (i : ℕ) (x d : V) → Extends xs ys → slice_get xs i ≡ Some x → get_or xs i d ≡ get_or ys i d
same_at xs ys i x d more e = get_or_from_slice_get xs i x d e ∙ sym (get_or_from_slice_get ys i x d (more i x e))

same_value : (s : Setting) (lefts rights lefts' rights' made : List s.V) (p i j : ℕ) (y d : s.V) (b : Bool) → Extends lefts lefts' → Extends rights rights' → slice_get rights j ≡ Some y
    → Ahead s lefts made p i y (held b (s.combine p (get_or lefts i d) (get_or rights j d))) → held b (s.combine p (get_or lefts i d) (get_or rights j d)) ≡ held b (s.combine p (get_or lefts' i d) (get_or rights' j d))
same_value s lefts rights lefts' rights' made p i j y d false more_l more_r y_at a = refl
same_value s lefts rights lefts' rights' made p i j y d true more_l more_r y_at a = λ k. Some (s.combine p (same_at lefts lefts' i a.0 d more_l a.1 k) (same_at rights rights' j y d more_r y_at k))

pub same_seen : (s : Setting) (n : ℕ) (lefts rights lefts' rights' : ℕ → List s.V) (made : List s.V) (d : s.V) (r : PlaceRow) → ((p : ℕ) → p < n → Extends (lefts p) (lefts' p)) → ((p : ℕ) → p < n → Extends (rights p) (rights' p))
    → IsRow s n lefts rights made (seen_by s d lefts rights r) → seen_by s d lefts rights r ≡ seen_by s d lefts' rights' r
same_seen s n lefts rights lefts' rights' made d r more_l more_r is =
    let e = same_value s (lefts r.alt) (rights r.alt) (lefts' r.alt) (rights' r.alt) made r.alt r.next r.at is.y d r.live (more_l r.alt is.alt_in) (more_r r.alt is.alt_in) is.y_at is.ahead in
    λ k. record { alt = r.alt; at = r.at; next = r.next; value = e k }

pub merged_placed : (s : Setting) {R : Type 0} (places : R → PlaceRow) (n : ℕ) (lefts rights lefts' rights' : ℕ → List s.V) (made : List s.V) (d : s.V) (rows : List R) → ((p : ℕ) → p < n → Extends (lefts p) (lefts' p)) → ((p : ℕ) → p < n → Extends (rights p) (rights' p))
    → Merged s (λ r. seen_by s d lefts rights (places r)) n lefts rights made rows → Merged s (λ r. seen_by s d lefts' rights' (places r)) n lefts' rights' made rows
merged_placed s {R} places n lefts rights lefts' rights' made d rows more_l more_r m =
    let old : R → Row s.V = λ r. seen_by s d lefts rights (places r) in
    let now : R → Row s.V = λ r. seen_by s d lefts' rights' (places r) in
    merged_seen s old now n lefts' rights' made rows (λ k r at. same_seen s n lefts rights lefts' rights' made d (places r) more_l more_r (m.each k r at))
    (merged_grown s old n lefts rights lefts' rights' made rows more_l more_r m)
