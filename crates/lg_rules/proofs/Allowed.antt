-- Where a link that a choice allows stands.
use Rattle.std.proofs.Common.{◌≡◌, ℕ, suc, zero, ◌<◌, ◌≤◌, List, [], ◌∷◌, length, Option, Some, None, slice_get, get_or, arith, refl, sym, subst, inl, inr, true, false}
use Rattle.std.specs.List.{All}
use Rattle.std.proofs.lemmas.Bool.{cases_lt}
use Rattle.std.proofs.lemmas.List.{get_or_past}
use Rattle.std.proofs.lemmas.List.Elements.{All-contains}
use Rattle.lg_gram.specs.Connectors.{Connector}
use Rattle.lg_gram.specs.Limits.{SIDE}
use Rattle.lg_gram.specs.Rules.{left_list, right_list}
use Rattle.lg_gram.specs.declared.disjunct.Disjunct.{Disjunct}
use Rattle.lg_gram.specs.declared.linkage.Link.{Link}
use Rattle.lg_rules.specs.Places.{IsPlaced, ArePlaced, HasShortSides, linkage_of}
use Rattle.lg_rules.specs.Partners.{FitsChoice, right_at, left_at, CanLink}

-- what `slice_get` finds stands within the list
pub below_if_found : {A : Type 0} (xs : List A) (p : ℕ) (x : A) → slice_get xs p ≡ Some x → p < length xs
below_if_found [] p x h = cc
below_if_found (y ∷ ys) zero x h = omega arith
below_if_found (y ∷ ys) (suc p) x h = let r = below_if_found ys p x h in omega arith

-- and what stands within it is found
pub found_if_below : {A : Type 0} (xs : List A) (p : ℕ) → p < length xs → (x : A) × (slice_get xs p ≡ Some x)
found_if_below [] p h = absurd (omega arith)
found_if_below (x ∷ xs) zero h = (x, refl)
found_if_below (x ∷ xs) (suc p) h = found_if_below xs p (omega arith)

-- only positions have connectors
pub position_if_left : (chosen : List (Option Disjunct)) (i p : ℕ) (c : Connector) → slice_get (left_at chosen i) p ≡ Some c → i < length chosen
position_if_left [] i p c h = cc
position_if_left (x ∷ xs) zero p c h = omega arith
position_if_left (x ∷ xs) (suc i) p c h = let r = position_if_left xs i p c h in omega arith

pub right_within : (chosen : List (Option Disjunct)) (k : Link) → CanLink chosen k → k.right < length chosen
right_within chosen k can = position_if_left chosen k.right k.rplace can.joins.1 can.joins.3

pub lplace_within : (chosen : List (Option Disjunct)) (k : Link) → CanLink chosen k → k.lplace < length (right_at chosen k.left)
lplace_within chosen k can = below_if_found (right_at chosen k.left) k.lplace can.joins.0 can.joins.2

pub rplace_within : (chosen : List (Option Disjunct)) (k : Link) → CanLink chosen k → k.rplace < length (left_at chosen k.right)
rplace_within chosen k can = below_if_found (left_at chosen k.right) k.rplace can.joins.1 can.joins.3

pub is_placed : (chosen : List (Option Disjunct)) (links : List Link) (k : Link) → CanLink chosen k → IsPlaced (linkage_of chosen links) k
is_placed chosen links k can = record {
  forward = can.forward;
  within = right_within chosen k can;
  lplace = lplace_within chosen k can;
  rplace = rplace_within chosen k can;
}

pub are_placed : (chosen : List (Option Disjunct)) (links : List Link) → All (CanLink chosen) links → ArePlaced (linkage_of chosen links)
are_placed chosen links can k m = is_placed chosen links k (All-contains (CanLink chosen) links k can m)

-- a side has few connectors
few_in_right : (o : Option Disjunct) → FitsChoice o → length (right_list o) ≤ SIDE
few_in_right None h = omega arith
few_in_right (Some d) h = h.right

few_in_left : (o : Option Disjunct) → FitsChoice o → length (left_list o) ≤ SIDE
few_in_left None h = omega arith
few_in_left (Some d) h = h.left

fits_at : (chosen : List (Option Disjunct)) (i : ℕ) → All FitsChoice chosen → FitsChoice (get_or chosen i None)
fits_at chosen i fit =
    elim (cases_lt i (length chosen)) [
      | inl within ↦ fit i None within
      | inr past ↦ subst FitsChoice (sym (get_or_past chosen i None past)) tt
    ]

pub short_sides : (chosen : List (Option Disjunct)) (links : List Link) → All FitsChoice chosen → HasShortSides (linkage_of chosen links)
short_sides chosen links fit true i = few_in_right (get_or chosen i None) (fits_at chosen i fit)
short_sides chosen links fit false i = few_in_left (get_or chosen i None) (fits_at chosen i fit)
