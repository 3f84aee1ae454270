-- What a good linkage has, each prune finds.
use Rattle.std.proofs.Common.{◌≡◌, ℕ, suc, zero, ◌<◌, ◌≤◌, ◌+◌, List, [], ◌∷◌, ◌++◌, length, get_or, refl, sym, ap, ◌∙◌, subst, length-append, append_assoc, Option, Some, None, arith, slice_get}
use Rattle.std.specs.List.{All, AllZip, Any, Contains}
use Rattle.std.proofs.lemmas.List.{get_or_default}
use Rattle.std.proofs.lemmas.Option.{slice_get-get_or}
use Rattle.lg_gram.specs.Connectors.{Connector, Match}
use Rattle.lg_gram.specs.Linkages.{Linkage}
use Rattle.lg_gram.specs.Rules.{right_list}
use Rattle.lg_gram.specs.declared.disjunct.Disjunct.{Disjunct}
use Rattle.lg_gram.specs.declared.linkage.Link.{Link}
use Rattle.lg_rules.specs.Partners.{right_at, left_at, CanLink}
use Rattle.lg_rules.specs.Prunes.{HasPartner, CanStand, AllReached}
use Rattle.lg_rules.specs.Steps.{IsSoundWith, IsPick, GoesOn}
use Rattle.lg_rules.proofs.Completing.{has_right_of, has_left_of}
use Rattle.lg_rules.proofs.Allowed.{found_if_below, right_within}

-- the choice allows each link of a sound linkage
pub sound_can : (chosen : List (Option Disjunct)) (g : Linkage) → IsSoundWith chosen g → (k : Link) → Contains g.links k → CanLink chosen k
sound_can chosen g with k m =
    subst (λ c. CanLink c k) with.same (record { forward = with.sound.rules.matched.forward k m; joins = with.sound.rules.matched.joins k m })

-- each connector of a sound linkage has a link
module _ (chosen : List (Option Disjunct)) (g : Linkage) (with : IsSoundWith chosen g) where
  right_link : (i p : ℕ) → p < length (right_at chosen i) → (k : Link) × Contains g.links k × (k.left ≡ i) × (k.lplace ≡ p)
  right_link i p below =
      let c = found_if_below (right_at chosen i) p below in
      (with.sound.rules.satisfied.on_right i p c.0 (subst (λ o. slice_get (right_at o i) p ≡ Some c.0) (sym with.same) c.1)).some

  left_link : (j q : ℕ) → q < length (left_at chosen j) → (k : Link) × Contains g.links k × (k.right ≡ j) × (k.rplace ≡ q)
  left_link j q below =
      let c = found_if_below (left_at chosen j) q below in
      (with.sound.rules.satisfied.on_left j q c.0 (subst (λ o. slice_get (left_at o j) q ≡ Some c.0) (sym with.same) c.1)).some

  -- what is joined at a place of a side has a word between it and the position for each earlier place
  right_far : (i p : ℕ) → p < length (right_at chosen i) → (k : Link) → Contains g.links k → k.left ≡ i → k.lplace ≡ p → i + p < k.right
  right_far i zero below k has at place = let f = with.sound.rules.matched.forward k has in omega arith
  right_far i (suc p) below k has at place =
      let m = right_link i p (omega arith) in
      let h = right_far i p (omega arith) m.0 m.1 m.2 m.3 in
      let f = with.sound.rules.ordered.on_right m.0 k m.1 has (m.2 ∙ sym at) (omega (arith, m.3, place)) in
      omega arith

  left_far : (j q : ℕ) → q < length (left_at chosen j) → (k : Link) → Contains g.links k → k.right ≡ j → k.rplace ≡ q → k.left + q < j
  left_far j zero below k has at place = let f = with.sound.rules.matched.forward k has in omega arith
  left_far j (suc q) below k has at place =
      let m = left_link j q (omega arith) in
      let h = left_far j q (omega arith) m.0 m.1 m.2 m.3 in
      let f = with.sound.rules.ordered.on_left m.0 k m.1 has (m.2 ∙ sym at) (omega (arith, m.3, place)) in
      omega arith

  -- so a side is no longer than there are positions on it
  right_room : (i : ℕ) → i < length chosen → (n : ℕ) → n ≤ length (right_at chosen i) → n + i < length chosen
  right_room i within zero h = omega (arith, within)
  right_room i within (suc n) h =
      let m = right_link i n (omega arith) in
      let far = right_far i n (omega arith) m.0 m.1 m.2 m.3 in
      let last = right_within chosen m.0 (sound_can chosen g with m.0 m.1) in
      omega arith

  left_room : (j n : ℕ) → n ≤ length (left_at chosen j) → n ≤ j
  left_room j zero h = omega arith
  left_room j (suc n) h =
      let m = left_link j n (omega arith) in
      let far = left_far j n (omega arith) m.0 m.1 m.2 m.3 in
      omega arith

pub sound_reached : (chosen : List (Option Disjunct)) (candidates : List Link) → ((k : Link) → CanLink chosen k → Contains candidates k) → (g : Linkage) → IsSoundWith chosen g → AllReached chosen candidates
sound_reached chosen candidates every g with = record {
  on_right = λ i p _ below.
      let k = right_link chosen g with i p below in
      has_right_of candidates i p k.0 (every k.0 (sound_can chosen g with k.0 k.1)) k.2 k.3;
  on_left = λ i p _ below.
      let k = left_link chosen g with i p below in
      has_left_of candidates i p k.0 (every k.0 (sound_can chosen g with k.0 k.1)) k.2 k.3;
}

left_here : (xs : List (Option Disjunct)) (d : Disjunct) (ds : List (Option Disjunct)) → left_at (xs ++ Some d ∷ ds) (length xs) ≡ d.left
left_here [] d ds = refl
left_here (x ∷ xs) d ds = left_here xs d ds

right_here : (xs : List (Option Disjunct)) (d : Disjunct) (ds : List (Option Disjunct)) → right_at (xs ++ Some d ∷ ds) (length xs) ≡ d.right
right_here [] d ds = refl
right_here (x ∷ xs) d ds = right_here xs d ds

right_before : (xs ys : List (Option Disjunct)) (i : ℕ) → i < length xs → right_at (xs ++ ys) i ≡ right_list (get_or xs i None)
right_before [] ys i h = absurd (omega arith)
right_before (x ∷ xs) ys zero h = refl
right_before (x ∷ xs) ys (suc i) h = right_before xs ys i (omega arith)

same_some : (b c : Connector) → Some b ≡ Some c → b ≡ c
same_some b c h = cc

any_of_found : (P : Connector → Type 0) (cs : List Connector) (p : ℕ) (c : Connector) → slice_get cs p ≡ Some c → P c → Any P cs
any_of_found P [] p c e h = cc
any_of_found P (x ∷ xs) zero c e h = (0, x, omega arith, refl, subst P (sym (same_some x c e)) h)
any_of_found P (x ∷ xs) (suc p) c e h = let r = any_of_found P xs p c e h in (suc r.0, r.1, omega (arith, r.2), r.3, r.4)

module _ (chosen : List (Option Disjunct)) (d : Disjunct) (ds : List (Option Disjunct)) (g : Linkage) (with : IsSoundWith (chosen ++ Some d ∷ ds) g) where
  partner_by : (p : ℕ) (c : Connector) → slice_get d.left p ≡ Some c → (k : Link) → Contains g.links k → k.right ≡ length chosen → k.rplace ≡ p → HasPartner chosen c
  unfolding HasPartner
  partner_by p c h k m at_right at_place =
      let can = sound_can (chosen ++ Some d ∷ ds) g with k m in
      let a = can.joins.0 in
      let low : k.left < length chosen = let f = can.forward in omega arith in
      let here : slice_get (left_at (chosen ++ Some d ∷ ds) k.right) k.rplace ≡ Some c = rw (at_right, at_place, left_here chosen d ds) h in
      let same = same_some can.joins.1 c (sym can.joins.3 ∙ here) in
      let o = get_or chosen k.left None in
      let found : slice_get (right_list o) k.lplace ≡ Some a = rw (right_before chosen (Some d ∷ ds) k.left low) at can.joins.2 in
      (k.left, o, low, get_or_default chosen k.left o None low, any_of_found (λ z. Match z c) (right_list o) k.lplace a found (subst (λ z. Match a z) same can.joins.4))

  partners_if_sound : All (HasPartner chosen) d.left
  partners_if_sound p e below =
      let c = get_or d.left p e in
      let here : slice_get d.left p ≡ Some c = slice_get-get_or d.left p e below in
      let there : slice_get (left_at g.chosen (length chosen)) p ≡ Some c = subst (λ o. slice_get (left_at o (length chosen)) p ≡ Some c) (sym with.same) (rw (left_here chosen d ds) here) in
      let k = (with.sound.rules.satisfied.on_left (length chosen) p c there).some in
      partner_by p c here k.0 k.1 k.2 k.3

as_many : (rows : List (List Disjunct)) (more : List (Option Disjunct)) → AllZip IsPick rows more → length more ≡ length rows
as_many [] [] z = refl
as_many [] (o ∷ os) z = absurd z
as_many (row ∷ rows) [] z = absurd z
as_many (row ∷ rows) (o ∷ os) z = let e = as_many rows os z.1 in omega arith

pub goes_on_stands : (chosen : List (Option Disjunct)) (d : Disjunct) (rows : List (List Disjunct)) (spare : ℕ) (g : Linkage) → GoesOn (chosen ++ Some d ∷ []) rows spare g → CanStand chosen (length rows) d
unfolding GoesOn
goes_on_stands chosen d rows spare g q =
    let all = chosen ++ Some d ∷ q.0 in
    let with = subst (λ c. IsSoundWith c g) (append_assoc chosen (Some d ∷ []) q.0) q.3 in
    let long = length-append chosen (Some d ∷ q.0) in
    let rows_long = as_many rows q.0 q.1 in
    let left = ap (λ (cs : List Connector). length cs) (left_here chosen d q.0) in
    let right = ap (λ (cs : List Connector). length cs) (right_here chosen d q.0) in
    let room = right_room all g with (length chosen) (omega arith) (length d.right) (omega arith) in
    record {
      on_left = left_room all g with (length chosen) (length d.left) (omega arith);
      on_right = omega arith;
      partners = partners_if_sound chosen d q.0 g with;
    }
