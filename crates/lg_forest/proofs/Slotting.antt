-- How the keys of a table are linked by buckets, and found.
use Rattle.std.proofs.Common.{◌≡◌, ◌≢◌, bit_or, ℕ, zero, suc, ◌+◌, ◌-◌, ◌*◌, ◌%◌, ◌^◌, ◌<◌, ◌≤◌, ◌⊎◌, List, [], ◌∷◌, ◌++◌, length, get_or, set, refl, sym, ◌∙◌, ap, subst, Some, inl, inr, Contains, arith, length-append, length-set}
use Rattle.std.specs.List.{slice_get}
use Rattle.std.proofs.lemmas.Bool.{cases_lt}
use Rattle.std.proofs.lemmas.Nat.{and_mask, pow-add, pow_pos}
use Rattle.std.specs.Int.Bits.{bit_and}
use Rattle.std.proofs.lemmas.List.{get_or-set_same, get_or-set_other}
use Rattle.std.proofs.Math.Seq.{get_or-append_seam, map-set, map-set_same}
use Rattle.std.proofs.lemmas.Option.{get_or_from_slice_get, same_Some, slice_get-get_or, slice_get-map, slice_get_within}
use Rattle.std.specs.Map.{keys_of}
use Rattle.std.specs.Option.{option_map}
use Rattle.std.proofs.lemmas.List.{length-map, map-append}
use Rattle.std.proofs.lemmas.List.Elements.{Contains-append_left, Contains-push, Contains-push_cases}
use Rattle.lg_region.specs.Fronts.{AreOnce}
use Rattle.lg_forest.specs.Slots.{AreLinked, AreSlots, HasBits, IsAt, IsLast, IsPowerOfTwo, SetsBit, keys_in, nexts_in, pairs_in}
use Rattle.lg_forest.specs.declared.slots.Slot.{Slot}
use Rattle.lg_region.proofs.Firsts.{get_end, get_left, push_cases}
use Rattle.lg_region.proofs.Once.{once_append, once_one}
use Rattle.lg_forest.proofs.Once.{contains_at, contains_cases, contains_here, contains_later, contains_map, contains_none, map_at, place_of}

-- the keys from `next` on are others, and the one before it has the bucket of the key
pub record IsSeeking {K : Type 0} (spread : K → ℕ) (count : ℕ) (keys : List K) (key : K) (next : ℕ) : Type 0 where
  pub within : next ≤ length keys
  pub others : (n : ℕ) (k : K) → next ≤ n → slice_get keys n ≡ Some k → k ≢ key
  pub same : (n : ℕ) (k : K) → next ≡ suc n → slice_get keys n ≡ Some k → spread k % count ≡ spread key % count

cases_same : (i j : ℕ) → (i ≡ j) ⊎ (i ≢ j)
cases_same i j = elim (cases_lt i j) [ inl h ↦ inr (omega arith) | inr h ↦ elim (cases_lt j i) [ inl l ↦ inr (omega arith) | inr l ↦ inl (omega arith) ] ]

module _ {K : Type 0} (spread : K → ℕ) where
  -- at first, from the last key of the bucket
  pub seek_from : (count : ℕ) (keys : List K) (key : K) (end from : ℕ) → end ≡ length keys → IsLast spread count keys end (spread key % count) from → IsSeeking spread count keys key from
  seek_from count keys key end from e last = record {
    within = (let w = last.within in omega arith);
    others = λ n k a at q. (let w = slice_get_within keys n k at in last.others n k a (omega arith) at (ap (λ z. spread z % count) q));
    same = last.same;
  }

  -- then, from a key that is another
  pub seek_on : (count : ℕ) (keys : List K) (key k : K) (n from : ℕ) → slice_get keys n ≡ Some k → k ≢ key → IsSeeking spread count keys key (suc n) → IsLast spread count keys n (spread k % count) from → IsSeeking spread count keys key from
  seek_on count keys key k n from at other so last =
      let same : spread k % count ≡ spread key % count = so.same n k refl at in
      let w = slice_get_within keys n k at in
      record {
        within = (let l = last.within in omega arith);
        others = λ m x a r. elim (cases_lt m n) [
          | inl h ↦ (λ q. last.others m x a h r (ap (λ z. spread z % count) q ∙ sym same))
          | inr h ↦ elim (cases_same m n) [
            | inl e ↦ (λ q. other (same_Some k x (sym at ∙ subst (λ z. slice_get keys z ≡ Some x) e r) ∙ q))
            | inr e ↦ so.others m x (omega arith) r
          ]
        ];
        same = λ m x e r. last.same m x e r ∙ same;
      }

  last_here : (count : ℕ) (keys : List K) (n : ℕ) (k : K) → slice_get keys n ≡ Some k → IsLast spread count keys (suc n) (spread k % count) (suc n)
  last_here count keys n k at = record {
    within = omega arith;
    others = λ m x a b r. absurd (omega arith);
    same = λ m x e r. (let q : n ≡ m = omega arith in ap (λ z. spread z % count) (sym (same_Some k x (sym at ∙ subst (λ z. slice_get keys z ≡ Some x) (sym q) r))));
  }

  last_past : (count : ℕ) (keys : List K) (n b from : ℕ) (k : K) → slice_get keys n ≡ Some k → spread k % count ≢ b → IsLast spread count keys n b from → IsLast spread count keys (suc n) b from
  last_past count keys n b from k at other is =
      let w = is.within in
      record {
        within = omega arith;
        others = λ m x a l r. elim (cases_lt m n) [
          | inl h ↦ is.others m x a h r
          | inr h ↦ (let q : m ≡ n = omega arith in λ e. other (ap (λ z. spread z % count) (same_Some k x (sym at ∙ subst (λ z. slice_get keys z ≡ Some x) q r)) ∙ e))
        ];
        same = is.same;
      }

  -- one key more is linked
  pub linked_more : (keys : List K) (n b : ℕ) (k : K) (heads nexts heads' nexts' : List ℕ) → slice_get keys n ≡ Some k → b ≡ spread k % length heads → b < length heads → AreLinked spread keys heads nexts n
      → heads' ≡ set heads b (suc n) → ((m : ℕ) → m < n → get_or nexts' m 0 ≡ get_or nexts m 0) → get_or nexts' n 0 ≡ get_or heads b 0 → AreLinked spread keys heads' nexts' (suc n)
  linked_more keys n b k heads nexts heads' nexts' at e small is f before here =
      let long' : length heads' ≡ length heads = ap (λ z. length z) f ∙ length-set heads b (suc n) in
      record {
        head = λ j l. subst (λ c. IsLast spread c keys (suc n) j (get_or heads' j 0)) (sym long') (elim (cases_same j b) [
          | inl q ↦ subst (λ z. IsLast spread (length heads) keys (suc n) j z) (sym (ap (λ z. get_or z j 0) f ∙ ap (λ z. get_or (set heads b (suc n)) z 0) q ∙ get_or-set_same heads b (suc n) 0 small))
              (subst (λ z. IsLast spread (length heads) keys (suc n) z (suc n)) (sym (q ∙ e)) (last_here (length heads) keys n k at))
          | inr q ↦ subst (λ z. IsLast spread (length heads) keys (suc n) j z) (sym (ap (λ z. get_or z j 0) f ∙ get_or-set_other heads b j (suc n) 0 q))
              (last_past (length heads) keys n j (get_or heads j 0) k at (λ r. q (sym r ∙ sym e)) (is.head j (omega arith)))
        ]);
        next = λ m x l r. subst (λ c. IsLast spread c keys m (spread x % c) (get_or nexts' m 0)) (sym long') (elim (cases_same m n) [
          | inl q ↦ (
              let same : k ≡ x = same_Some k x (sym at ∙ subst (λ z. slice_get keys z ≡ Some x) q r) in
              let c : b ≡ spread x % length heads = e ∙ ap (λ z. spread z % length heads) same in
              subst (λ z. IsLast spread (length heads) keys m (spread x % length heads) z) (sym (ap (λ z. get_or nexts' z 0) q ∙ here))
              (subst (λ z. IsLast spread (length heads) keys z (spread x % length heads) (get_or heads b 0)) (sym q) (subst (λ z. IsLast spread (length heads) keys n z (get_or heads b 0)) c (is.head b small)))
              )
          | inr q ↦ (let l : m < n = omega arith in subst (λ z. IsLast spread (length heads) keys m (spread x % length heads) z) (sym (before m l)) (is.next m x l r))
        ]);
      }

  -- where no key is left, it is not there
  pub not_there : (count : ℕ) (keys : List K) (key : K) (next : ℕ) → next ≡ 0 → IsSeeking spread count keys key next → Contains keys key → ⊥
  not_there count keys key next none so (n, l, e) = so.others n key (omega arith) (slice_get-get_or keys n key l ∙ ap (λ z. Some z) e) refl

  module _ {V : Type 0} (slots : List (Slot K V)) where
    pub long_keys : length (keys_in slots) ≡ length slots
    long_keys = length-map slots (λ s. s.key)

    pub key_at : (n : ℕ) (s : Slot K V) → slice_get slots n ≡ Some s → slice_get (keys_in slots) n ≡ Some s.key
    key_at n s at = slice_get-map (λ s. s.key) slots n ∙ ap (option_map (λ (s : Slot K V). s.key)) at

    -- what stands before a slot in its bucket
    pub next_at : (n : ℕ) (s : Slot K V) → slice_get slots n ≡ Some s → get_or (nexts_in slots) n 0 ≡ s.next
    next_at n s at = get_or_from_slice_get (nexts_in slots) n s.next 0 (slice_get-map (λ s. s.next) slots n ∙ ap (option_map (λ (s : Slot K V). s.next)) at)

    last_at : (heads : List ℕ) (n : ℕ) (s : Slot K V) → AreSlots spread slots heads → slice_get slots n ≡ Some s → IsLast spread (length heads) (keys_in slots) n (spread s.key % length heads) s.next
    last_at heads n s are at =
        subst (λ z. IsLast spread (length heads) (keys_in slots) n (spread s.key % length heads) z) (next_at n s at) (are.linked.next n s.key (slice_get_within slots n s at) (key_at n s at))

    -- the next slot is another
    pub seek_next : (heads : List ℕ) (key : K) (next : ℕ) (s : Slot K V) → AreSlots spread slots heads → 0 < next → slice_get slots (next - 1) ≡ Some s → s.key ≢ key → IsSeeking spread (length heads) (keys_in slots) key next
        → IsSeeking spread (length heads) (keys_in slots) key s.next
    seek_next heads key next s are some at other so =
        let e : next ≡ suc (next - 1) = omega arith in
        seek_on (length heads) (keys_in slots) key s.key (next - 1) s.next (key_at (next - 1) s at) other
        (subst (λ z. IsSeeking spread (length heads) (keys_in slots) key z) e so) (last_at heads (next - 1) s are at)

    pub seek_down : (heads : List ℕ) (next : ℕ) (s : Slot K V) → AreSlots spread slots heads → 0 < next → slice_get slots (next - 1) ≡ Some s → s.next < next
    seek_down heads next s are some at = let l = (last_at heads (next - 1) s are at).within in omega arith

-- a place of a slot
pub at_within : {K V : Type 0} (slots : List (Slot K V)) (key : K) (at : ℕ) → IsAt slots key at → at < length slots
at_within slots key at (s, e, k) = slice_get_within slots at s e

pub read_at : {K V : Type 0} (slots : List (Slot K V)) (at : ℕ) (s : Slot K V) → at < length slots → s ≡ get_or slots at s → slice_get slots at ≡ Some s
read_at slots at s l e = slice_get-get_or slots at s l ∙ ap (λ z. Some z) (sym e)

-- what a contract sees of the keys
pub keys_seen : {K V : Type 0} (slots : List (Slot K V)) → keys_of (pairs_in slots) ≡ keys_in slots
keys_seen [] = refl
keys_seen (s ∷ slots) = ap (λ z. s.key ∷ z) (keys_seen slots)

-- a slot's pair
pub pair_at : {K V : Type 0} (slots : List (Slot K V)) (n : ℕ) (s : Slot K V) → slice_get slots n ≡ Some s → Contains (pairs_in slots) (s.key, s.value)
pair_at {K} {V} slots n s at = contains_at (pairs_in slots) n (s.key, s.value) (slice_get-map (λ s. (s.key, s.value)) slots n ∙ ap (option_map (λ (s : Slot K V). (s.key, s.value))) at)

-- a key with its slot
pub found_at : {K V : Type 0} (slots : List (Slot K V)) (n : ℕ) (s : Slot K V) (key : K) (value : V) → slice_get slots n ≡ Some s → s.key ≡ key → s.value ≡ value → Contains (pairs_in slots) (key, value)
found_at {K} {V} slots n s key value at k v = subst (λ (z : V). Contains (pairs_in slots) (key, z)) v (subst (λ (z : K). Contains (pairs_in slots) (z, s.value)) k (pair_at slots n s at))

-- a key that is not among those before comes last
pub once_more : {K : Type 0} (keys : List K) (key : K) → AreOnce keys → (Contains keys key → ⊥) → AreOnce (keys ++ key ∷ [])
once_more {K} keys key once fresh = once_append keys (key ∷ []) once (once_one key) (λ x has one. elim (contains_cases key [] x one) [ inl e ↦ fresh (subst (λ (z : K). Contains keys z) (sym e) has) | inr none ↦ contains_none x none ])

module _ {K V : Type 0} (spread : K → ℕ) (slots slots' : List (Slot K V)) (heads : List ℕ) where
  -- the same keys with other values
  pub are_same : keys_in slots' ≡ keys_in slots → nexts_in slots' ≡ nexts_in slots → AreSlots spread slots heads → AreSlots spread slots' heads
  are_same same nexts are =
      let long : length slots' ≡ length slots = sym (length-map slots' (λ s. s.key)) ∙ ap (λ z. length z) same ∙ length-map slots (λ s. s.key) in
      record {
        linked = subst (λ z. AreLinked spread z heads (nexts_in slots') (length slots')) (sym same)
            (subst (λ z. AreLinked spread (keys_in slots) heads z (length slots')) (sym nexts) (subst (λ z. AreLinked spread (keys_in slots) heads (nexts_in slots) z) (sym long) are.linked));
        room = (let r = are.room in omega arith);
        power = are.power;
        few = are.few;
        once = subst (λ z. AreOnce z) (sym same) are.once;
      }

-- where a slot is put last, what is before stays linked
module _ {K : Type 0} (spread : K → ℕ) (count : ℕ) (keys : List K) (key : K) where
  last_wider : (end bucket from : ℕ) → end ≤ length keys → IsLast spread count keys end bucket from → IsLast spread count (keys ++ key ∷ []) end bucket from
  last_wider end bucket from l last =
      let w = last.within in
      record {
        within = last.within;
        others = λ n k a b at. elim (push_cases keys key n k at) [ inl h ↦ last.others n k a b h.1 | inr h ↦ (let e = h.0 in absurd (omega arith)) ];
        same = λ n k e at. elim (push_cases keys key n k at) [ inl h ↦ last.same n k e h.1 | inr h ↦ (let q = h.0 in absurd (omega arith)) ];
      }

linked_wider : {K : Type 0} (spread : K → ℕ) (keys : List K) (key : K) (heads nexts : List ℕ) → AreLinked spread keys heads nexts (length keys) → AreLinked spread (keys ++ key ∷ []) heads nexts (length keys)
linked_wider spread keys key heads nexts are = record {
  head = λ b l. last_wider spread (length heads) keys key (length keys) b (get_or heads b 0) (omega arith) (are.head b l);
  next = λ n k l at. elim (push_cases keys key n k at) [
    | inl h ↦ last_wider spread (length heads) keys key n (spread k % length heads) (get_or nexts n 0) (omega arith) (are.next n k l h.1)
    | inr h ↦ (let e = h.0 in absurd (omega arith))
  ];
}

-- a slot is put last
pub are_more : {K V : Type 0} (spread : K → ℕ) (slots slots' : List (Slot K V)) (s : Slot K V) (heads heads' : List ℕ) (n b : ℕ) → slots' ≡ slots ++ s ∷ [] → n ≡ length slots → AreSlots spread slots heads → length slots < length heads
    → (Contains (keys_in slots) s.key → ⊥) → b ≡ spread s.key % length heads → b < length heads → s.next ≡ get_or heads b 0 → heads' ≡ set heads b (suc n) → AreSlots spread slots' heads'
are_more {K} {V} spread slots slots' s heads heads' n b is place are room fresh bucket small next more_heads =
    let keys = keys_in slots in
    let long = length-map slots (λ s. s.key) in
    let long_nexts : length (nexts_in slots) ≡ n = length-map slots (λ s. s.next) ∙ sym place in
    let more : keys_in slots' ≡ keys ++ s.key ∷ [] = ap keys_in is ∙ map-append (λ (s : Slot K V). s.key) slots (s ∷ []) in
    let nexts : nexts_in slots' ≡ nexts_in slots ++ s.next ∷ [] = ap nexts_in is ∙ map-append (λ (s : Slot K V). s.next) slots (s ∷ []) in
    let count' : length slots' ≡ suc n = ap (λ z. length z) is ∙ (let l = length-append slots (s ∷ []) in omega arith) in
    let wider : AreLinked spread (keys ++ s.key ∷ []) heads (nexts_in slots) n =
    subst (λ z. AreLinked spread (keys ++ s.key ∷ []) heads (nexts_in slots) z) (long ∙ sym place) (linked_wider spread keys s.key heads (nexts_in slots) (subst (λ z. AreLinked spread keys heads (nexts_in slots) z) (sym long) are.linked)) in
    let at : slice_get (keys ++ s.key ∷ []) n ≡ Some s.key = subst (λ z. slice_get (keys ++ s.key ∷ []) z ≡ Some s.key) (long ∙ sym place) (get_end keys s.key) in
    let long_heads : length heads' ≡ length heads = ap (λ z. length z) more_heads ∙ length-set heads b (suc n) in
    let few = are.few in
    let before : (m : ℕ) → m < n → get_or (nexts_in slots') m 0 ≡ get_or (nexts_in slots) m 0 =
    λ m l. (let w : m < length (nexts_in slots) = omega arith in ap (λ z. get_or z m 0) nexts ∙ get_or_from_slice_get (nexts_in slots ++ s.next ∷ []) m (get_or (nexts_in slots) m 0) 0
    (get_left (nexts_in slots) (s.next ∷ []) m w ∙ slice_get-get_or (nexts_in slots) m 0 w)) in
    let here : get_or (nexts_in slots') n 0 ≡ get_or heads b 0 = ap (λ z. get_or (nexts_in slots') z 0) (sym long_nexts) ∙ ap (λ z. get_or z (length (nexts_in slots)) 0) nexts ∙ get_or-append_seam (nexts_in slots) s.next [] 0 ∙ next in
    let linked : AreLinked spread (keys ++ s.key ∷ []) heads' (nexts_in slots') (suc n) = linked_more spread (keys ++ s.key ∷ []) n b s.key heads (nexts_in slots) heads' (nexts_in slots') at bucket small wider more_heads before here in
    record {
      linked = subst (λ z. AreLinked spread z heads' (nexts_in slots') (length slots')) (sym more) (subst (λ z. AreLinked spread (keys ++ s.key ∷ []) heads' (nexts_in slots') z) (sym count') linked);
      room = omega arith;
      power = λ some. subst IsPowerOfTwo (sym long_heads) (are.power (λ none. some (long_heads ∙ none)));
      few = omega arith;
      once = subst (λ z. AreOnce z) (sym more) (once_more keys s.key are.once fresh);
    }

-- one slot of many is linked anew: its key and value stay
module _ {K V : Type 0} (slots : List (Slot K V)) (at : ℕ) (s : Slot K V) (next : ℕ) (there : slice_get slots at ≡ Some s) where
  abbrev with_next : Slot K V
  with_next = record { key = s.key; value = s.value; next = next }

  same_at : s ≡ get_or slots at s
  same_at = sym (get_or_from_slice_get slots at s s there)

  pub keys_same : keys_in (set slots at with_next) ≡ keys_in slots
  keys_same = map-set_same (λ (s : Slot K V). s.key) slots at with_next s (ap (λ (s : Slot K V). s.key) same_at)

  pub pairs_same : pairs_in (set slots at with_next) ≡ pairs_in slots
  pairs_same = map-set_same (λ (s : Slot K V). (s.key, s.value)) slots at with_next s (ap (λ (s : Slot K V). (s.key, s.value)) same_at)

  pub linked_next : (spread : K → ℕ) (heads : List ℕ) (b more : ℕ) → more ≡ suc at → b ≡ spread s.key % length heads → b < length heads → next ≡ get_or heads b 0 → AreLinked spread (keys_in slots) heads (nexts_in slots) at
      → AreLinked spread (keys_in (set slots at with_next)) (set heads b more) (nexts_in (set slots at with_next)) more
  linked_next spread heads b more one bucket small is are =
      let w = slice_get_within slots at s there in
      let long = length-map slots (λ s. s.next) in
      let nexts : nexts_in (set slots at with_next) ≡ set (nexts_in slots) at next = map-set (λ (s : Slot K V). s.next) slots at with_next in
      subst (λ z. AreLinked spread (keys_in (set slots at with_next)) (set heads b z) (nexts_in (set slots at with_next)) z) (sym one)
      (subst (λ z. AreLinked spread z (set heads b (suc at)) (nexts_in (set slots at with_next)) (suc at)) (sym keys_same)
      (linked_more spread (keys_in slots) at b s.key heads (nexts_in slots) (set heads b (suc at)) (nexts_in (set slots at with_next)) (key_at spread slots at s there) bucket small are refl
      (λ m l. ap (λ z. get_or z m 0) nexts ∙ get_or-set_other (nexts_in slots) at m next 0 (λ e. (let bad : ⊥ = omega arith in bad)))
      (ap (λ z. get_or z at 0) nexts ∙ get_or-set_same (nexts_in slots) at next 0 (omega arith) ∙ is)))

pub same_long : {K V : Type 0} (xs ys : List (Slot K V)) → pairs_in xs ≡ pairs_in ys → length xs ≡ length ys
same_long {K} {V} xs ys e = sym (length-map xs (λ s. (s.key, s.value))) ∙ ap (λ z. length z) e ∙ length-map ys (λ (s : Slot K V). (s.key, s.value))

-- the bucket of a number
pub masked : (n count : ℕ) → IsPowerOfTwo count → bit_and n (count - 1) ≡ n % count
masked n count (k, e) = ap (λ z. bit_and n (z - 1)) e ∙ and_mask n k ∙ ap (λ z. n % z) (sym e)

pub power_some : (count : ℕ) → IsPowerOfTwo count → 0 < count
power_some count (k, e) = (let some = pow_pos k in omega arith)

pub power_twice : (count : ℕ) → IsPowerOfTwo count → IsPowerOfTwo (2 * count)
power_twice count (k, e) = (k + 1, (let twice : 2 ^ (k + 1) ≡ 2 ^ k * 2 = pow-add 2 k 1 in omega arith))

-- the same pairs, linked by new buckets
pub are_linked : {K V : Type 0} (spread : K → ℕ) (slots slots' : List (Slot K V)) (heads heads' : List ℕ) → pairs_in slots' ≡ pairs_in slots → AreSlots spread slots heads → AreLinked spread (keys_in slots') heads' (nexts_in slots') (length slots')
    → length slots' < length heads' → IsPowerOfTwo (length heads') → length heads' < 2 ^ 32 → AreSlots spread slots' heads'
are_linked spread slots slots' heads heads' same are linked room power few = record {
  linked = linked;
  room = omega arith;
  power = λ some. power;
  few = few;
  once = subst (λ z. AreOnce z) (sym (keys_seen slots) ∙ ap keys_of (sym same) ∙ keys_seen slots') are.once;
}

-- ---- what is in a table after a change

-- a pair that was put last
module _ {K V : Type 0} (pairs : List (K × V)) (key : K) (value : V) where
  pub put_last : (k : K) (v : V) → Contains (pairs ++ (key, value) ∷ []) (k, v) → Contains pairs (k, v) ⊎ ((k ≡ key) × (v ≡ value))
  put_last k v has = elim (Contains-push_cases pairs (key, value) (k, v) has) [ inl h ↦ inl h | inr e ↦ inr (sym (ap (λ (p : K × V). p.0) e), sym (ap (λ (p : K × V). p.1) e)) ]

-- what is in a list after a change at one place
contains_set : {X : Type 0} (xs : List X) (i : ℕ) (y x : X) → Contains (set xs i y) x → Contains xs x ⊎ (y ≡ x)
contains_set [] i y x has = absurd (contains_none x has)
contains_set (z ∷ xs) zero y x has = elim (contains_cases y xs x has) [ inl e ↦ inr e | inr t ↦ inl (contains_later z xs x t) ]
contains_set {X} (z ∷ xs) (suc i) y x has = elim (contains_cases z (set xs i y) x has) [
  | inl e ↦ inl (subst (λ (w : X). Contains (z ∷ xs) w) e (contains_here z xs))
  | inr t ↦ elim (contains_set xs i y x t) [ inl h ↦ inl (contains_later z xs x h) | inr e ↦ inr e ]
]

contains_put : {X : Type 0} (xs : List X) (i : ℕ) (y : X) → i < length xs → Contains (set xs i y) y
contains_put xs i y l = contains_at (set xs i y) i y (slice_get-get_or (set xs i y) i y (let e = length-set xs i y in omega arith) ∙ ap (λ z. Some z) (get_or-set_same xs i y y l))

contains_kept : {X : Type 0} (xs : List X) (i : ℕ) (y x : X) → Contains xs x → (slice_get xs i ≡ Some x → ⊥) → Contains (set xs i y) x
contains_kept [] i y x has other = absurd (contains_none x has)
contains_kept (z ∷ xs) zero y x has other = elim (contains_cases z xs x has) [ inl e ↦ absurd (other (ap (λ w. Some w) e)) | inr t ↦ contains_later y xs x t ]
contains_kept {X} (z ∷ xs) (suc i) y x has other = elim (contains_cases z xs x has) [
  | inl e ↦ subst (λ (w : X). Contains (z ∷ set xs i y) w) e (contains_here z (set xs i y))
  | inr t ↦ contains_later z (set xs i y) x (contains_kept xs i y x t other)
]

-- another value in a slot
module _ {K V : Type 0} (slots : List (Slot K V)) (at : ℕ) (s : Slot K V) (value : V) (there : s ≡ get_or slots at s) where
  abbrev with_value : Slot K V
  with_value = record { key = s.key; value = value; next = s.next }

  abbrev pair_of : Slot K V → K × V
  pair_of s = (s.key, s.value)

  pub same_keys : keys_in (set slots at with_value) ≡ keys_in slots
  same_keys = map-set_same (λ (s : Slot K V). s.key) slots at with_value s (ap (λ (s : Slot K V). s.key) there)

  pub same_nexts : nexts_in (set slots at with_value) ≡ nexts_in slots
  same_nexts = map-set_same (λ (s : Slot K V). s.next) slots at with_value s (ap (λ (s : Slot K V). s.next) there)

  same_slot : (t : Slot K V) → slice_get slots at ≡ Some t → t ≡ s
  same_slot t e = sym (get_or_from_slice_get slots at t s e) ∙ sym there

  pairs_set : pairs_in (set slots at with_value) ≡ set (pairs_in slots) at (s.key, value)
  pairs_set = map-set pair_of slots at with_value

  pub taken_at : (key : K) → IsAt slots key at → Contains (pairs_in slots) (key, s.value)
  taken_at key (t, e, k) = found_at slots at t key s.value e k (ap (λ (s : Slot K V). s.value) (same_slot t e))

  pub put_at : (key k : K) (v : V) → IsAt slots key at → Contains (pairs_in (set slots at with_value)) (k, v) → Contains (pairs_in slots) (k, v) ⊎ ((k ≡ key) × (v ≡ value))
  put_at key k v (t, e, q) has =
      elim (contains_set (pairs_in slots) at (s.key, value) (k, v) (subst (λ z. Contains z (k, v)) pairs_set has)) [
        | inl h ↦ inl h
        | inr p ↦ inr (sym (ap (λ (p : K × V). p.0) p) ∙ ap (λ (s : Slot K V). s.key) (sym (same_slot t e)) ∙ q, sym (ap (λ (p : K × V). p.1) p))
      ]

  pub there_at : (key : K) (v : V) → value ≡ v → IsAt slots key at → Contains (pairs_in (set slots at with_value)) (key, v)
  there_at key v same (t, e, q) =
      let w = slice_get_within slots at t e in
      let long = length-map slots pair_of in
      subst (λ z. Contains z (key, v)) (sym pairs_set)
      (subst (λ (z : V). Contains (set (pairs_in slots) at (s.key, value)) (key, z)) same (subst (λ (z : K). Contains (set (pairs_in slots) at (s.key, value)) (z, value)) (ap (λ (s : Slot K V). s.key) (sym (same_slot t e)) ∙ q) (contains_put (pairs_in slots) at (s.key, value) (omega arith))))

  pub kept_at : (key k : K) (v : V) → IsAt slots key at → (k ≢ key) → Contains (pairs_in slots) (k, v) → Contains (pairs_in (set slots at with_value)) (k, v)
  kept_at key k v (t, e, q) other has =
      let pair : slice_get (pairs_in slots) at ≡ Some (t.key, t.value) = slice_get-map pair_of slots at ∙ ap (option_map pair_of) e in
      subst (λ z. Contains z (k, v)) (sym pairs_set)
      (contains_kept (pairs_in slots) at (s.key, value) (k, v) has (λ is. other (ap (λ (p : K × V). p.0) (same_Some (k, v) (t.key, t.value) (sym is ∙ pair)) ∙ q)))

-- a key has one value
pub only_at : {K V : Type 0} (slots : List (Slot K V)) (at : ℕ) (key : K) (value v : V) → AreOnce (keys_in slots) → IsAt slots key at → Contains (pairs_in slots) (key, value) → Contains (pairs_in slots) (key, v) → v ≡ value
only_at {K} {V} slots at key value v once is has other =
    let f : Slot K V → K × V = λ s. (s.key, s.value) in
    let a = place_of (pairs_in slots) (key, value) has in
    let b = place_of (pairs_in slots) (key, v) other in
    let x = map_at f slots a.0 (key, value) a.1 in
    let y = map_at f slots b.0 (key, v) b.1 in
    let kx = slice_get-map (λ (s : Slot K V). s.key) slots a.0 ∙ ap (option_map (λ (s : Slot K V). s.key)) x.1 ∙ ap (λ (p : K × V). Some p.0) x.2 in
    let ky = slice_get-map (λ (s : Slot K V). s.key) slots b.0 ∙ ap (option_map (λ (s : Slot K V). s.key)) y.1 ∙ ap (λ (p : K × V). Some p.0) y.2 in
    let same : b.0 ≡ a.0 = once b.0 a.0 key ky kx in
    ap (λ (p : K × V). p.1) (same_Some (key, v) (key, value) (sym b.1 ∙ ap (λ z. slice_get (pairs_in slots) z) same ∙ a.1))

-- a key that is not there has no bit
pub no_bits : {K : Type 0} (pairs : List (K × ℕ)) (key : K) → (Contains (keys_of pairs) key → ⊥) → HasBits pairs key 0
no_bits {K} pairs key fresh = record { only = λ b h. absurd (fresh (contains_map (λ (e : K × ℕ). e.0) pairs (key, b) h)); there = λ some. absurd (some refl) }

-- a key is added with one bit
pub bit_added : {K : Type 0} (old : List (K × ℕ)) (key : K) (place value : ℕ) (new : List (K × ℕ)) → value ≡ bit_or 0 (2 ^ place) → (Contains (keys_of old) key → ⊥) → new ≡ old ++ (key, value) ∷ [] → SetsBit old key place new
bit_added {K} old key place value new is fresh added = record {
  bits = 0;
  had = no_bits old key fresh;
  there = subst (λ z. Contains z (key, bit_or 0 (2 ^ place))) (sym added) (subst (λ z. Contains (old ++ (key, value) ∷ []) (key, z)) is (Contains-push old (key, value)));
  put = λ k b h. elim (Contains-push_cases old (key, value) (k, b) (subst (λ z. Contains z (k, b)) added h)) [
    | inl was ↦ inl was
    | inr e ↦ inr (sym (ap (λ (p : K × ℕ). p.0) e), sym (ap (λ (p : K × ℕ). p.1) e) ∙ is)
  ];
  kept = λ k b other h. subst (λ z. Contains z (k, b)) (sym added) (Contains-append_left old ((key, value) ∷ []) (k, b) h);
}
