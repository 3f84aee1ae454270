-- What is among the keys without a linkage.
use Rattle.std.proofs.Common.{◌≡◌, ◌≢◌, ◌↔◌, ℕ, suc, ◌+◌, ◌*◌, ◌/◌, ◌%◌, ◌<◌, ◌≤◌, ◌⊎◌, inl, inr, true≢false, List, [], ◌∷◌, ◌++◌, length, map, Some, get_or, OnErr, OnOk, refl, sym, ap, ◌∙◌, subst, Contains, arith, rules, length-append}
use Rattle.std.specs.List.{slice_get}
use Rattle.std.specs.declared.result.Result.{Result}
use Rattle.std.specs.declared.result.Result.TheVariants.{Ok, Err}
use Rattle.std.specs.Bool.{Decides}
use Rattle.std.proofs.lemmas.Bool.{cases_Bool}
use Rattle.std.proofs.lemmas.List.{get_or_append_left, length-map}
use Rattle.std.proofs.lemmas.List.Elements.{Contains-append_cases, Contains-append_left}
use Rattle.std.proofs.lemmas.Option.{slice_get_within, get_or_from_slice_get, slice_get-get_or}
use Rattle.lg_region.specs.Fronts.{AreOnce}
use Rattle.lg_region.specs.Ways.{KeepsFront}
use Rattle.lg_region.specs.declared.key.Key.{Key}
use Rattle.lg_region.specs.declared.key.Key.TheVariants.{Whole, Region as Between}
use Rattle.lg_region.proofs.Once.{once_append}
use Rattle.lg_forest.specs.NearKeys.{AreDead, IsNear, dead_keys, end_at, key_in, key_of, near_at, near_place, near_row, placed}
use Rattle.lg_forest.specs.KeySets.{AreRows}
use Rattle.lg_forest.specs.declared.dead.Near.{Near}
use Rattle.lg_forest.specs.declared.dead.NearKey.{NearKey}
use Rattle.lg_forest.specs.declared.dead.NearRow.{NearRow}
use Rattle.lg_forest.specs.declared.right_ends.RightEnd.{RightEnd}
use Rattle.lg_forest.specs.contracts.dead.NearRowPartialEq.TheImpl.{eq-value}
use Rattle.lg_forest.proofs.Once.{contains_at, contains_here, contains_later, contains_map, in_append_right, map_at, map_found}

-- ---- the rows

near_back : (k : NearKey) → near_at (near_row k) (near_place k) ≡ k
near_back k =
    let place : 64 * (k.end / 64) + k.end % 64 ≡ k.end = omega arith in
    (λ i. record k { end = place i })

row_back : (r : NearRow) (place : ℕ) → place < 64 → near_row (near_at r place) ≡ r
row_back r place l =
    let block : (64 * r.block + place) / 64 ≡ r.block = omega arith in
    (λ i. record r { block = block i })

place_back : (r : NearRow) (place : ℕ) → place < 64 → near_place (near_at r place) ≡ place
place_back r place l = omega arith

place_small : (k : NearKey) → near_place k < 64
place_small k = omega arith

-- whether two rows are the same
cases_row : (r s : NearRow) → (r ≡ s) ⊎ (r ≢ s)
cases_row r s = elim (cases_Bool (eq-value.it r s)) [ inl t ↦ inl ((rows_same r s).0 t) | inr f ↦ inr (λ e. true≢false (sym ((rows_same r s).1 e) ∙ f)) ]
  where
    rows_same : (x y : NearRow) → Decides (eq-value.it x y) (x ≡ y)
    rows_same x y = search rules

pub near_rows : AreRows near_row near_place near_at
near_rows = record { key_back = near_back; row_back = row_back; place_back = place_back; within = place_small; same = cases_row }

-- ---- the keys of places

abbrev no_end : RightEnd
no_end = record { word = 0; list = 0 }

-- what a key has
abbrev left_in : Key → ℕ
left_in (Whole nulls) = 0
left_in (Between left right llist rlist nulls) = left

abbrev right_in : Key → ℕ
right_in (Whole nulls) = 0
right_in (Between left right llist rlist nulls) = right

abbrev llist_in : Key → ℕ
llist_in (Whole nulls) = 0
llist_in (Between left right llist rlist nulls) = llist

abbrev rlist_in : Key → ℕ
rlist_in (Whole nulls) = 0
rlist_in (Between left right llist rlist nulls) = rlist

abbrev nulls_in : Key → ℕ
nulls_in (Whole nulls) = 0
nulls_in (Between left right llist rlist nulls) = nulls

-- the key of a place is that of a near key: so are its parts
end_same : (ends : List RightEnd) (k : NearKey) (near : Near) → key_in ends k ≡ key_of near → end_at ends k.end ≡ near.end
end_same ends k near e = λ i. record { word = ap right_in e i; list = ap rlist_in e i }

rest_same : (ends : List RightEnd) (k : NearKey) (near : Near) (place : ℕ) → key_in ends k ≡ key_of near → k.end ≡ place → k ≡ placed near place
rest_same ends k near place e same = λ i. record { left = ap left_in e i; nulls = ap nulls_in e i; llist = ap llist_in e i; end = same i }

-- a place within has its end
end_there : (ends : List RightEnd) (place : ℕ) → place < length ends → slice_get ends place ≡ Some (end_at ends place)
end_there ends place l = slice_get-get_or ends place no_end l

placed_key : (ends : List RightEnd) (near : Near) (place : ℕ) → slice_get ends place ≡ Some near.end → key_in ends (placed near place) ≡ key_of near
placed_key ends near place at =
    let e : end_at ends place ≡ near.end = get_or_from_slice_get ends place near.end no_end at in
    (λ i. Between near.left (e i).word near.llist (e i).list near.nulls)

-- a near key among those of places
module _ (ends : List RightEnd) (keys : List NearKey) (near : Near) where
  near_there : (place : ℕ) → slice_get ends place ≡ Some near.end → Contains keys (placed near place) → Contains (map (key_in ends) keys) (key_of near)
  near_there place at has = subst (Contains (map (key_in ends) keys)) (placed_key ends near place at) (contains_map (key_in ends) keys (placed near place) has)

  module _ (within : (k : NearKey) → Contains keys k → k.end < length ends) where
    near_found : AreOnce ends → (place : ℕ) → slice_get ends place ≡ Some near.end → Contains (map (key_in ends) keys) (key_of near) → Contains keys (placed near place)
    near_found once place at has =
        let x = map_found (key_in ends) keys (key_of near) has in
        let same : x.0.end ≡ place = once x.0.end place near.end (end_there ends x.0.end (within x.0 x.1) ∙ ap Some (end_same ends x.0 near x.2)) at in
        subst (Contains keys) (rest_same ends x.0 near place x.2 same) x.1

    near_none : (Contains ends near.end → ⊥) → Contains (map (key_in ends) keys) (key_of near) → ⊥
    near_none none has =
        let x = map_found (key_in ends) keys (key_of near) has in
        none (contains_at ends x.0.end near.end (end_there ends x.0.end (within x.0 x.1) ∙ ap Some (end_same ends x.0 near x.2)))

-- ---- more ends

map_same : {X Y : Type 0} (f g : X → Y) (xs : List X) → ((x : X) → Contains xs x → f x ≡ g x) → map f xs ≡ map g xs
map_same f g [] same = refl
map_same f g (x ∷ xs) same = λ i. same x (contains_here x xs) i ∷ map_same f g xs (λ y h. same y (contains_later x xs y h)) i

key_kept : (ends ends' : List RightEnd) → KeepsFront ends ends' → (k : NearKey) → k.end < length ends → key_in ends' k ≡ key_in ends k
key_kept ends ends' keeps k l =
    let e : end_at ends' k.end ≡ end_at ends k.end = ap (λ z. end_at z k.end) keeps.added ∙ get_or_append_left ends keeps.more no_end k.end l in
    (λ i. Between k.left (e i).word k.llist (e i).list k.nulls)

keys_kept : (ends ends' : List RightEnd) (keys : List NearKey) → KeepsFront ends ends' → ((k : NearKey) → Contains keys k → k.end < length ends) → map (key_in ends') keys ≡ map (key_in ends) keys
keys_kept ends ends' keys keeps within = map_same (key_in ends') (key_in ends) keys (λ k has. key_kept ends ends' keeps k (within k has))

pub dead_kept : (ends ends' : List RightEnd) (near : List NearKey) (others : List Key) → KeepsFront ends ends' → AreDead ends near others → dead_keys ends' near others ≡ dead_keys ends near others
dead_kept ends ends' near others keeps are = ap (λ z. z ++ others) (keys_kept ends ends' near keeps are.within)

longer_ends : (ends ends' : List RightEnd) → KeepsFront ends ends' → length ends ≤ length ends'
longer_ends ends ends' keeps =
    let long = ap length keeps.added in
    let both = length-append ends keeps.more in
    omega arith

are_kept : (ends ends' : List RightEnd) (near : List NearKey) (others : List Key) → KeepsFront ends ends' → AreDead ends near others → AreDead ends' near others
are_kept ends ends' near others keeps are =
    let more = longer_ends ends ends' keeps in
    record {
      within = λ k has. let l = are.within k has in omega arith;
      near = λ k has. subst IsNear (sym (key_kept ends ends' keeps k (are.within k has))) (are.near k has);
      far = are.far;
    }

-- ---- what is there

pub far_key : (ends : List RightEnd) (near : List NearKey) (others : List Key) (k : Key) → AreDead ends near others → (IsNear k → ⊥) → Contains (dead_keys ends near others) k ↔ Contains others k
far_key ends near others k are far = (
  λ has. elim (Contains-append_cases (map (key_in ends) near) others k has) [
    | inl here ↦ (let x = map_found (key_in ends) near k here in absurd (far (subst IsNear x.2 (are.near x.0 x.1))))
    | inr there ↦ there
  ],
  λ has. in_append_right (map (key_in ends) near) others k has,
)

near_key : (ends : List RightEnd) (keys : List NearKey) (others : List Key) (near : Near) → AreDead ends keys others → IsNear (key_of near) → Contains (dead_keys ends keys others) (key_of near) ↔ Contains (map (key_in ends) keys) (key_of near)
near_key ends keys others near are is = (
  λ has. elim (Contains-append_cases (map (key_in ends) keys) others (key_of near) has) [ inl here ↦ here | inr there ↦ absurd (are.far (key_of near) there is) ],
  λ has. Contains-append_left (map (key_in ends) keys) others (key_of near) has,
)

-- where its right end has a place
pub placed_dead : (ends : List RightEnd) (keys : List NearKey) (others : List Key) (near : Near) (place : ℕ) → AreDead ends keys others → AreOnce ends → IsNear (key_of near) → slice_get ends place ≡ Some near.end
    → Contains (dead_keys ends keys others) (key_of near) ↔ Contains keys (placed near place)
placed_dead ends keys others near place are once is at = (
  λ has. near_found ends keys near are.within once place at ((near_key ends keys others near are is).0 has),
  λ has. (near_key ends keys others near are is).1 (near_there ends keys near place at has),
)

-- where it has none
pub unplaced_dead : (ends : List RightEnd) (keys : List NearKey) (others : List Key) (near : Near) → AreDead ends keys others → IsNear (key_of near) → (Contains ends near.end → ⊥) → Contains (dead_keys ends keys others) (key_of near) → ⊥
unplaced_dead ends keys others near are is none has = near_none ends keys near are.within none ((near_key ends keys others near are is).0 has)

-- ---- one more

-- what holds of each key of a list that has one more
one_more : {K : Type 0} (P : K → Type 0) (old new : List K) (key : K) → ((k : K) → Contains new k ↔ (Contains old k ⊎ (k ≡ key))) → ((k : K) → Contains old k → P k) → P key → (k : K) → Contains new k → P k
one_more P old new key added each here k has = elim ((added k).0 has) [ inl was ↦ each k was | inr e ↦ subst P (sym e) here ]

module _ (ends ends' : List RightEnd) (keys keys' : List NearKey) (others : List Key) (near : Near) (place : ℕ) (keeps : KeepsFront ends ends') (are : AreDead ends keys others) (is : IsNear (key_of near)) (at : slice_get ends' place ≡ Some near.end) where
  near_added : ((k : NearKey) → Contains keys' k ↔ (Contains keys k ⊎ (k ≡ placed near place))) → AreDead ends' keys' others
  near_added added =
      let kept = are_kept ends ends' keys others keeps are in
      record {
        within = one_more (λ k. k.end < length ends') keys keys' (placed near place) added kept.within (slice_get_within ends' place near.end at);
        near = one_more (λ k. IsNear (key_in ends' k)) keys keys' (placed near place) added kept.near (subst IsNear (sym (placed_key ends' near place at)) is);
        far = are.far;
      }

  pub near_more : ((k : NearKey) → Contains keys' k ↔ (Contains keys k ⊎ (k ≡ placed near place))) → (k : Key) → Contains (dead_keys ends' keys' others) k ↔ (Contains (dead_keys ends keys others) k ⊎ (k ≡ key_of near))
  near_more added k = (
    λ has. elim (Contains-append_cases (map (key_in ends') keys') others k has) [
      | inl here ↦ (
          let x = map_found (key_in ends') keys' k here in
          elim ((added x.0).0 x.1) [
            | inl was ↦ inl (Contains-append_left (map (key_in ends) keys) others k
                (subst (Contains (map (key_in ends) keys)) (sym (key_kept ends ends' keeps x.0 (are.within x.0 was)) ∙ x.2) (contains_map (key_in ends) keys x.0 was)))
            | inr e ↦ inr (sym x.2 ∙ ap (key_in ends') e ∙ placed_key ends' near place at)
          ]
          )
      | inr there ↦ inl (in_append_right (map (key_in ends) keys) others k there)
    ],
    λ has. elim has [
      | inl was ↦ elim (Contains-append_cases (map (key_in ends) keys) others k was) [
        | inl here ↦ (
            let x = map_found (key_in ends) keys k here in
            Contains-append_left (map (key_in ends') keys') others k
            (subst (Contains (map (key_in ends') keys')) (key_kept ends ends' keeps x.0 (are.within x.0 x.1) ∙ x.2) (contains_map (key_in ends') keys' x.0 ((added x.0).1 (inl x.1))))
            )
        | inr there ↦ in_append_right (map (key_in ends') keys') others k there
      ]
      | inr e ↦ subst (Contains (dead_keys ends' keys' others)) (sym e)
          (Contains-append_left (map (key_in ends') keys') others (key_of near) (near_there ends' keys' near place at ((added (placed near place)).1 (inr refl))))
    ],
  )

  pub near_longer : ((Contains keys (placed near place) → ⊥) → length keys' ≡ suc (length keys)) → (Contains (dead_keys ends keys others) (key_of near) → ⊥) → length (dead_keys ends' keys' others) ≡ suc (length (dead_keys ends keys others))
  near_longer longer fresh =
      let more = longer (λ has. fresh (Contains-append_left (map (key_in ends) keys) others (key_of near)
      (subst (Contains (map (key_in ends) keys)) (sym (key_kept ends ends' keeps (placed near place) (are.within (placed near place) has)) ∙ placed_key ends' near place at) (contains_map (key_in ends) keys (placed near place) has)))) in
      let new = length-append (map (key_in ends') keys') others in
      let old = length-append (map (key_in ends) keys) others in
      let new_keys = length-map keys' (key_in ends') in
      let old_keys = length-map keys (key_in ends) in
      omega arith

-- one of the others
far_added : (ends : List RightEnd) (keys : List NearKey) (others others' : List Key) (key : Key) → AreDead ends keys others → (IsNear key → ⊥) → ((k : Key) → Contains others' k ↔ (Contains others k ⊎ (k ≡ key))) → AreDead ends keys others'
far_added ends keys others others' key are far added = record { within = are.within; near = are.near; far = one_more (λ k. IsNear k → ⊥) others others' key added are.far far }

pub far_more : (ends : List RightEnd) (keys : List NearKey) (others others' : List Key) (key : Key) → ((k : Key) → Contains others' k ↔ (Contains others k ⊎ (k ≡ key))) → (k : Key) → Contains (dead_keys ends keys others') k ↔ (Contains (dead_keys ends keys others) k ⊎ (k ≡ key))
far_more ends keys others others' key added k = (
  λ has. elim (Contains-append_cases (map (key_in ends) keys) others' k has) [
    | inl here ↦ inl (Contains-append_left (map (key_in ends) keys) others k here)
    | inr there ↦ elim ((added k).0 there) [ inl was ↦ inl (in_append_right (map (key_in ends) keys) others k was) | inr e ↦ inr e ]
  ],
  λ has. elim has [
    | inl was ↦ elim (Contains-append_cases (map (key_in ends) keys) others k was) [
      | inl here ↦ Contains-append_left (map (key_in ends) keys) others' k here
      | inr there ↦ in_append_right (map (key_in ends) keys) others' k ((added k).1 (inl there))
    ]
    | inr e ↦ in_append_right (map (key_in ends) keys) others' k ((added k).1 (inr e))
  ],
)

pub far_longer : (ends : List RightEnd) (keys : List NearKey) (others others' : List Key) (key : Key) → ((Contains others key → ⊥) → length others' ≡ suc (length others)) → (Contains (dead_keys ends keys others) key → ⊥)
    → length (dead_keys ends keys others') ≡ suc (length (dead_keys ends keys others))
far_longer ends keys others others' key longer fresh =
    let more = longer (λ has. fresh (in_append_right (map (key_in ends) keys) others key has)) in
    let new = length-append (map (key_in ends) keys) others' in
    let old = length-append (map (key_in ends) keys) others in
    omega arith

-- after a call that may fail
pub near_after : {T E : Type 0} (r : Result T E) (ends ends' : List RightEnd) (keys keys' : List NearKey) (others : List Key) (near : Near) (place : ℕ) → KeepsFront ends ends' → AreDead ends keys others → IsNear (key_of near) → slice_get ends' place ≡ Some near.end
    → OnOk r ((k : NearKey) → Contains keys' k ↔ (Contains keys k ⊎ (k ≡ placed near place))) → OnErr r (keys' ≡ keys) → AreDead ends' keys' others
near_after (Ok x) ends ends' keys keys' others near place keeps are is at added same = near_added ends ends' keys keys' others near place keeps are is at added
near_after (Err e) ends ends' keys keys' others near place keeps are is at added same = subst (λ z. AreDead ends' z others) (sym same) (are_kept ends ends' keys others keeps are)

pub far_after : {T E : Type 0} (r : Result T E) (ends : List RightEnd) (keys : List NearKey) (others others' : List Key) (key : Key) → AreDead ends keys others → (IsNear key → ⊥)
    → OnOk r ((k : Key) → Contains others' k ↔ (Contains others k ⊎ (k ≡ key))) → OnErr r (others' ≡ others) → AreDead ends keys others'
far_after (Ok x) ends keys others others' key are far added same = far_added ends keys others others' key are far added
far_after (Err e) ends keys others others' key are far added same = subst (AreDead ends keys) (sym same) are

pub on_err_as : {T E : Type 0} (r : Result T E) (P Q : Type 0) → (P → Q) → OnErr r P → OnErr r Q
on_err_as (Ok x) P Q f p = tt
on_err_as (Err e) P Q f p = f p

-- ---- each once

pub dead_once : (ends : List RightEnd) (keys : List NearKey) (others : List Key) → AreDead ends keys others → AreOnce ends → AreOnce keys → AreOnce others → AreOnce (dead_keys ends keys others)
dead_once ends keys others are once keys_once others_once =
    once_append (map (key_in ends) keys) others (placed_once keys are.within keys_once) others_once
    (λ k here there. let x = map_found (key_in ends) keys k here in are.far k there (subst IsNear x.2 (are.near x.0 x.1)))
  where
    -- two near keys of one key have one right end, and so one place
    apart : (k m : NearKey) → k.end < length ends → m.end < length ends → key_in ends k ≡ key_in ends m → k ≡ m
    apart k m in_k in_m e =
        let same : end_at ends k.end ≡ end_at ends m.end = (λ i. record { word = ap right_in e i; list = ap rlist_in e i }) in
        let place : k.end ≡ m.end = once k.end m.end (end_at ends m.end) (end_there ends k.end in_k ∙ ap Some same) (end_there ends m.end in_m) in
        (λ i. record { left = ap left_in e i; nulls = ap nulls_in e i; llist = ap llist_in e i; end = place i })

    placed_once : (ks : List NearKey) → ((k : NearKey) → Contains ks k → k.end < length ends) → AreOnce ks → AreOnce (map (key_in ends) ks)
    placed_once ks within once_ks i j y p q =
        let a = map_at (key_in ends) ks i y p in
        let b = map_at (key_in ends) ks j y q in
        once_ks i j a.0 a.1 (b.1 ∙ ap Some (apart b.0 a.0 (within b.0 (contains_at ks j b.0 b.1)) (within a.0 (contains_at ks i a.0 a.1)) (b.2 ∙ sym a.2)))

pub dead_few : (ends : List RightEnd) (keys : List NearKey) (others : List Key) → length (dead_keys ends keys others) ≡ length keys + length others
dead_few ends keys others =
    let both = length-append (map (key_in ends) keys) others in
    let near = length-map keys (key_in ends) in
    omega arith
