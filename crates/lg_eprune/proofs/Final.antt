-- What is left after the last round is what is live.
use Rattle.std.proofs.Common.{◌≡◌, ℕ, zero, suc, ◌+◌, ◌-◌, ◌<◌, ◌≤◌, inl, inr, refl, sym, ap, ◌∙◌, subst, Bool, true, false, not, if◌then◌else◌, List, [], ◌∷◌, ◌++◌, length, reverse, get_or, slice_index_or, Contains, true≢false, arith}
use Rattle.std.specs.Bool.{beq}
use Rattle.std.specs.List.{list_any}
use Rattle.std.proofs.lemmas.Bool.{cases_Bool, cases_lt, or_left, or_right}
use Rattle.std.proofs.lemmas.List.{length-reverse, get_or-reverse, get_or_past, reverse-reverse}
use Rattle.std.proofs.lemmas.List.Elements.{Contains-append_left, Contains-append_right, Contains-append_cases}
use Rattle.std.proofs.lemmas.List.Folds.{list_any_at}
use Rattle.std.proofs.lemmas.Option.{slice_get_within, slice_get-get_or, get_or_from_slice_get}
use Rattle.lg_gram.specs.Connectors.{Connector, Match}
use Rattle.lg_gram.specs.Measures.{Choice, choices_of}
use Rattle.lg_eprune.specs.Live.{WordTree, HasConnector, IsChoiceAt, SupportsItself, IsLive, IsLiveChoice, AreNarrowed}
use Rattle.lg_eprune.specs.Cuts.{cut_words, do_lose, do_join, stays, swept, swept_back, sweep_loses, next_round, round_loses, word_leaves}
use Rattle.lg_base.proofs.Elements.{contains_none}
use Rattle.lg_eprune.proofs.Choices.{passes_if}
use Rattle.lg_eprune.proofs.Kept.{Kept, kept_itself, kept_cut, kept_finds, kept_from, narrowed}
use Rattle.lg_eprune.proofs.Leaves.{has_leaf, some_choice, leaf_stands}
use Rattle.lg_eprune.proofs.Matches.{joins_left, joins_right, join_first, join_second, side_right, side_left}
use Rattle.lg_eprune.proofs.Numbered.{numbered, number_in, numbered_out}
use Rattle.lg_eprune.proofs.Sweeps.{size, sweep_keeps, sweep_no_more, sweep_less, size-reverse, length-swept, swept_whole, served, word_leaf, leaf_of_word, word_leaf_side, word_whole}

not_right : (b right : Bool) → beq b right ≡ false → b ≡ not right
not_right true true h = absurd (true≢false h)
not_right true false h = refl
not_right false true h = refl
not_right false false h = absurd (true≢false h)

module _ (positions : List (List WordTree)) where
  -- the words of position i
  abbrev pub olds_at : ℕ → List WordTree
  olds_at i = slice_index_or positions i []

  abbrev pub IsKept : ℕ → List WordTree → Type 0
  IsKept i ws = Kept (IsLiveChoice positions i) (olds_at i) ws

  -- lists of words from the number n on, where f tells which position has a number
  abbrev pub AreKept : (ℕ → ℕ) → ℕ → List (List WordTree) → Type 0
  AreKept f n [] = Unit {0}
  AreKept f n (ws ∷ rest) = IsKept (f n) ws × AreKept f (suc n) rest

  -- a live connector against the direction has a live partner at an earlier number
  abbrev pub HasPartners : Bool → (ℕ → ℕ) → Type 0
  HasPartners right f = (k : ℕ) (c : Connector) → IsLive positions (f k) c → c.right ≡ not right
      → (j : ℕ) × (d : Connector) × (j < k) × IsLive positions (f j) d × (d.right ≡ right) × (do_join d c ≡ true)

  -- a live connector is a leaf of what is kept
  live_leaf : (i : ℕ) (ws : List WordTree) → IsKept i ws → (c : Connector) → IsLive positions i c → Contains (word_leaves c.right ws) c
  live_leaf i ws kept c (members, supports, m) =
      let (choice, at, has, all) = supports.used i c m in
      let here : olds_at i ≡ at.words = get_or_from_slice_get positions i at.words [] at.here in
      let listed : Contains (olds_at i) at.word = subst (λ x. Contains x at.word) (sym here) at.listed in
      let (w, is, chosen) = kept_finds (IsLiveChoice positions i) (olds_at i) ws kept at.word choice listed at.chosen (λ d h. (members, supports, all d h)) in
      leaf_of_word c.right ws w c is (has_leaf w.tree choice chosen c has)

  module _ (right : Bool) (f : ℕ → ℕ) (partners : HasPartners right f) where
    abbrev HasSeen : ℕ → List Connector → Type 0
    HasSeen n seen = (k : ℕ) (d : Connector) → k < n → IsLive positions (f k) d → d.right ≡ right → Contains seen d

    live_stays : (n : ℕ) (seen : List Connector) → HasSeen n seen → (c : Connector) → IsLive positions (f n) c → stays right seen c ≡ true
    unfolding stays
    live_stays n seen has c live =
        elim (cases_Bool (beq c.right right)) [
          | inl same ↦ or_left (beq c.right right) (list_any (λ d. do_join d c) seen) same
          | inr other ↦ (
              let (j, d, before, also, side, joins) = partners n c live (not_right c.right right other) in
              let (k, within, at) = has j d before also side in
              or_right (beq c.right right) (list_any (λ d. do_join d c) seen)
              (list_any_at (λ d. do_join d c) seen k d within (ap (λ x. do_join x c) at ∙ joins)))
        ]

    pub swept_kept : (n : ℕ) (seen : List Connector) → HasSeen n seen → (xs : List (List WordTree)) → AreKept f n xs → AreKept f n (swept right seen xs)
    swept_kept n seen has [] h = tt
    swept_kept n seen has (ws ∷ rest) (first, others) =
        let test = stays right seen in
        let kept = cut_words test ws in
        let pass = λ (c : Choice) (live : IsLiveChoice positions (f n) c). passes_if test c (λ d m. live_stays n seen has d (live d m)) in
        let here : IsKept (f n) kept = kept_cut (IsLiveChoice positions (f n)) test pass (olds_at (f n)) ws first in
        (here, swept_kept (suc n) (seen ++ word_leaves right kept) (more kept here) rest others)
      where
        more : (kept : List WordTree) → IsKept (f n) kept → HasSeen (suc n) (seen ++ word_leaves right kept)
        more kept here k d before live side =
            elim (cases_lt k n) [
              | inl earlier ↦ Contains-append_left seen (word_leaves right kept) d (has k d earlier live side)
              | inr later ↦ (
                  let same : k ≡ n = omega arith in
                  let leaf = live_leaf (f n) kept here d (subst (λ x. IsLive positions (f x) d) same live) in
                  Contains-append_right seen (word_leaves right kept) d (subst (λ r. Contains (word_leaves r kept) d) side leaf))
            ]

  kept_at : (f : ℕ → ℕ) (n : ℕ) (xs : List (List WordTree)) → AreKept f n xs → (k : ℕ) → k < length xs → IsKept (f (n + k)) (get_or xs k [])
  kept_at f n [] h k l = absurd (omega arith)
  kept_at f n (ws ∷ rest) h zero l = let same : n ≡ n + 0 = omega arith in subst (λ x. IsKept (f x) ws) same h.0
  kept_at f n (ws ∷ rest) h (suc k) l =
      let same : suc n + k ≡ n + suc k = omega arith in subst (λ x. IsKept (f x) (get_or rest k [])) same (kept_at f (suc n) rest h.1 k (omega arith))

  kept_each : (f : ℕ → ℕ) (n : ℕ) (xs : List (List WordTree)) → ((k : ℕ) → k < length xs → IsKept (f (n + k)) (get_or xs k [])) → AreKept f n xs
  kept_each f n [] h = tt
  kept_each f n (ws ∷ rest) h =
      let first : n + 0 ≡ n = omega arith in (
        subst (λ x. IsKept (f x) ws) first (h 0 (omega arith)),
        kept_each f (suc n) rest (λ k l. (
            let same : n + suc k ≡ suc n + k = omega arith in subst (λ x. IsKept (f x) (get_or rest k [])) same (h (suc k) (omega arith)))),
      )

  first_at : (f : ℕ → ℕ) (xs : List (List WordTree)) → AreKept f 0 xs → (k : ℕ) → k < length xs → IsKept (f k) (get_or xs k [])
  first_at f xs h k l = let same : 0 + k ≡ k = omega arith in subst (λ x. IsKept (f x) (get_or xs k [])) same (kept_at f 0 xs h k l)

  first_each : (f : ℕ → ℕ) (xs : List (List WordTree)) → ((k : ℕ) → k < length xs → IsKept (f k) (get_or xs k [])) → AreKept f 0 xs
  first_each f xs h = kept_each f 0 xs (λ k l. (let same : k ≡ 0 + k = omega arith in subst (λ x. IsKept (f x) (get_or xs k [])) same (h k l)))

  abbrev pub onward : ℕ → ℕ
  onward k = k

  abbrev pub back : ℕ → ℕ
  back k = length positions - 1 - k

  turned : (f g : ℕ → ℕ) (xs : List (List WordTree)) → length xs ≡ length positions → ((k : ℕ) → k < length positions → f (length positions - 1 - k) ≡ g k) → AreKept f 0 xs → AreKept g 0 (reverse xs)
  turned f g xs long same h = first_each g (reverse xs) (λ k l. (
      let count = length-reverse xs in
      let within : k < length xs = omega arith in
      let low : length positions - 1 - k < length xs = omega arith in
      let read : get_or (reverse xs) k [] ≡ get_or xs (length positions - 1 - k) [] = get_or-reverse xs k [] within ∙ ap (λ n. get_or xs (n - 1 - k) []) long in
      let number : f (length positions - 1 - k) ≡ g k = same k (omega arith) in
      subst (λ ws. IsKept (g k) ws) (sym read) (subst (λ x. IsKept x (get_or xs (length positions - 1 - k) [])) number (first_at f xs h (length positions - 1 - k) low))))

  live_within : (i : ℕ) (c : Connector) → IsLive positions i c → i < length positions
  live_within i c (members, supports, m) = let (choice, at, has, all) = supports.used i c m in slice_get_within positions i at.words at.here

  onward_partners : HasPartners true onward
  onward_partners k c (members, supports, m) side =
      let (i, d, is, before, match) = supports.left k c m side in
      (i, d, before, (members, supports, is), side_right d c match, join_first d c match)

  back_partners : HasPartners false back
  back_partners k c (members, supports, m) side =
      let (j, d, is, before, match) = supports.right (back k) c m side in
      let live : IsLive positions j d = (members, supports, is) in
      let within = live_within j d live in
      let low : back j < k = omega arith in
      let same : j ≡ back (back j) = omega arith in
      (back j, d, low, subst (λ x. IsLive positions x d) same live, side_left c d match, join_second d c match)

  -- the positions after rounds
  pub record AreLeft (now : List (List WordTree)) : Type 0 where
    pub long : length now ≡ length positions
    pub each : AreKept onward 0 now

  pub at_first : AreLeft positions
  at_first = record {
    long = refl;
    each = first_each onward positions (λ k l. kept_itself (IsLiveChoice positions k) (olds_at k));
  }

  pub after_forward : (now : List (List WordTree)) → AreLeft now → AreLeft (swept true [] now)
  after_forward now h = record {
    long = length-swept true [] now ∙ h.long;
    each = swept_kept true onward onward_partners 0 [] (λ k d l. absurd (omega arith)) now h.each;
  }

  pub after_back : (now : List (List WordTree)) → AreLeft now → AreLeft (swept_back now)
  after_back now h =
      let there = swept false [] (reverse now) in
      let long : length there ≡ length positions = length-swept false [] (reverse now) ∙ length-reverse now ∙ h.long in
      let turn : AreKept back 0 (reverse now) = turned onward back now h.long (λ k l. refl) h.each in
      let kept : AreKept back 0 there = swept_kept false back back_partners 0 [] (λ k d l. absurd (omega arith)) (reverse now) turn in
      record {
        long = length-reverse there ∙ long;
        each = turned back onward there long (λ k l. omega arith) kept;
      }

  -- the positions before a round: a sweep to the right was the last
  pub record IsForward (now : List (List WordTree)) : Type 0 where
    pub left : AreLeft now
    pub before : List (List WordTree)
    pub swept : now ≡ swept true [] before

  pub forward : (before : List (List WordTree)) → AreLeft before → IsForward (swept true [] before)
  forward before h = record {
    left = after_forward before h;
    before = before;
    swept = refl;
  }

  next_forward : (now : List (List WordTree)) (b c : Bool) → AreLeft now → (if b then c else false) ≡ true → IsForward (if b then swept true [] (swept_back now) else swept_back now)
  next_forward now true c h g = forward (swept_back now) (after_back now h)
  next_forward now false c h g = absurd (true≢false (sym g))

  pub after_round : (now : List (List WordTree)) → IsForward now → round_loses now ≡ true → IsForward (next_round now)
  after_round now h g = next_forward now (sweep_loses false [] (reverse now)) (sweep_loses true [] (swept_back now)) h.left g

  back_no_more : (now : List (List WordTree)) → size (swept_back now) ≤ size now
  back_no_more now =
      let one = size-reverse now in
      let two = sweep_no_more false [] (reverse now) in
      let three = size-reverse (swept false [] (reverse now)) in
      omega arith

  next_less : (now : List (List WordTree)) (b : Bool) → (if b then sweep_loses true [] (swept_back now) else false) ≡ true
      → size (if b then swept true [] (swept_back now) else swept_back now) < size now
  next_less now true g =
      let one = back_no_more now in
      let two = sweep_less true [] (swept_back now) g in
      omega arith
  next_less now false g = absurd (true≢false (sym g))

  pub round_less : (now : List (List WordTree)) → round_loses now ≡ true → size (next_round now) < size now
  round_less now g = next_less now (sweep_loses false [] (reverse now)) g

  abbrev connectors_at : List WordTree → List Connector
  connectors_at ws = word_leaves true ws ++ word_leaves false ws

  of_side : (ws : List WordTree) (c : Connector) → Contains (connectors_at ws) c → Contains (word_leaves c.right ws) c
  of_side ws c m =
      elim (Contains-append_cases (word_leaves true ws) (word_leaves false ws) c m) [
        | inl first ↦ subst (λ r. Contains (word_leaves r ws) c) (sym (word_leaf_side true ws c first)) first
        | inr second ↦ subst (λ r. Contains (word_leaves r ws) c) (sym (word_leaf_side false ws c second)) second
      ]

  either_side : (right : Bool) (ws : List WordTree) (c : Connector) → Contains (word_leaves right ws) c → Contains (connectors_at ws) c
  either_side true ws c m = Contains-append_left (word_leaves true ws) (word_leaves false ws) c m
  either_side false ws c m = Contains-append_right (word_leaves true ws) (word_leaves false ws) c m

  -- lists of words in which each leaf has its partner
  pub record IsClosed (now : List (List WordTree)) : Type 0 where
    pub left : (k : ℕ) (c : Connector) → Contains (word_leaves false (get_or now k [])) c → (j : ℕ) × (d : Connector) × (j < k) × Contains (word_leaves true (get_or now j [])) d × Match d c
    pub right : (k : ℕ) (c : Connector) → Contains (word_leaves true (get_or now k [])) c → (j : ℕ) × (d : Connector) × (k < j) × Contains (word_leaves false (get_or now j [])) d × Match c d
    pub whole : (k : ℕ) → (test : Connector → Bool) × (do_lose test (get_or now k []) ≡ false)

  place_within : (right : Bool) (now : List (List WordTree)) (k : ℕ) (c : Connector) → Contains (word_leaves right (get_or now k [])) c → k < length now
  place_within right now k c m =
      elim (cases_lt k (length now)) [
        | inl within ↦ within
        | inr past ↦ absurd (contains_none c (subst (λ ws. Contains (word_leaves right ws) c) (get_or_past now k [] past) m))
      ]

  left_served : (now : List (List WordTree)) (k : ℕ) (c : Connector) → Contains (word_leaves false (get_or (swept true [] now) k [])) c
      → (j : ℕ) × (d : Connector) × (j < k) × Contains (word_leaves true (get_or (swept true [] now) j [])) d × Match d c
  left_served now k c m =
      let (d, joins, place) = served true [] now k c m in
      let side = word_leaf_side false (get_or (swept true [] now) k []) c m in
      elim place [
        | inl none ↦ absurd (contains_none d none)
        | inr (j, before, is) ↦ (j, d, before, is, joins_left d c joins side)
      ]

  -- behind a sweep back
  right_served : (now xs : List (List WordTree)) → swept false [] xs ≡ reverse now → (k : ℕ) (c : Connector) → Contains (word_leaves true (get_or now k [])) c
      → (j : ℕ) × (d : Connector) × (k < j) × Contains (word_leaves false (get_or now j [])) d × Match c d
  right_served now xs same k c m =
      let within = place_within true now k c m in
      let n = length now - 1 - k in
      let low : n < length now = omega arith in
      let turn : length now - 1 - n ≡ k = omega arith in
      let read : get_or (reverse now) n [] ≡ get_or now k [] = get_or-reverse now n [] low ∙ ap (λ x. get_or now x []) turn in
      let there : Contains (word_leaves true (get_or (swept false [] xs) n [])) c =
      subst (λ xs. Contains (word_leaves true (get_or xs n [])) c) (sym same) (subst (λ ws. Contains (word_leaves true ws) c) (sym read) m) in
      let (d, joins, place) = served false [] xs n c there in
      let side = word_leaf_side true (get_or now k []) c m in
      elim place [
        | inl none ↦ absurd (contains_none d none)
        | inr (j, before, is) ↦ (
            let small : j < length now = omega arith in
            let later : k < length now - 1 - j = omega arith in
            let here : Contains (word_leaves false (get_or now (length now - 1 - j) [])) d =
            subst (λ ws. Contains (word_leaves false ws) d) (get_or-reverse now j [] small) (subst (λ xs. Contains (word_leaves false (get_or xs j [])) d) same is) in
            (length now - 1 - j, d, later, here, joins_right d c joins side))
      ]

  module _ (now : List (List WordTree)) (left : AreLeft now) (closed : IsClosed now) where
    abbrev Members : List (ℕ × Connector)
    Members = numbered connectors_at 0 now

    into : (right : Bool) (i : ℕ) (c : Connector) → Contains (word_leaves right (get_or now i [])) c → Contains (numbered connectors_at 0 now) (i, c)
    into right i c m = number_in connectors_at [] refl now i c (either_side right (get_or now i []) c m)

    out_of : (i : ℕ) (c : Connector) → Contains (numbered connectors_at 0 now) (i, c) → Contains (word_leaves c.right (get_or now i [])) c
    out_of i c h =
        let (k, is, has) = numbered_out connectors_at [] 0 now (i, c) h in
        let same : k ≡ i = omega arith in
        subst (λ n. Contains (word_leaves c.right (get_or now n [])) c) same (of_side (get_or now k []) c has)

    choice_in : (i : ℕ) (w : WordTree) (choice : Choice) → Contains (get_or now i []) w → Contains (choices_of w.tree) choice → (d : Connector) → HasConnector choice d → Contains (numbered connectors_at 0 now) (i, d)
    choice_in i w choice is chosen d has = into d.right i d (leaf_of_word d.right (get_or now i []) w d is (has_leaf w.tree choice chosen d has))

    choice_at : (i : ℕ) (w : WordTree) (choice : Choice) → i < length now → Contains (get_or now i []) w → Contains (choices_of w.tree) choice → IsChoiceAt positions i choice
    choice_at i w choice within is chosen =
        let (v, listed, was) = kept_from (IsLiveChoice positions i) (olds_at i) (get_or now i []) (first_at onward now left.each i within) w choice is chosen in
        let long = left.long in
        record {
          words = olds_at i;
          word = v;
          here = slice_get-get_or positions i [] (omega arith);
          listed = listed;
          chosen = was;
        }

    supports : SupportsItself positions (numbered connectors_at 0 now)
    supports = record {
      right = λ i c h side. (
          let (j, d, after, is, match) = closed.right i c (subst (λ r. Contains (word_leaves r (get_or now i [])) c) side (out_of i c h)) in
          (j, d, into false j d is, after, match));
      left = λ j d h side. (
          let (i, c, before, is, match) = closed.left j d (subst (λ r. Contains (word_leaves r (get_or now j [])) d) side (out_of j d h)) in
          (i, c, into true i c is, before, match));
      used = λ i c h. (
          let m = out_of i c h in
          let within = place_within c.right now i c m in
          let (w, is, leaf) = word_leaf c.right (get_or now i []) c m in
          let (test, whole) = closed.whole i in
          let (choice, chosen, has) = leaf_stands test w.tree (word_whole test (get_or now i []) whole w is) c.right c leaf in
          (choice, choice_at i w choice within is chosen, has, choice_in i w choice is chosen));
    }

    pub are_narrowed : AreNarrowed positions now
    are_narrowed = record {
      same_length = left.long;
      each = λ i l. (
          let long = left.long in
          let (test, whole) = closed.whole i in
          narrowed positions i (olds_at i) (get_or now i []) (first_at onward now left.each i (omega arith))
          (λ w choice is chosen d has. (numbered connectors_at 0 now, supports, choice_in i w choice is chosen d has))
          (λ w is. some_choice test w.tree (word_whole test (get_or now i []) whole w is)));
    }

  -- Both ways are closed: the last sweep to the right, and the last one back.
  both_ways : (now before xs : List (List WordTree)) → AreLeft now → now ≡ swept true [] before → swept false [] xs ≡ reverse now → AreNarrowed positions now
  both_ways now before xs h onto back =
      are_narrowed now h (record {
        left = subst (λ ys. (k : ℕ) (c : Connector) → Contains (word_leaves false (get_or ys k [])) c → (j : ℕ) × (d : Connector) × (j < k) × Contains (word_leaves true (get_or ys j [])) d × Match d c) (sym onto) (left_served before);
        right = right_served now xs back;
        whole = subst (λ ys. (k : ℕ) → (test : Connector → Bool) × (do_lose test (get_or ys k []) ≡ false)) (sym onto) (swept_whole true [] before);
      })

  -- where the sweep back took nothing, and where the one after it took nothing
  back_last : (now : List (List WordTree)) → IsForward now → sweep_loses false [] (reverse now) ≡ false → AreNarrowed positions (swept_back now)
  back_last now h none =
      let same = sweep_keeps false [] (reverse now) none in
      let is : swept_back now ≡ now = ap reverse same ∙ reverse-reverse now in
      subst (λ xs. AreNarrowed positions xs) (sym is) (both_ways now h.before (reverse now) h.left h.swept same)

  forward_last : (now : List (List WordTree)) → AreLeft now → sweep_loses true [] (swept_back now) ≡ false → AreNarrowed positions (swept true [] (swept_back now))
  forward_last now h none =
      let same = sweep_keeps true [] (swept_back now) none in
      let turned : swept false [] (reverse now) ≡ reverse (swept_back now) = sym (reverse-reverse (swept false [] (reverse now))) in
      subst (λ xs. AreNarrowed positions xs) (sym same) (both_ways (swept_back now) (swept_back now) (reverse now) (after_back now h) (sym same) turned)

  last_by : (now : List (List WordTree)) (b : Bool) → IsForward now → sweep_loses false [] (reverse now) ≡ b → (if b then sweep_loses true [] (swept_back now) else false) ≡ false
      → AreNarrowed positions (if b then swept true [] (swept_back now) else swept_back now)
  last_by now true h is none = forward_last now h.left none
  last_by now false h is none = back_last now h is

  -- a round whose last sweep takes nothing is the last
  pub last_round : (now : List (List WordTree)) → IsForward now → round_loses now ≡ false → AreNarrowed positions (next_round now)
  last_round now h none = last_by now (sweep_loses false [] (reverse now)) h refl none
