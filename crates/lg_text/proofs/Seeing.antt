-- In the diagram of a good linkage each link is seen.
use Rattle.std.proofs.Common.{◌≡◌, ℕ, ◌<◌, ◌≤◌, ◌==◌, ◌&&◌, ◌||◌, nat_lt, Bool, true, false, List, [], ◌∷◌, length, map, get_or, if◌then◌else◌, refl, sym, ap, subst, ◌∙◌, inl, inr, arith, eqb-true, eq-eqb, ne_eqb}
use Rattle.std.proofs.lemmas.Bool.{cases_lt, cases_order, cond-true, cond-false, cond_both, or_from}
use Rattle.std.proofs.lemmas.Bool.Decides.{nat_tests}
use Rattle.std.proofs.lemmas.List.{length-map, get_or-map}
use Rattle.std.proofs.lemmas.List.Elements.{All-contains, All-head, All-map, Contains-get_or}
use Rattle.std.proofs.lemmas.List.Folds.{list_any_at, list_any_none}
use Rattle.std.specs.List.{All, Contains, filter, list_any}
use Rattle.lg_gram.specs.Linkages.{Linkage, link_length}
use Rattle.lg_gram.specs.Rules.{Rules, HasLink, rights_of, lefts_of}
use Rattle.lg_gram.specs.declared.linkage.Link.{Link}
use Rattle.lg_text.specs.Diagrams.{greatest, cells, start, starts_of, is_inside, height, Drawn, drawn_of, ends_at, spans, shows_at, first_shown, is_at, is_above, character_at}
use Rattle.lg_text.specs.Seen.{IsEnd, IsSeen, DiagramsShowLinks}
use Rattle.lg_text.proofs.Columns.{all_forward, all_placed, length-cells}
use Rattle.lg_text.proofs.Greatest.{greatest_bounds}
use Rattle.lg_text.proofs.Heights.{filtered, height_is}
use Rattle.lg_text.proofs.Rising.{kept, rise, earlier, room}

-- ---- which links lie over which

module _ (g : Linkage) (rules : Rules (rights_of g) (lefts_of g) (HasLink g)) where
  -- a link within the span of another is lower
  lower : (l m : Link) → HasLink g l → HasLink g m → l.left ≤ m.left → m.right ≤ l.right → link_length m < link_length l → height g.links m < height g.links l
  lower l m has other from to less =
      let inside : is_inside l m ≡ true = grind (arith, nat_tests) in
      let within = filter (is_inside l) g.links in
      let most = All-contains (λ k. height g.links k ≤ greatest (height g.links) 0 within) within m (greatest_bounds (height g.links) 0 within) (kept (is_inside l) g.links m other inside) in
      let is = height_is g.links (all_forward g rules.matched) l (rules.matched.forward l has) in
      omega arith

  -- two links of one height overlap at an end at most
  apart : (l m : Link) → HasLink g l → HasLink g m → height g.links m ≡ height g.links l → m.left < l.right → l.left < m.right → m ≡ l
  apart l m has other same before behind =
      let on = rules.matched.forward l has in
      let ahead = rules.matched.forward m other in
      elim (cases_order m.left l.left) [
        | inl left ↦ elim (cases_order m.right l.right) [
          | inl right ↦ rules.exclusive m l other has left right
          | inr (inl less) ↦ let high = lower l m has other (omega arith) (omega arith) (omega arith) in absurd (omega arith)
          | inr (inr more) ↦ let high = lower m l other has (omega arith) (omega arith) (omega arith) in absurd (omega arith)
        ]
        | inr (inl less) ↦ elim (cases_lt m.right l.right) [
          | inl crosses ↦ absurd (rules.planar m l other has less behind crosses)
          | inr around ↦ let high = lower m l other has (omega arith) around (omega arith) in absurd (omega arith)
        ]
        | inr (inr more) ↦ elim (cases_lt l.right m.right) [
          | inl crosses ↦ absurd (rules.planar l m has other more before crosses)
          | inr around ↦ let high = lower l m has other (omega arith) around (omega arith) in absurd (omega arith)
        ]
      ]

  -- no lower link lies over the left end of a link
  left_free : (l m : Link) → HasLink g l → HasLink g m → height g.links m < height g.links l → m.left < l.left → l.left < m.right → ⊥
  left_free l m has other low before behind =
      let on = rules.matched.forward l has in
      elim (cases_lt m.right l.right) [
        | inl crosses ↦ rules.planar m l other has before behind crosses
        | inr around ↦ let high = lower m l other has (omega arith) around (omega arith) in omega arith
      ]

  -- nor over its right end
  right_free : (l m : Link) → HasLink g l → HasLink g m → height g.links m < height g.links l → m.left < l.right → l.right < m.right → ⊥
  right_free l m has other low before behind =
      let on = rules.matched.forward l has in
      elim (cases_lt l.left m.left) [
        | inl crosses ↦ rules.planar l m has other crosses before behind
        | inr around ↦ let high = lower m l other has around (omega arith) (omega arith) in omega arith
      ]

-- ---- characters

any_has : {X : Type 0} (p : X → Bool) (xs : List X) (x : X) → Contains xs x → p x ≡ true → list_any p xs ≡ true
any_has p xs x has passes = list_any_at p xs has.0 x has.1 (ap p has.2 ∙ passes)

mapped : {X Y : Type 0} (f : X → Y) (xs : List X) (x : X) → Contains xs x → Contains (map f xs) (f x)
mapped f xs x has = let long = length-map xs f in let below = has.1 in (has.0, omega arith, get_or-map f xs has.0 x (f x) below ∙ ap f has.2)

span_parts : (a c b : ℕ) → (nat_lt a c && nat_lt c b) ≡ true → (a < c) × (c < b)
span_parts a c b is = grind (arith, nat_tests)

less_is : (a b : ℕ) → a < b → nat_lt a b ≡ true
less_is a b lt = grind (arith, nat_tests)

spans_is : (a c b : ℕ) → a < c → c < b → (nat_lt a c && nat_lt c b) ≡ true
spans_is a c b lt below = grind (arith, nat_tests)

left_end : (a b : ℕ) → ((a == a) || (b == a)) ≡ true
left_end a b = grind (arith, nat_tests)

right_end : (a b : ℕ) → ((a == b) || (b == b)) ≡ true
right_end a b = grind (arith, nat_tests)

first_is : (c : ℕ) (d : Drawn) (links : List Drawn) (other : ℕ) → All (λ y. y ≡ d) links → Contains links d → first_shown c links other ≡ shows_at c d
first_is c d [] other all has = let lt = has.1 in absurd (omega arith)
first_is c d (y ∷ links) other all has = ap (shows_at c) (All-head (λ y. y ≡ d) y links all)

none_is : (c : ℕ) (links : List Drawn) (other : ℕ) → All (λ y. ⊥) links → first_shown c links other ≡ other
none_is c [] other none = refl
none_is c (y ∷ links) other none = absurd (All-head (λ y. ⊥) y links none)

module _ (links : List Drawn) (h c : ℕ) where
  abbrev level : List Drawn
  level = filter (is_at h) links

  abbrev higher : List Drawn
  higher = filter (is_above h) links

  abbrev rest : ℕ
  rest = if list_any (ends_at c) higher then 124 else 32

  -- of the links of this height, those over the column
  over : (P : Drawn → Type 0) → All (λ y. is_at h y ≡ true → spans c y ≡ true → P y) links → All P (filter (spans c) level)
  over P all = filtered P (λ y. spans c y ≡ true → P y) (spans c) (λ y f is. f is) level
      (filtered (λ y. spans c y ≡ true → P y) (λ y. is_at h y ≡ true → spans c y ≡ true → P y) (is_at h) (λ y f is. f is) links all)

  -- a plus sign at an end
  plus_at : (d : Drawn) → Contains links d → is_at h d ≡ true → ends_at c d ≡ true → character_at links h c ≡ 43
  plus_at d has at ends = cond-true (list_any (ends_at c) level) 43 (first_shown c (filter (spans c) level) rest) (any_has (ends_at c) level d (kept (is_at h) links d has at) ends)

  -- the one link of this height over the column
  link_at : (d : Drawn) → Contains links d → is_at h d ≡ true → spans c d ≡ true → All (λ y. is_at h y ≡ true → ends_at c y ≡ false) links
      → All (λ y. is_at h y ≡ true → spans c y ≡ true → y ≡ d) links → character_at links h c ≡ shows_at c d
  link_at d has at within no_end one =
      cond-false (list_any (ends_at c) level) 43 (first_shown c (filter (spans c) level) rest)
      (list_any_none (ends_at c) level (filtered (λ y. ends_at c y ≡ false) (λ y. is_at h y ≡ true → ends_at c y ≡ false) (is_at h) (λ y f is. f is) links no_end))
      ∙ first_is c d (filter (spans c) level) rest (over (λ y. y ≡ d) one) (kept (spans c) level d (kept (is_at h) links d has at) within)

  -- below an end that no link of this height is drawn over
  end_at : (d : Drawn) → Contains links d → is_above h d ≡ true → ends_at c d ≡ true → All (λ y. is_at h y ≡ true → spans c y ≡ true → ⊥) links → IsEnd (character_at links h c)
  end_at d has above ends free = cond_both (list_any (ends_at c) level) 43 (first_shown c (filter (spans c) level) rest) IsEnd (λ _. inl refl)
      (λ _. inr (none_is c (filter (spans c) level) rest (over (λ y. ⊥) free)
      ∙ cond-true (list_any (ends_at c) higher) 124 32 (any_has (ends_at c) higher d (kept (is_above h) links d has above) ends)))

-- ---- a link in its diagram

module _ (texts : List (List ℕ)) (g : Linkage) (rules : Rules (rights_of g) (lefts_of g) (HasLink g)) (n : ℕ) (long : n ≡ length g.chosen) where
  abbrev column : ℕ → ℕ
  column i = start (starts_of texts g n) i

  abbrev drawn : Link → Drawn
  drawn l = drawn_of g (starts_of texts g n) l

  abbrev all : List Drawn
  all = map drawn g.links

  -- what holds of each link holds of each drawn link
  each : (P : Drawn → Type 0) → ((m : Link) → HasLink g m → P (drawn m)) → All P all
  each P holds = All-map P drawn g.links (λ i d lt. holds (get_or g.links i d) (Contains-get_or g.links i d lt))

  right_within : (l : Link) → HasLink g l → l.right < n
  right_within l has = subst (λ k. l.right < k) (sym long) (All-contains (λ m. m.right < length g.chosen) g.links l (all_placed g rules.matched) has)

  left_within : (l : Link) → HasLink g l → l.left < n
  left_within l has = let right = right_within l has in let on = rules.matched.forward l has in omega arith

  module _ (l : Link) (has : HasLink g l) where
    module _ (m : Link) (other : HasLink g m) where
      -- links of one height whose columns overlap are one
      one : (height g.links m == height g.links l) ≡ true → column m.left < column l.right → column l.left < column m.right → m ≡ l
      one same before behind =
          apart g rules l m has other (eqb-true (height g.links m) (height g.links l) same)
          (earlier texts g n m.left l.right (left_within m other) (right_within l has) before) (earlier texts g n l.left m.right (left_within l has) (right_within m other) behind)

      -- no link of its height ends between its ends
      no_end : (c : ℕ) → column l.left < c → c < column l.right → (height g.links m == height g.links l) ≡ true → ((column m.left == c) || (column m.right == c)) ≡ false
      no_end c after below same =
          let wide = rise texts g n m.left m.right (rules.matched.forward m other) (right_within m other) in
          or_from (column m.left == c) (column m.right == c)
          (ne_eqb (column m.left) c (λ e. let is = ap (λ k. column k.left) (one same (omega arith) (omega arith)) in omega arith))
          (ne_eqb (column m.right) c (λ e. let is = ap (λ k. column k.right) (one same (omega arith) (omega arith)) in omega arith))

      free_left : (h : ℕ) → h < height g.links l → (height g.links m == h) ≡ true → spans (column l.left) (drawn m) ≡ true → ⊥
      free_left h low at over =
          let is = eqb-true (height g.links m) h at in
          let parts = span_parts (column m.left) (column l.left) (column m.right) over in
          left_free g rules l m has other (omega arith) (earlier texts g n m.left l.left (left_within m other) (left_within l has) parts.0) (earlier texts g n l.left m.right (left_within l has) (right_within m other) parts.1)

      free_right : (h : ℕ) → h < height g.links l → (height g.links m == h) ≡ true → spans (column l.right) (drawn m) ≡ true → ⊥
      free_right h low at over =
          let is = eqb-true (height g.links m) h at in
          let parts = span_parts (column m.left) (column l.right) (column m.right) over in
          right_free g rules l m has other (omega arith) (earlier texts g n m.left l.right (left_within m other) (right_within l has) parts.0)
          (earlier texts g n l.right m.right (right_within l has) (right_within m other) parts.1)

    same_height : is_at (height g.links l) (drawn l) ≡ true
    same_height = eq-eqb (height g.links l) (height g.links l) refl

    there : Contains all (drawn l)
    there = mapped drawn g.links l has

    pub is_seen : IsSeen all (drawn l)
    is_seen = record {
      apart = let wide = room texts g n l has (rules.matched.forward l has) (right_within l has) in omega arith;
      from_end = plus_at all (height g.links l) (column l.left) (drawn l) there same_height (left_end (column l.left) (column l.right));
      to_end = plus_at all (height g.links l) (column l.right) (drawn l) there same_height (right_end (column l.left) (column l.right));
      between = λ c after below. link_at all (height g.links l) c (drawn l) there same_height (spans_is (column l.left) c (column l.right) after below)
          (each (λ y. is_at (height g.links l) y ≡ true → ends_at c y ≡ false) (λ m other at. no_end m other c after below at))
          (each (λ y. is_at (height g.links l) y ≡ true → spans c y ≡ true → y ≡ drawn l) (λ m other at over.
          let parts = span_parts (column m.left) c (column m.right) over in ap drawn (one m other at (let a = parts.0 in omega arith) (let b = parts.1 in omega arith))));
      from_below = λ h some low. end_at all h (column l.left) (drawn l) there (less_is h (height g.links l) low) (left_end (column l.left) (column l.right))
          (each (λ y. is_at h y ≡ true → spans (column l.left) y ≡ true → ⊥) (λ m other. free_left m other h low));
      to_below = λ h some low. end_at all h (column l.right) (drawn l) there (less_is h (height g.links l) low) (right_end (column l.left) (column l.right))
          (each (λ y. is_at h y ≡ true → spans (column l.right) y ≡ true → ⊥) (λ m other. free_right m other h low));
    }

pub diagrams_are_seen : DiagramsShowLinks
diagrams_are_seen tokens g printable starts is l has =
    subst (λ s. IsSeen (map (drawn_of g s) g.links) (drawn_of g s l)) (sym is)
    (is_seen (cells tokens g) g printable.good.rules (length (cells tokens g)) (length-cells tokens g.chosen printable.same_length ∙ printable.same_length) l has)
