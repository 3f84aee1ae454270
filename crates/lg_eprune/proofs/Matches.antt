-- The tests on connectors say what they are for.
use Rattle.std.proofs.Common.{◌≡◌, ℕ, zero, suc, inl, inr, refl, sym, ap, ◌∙◌, Bool, true, false, ◌&&◌, ◌||◌, not, ◌==◌, List, [], ◌∷◌, IsTrue, nat_eq, true≢false, arith}
use Rattle.std.specs.Cmp.Lexicographic.{pointwise, bytes_decides}
use Rattle.std.proofs.lemmas.Bool.{cases_Bool, and_parts, and_from, or_cases, or_left, or_right, eqb-true, eq-eqb, not-true}
use Rattle.lg_gram.specs.Names.{STAR}
use Rattle.lg_gram.specs.Connectors.{Connector, Match, Agree, AgreeAt}
use Rattle.lg_eprune.specs.Cuts.{do_agree, do_match, do_join}

letters : (x y : ℕ) → ((x == y) || (x == STAR) || (y == STAR)) ≡ true → AgreeAt x y
letters x y h =
    elim (or_cases ((x == y) || (x == STAR)) (y == STAR) h) [
      | inl first ↦ elim (or_cases (x == y) (x == STAR) first) [
        | inl same ↦ inl (eqb-true x y same)
        | inr star ↦ inr (inl (eqb-true x STAR star))
      ]
      | inr star ↦ inr (inr (eqb-true y STAR star))
    ]

letters_from : (x y : ℕ) → AgreeAt x y → ((x == y) || (x == STAR) || (y == STAR)) ≡ true
letters_from x y (inl same) = or_left ((x == y) || (x == STAR)) (y == STAR) (or_left (x == y) (x == STAR) (eq-eqb x y same))
letters_from x y (inr (inl star)) = or_left ((x == y) || (x == STAR)) (y == STAR) (or_right (x == y) (x == STAR) (eq-eqb x STAR star))
letters_from x y (inr (inr star)) = or_right ((x == y) || (x == STAR)) (y == STAR) (eq-eqb y STAR star)

agree : (xs ys : List ℕ) → do_agree xs ys ≡ true → Agree xs ys
agree [] ys h k l m = absurd (omega arith)
agree (x ∷ xs) [] h k l m = absurd (omega arith)
agree (x ∷ xs) (y ∷ ys) h zero l m = letters x y (and_parts ((x == y) || (x == STAR) || (y == STAR)) (do_agree xs ys) h).0
agree (x ∷ xs) (y ∷ ys) h (suc k) l m = agree xs ys (and_parts ((x == y) || (x == STAR) || (y == STAR)) (do_agree xs ys) h).1 k (omega arith) (omega arith)

agree_from : (xs ys : List ℕ) → Agree xs ys → do_agree xs ys ≡ true
agree_from [] ys h = refl
agree_from (x ∷ xs) [] h = refl
agree_from (x ∷ xs) (y ∷ ys) h =
    and_from ((x == y) || (x == STAR) || (y == STAR)) (do_agree xs ys) (letters_from x y (h 0 (omega arith) (omega arith))) (agree_from xs ys (λ k l m. h (suc k) (omega arith) (omega arith)))

pub matches_if : (a b : Connector) → do_match a b ≡ true → Match a b
matches_if a b h =
    let (front, subscripts) = and_parts (a.right && not b.right && pointwise nat_eq a.caps b.caps) (do_agree a.subs b.subs) h in
    let (signs, capitals) = and_parts (a.right && not b.right) (pointwise nat_eq a.caps b.caps) front in
    let (first, second) = and_parts a.right (not b.right) signs in
    record {
      to_right = first;
      to_left = not-true b.right second;
      capitals = (bytes_decides a.caps b.caps).0 capitals;
      subscripts = agree a.subs b.subs subscripts;
    }

pub match_does : (a b : Connector) → Match a b → do_match a b ≡ true
match_does a b m =
    and_from (a.right && not b.right && pointwise nat_eq a.caps b.caps) (do_agree a.subs b.subs)
    (and_from (a.right && not b.right) (pointwise nat_eq a.caps b.caps) (and_from a.right (not b.right) m.to_right (ap not m.to_left)) ((bytes_decides a.caps b.caps).1 m.capitals))
    (agree_from a.subs b.subs m.subscripts)

-- as the code tests it
pub match_test : (a b : Connector) (r : Bool) → (IsTrue r → Match a b) → (Match a b → IsTrue r) → r ≡ do_match a b
match_test a b r to from =
    elim (cases_Bool r) [
      | inl t ↦ t ∙ sym (match_does a b (to t))
      | inr f ↦ elim (cases_Bool (do_match a b)) [
        | inl t ↦ absurd (true≢false (sym (from (matches_if a b t)) ∙ f))
        | inr u ↦ f ∙ sym u
      ]
    ]

pub match_right : (a b : Connector) → do_match a b ≡ true → a.right ≡ true
match_right a b h = (matches_if a b h).to_right

pub match_left : (a b : Connector) → do_match a b ≡ true → b.right ≡ false
match_left a b h = (matches_if a b h).to_left

-- a partner of a connector to the left, and of one to the right
pub joins_left : (d c : Connector) → do_join d c ≡ true → c.right ≡ false → Match d c
joins_left d c h side =
    elim (or_cases (do_match d c) (do_match c d) h) [
      | inl m ↦ matches_if d c m
      | inr m ↦ absurd (true≢false (sym (match_right c d m) ∙ side))
    ]

pub joins_right : (d c : Connector) → do_join d c ≡ true → c.right ≡ true → Match c d
joins_right d c h side =
    elim (or_cases (do_match d c) (do_match c d) h) [
      | inl m ↦ absurd (true≢false (sym side ∙ match_left d c m))
      | inr m ↦ matches_if c d m
    ]

pub join_first : (d c : Connector) → Match d c → do_join d c ≡ true
join_first d c m = or_left (do_match d c) (do_match c d) (match_does d c m)

pub join_second : (d c : Connector) → Match c d → do_join d c ≡ true
join_second d c m = or_right (do_match d c) (do_match c d) (match_does c d m)

pub join_caps : (d c : Connector) → do_join d c ≡ true → d.caps ≡ c.caps
join_caps d c h =
    elim (or_cases (do_match d c) (do_match c d) h) [
      | inl m ↦ (matches_if d c m).capitals
      | inr m ↦ sym (matches_if c d m).capitals
    ]

pub side_right : (a b : Connector) → Match a b → a.right ≡ true
side_right a b m = m.to_right

pub side_left : (a b : Connector) → Match a b → b.right ≡ false
side_left a b m = m.to_left
