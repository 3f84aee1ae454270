-- Counts of the links at a place, and what the rules say of them.
use Rattle.std.proofs.Common.{◌≡◌, ◌≢◌, ℕ, zero, suc, ◌≤◌, Bool, true, false, cond, ◌&&◌, ◌==◌, List, [], ◌∷◌, refl, sym, ap, ◌∙◌, subst, inl, inr, ◌⊎◌, Contains, Less, arith}
use Rattle.std.specs.List.{count_by}
use Rattle.std.specs.List.Sorted.{IsStrictlySortedBy}
use Rattle.std.specs.Cmp.{IsTotalOrder}
use Rattle.std.proofs.lemmas.Bool.{cases_Bool, cases_lt, false≢true}
use Rattle.std.proofs.lemmas.Bool.Decides.{nat_tests}
use Rattle.std.proofs.lemmas.Cmp.{tied_itself}
use Rattle.std.proofs.lemmas.List.Elements.{All-contains, All-from_recursion}
use Rattle.std.proofs.lemmas.List.Sums.{sum_by-cons}
use Rattle.std.proofs.lemmas.Map.Keys.{sorted_head, sorted_tail}
use Rattle.lg_gram.specs.Connectors.{Connector}
use Rattle.lg_gram.specs.Linkages.{link_cmp}
use Rattle.lg_gram.specs.Rules.{Serves}
use Rattle.lg_gram.specs.declared.linkage.Link.{Link}
use Rattle.lg_rules.specs.Checks.{is_at, IsCount}
use Rattle.lg_rules.specs.Verdicts.{end_of, place_of, IsAt}

pub contains_here : (x : Link) (xs : List Link) → Contains (x ∷ xs) x
contains_here x xs = (zero, omega arith, refl)

pub contains_later : (y : Link) (xs : List Link) (x : Link) → Contains xs x → Contains (y ∷ xs) x
contains_later y xs x (k, l, e) = (suc k, omega arith, e)

contains_cases : (y : Link) (xs : List Link) (x : Link) → Contains (y ∷ xs) x → (y ≡ x) ⊎ Contains xs x
contains_cases y xs x (zero, l, e) = inl e
contains_cases y xs x (suc k, l, e) = inr (k, omega arith, e)

contains_none : (x : Link) → Contains [] x → ⊥
contains_none x (k, l, e) = omega arith

-- the first link of a rising list does not come again
head_once : IsTotalOrder link_cmp → (x : Link) (xs : List Link) → IsStrictlySortedBy link_cmp (x ∷ xs) → Contains xs x → ⊥
head_once total x xs rise has =
    let less : link_cmp x x ≡ Less = All-contains (λ y. link_cmp x y ≡ Less) xs x (All-from_recursion (λ y. link_cmp x y ≡ Less) xs (sorted_head link_cmp x xs rise)) has in
    let tied = tied_itself total x in
    cc

count_yes : (p : Link → Bool) (x : Link) (xs : List Link) → p x ≡ true → count_by p (x ∷ xs) ≡ suc (count_by p xs)
count_yes p x xs e = sum_by-cons (λ z. cond (p z) 1 0) x xs ∙ rw e (omega arith)

count_no : (p : Link → Bool) (x : Link) (xs : List Link) → p x ≡ false → count_by p (x ∷ xs) ≡ count_by p xs
count_no p x xs e = sum_by-cons (λ z. cond (p z) 1 0) x xs ∙ rw e (omega arith)

-- a count of at least one has a link
some_from_count : (p : Link → Bool) (xs : List Link) → 1 ≤ count_by p xs → (l : Link) × Contains xs l × (p l ≡ true)
some_from_count p [] h = absurd (omega arith)
some_from_count p (x ∷ xs) h =
    elim (cases_Bool (p x)) [
      | inl t ↦ (x, contains_here x xs, t)
      | inr t ↦
          let r = some_from_count p xs (let e = count_no p x xs t in omega arith) in
          (r.0, contains_later x xs r.0 r.1, r.2)
    ]

-- and a link counts
count_from_some : (p : Link → Bool) (xs : List Link) (l : Link) → Contains xs l → p l ≡ true → 1 ≤ count_by p xs
count_from_some p [] l i e = absurd (contains_none l i)
count_from_some p (x ∷ xs) l i e =
    elim (cases_Bool (p x)) [
      | inl t ↦ (let f = count_yes p x xs t in omega arith)
      | inr t ↦ elim (contains_cases x xs l i) [
        | inl f ↦ absurd (false≢true (sym t ∙ ap p f ∙ e))
        | inr j ↦ (let f = count_no p x xs t in let r = count_from_some p xs l j e in omega arith)
      ]
    ]

-- where the count is one, any two are one
one_from_count : (p : Link → Bool) (xs : List Link) → count_by p xs ≤ 1 → (k l : Link) → Contains xs k → Contains xs l → p k ≡ true → p l ≡ true → k ≡ l
one_from_count p [] h k l ik il ek el = absurd (contains_none k ik)
one_from_count p (x ∷ xs) h k l ik il ek el =
    elim (cases_Bool (p x)) [
      | inl t ↦
          let f = count_yes p x xs t in
          let none : (z : Link) → Contains xs z → p z ≡ true → ⊥ = λ z i e. (let r = count_from_some p xs z i e in omega arith) in
          elim (contains_cases x xs k ik) [
            | inl a ↦ elim (contains_cases x xs l il) [ inl b ↦ sym a ∙ b | inr j ↦ absurd (none l j el) ]
            | inr j ↦ absurd (none k j ek)
          ]
      | inr t ↦
          let f = count_no p x xs t in
          elim (contains_cases x xs k ik) [
            | inl a ↦ absurd (false≢true (sym t ∙ ap p a ∙ ek))
            | inr i ↦ elim (contains_cases x xs l il) [ inl b ↦ absurd (false≢true (sym t ∙ ap p b ∙ el)) | inr j ↦ one_from_count p xs (omega arith) k l i j ek el ]
          ]
    ]

-- two links of the list, which are not one, pass the test
abbrev HasTwo : (Link → Bool) → List Link → Type 0
HasTwo p xs = (k : Link) × (l : Link) × Contains xs k × Contains xs l × (p k ≡ true) × (p l ≡ true) × (k ≢ l)

two_from_count : IsTotalOrder link_cmp → (p : Link → Bool) (xs : List Link) → IsStrictlySortedBy link_cmp xs → 2 ≤ count_by p xs → HasTwo p xs
two_from_count total p [] rise h = absurd (omega arith)
two_from_count total p (x ∷ xs) rise h =
    elim (cases_Bool (p x)) [
      | inl t ↦
          let r = some_from_count p xs (let e = count_yes p x xs t in omega arith) in
          (x, r.0, contains_here x xs, contains_later x xs r.0 r.1, t, r.2, λ same. head_once total x xs rise (subst (λ z. Contains xs z) (sym same) r.1))
      | inr t ↦
          let r = two_from_count total p xs (sorted_tail link_cmp x xs rise) (let e = count_no p x xs t in omega arith) in
          (r.0, r.1, contains_later x xs r.0 r.2, contains_later x xs r.1 r.3, r.4, r.5, r.6)
    ]

at_from_test : (a b i p : ℕ) → ((a == i) && (b == p)) ≡ true → (a ≡ i) × (b ≡ p)
at_from_test a b i p e = (grind (arith, nat_tests), grind (arith, nat_tests))

test_from_at : (a b i p : ℕ) → a ≡ i → b ≡ p → ((a == i) && (b == p)) ≡ true
test_from_at a b i p e f = grind (arith, nat_tests)

some_counted : (m : Bool) (n : ℕ) → IsCount m n → 1 ≤ n
some_counted true n h = h
some_counted false n h = omega arith

one_counted : (m : Bool) (n : ℕ) → IsCount m n → m ≡ false → n ≤ 1
one_counted true n h e = absurd (false≢true (sym e))
one_counted false n h e = omega arith

-- with so many links a connector has none, or is not multi and has two
not_counted : (m : Bool) (n : ℕ) → (IsCount m n → ⊥) → (n ≡ 0) ⊎ ((m ≡ false) × (2 ≤ n))
not_counted true n h = elim (cases_lt 0 n) [ inl some ↦ absurd (h some) | inr none ↦ inl (omega arith) ]
not_counted false n h =
    elim (cases_lt 0 n) [
      | inr none ↦ inl (omega arith)
      | inl some ↦ elim (cases_lt 1 n) [ inl two ↦ inr (refl, two) | inr one ↦ absurd (h (omega arith)) ]
    ]

-- a place of a list of links
module _ (links : List Link) (i : ℕ) (right : Bool) (p : ℕ) (c : Connector) where
  -- a connector with so many links as it may have is served
  pub served_from_count : IsCount c.multi (count_by (is_at right i p) links) → Serves (Contains links) (end_of right) (place_of right) i p c
  served_from_count h = record {
    some =
        let r = some_from_count (is_at right i p) links (some_counted c.multi (count_by (is_at right i p) links) h) in
        let at = at_from_test (end_of right r.0) (place_of right r.0) i p r.2 in
        (r.0, r.1, at.0, at.1);
    one = λ single k l has_k has_l end_k place_k end_l place_l. one_from_count (is_at right i p) links (one_counted c.multi (count_by (is_at right i p) links) h single) k l has_k has_l (test_from_at (end_of right k) (place_of right k) i p end_k place_k) (test_from_at (end_of right l) (place_of right l) i p end_l place_l);
  }

  -- with any other number it has no link, or is not multi and has two
  pub unserved_from_count : IsTotalOrder link_cmp → IsStrictlySortedBy link_cmp links → (IsCount c.multi (count_by (is_at right i p) links) → ⊥) →
      ((l : Link) → Contains links l → IsAt right i p l → ⊥)
      ⊎ ((c.multi ≡ false) × ((k : Link) × (l : Link) × Contains links k × Contains links l × IsAt right i p k × IsAt right i p l × (k ≢ l)))
  unserved_from_count total rise h =
      elim (not_counted c.multi (count_by (is_at right i p) links) h) [
        | inl none ↦ inl (λ l has at.
            let r = count_from_some (is_at right i p) links l has (test_from_at (end_of right l) (place_of right l) i p at.0 at.1) in omega arith)
        | inr two ↦
            let r = two_from_count total (is_at right i p) links rise two.1 in
            inr (two.0, (r.0, r.1, r.2, r.3, at_from_test (end_of right r.0) (place_of right r.0) i p r.4, at_from_test (end_of right r.1) (place_of right r.1) i p r.5, r.6))
      ]

  -- a connector that is served is not unserved
  pub served_once : Serves (Contains links) (end_of right) (place_of right) i p c →
      ((l : Link) → Contains links l → IsAt right i p l → ⊥)
      ⊎ ((c.multi ≡ false) × ((k : Link) × (l : Link) × Contains links k × Contains links l × IsAt right i p k × IsAt right i p l × (k ≢ l))) → ⊥
  served_once s (inl none) = none s.some.0 s.some.1 (s.some.2, s.some.3)
  served_once s (inr (single, two)) = two.6 (s.one single two.0 two.1 two.2 two.3 two.4.0 two.4.1 two.5.0 two.5.1)
