-- The columns at which positions start rise, and leave room for labels.
use Rattle.std.proofs.Common.{◌≡◌, ℕ, zero, suc, ◌+◌, ◌<◌, ◌≤◌, ◌==◌, Bool, true, List, [], ◌∷◌, length, get_or, refl, sym, ap, subst, ◌∙◌, inl, inr, arith}
use Rattle.std.proofs.lemmas.Bool.{cases_eq, cases_order, cond-true, cond_both}
use Rattle.std.proofs.lemmas.Bool.Decides.{nat_tests}
use Rattle.std.proofs.lemmas.List.{get_or_push, get_or_append_left}
use Rattle.std.proofs.lemmas.List.Elements.{All-contains}
use Rattle.std.specs.List.{Contains, filter}
use Rattle.lg_gram.specs.Linkages.{Linkage}
use Rattle.lg_gram.specs.declared.linkage.Link.{Link}
use Rattle.lg_text.specs.Diagrams.{greatest, width, start, starts_of, next_start}
use Rattle.lg_text.specs.Texts.{label_text}
use Rattle.lg_text.proofs.Columns.{length-starts_of}
use Rattle.lg_text.proofs.Greatest.{least_greatest, greatest_bounds}

-- what passes a test stays
pub kept : {X : Type 0} (p : X → Bool) (xs : List X) (x : X) → Contains xs x → p x ≡ true → Contains (filter p xs) x
kept p [] x has passes = let lt = has.1 in absurd (omega arith)
kept p (y ∷ ys) x has passes = at has.0 has.1 has.2 (λ k lt is. kept p ys x (k, lt, is) passes)
  where
    at : (k : ℕ) → k < length (y ∷ ys) → get_or (y ∷ ys) k x ≡ x → ((j : ℕ) → j < length ys → get_or ys j x ≡ x → Contains (filter p ys) x) → Contains (filter p (y ∷ ys)) x
    at zero lt is later = subst (λ zs. Contains zs x) (sym (cond-true (p y) (y ∷ filter p ys) (filter p ys) (ap p is ∙ passes))) (0, omega arith, is)
    at (suc k) lt is later =
        let rest = later k (omega arith) is in
        cond_both (p y) (y ∷ filter p ys) (filter p ys) (λ zs. Contains zs x) (λ _. (suc rest.0, (let below = rest.1 in omega arith), rest.2)) (λ _. rest)

module _ (texts : List (List ℕ)) (g : Linkage) where
  start_is : (n i : ℕ) → i < n → start (starts_of texts g n) i ≡ next_start texts g (starts_of texts g i) i
  start_is zero i lt = absurd (omega arith)
  start_is (suc n) i lt = let long = length-starts_of texts g n in elim (cases_eq i n) [
    | inl same ↦ subst (λ k. start (starts_of texts g (suc n)) k ≡ next_start texts g (starts_of texts g k) k) (sym same)
        (get_or_push (starts_of texts g n) (next_start texts g (starts_of texts g n) n) 0 n long)
    | inr apart ↦ get_or_append_left (starts_of texts g n) (next_start texts g (starts_of texts g n) n ∷ []) 0 i (omega arith) ∙ start_is n i (omega arith)
  ]

  -- where a position starts does not hang on those behind it
  stays : (n i j : ℕ) → j < i → i ≤ n → start (starts_of texts g i) j ≡ start (starts_of texts g n) j
  stays n i j lt le = start_is i j lt ∙ sym (start_is n j (omega arith))

  -- what a link that ends at position j leaves before it
  abbrev needs : ℕ → Link → ℕ
  needs j l = start (starts_of texts g j) l.left + (length (label_text g l) + 3)

  abbrev least : ℕ → ℕ
  least j = start (starts_of texts g (suc j)) j + (width (get_or texts j []) + 1)

  abbrev ending : ℕ → List Link
  ending j = filter (λ l. l.right == j) g.links

  behind : (n j : ℕ) → suc j < n → start (starts_of texts g n) j < start (starts_of texts g n) (suc j)
  behind n j lt =
      let low : least j ≤ start (starts_of texts g n) (suc j) = subst (λ k. least j ≤ k) (sym (start_is n (suc j) lt)) (least_greatest (needs (suc j)) (least j) (ending (suc j))) in
      let before = stays n (suc j) j (omega arith) (omega arith) in
      omega arith

  -- a later position starts farther to the right
  pub rise : (n i j : ℕ) → i < j → j < n → start (starts_of texts g n) i < start (starts_of texts g n) j
  rise n i zero lt below = absurd (omega arith)
  rise n i (suc j) lt below = let next = behind n j below in elim (cases_eq i j) [
    | inl same ↦ subst (λ k. start (starts_of texts g n) k < start (starts_of texts g n) (suc j)) (sym same) next
    | inr apart ↦ let before = rise n i j (omega arith) (omega arith) in omega arith
  ]

  -- what starts farther to the left is the earlier position
  pub earlier : (n i j : ℕ) → i < n → j < n → start (starts_of texts g n) i < start (starts_of texts g n) j → i < j
  earlier n i j lt below less = elim (cases_order i j) [
    | inl same ↦ let columns = ap (start (starts_of texts g n)) same in absurd (omega arith)
    | inr (inl before) ↦ before
    | inr (inr after) ↦ let more = rise n j i after lt in absurd (omega arith)
  ]

  -- between the ends of a link there is room for its label
  pub room : (n : ℕ) (l : Link) → Contains g.links l → l.left < l.right → l.right < n → start (starts_of texts g n) l.left + (length (label_text g l) + 3) ≤ start (starts_of texts g n) l.right
  room n l has forward below = at l.right refl
    where
      at : (j : ℕ) → l.right ≡ j → start (starts_of texts g n) l.left + (length (label_text g l) + 3) ≤ start (starts_of texts g n) j
      at zero is = absurd (omega arith)
      at (suc j) is =
          let ends : (l.right == suc j) ≡ true = grind (arith, nat_tests) in
          let most = All-contains (λ m. needs (suc j) m ≤ greatest (needs (suc j)) (least j) (ending (suc j))) (ending (suc j)) l
          (greatest_bounds (needs (suc j)) (least j) (ending (suc j))) (kept (λ m. m.right == suc j) g.links l has ends) in
          let high : needs (suc j) l ≤ start (starts_of texts g n) (suc j) = subst (λ k. needs (suc j) l ≤ k) (sym (start_is n (suc j) (omega arith))) most in
          let before = stays n (suc j) l.left (omega arith) (omega arith) in
          omega arith
