-- The sound linkages that go on from a choice.
use Rattle.std.proofs.Common.{◌≡◌, ℕ, ◌<◌, ◌≤◌, ◌+◌, ◌-◌, ◌↔◌, Bool, true, false, List, [], ◌∷◌, ◌++◌, length, get_or, take, drop, take_all, refl, sym, subst, inl, inr, ◌⊎◌, append_assoc, append-nil, Option, Some, None, arith, is_none, zero-le}
use Rattle.std.specs.List.{AllZip, Contains, count_by}
use Rattle.std.specs.List.Sorted.{IsStrictlySortedBy}
use Rattle.std.specs.Cmp.{IsTotalOrder}
use Rattle.std.proofs.lemmas.List.{take_more}
use Rattle.std.proofs.lemmas.List.Elements.{Contains-push_cases, Contains-append_left, Contains-push}
use Rattle.std.proofs.lemmas.Grind.{common_steps}
use Rattle.lg_gram.specs.Linkages.{Linkage, link_cmp}
use Rattle.lg_gram.specs.declared.disjunct.Disjunct.{Disjunct}
use Rattle.lg_gram.specs.declared.linkage.Link.{Link}
use Rattle.lg_rules.specs.Partners.{CanLink, AreLinks}
use Rattle.lg_rules.specs.Prunes.{CanStand}
use Rattle.lg_rules.specs.Steps.{Adds, IsCompletion, IsSoundWith, GoesOn, GoesOnWithNone, GoesOnWithOne, IsPick}
use Rattle.lg_rules.proofs.Adding.{adds_same, adds_then, adds_none}
use Rattle.lg_rules.proofs.Pruned.{sound_can, goes_on_stands}
use Rattle.lg_rules.proofs.Sublists.{sublist_of, sublist_rises}

-- all sound sets of links of a choice are parts of the candidates
pub sound_completed : IsTotalOrder link_cmp → (chosen : List (Option Disjunct)) (candidates : List Link) → AreLinks chosen candidates → ((k : Link) → CanLink chosen k → Contains candidates k) →
    (a b : List Linkage) → Adds (IsCompletion chosen [] candidates) a b → Adds (IsSoundWith chosen) a b
unfolding IsCompletion
sound_completed total chosen candidates are every a b h =
    adds_same (IsCompletion chosen [] candidates) (IsSoundWith chosen) a b h
    (λ g. (
      λ q. (q.same, (g.links, sublist_of total g.links candidates q.rise are.rise (λ z m. every z (sound_can chosen g q z m)), refl), q.sound),
      λ q. record { same = q.0; rise = subst (IsStrictlySortedBy link_cmp) (sym q.1.2) (sublist_rises q.1.0 candidates q.1.1 are.rise); sound = q.2 },
    ))

none_left : (chosen : List (Option Disjunct)) (more : List (Option Disjunct)) (g : Linkage) → AllZip IsPick [] more → IsSoundWith (chosen ++ more) g → IsSoundWith chosen g
none_left chosen [] g z h = rw append-nil at h
none_left chosen (d ∷ ds) g z h = absurd z

-- no row is left
pub chosen_all : (chosen : List (Option Disjunct)) (rows : List (List Disjunct)) (spare : ℕ) → length rows ≤ 0 → (a b : List Linkage) → Adds (IsSoundWith chosen) a b → Adds (GoesOn chosen rows spare) a b
unfolding GoesOn
chosen_all chosen [] spare h a b p =
    adds_same (IsSoundWith chosen) (λ g. GoesOn chosen [] spare g) a b p (λ g. (λ q. none_left chosen q.0 g q.1 q.3, λ q. ([], tt, zero-le, rw append-nil q)))
chosen_all chosen (x ∷ xs) spare h a b p = absurd (omega arith)

count_none : (os : List (Option Disjunct)) → count_by is_none (None ∷ os) ≡ 1 + count_by is_none os
count_none os = grind (arith, common_steps)

count_some : (d : Disjunct) (os : List (Option Disjunct)) → count_by is_none (Some d ∷ os) ≡ count_by is_none os
count_some d os = refl

pub cons_of_item : {X : Type 0} (xs : List X) (x : X) → 1 ≤ length xs → x ≡ get_or xs 0 x → xs ≡ x ∷ take (length xs - 1) (drop 1 xs)
cons_of_item [] x h e = absurd (omega arith)
cons_of_item (y ∷ ys) x h e = rw (e, take_all (length (y ∷ ys) - 1) ys (omega arith)) refl

-- a row is left
goes_on_from : (chosen : List (Option Disjunct)) (row : List Disjunct) (later : List (List Disjunct)) (spare : ℕ) (g : Linkage) (more : List (Option Disjunct)) →
    AllZip IsPick (row ∷ later) more → count_by is_none more ≤ spare → IsSoundWith (chosen ++ more) g → GoesOnWithNone chosen later spare g ⊎ GoesOnWithOne row chosen later spare g
unfolding GoesOn GoesOnWithNone GoesOnWithOne
goes_on_from chosen row later spare g [] z n h = absurd z
goes_on_from chosen row later spare g (None ∷ os) z n h = inl (omega (arith, count_none os), (os, z.1, omega (arith, count_none os), rw append_assoc h))
goes_on_from chosen row later spare g (Some d ∷ os) z n h = inr (d, z.0, (os, z.1, omega (arith, count_some d os), rw append_assoc h))

goes_on_cases : (chosen : List (Option Disjunct)) (row : List Disjunct) (later : List (List Disjunct)) (spare : ℕ) (g : Linkage) →
    GoesOn chosen (row ∷ later) spare g ↔ (GoesOnWithNone chosen later spare g ⊎ GoesOnWithOne row chosen later spare g)
unfolding GoesOn GoesOnWithNone GoesOnWithOne
goes_on_cases chosen row later spare g = (
  λ q. goes_on_from chosen row later spare g q.0 q.1 q.2 q.3,
  λ q. elim q [
    | inl h ↦ (None ∷ h.1.0, (tt, h.1.1), omega (arith, h.0, h.1.2, count_none h.1.0), rw append_assoc at h.1.3)
    | inr h ↦ (Some h.0 ∷ h.2.0, (h.1, h.2.1), omega (arith, h.2.2, count_some h.0 h.2.0), rw append_assoc at h.2.3)
  ],
)

module _ (chosen : List (Option Disjunct)) (later : List (List Disjunct)) (spare : ℕ) where
  abbrev With : List Disjunct → Linkage → Type 0
  With row g = GoesOnWithNone chosen later spare g ⊎ GoesOnWithOne row chosen later spare g

  one_of_none : (g : Linkage) → GoesOnWithOne [] chosen later spare g → ⊥
  unfolding GoesOnWithOne
  one_of_none g h = let m = h.1 in omega (arith, m.1)

  pub none_first : (next : List (Option Disjunct)) (a b : List Linkage) → 0 < spare → next ≡ chosen ++ None ∷ [] → Adds (GoesOn next later (spare - 1)) a b → Adds (With []) a b
  unfolding GoesOnWithNone
  none_first next a b p e h =
      adds_same (GoesOn next later (spare - 1)) (With []) a b h
      (λ g. rw e (λ q. elim q [ inl i ↦ i.1 | inr i ↦ absurd (one_of_none g i) ], λ q. inl (p, q)))

  pub none_skipped : (a : List Linkage) → spare ≤ 0 → Adds (With []) a a
  unfolding GoesOnWithNone
  none_skipped a p = adds_none (With []) a (λ g q. elim q [ inl i ↦ absurd (omega (arith, i.0)) | inr i ↦ one_of_none g i ])

  one_cases : (row : List Disjunct) (x : Disjunct) (g : Linkage) → GoesOnWithOne (row ++ x ∷ []) chosen later spare g ↔ (GoesOnWithOne row chosen later spare g ⊎ GoesOn (chosen ++ Some x ∷ []) later spare g)
  unfolding GoesOnWithOne
  one_cases row x g = (
    λ q. elim (Contains-push_cases row x q.0 q.1) [ inl i ↦ inl (q.0, i, q.2) | inr e ↦ inr (subst (λ z. GoesOn (chosen ++ Some z ∷ []) later spare g) (sym e) q.2) ],
    λ q. elim q [ inl i ↦ (i.0, Contains-append_left row (x ∷ []) i.0 i.1, i.2) | inr i ↦ (x, Contains-push row x, i) ],
  )

  pub one_more : (row : List Disjunct) (i : ℕ) (x : Disjunct) (next : List (Option Disjunct)) (a b c : List Linkage) → i < length row → x ≡ get_or row i x → next ≡ chosen ++ Some x ∷ [] →
      Adds (With (take i row)) a b → Adds (GoesOn next later spare) b c → Adds (With (take (i + 1) row)) a c
  one_more row i x next a b c l e f p q =
      adds_then (With (take i row)) (GoesOn next later spare) (With (take (i + 1) row)) a b c p q
      (λ g.
      let both = one_cases (take i row) x g in
      rw (take_more row i x l, ← e, f) (
        λ w. elim w [ inl j ↦ inl (inl j) | inr j ↦ elim (both.0 j) [ inl k ↦ inl (inr k) | inr k ↦ inr k ] ],
        λ w. elim w [ inl j ↦ elim j [ inl k ↦ inl k | inr k ↦ inr (both.1 (inl k)) ] | inr j ↦ inr (both.1 (inr j)) ],
      ))

  -- the disjunct cannot stand there, so nothing goes on with it
  pub one_skipped : (row : List Disjunct) (i : ℕ) (x : Disjunct) (a b : List Linkage) (after : ℕ) (r : Bool) → i < length row → x ≡ get_or row i x → after ≡ length later →
      (CanStand chosen after x → r ≡ true) → r ≡ false → Adds (With (take i row)) a b → Adds (With (take (i + 1) row)) a b
  one_skipped row i x a b after r l e f told off p =
      adds_same (With (take i row)) (With (take (i + 1) row)) a b p
      (λ g.
      let both = one_cases (take i row) x g in
      rw (take_more row i x l, ← e) (
        λ w. elim w [ inl j ↦ inl j | inr j ↦ elim (both.0 j) [ inl k ↦ inr k | inr k ↦ absurd (let t = told (rw f (goes_on_stands chosen x later spare g k)) in cc) ] ],
        λ w. elim w [ inl j ↦ inl j | inr j ↦ inr (both.1 (inl j)) ],
      ))

  pub chosen_each : (row : List Disjunct) (rows : List (List Disjunct)) (i : ℕ) (a b : List Linkage) → rows ≡ row ∷ later → length row ≤ i → Adds (With (take i row)) a b → Adds (GoesOn chosen rows spare) a b
  chosen_each row rows i a b e l p =
      adds_same (With (take i row)) (GoesOn chosen rows spare) a b p (λ g. rw (e, take_all i row l) (goes_on_cases chosen row later spare g))
