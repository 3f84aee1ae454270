-- A loop that keeps some links of a list.
use Rattle.std.proofs.Common.{ℕ, ◌+◌, ◌<◌, List, [], ◌∷◌, ◌++◌, length, get_or, take, ◌↔◌, inl, inr, subst, sym, Contains, arith}
use Rattle.std.proofs.lemmas.List.{take_more}
use Rattle.std.proofs.lemmas.List.Elements.{Contains-append_left, Contains-push, Contains-push_cases}
use Rattle.lg_gram.specs.declared.linkage.Link.{Link}

-- those of the list of which Q holds, and no others
abbrev pub AreKept : (Link → Type 0) → List Link → List Link → Type 0
AreKept Q xs kept = (l : Link) → Contains kept l ↔ (Contains xs l × Q l)

pub kept_none : (Q : Link → Type 0) → AreKept Q [] []
kept_none Q l = (λ has. absurd (omega (arith, has.1)), λ has. absurd (omega (arith, has.0.1)))

module _ (Q : Link → Type 0) (xs kept : List Link) (x : Link) (so_far : AreKept Q xs kept) where
  pub kept_push : Q x → AreKept Q (xs ++ x ∷ []) (kept ++ x ∷ [])
  kept_push here l = (to, from) where
    to : Contains (kept ++ x ∷ []) l → Contains (xs ++ x ∷ []) l × Q l
    to has = elim (Contains-push_cases kept x l has) [
      | inl old ↦ let h = (so_far l).0 old in (Contains-append_left xs (x ∷ []) l h.0, h.1)
      | inr same ↦ subst (λ z. Contains (xs ++ x ∷ []) z × Q z) same (Contains-push xs x, here)
    ]

    from : Contains (xs ++ x ∷ []) l × Q l → Contains (kept ++ x ∷ []) l
    from has = elim (Contains-push_cases xs x l has.0) [
      | inl old ↦ Contains-append_left kept (x ∷ []) l ((so_far l).1 (old, has.1))
      | inr same ↦ subst (Contains (kept ++ x ∷ [])) same (Contains-push kept x)
    ]

  pub kept_skip : (Q x → ⊥) → AreKept Q (xs ++ x ∷ []) kept
  kept_skip not l = (
    λ has. let h = (so_far l).0 has in (Contains-append_left xs (x ∷ []) l h.0, h.1),
    λ has. elim (Contains-push_cases xs x l has.0) [
      | inl old ↦ (so_far l).1 (old, has.1)
      | inr same ↦ absurd (not (subst Q (sym same) has.1))
    ],
  )

-- one more link of a list, kept or passed over
pub kept_taken : (Q : Link → Type 0) (xs kept : List Link) (i : ℕ) (d : Link) → i < length xs → AreKept Q (take i xs) kept → Q (get_or xs i d) → AreKept Q (take (i + 1) xs) (kept ++ get_or xs i d ∷ [])
kept_taken Q xs kept i d less so_far here = rw (take_more xs i d less) (kept_push Q (take i xs) kept (get_or xs i d) so_far here)

pub kept_passed : (Q : Link → Type 0) (xs kept : List Link) (i : ℕ) (d : Link) → i < length xs → AreKept Q (take i xs) kept → (Q (get_or xs i d) → ⊥) → AreKept Q (take (i + 1) xs) kept
kept_passed Q xs kept i d less so_far not = rw (take_more xs i d less) (kept_skip Q (take i xs) kept (get_or xs i d) so_far not)
