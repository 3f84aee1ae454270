-- Sums over sets of links add up.
use Rattle.std.proofs.Common.{◌≡◌, ℕ, ◌+◌, List, [], ◌∷◌, refl, sym, ◌∙◌, subst, inl, inr, Contains, arith, Ordering, Less, Equal, Greater}
use Rattle.std.specs.List.{sum_by}
use Rattle.std.proofs.lemmas.List.Sums.{sum_by-cons}
use Rattle.std.proofs.lemmas.Map.Keys.{sorted_head, sorted_tail}
use Rattle.lg_gram.specs.declared.linkage.Link.{Link}
use Rattle.lg_gram.specs.Linkages.{link_cmp}
use Rattle.lg_base.proofs.Elements.{contains_here, contains_later}
use Rattle.lg_gram.proofs.LinkSets.{IsSet, insert_step, insert, insert_all, equal_links, union_out, after_head, not_itself}

step_sum : (f : Link → ℕ) (o : Ordering) (x y : Link) (ys longer : List Link) → link_cmp x y ≡ o → (x ≡ y → ⊥) → sum_by f longer ≡ f x + sum_by f ys → sum_by f (insert_step o x y ys longer) ≡ f x + sum_by f (y ∷ ys)
step_sum f Less x y ys longer e new h = sum_by-cons f x (y ∷ ys)
step_sum f Equal x y ys longer e new h = absurd (new (equal_links x y e))
step_sum f Greater x y ys longer e new h = sum_by-cons f y longer ∙ omega (arith, h, sum_by-cons f y ys)

pub insert_sum : (f : Link → ℕ) (x : Link) (xs : List Link) → (Contains xs x → ⊥) → sum_by f (insert x xs) ≡ f x + sum_by f xs
insert_sum f x [] new = sum_by-cons f x []
insert_sum f x (y ∷ ys) new =
    step_sum f (link_cmp x y) x y ys (insert x ys) refl (λ e. new (subst (λ z. Contains (y ∷ ys) z) (sym e) (contains_here y ys))) (insert_sum f x ys (λ i. new (contains_later y ys x i)))

-- of two sets with no link in common
pub union_sum : (f : Link → ℕ) (xs ys : List Link) → IsSet xs → ((z : Link) → Contains xs z → Contains ys z → ⊥) → sum_by f (insert_all xs ys) ≡ sum_by f xs + sum_by f ys
union_sum f [] ys up apart = omega arith
union_sum f (x ∷ xs) ys up apart =
    let new : Contains (insert_all xs ys) x → ⊥ = λ i. elim (union_out xs ys x i) [
      | inl j ↦ not_itself x (after_head x xs x (sorted_head link_cmp x xs up) j)
      | inr j ↦ apart x (contains_here x xs) j
    ] in
    let r = union_sum f xs ys (sorted_tail link_cmp x xs up) (λ z i j. apart z (contains_later x xs z i) j) in
    insert_sum f x (insert_all xs ys) new ∙ omega (arith, r, sum_by-cons f x xs)
