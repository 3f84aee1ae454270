-- What is among the elements of a list.
use Rattle.std.proofs.Common.{◌≡◌, ◌≢◌, ◌⊎◌, inl, inr, ◌↔◌, zero, suc, List, [], ◌∷◌, ◌++◌, Bool, true, false, cond, filter, Contains, refl, sym, ap, subst, ◌∙◌, true≢false, arith}
use mathlib.Core.Logic.{⊎_elim}
use Rattle.std.proofs.lemmas.List.Elements.{All-contains, All-contains_itself, All-filter, filter_passes}

module _ {X : Type 0} where
  pub push_not_nil : (xs : List X) (x : X) → xs ++ x ∷ [] ≢ []
  push_not_nil [] x = λ e. cc
  push_not_nil (y ∷ ys) x = λ e. cc

  pub here : (x : X) (xs : List X) → Contains (x ∷ xs) x
  here x xs = (zero, omega arith, refl)

  pub there : (x w : X) (xs : List X) → Contains xs w → Contains (x ∷ xs) w
  there x w xs (k, within, is) = (suc k, omega arith, is)

  pub here_or_there : (x w : X) (xs : List X) → Contains (x ∷ xs) w → (w ≡ x) ⊎ Contains xs w
  here_or_there x w xs (zero, within, is) = inl (sym is)
  here_or_there x w xs (suc k, within, is) = inr (k, omega arith, is)

  pub nowhere : (w : X) → Contains [] w → ⊥
  nowhere w (k, within, is) = omega arith

  module _ (p : X → Bool) where
    filtered : (x w : X) (xs : List X) → Contains (x ∷ xs) w → p w ≡ true → (Contains xs w → Contains (filter p xs) w) → (b : Bool) → p x ≡ b → Contains (cond b (x ∷ filter p xs) (filter p xs)) w
    filtered x w xs h test rest true e = ⊎_elim (λ is. subst (Contains (x ∷ filter p xs)) (sym is) (here x (filter p xs))) (λ r. there x w (filter p xs) (rest r)) (here_or_there x w xs h)
    filtered x w xs h test rest false e = ⊎_elim (λ is. absurd (true≢false (sym test ∙ ap p is ∙ e))) rest (here_or_there x w xs h)

    in_filter : (xs : List X) (w : X) → Contains xs w → p w ≡ true → Contains (filter p xs) w
    in_filter [] w h test = absurd (nowhere w h)
    in_filter (x ∷ xs) w h test = filtered x w xs h test (λ r. in_filter xs w r test) (p x) refl

    -- those that pass a test
    pub Contains-filter : (xs : List X) (w : X) → Contains (filter p xs) w ↔ (Contains xs w × (p w ≡ true))
    Contains-filter xs w = (
      λ h. (All-contains (Contains xs) (filter p xs) w (All-filter p (Contains xs) xs (All-contains_itself xs)) h, All-contains (λ x. p x ≡ true) (filter p xs) w (filter_passes p xs) h),
      λ h. in_filter xs w h.0 h.1,
    )
