-- What a change at one text does to the numbers of all.
use Rattle.std.proofs.Common.{◌≡◌, ℕ, ◌+◌, Bool, true, false, cond, if◌then◌else◌, List, [], ◌∷◌, Vec, Option, Some, None, IsSome, unwrap_or, refl, sym, subst, ◌∙◌, arith, Ordering, Less, ◌⊎◌}
use mathlib.Core.Logic.{inl, inr, ⊎_elim}
use Rattle.std.specs.List.{AllByRecursion}
use Rattle.std.specs.List.Sorted.{IsStrictlySortedBy}
use Rattle.std.proofs.lemmas.Map.Keys.{sorted_head, sorted_tail}
use Rattle.std.specs.Ordering.{nat_cmp, is_eq}
use Rattle.std.specs.Cmp.{eq_by_cmp_equiv}
use Rattle.std.specs.Cmp.Lexicographic.{slice_cmp, nat_list_cmp_total, nat_list_eq_equiv}
use Rattle.std.specs.Str.{bytes_eq}
use Rattle.std.specs.BTreeMap.{BTreeMap, UpdatesBy, is_at}
use Rattle.std.specs.Map.{lookup, keys_of, KeepsOthers, IsKeyTest, AreApart}
use Rattle.std.proofs.lemmas.Map.Text.{is_eq-slice_cmp}
use Rattle.std.proofs.lemmas.Slice.Eq.{bytes_eq-Decides}
use Rattle.lg_usage.specs.Stored.{stored, HasPlace, KeepsPlaces, OnlyMakesRoom, Raises}
use Rattle.lg_usage.proofs.Tallies.{found}

apart : (text other key : List ℕ) → bytes_eq text other ≡ false → is_eq (slice_cmp nat_cmp text key) ≡ true → is_eq (slice_cmp nat_cmp other key) ≡ false
apart text other key n y = grind (arith, is_eq-slice_cmp text key, is_eq-slice_cmp other key, bytes_eq-Decides text other, bytes_eq-Decides text key, bytes_eq-Decides other key, n, y)

module _ {A : Type 0} where
  abbrev pub byte_cmp : Vec ℕ A → Vec ℕ A → Ordering
  byte_cmp x y = slice_cmp nat_cmp x.items y.items

  abbrev pub at_bytes : List ℕ → Vec ℕ A → Ordering
  at_bytes text k = slice_cmp nat_cmp text k.items

  kept_others : (eq : Vec ℕ A → Vec ℕ A → Bool) (test : Vec ℕ A → Bool) (old new : List (Vec ℕ A × ℕ)) → KeepsOthers eq test old new
      → (other : Vec ℕ A → Bool) → IsKeyTest eq other → AreApart test other → lookup other new ≡ lookup other old
  unfolding KeepsOthers
  kept_others eq test old new h = h

  -- the new map has w at the text, and at other texts what the old one has
  pub updated : (text : List ℕ) (m n : BTreeMap (Vec ℕ A) ℕ) (w : Option ℕ) → UpdatesBy byte_cmp (at_bytes text) m n w
      → (other : List ℕ) → stored n other ≡ cond (bytes_eq text other) w (stored m other)
  updated text m n w h other = by_bytes (bytes_eq text other) refl
    where
      by_bytes : (b : Bool) → bytes_eq text other ≡ b → stored n other ≡ cond b w (stored m other)
      by_bytes true t = subst (λ z. stored n z ≡ w) ((bytes_eq-Decides text other).0 t) h.1
      by_bytes false t = kept_others _ _ _ _ h.3 _ (λ x y. (eq_by_cmp_equiv nat_list_cmp_total).congr other x.items y.items) (λ k. apart text other k.items t)

  -- a place for a text that had none
  pub placed : (text : List ℕ) (m n : BTreeMap (Vec ℕ A) ℕ) → stored m text ≡ None → UpdatesBy byte_cmp (at_bytes text) m n (Some 0) → OnlyMakesRoom m n
  placed text m n none h = record {
    same = λ other. grind (arith, updated text m n _ h other, bytes_eq-Decides text other, none);
    kept = λ other has. grind (arith, updated text m n _ h other, has);
  }

  -- the number at a text that has a place
  pub raised : (text : List ℕ) (v more : ℕ) (m n : BTreeMap (Vec ℕ A) ℕ) → stored m text ≡ Some v → UpdatesBy byte_cmp (at_bytes text) m n (Some (v + more)) → Raises m text more n
  raised text v more m n is h = record {
    raised = λ other. grind (arith, updated text m n _ h other, bytes_eq-Decides text other, bytes_eq-Decides other text, is);
    kept = λ other has. grind (arith, updated text m n _ h other, has);
  }

  -- each text of the entries, or of those that are left, has a place
  abbrev pub ArePlaced : List (Vec ℕ A × ℕ) → BTreeMap (Vec ℕ A) ℕ → List (Vec ℕ A × ℕ) → Type 0
  ArePlaced all m rest = (text : List ℕ) → IsSome (found text all) → IsSome (found text rest) ⊎ HasPlace m text

  is_at_key : (text : List ℕ) (k : Vec ℕ A) → is_at (at_bytes text) k ≡ true → k.items ≡ text
  is_at_key text k t = sym ((bytes_eq-Decides text k.items).0 (sym (is_eq-slice_cmp text k.items) ∙ t))

  -- one text more has a place
  pub placed_more : (all rest : List (Vec ℕ A × ℕ)) (e : Vec ℕ A × ℕ) (m n : BTreeMap (Vec ℕ A) ℕ) → KeepsPlaces m n → HasPlace n e.0.items → ArePlaced all m (e ∷ rest) → ArePlaced all n rest
  placed_more all rest e m n kept there before text has = ⊎_elim (λ h. by_key (is_at (at_bytes text) e.0) refl h) (λ h. inr (kept text h)) (before text has)
    where
      by_key : (b : Bool) → is_at (at_bytes text) e.0 ≡ b → IsSome (cond b (Some e.1) (found text rest)) → IsSome (found text rest) ⊎ HasPlace n text
      by_key true t h = inr (subst (HasPlace n) (is_at_key text e.0 t) there)
      by_key false t h = inl h

  -- the text of the first entry is found
  pub first_found : (e : Vec ℕ A × ℕ) (es : List (Vec ℕ A × ℕ)) → IsSome (found e.0.items (e ∷ es))
  first_found e es = subst (λ b. IsSome (cond b (Some e.1) (found e.0.items es))) (sym (is_eq-slice_cmp e.0.items e.0.items ∙ (nat_list_eq_equiv).refl e.0.items)) refl

  -- how much the entries add to a text
  abbrev pub sum_at : List ℕ → List (Vec ℕ A × ℕ) → ℕ
  sum_at text [] = 0
  sum_at text (e ∷ es) = (if bytes_eq text e.0.items then e.1 else 0) + sum_at text es

  pub none_above : (es : List (Vec ℕ A × ℕ)) (k : Vec ℕ A) (text : List ℕ) → k.items ≡ text → AllByRecursion (λ y. byte_cmp k y ≡ Less) (keys_of es) → sum_at text es ≡ 0
  none_above [] k text is above = refl
  none_above (e ∷ es) k text is above =
      let rest = none_above es k text is above.1 in
      grind (arith, rest, is, above.0, bytes_eq-Decides text e.0.items, is_eq-slice_cmp k.items e.0.items)

  -- where the texts rise, each stands there once
  pub sum_is : (es : List (Vec ℕ A × ℕ)) (text : List ℕ) → IsStrictlySortedBy byte_cmp (keys_of es) → sum_at text es ≡ unwrap_or (found text es) 0
  sum_is [] text rises = refl
  sum_is (e ∷ es) text rises =
      let rest = sum_is es text (sorted_tail byte_cmp e.0 (keys_of es) rises) in
      let none : text ≡ e.0.items → sum_at text es ≡ 0 = λ is. none_above es e.0 text (sym is) (sorted_head byte_cmp e.0 (keys_of es) rises) in
      grind (arith, rest, none, bytes_eq-Decides text e.0.items, is_eq-slice_cmp text e.0.items)
