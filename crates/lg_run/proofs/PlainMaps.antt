-- What holds of all that a map from texts has.
use Rattle.std.proofs.Common.{◌≡◌, ℕ, Bool, true, false, cond, List, [], ◌∷◌, Option, Some, None, refl, sym, subst, ◌∙◌}
use Rattle.std.specs.List.{AllByRecursion}
use Rattle.std.specs.Cmp.Lexicographic.{slice_cmp, nat_list_cmp_total}
use Rattle.std.specs.FinMap.{get, insert, remove, from_entries, get-from_entries, get-insert, get-remove, slice_cmp-IsAntisymmetric, nat_cmp-IsAntisymmetric}
use Rattle.std.specs.FinMap.Entries.{find}
use Rattle.std.specs.Ordering.{nat_cmp, is_eq, eq_by_cmp}
use Rattle.std.specs.declared.cmp.Ordering.{Ordering}
use Rattle.std.specs.declared.cmp.Ordering.TheVariants.{Less, Equal, Greater}
use Rattle.lg_dict.specs.Dictionary.{TextMap, insert_all}

abbrev by_bytes : List ℕ → List ℕ → Ordering
by_bytes = slice_cmp nat_cmp

equal : (r : Ordering) → is_eq r ≡ true → r ≡ Equal
equal Less e = absurd (cc e)
equal Equal e = refl
equal Greater e = absurd (cc e)

-- texts that the order does not tell apart are one
one_text : (x y : List ℕ) → eq_by_cmp by_bytes x y ≡ true → x ≡ y
one_text x y e = slice_cmp-IsAntisymmetric nat_cmp-IsAntisymmetric x y (equal (by_bytes x y) e)

module _ {V : Type 0} (P : List ℕ → V → Type 0) where
  abbrev pub HoldsOf : TextMap V → Type 0
  HoldsOf m = (text : List ℕ) (v : V) → get m text ≡ Some v → P text v

  -- what is found at a key that may be this one, or else elsewhere
  at_either : (q k : List ℕ) (v w : V) (else : Option V) (b : Bool) → eq_by_cmp by_bytes q k ≡ b → P k v → (else ≡ Some w → P q w) → cond b (Some v) else ≡ Some w → P q w
  at_either q k v w else true tied p others e =
      let same : v ≡ w = cc in
      subst (λ (x : V). P q x) same (subst (λ (t : List ℕ). P t v) (sym (one_text q k tied)) p)
  at_either q k v w else false tied p others e = others e

  found : (es : List (List ℕ × V)) (q : List ℕ) (v : V) → AllByRecursion (λ (e : List ℕ × V). P e.0 e.1) es → find by_bytes q es ≡ Some v → P q v
  found [] q v all e = absurd (cc e)
  found (x ∷ es) q v all e = at_either q x.0 x.1 v (find by_bytes q es) (eq_by_cmp by_bytes q x.0) refl all.0 (found es q v all.1) e

  pub of_entries : (es : List (List ℕ × V)) → AllByRecursion (λ (e : List ℕ × V). P e.0 e.1) es → HoldsOf (from_entries es)
  of_entries es all q v e = found es q v all (sym (get-from_entries nat_list_cmp_total es q) ∙ e)

  pub of_inserted : (ks : List (List ℕ)) (v : V) (m : TextMap V) → AllByRecursion (λ (k : List ℕ). P k v) ks → HoldsOf m → HoldsOf (insert_all ks v m)
  of_inserted [] v m all holds = holds
  of_inserted (k ∷ ks) v m all holds = of_inserted ks v (insert m k v) all.1
      (λ q w e. at_either q k v w (get m q) (eq_by_cmp by_bytes q k) refl all.0 (holds q w) (sym (get-insert nat_list_cmp_total m k v q) ∙ e))

  pub of_removed : (k : List ℕ) (m : TextMap V) → HoldsOf m → HoldsOf (remove m k)
  of_removed k m holds q w e = by (eq_by_cmp by_bytes q k) (sym (get-remove nat_list_cmp_total m k q) ∙ e)
    where
      by : (b : Bool) → cond b None (get m q) ≡ Some w → P q w
      by true e = absurd (cc e)
      by false e = holds q w e
