-- Tallies by their numbers, and how they are stored.
use Rattle.std.proofs.Common.{◌≡◌, ◌≢◌, ℕ, Bool, true, false, cond, List, [], ◌∷◌, Vec, Option, Some, None, is_some, if◌then◌else◌, unwrap_or, refl, sym, ap, ◌∙◌, arith, nat_lt}
use Rattle.std.specs.Map.{lookup}
use Rattle.std.proofs.lemmas.Bool.Decides.{nat_tests}
use mathlib.Core.Bool.{true≢false}
use Rattle.std.specs.Ordering.{nat_cmp, eq_by_cmp}
use Rattle.std.specs.Cmp.Lexicographic.{slice_cmp, nat_list_cmp_total}
use Rattle.std.specs.BTreeMap.{is_at}
use Rattle.std.specs.FinMap.{empty, get, insert, remove, get-empty, get-insert, get-remove, same_map, slice_cmp-IsAntisymmetric, nat_cmp-IsAntisymmetric}
use Rattle.lg_usage.specs.Totals.{Tally, count_in, HasNoZero}
use Rattle.lg_usage.specs.Stored.{tally_of}

-- an Option with no zero is told by its number
same_option : (x y : Option ℕ) → x ≢ Some 0 → y ≢ Some 0 → unwrap_or x 0 ≡ unwrap_or y 0 → x ≡ y
same_option None None p q e = refl
same_option None (Some n) p q e = absurd (q (ap Some (sym e)))
same_option (Some m) None p q e = absurd (p (ap Some e))
same_option (Some m) (Some n) p q e = ap Some e

-- tallies are equal that count each text alike
pub same_tally : (a b : Tally) → HasNoZero a → HasNoZero b → ((text : List ℕ) → count_in a text ≡ count_in b text) → a ≡ b
same_tally a b p q e = same_map nat_list_cmp_total (slice_cmp-IsAntisymmetric nat_cmp-IsAntisymmetric) a b (λ text. same_option (get a text) (get b text) (p text) (q text) (e text))

zero_from : (n : ℕ) → nat_lt 0 n ≡ false → n ≡ 0
zero_from n e = grind (arith, nat_tests)

not_none : (n : ℕ) → None ≢ Some n
not_none n e = true≢false (sym (ap is_some e))

pub no_zero_in_empty : HasNoZero empty
no_zero_in_empty text is = not_none 0 (sym (get-empty _ text) ∙ is)

-- the number n at one text, and o else
either_number : (b : Bool) (n : ℕ) (o : Option ℕ) → n ≢ 0 → o ≢ Some 0 → cond b (Some n) o ≢ Some 0
either_number true n o p q is = p (ap (λ x. unwrap_or x 0) is)
either_number false n o p q is = q is

either_none : (b : Bool) (o : Option ℕ) → o ≢ Some 0 → cond b None o ≢ Some 0
either_none true o q is = not_none 0 is
either_none false o q is = q is

module _ {A : Type 0} where
  -- what stands at a text in these entries
  abbrev pub found : List ℕ → List (Vec ℕ A × ℕ) → Option ℕ
  found text es = lookup (is_at (λ (k : Vec ℕ A). slice_cmp nat_cmp text k.items)) es

  one_more : (b : Bool) (e : Vec ℕ A × ℕ) (t : Tally) (text : List ℕ) (rest : Option ℕ) → nat_lt 0 e.1 ≡ b → count_in t text ≡ unwrap_or rest 0
      → count_in (if b then insert t e.0.items e.1 else remove t e.0.items) text ≡ unwrap_or (cond (eq_by_cmp (slice_cmp nat_cmp) text e.0.items) (Some e.1) rest) 0
  one_more true e t text rest is same = grind (arith, get-insert nat_list_cmp_total t e.0.items e.1 text, same)
  one_more false e t text rest is same = grind (arith, zero_from e.1 is, get-remove nat_list_cmp_total t e.0.items text, same)

  -- the tally counts a text as its entry says
  pub counted : (es : List (Vec ℕ A × ℕ)) (text : List ℕ) → count_in (tally_of es) text ≡ unwrap_or (found text es) 0
  counted [] text = ap (λ o. unwrap_or o 0) (get-empty _ text)
  counted (e ∷ es) text = one_more (nat_lt 0 e.1) e (tally_of es) text (found text es) refl (counted es text)

  pub no_zero_more : (b : Bool) (e : Vec ℕ A × ℕ) (t : Tally) → nat_lt 0 e.1 ≡ b → HasNoZero t → HasNoZero (if b then insert t e.0.items e.1 else remove t e.0.items)
  no_zero_more true e t is none text =
      rw (get-insert nat_list_cmp_total t e.0.items e.1 text) (either_number _ e.1 (get t text) (λ z. true≢false (sym is ∙ ap (nat_lt 0) z)) (none text))
  no_zero_more false e t is none text = rw (get-remove nat_list_cmp_total t e.0.items text) (either_none _ (get t text) (none text))

  -- and has no zero
  pub none_zero : (es : List (Vec ℕ A × ℕ)) → HasNoZero (tally_of es)
  none_zero [] text is = no_zero_in_empty text is
  none_zero (e ∷ es) text is = no_zero_more (nat_lt 0 e.1) e (tally_of es) refl (none_zero es) text is
