-- The keys of a map, listed by bytes: its entries, one after another.
use Rattle.std.proofs.Common.{◌≡◌, ℕ, suc, Bool, true, false, cond, ◌&&◌, ◌||◌, List, [], ◌∷◌, ◌++◌, map, Contains, Option, Some, None, IsSome, is_some, refl, ap, sym, subst, ◌∙◌, true≢false, arith}
use Rattle.std.specs.Prelude.{T}
use Rattle.std.specs.Cmp.{eq_by_cmp_equiv}
use Rattle.std.specs.Cmp.Lexicographic.{slice_cmp, nat_list_cmp_total}
use Rattle.std.specs.FinMap.{get, entries, keys, entries_sorted, get-entries, get_tied, slice_cmp-IsAntisymmetric, nat_cmp-IsAntisymmetric}
use Rattle.std.specs.FinMap.Entries.{find, is_sorted, below_all, same_entries}
use Rattle.std.specs.List.{flat_map, list_any, AllByRecursion}
use Rattle.std.specs.List.Sorted.{IsStrictlySortedBy}
use Rattle.std.specs.Option.{option_map_or}
use Rattle.std.specs.Ordering.{nat_cmp, is_eq, is_lt, eq_by_cmp}
use Rattle.std.specs.declared.cmp.Ordering.{Ordering}
use Rattle.std.specs.declared.cmp.Ordering.TheVariants.{Less, Equal, Greater}
use Rattle.std.proofs.lemmas.Map.Views.{Contains-from_any, list_any-from_Contains}
use Rattle.lg_dict.specs.Dictionary.{TextMap, AreKeys}

abbrev by_bytes : List ℕ → List ℕ → Ordering
by_bytes = slice_cmp nat_cmp

tied : (r : Ordering) → is_eq r ≡ true → r ≡ Equal
tied Less e = absurd (true≢false (sym e))
tied Equal e = refl
tied Greater e = absurd (true≢false (sym e))

pub same_bytes : (x y : List ℕ) → eq_by_cmp by_bytes x y ≡ true → x ≡ y
same_bytes x y e = slice_cmp-IsAntisymmetric nat_cmp-IsAntisymmetric x y (tied (by_bytes x y) e)

both : (a b : Bool) → T a → T b → T (a && b)
both true b p q = q
both false b p q = p

each : {X : Type 0} (P : X → Type 0) (xs : List X) → ((x : X) → Contains xs x → P x) → AllByRecursion P xs
each P [] f = tt
each P (x ∷ xs) f = (f x (0, omega arith, refl), each P xs (λ y h. f y (suc h.0, omega (arith, h.1), h.2)))

same_bools : (a b : Bool) → (a ≡ true → b ≡ true) → (b ≡ true → a ≡ true) → a ≡ b
same_bools true b f g = sym (f refl)
same_bools false true f g = g refl
same_bools false false f g = refl

module _ {X : Type 0} (m : TextMap X) where
  -- an entry, if there is one
  abbrev entry_of : List ℕ → Option X → List (List ℕ × X)
  entry_of k None = []
  entry_of k (Some v) = (k, v) ∷ []

  abbrev pub given : List (List ℕ) → List (List ℕ × X)
  given [] = []
  given (k ∷ ks) = entry_of k (get m k) ++ given ks

  below_entry : (x k : List ℕ) (o : Option X) (es : List (List ℕ × X)) → by_bytes x k ≡ Less → T (below_all by_bytes x es) → T (below_all by_bytes x (entry_of k o ++ es))
  below_entry x k None es less h = h
  below_entry x k (Some v) es less h = both (is_lt (by_bytes x k)) (below_all by_bytes x es) (subst (λ (r : Ordering). T (is_lt r)) (sym less) tt) h

  below : (x : List ℕ) (ks : List (List ℕ)) → AllByRecursion (λ y. by_bytes x y ≡ Less) ks → T (below_all by_bytes x (given ks))
  below x [] h = tt
  below x (k ∷ ks) h = below_entry x k (get m k) (given ks) h.0 (below x ks h.1)

  rising_entry : (k : List ℕ) (o : Option X) (es : List (List ℕ × X)) → T (below_all by_bytes k es) → T (is_sorted by_bytes es) → T (is_sorted by_bytes (entry_of k o ++ es))
  rising_entry k None es low h = h
  rising_entry k (Some v) es low h = both (below_all by_bytes k es) (is_sorted by_bytes es) low h

  rising : (ks : List (List ℕ)) → IsStrictlySortedBy by_bytes ks → T (is_sorted by_bytes (given ks))
  unfolding IsStrictlySortedBy
  rising [] h = tt
  rising (k ∷ ks) h = rising_entry k (get m k) (given ks) (below k ks h.0) (rising ks h.1)

  -- what the list has at a key
  abbrev among : List ℕ → List (List ℕ) → Option X
  among q ks = cond (list_any (eq_by_cmp by_bytes q) ks) (get m q) None

  abbrev none : Option X
  none = None

  none_both : (a : Bool) → cond a none none ≡ none
  none_both true = refl
  none_both false = refl

  found_step : (q k : List ℕ) (ks : List (List ℕ)) (b : Bool) (o : Option X) → (b ≡ true → get m q ≡ o)
      → find by_bytes q (given ks) ≡ among q ks
      → (same : eq_by_cmp by_bytes q k ≡ b)
      → find by_bytes q (entry_of k o ++ given ks) ≡ cond (b || list_any (eq_by_cmp by_bytes q) ks) (get m q) None
  found_step q k ks true None is rest same = rest ∙ ap (λ (o : Option X). cond (list_any (eq_by_cmp by_bytes q) ks) o None) (is refl) ∙ none_both (list_any (eq_by_cmp by_bytes q) ks) ∙ sym (is refl)
  found_step q k ks true (Some v) is rest same = ap (λ (b : Bool). cond b (Some v) (find by_bytes q (given ks))) same ∙ sym (is refl)
  found_step q k ks false None is rest same = rest
  found_step q k ks false (Some v) is rest same = ap (λ (b : Bool). cond b (Some v) (find by_bytes q (given ks))) same ∙ rest

  found : (q : List ℕ) (ks : List (List ℕ)) → find by_bytes q (given ks) ≡ among q ks
  found q [] = refl
  found q (k ∷ ks) =
      found_step q k ks (eq_by_cmp by_bytes q k) (get m k) (λ e. sym (get_tied nat_list_cmp_total m q k (tied (by_bytes q k) e))) (found q ks) refl

  module _ (ks : List (List ℕ)) (are : AreKeys m ks) where
    there : (q : List ℕ) → list_any (eq_by_cmp by_bytes q) ks ≡ is_some (get m q)
    there q = same_bools _ _ (λ e. (are.exactly q).0 (Contains-from_any same_bytes q ks e)) (λ e. list_any-from_Contains (eq_by_cmp_equiv nat_list_cmp_total) q ks ((are.exactly q).1 e))

    whole : (o : Option X) → cond (is_some o) o None ≡ o
    whole None = refl
    whole (Some v) = refl

    pub are_entries : entries m ≡ given ks
    are_entries = same_entries by_bytes nat_list_cmp_total (slice_cmp-IsAntisymmetric nat_cmp-IsAntisymmetric) (entries m) (given ks) (entries_sorted m) (rising ks are.rise)
        (λ q. sym (get-entries m q) ∙ sym (whole (get m q)) ∙ ap (λ (b : Bool). cond b (get m q) None) (sym (there q)) ∙ sym (found q ks))

    listed_keys : (es : List (List ℕ)) → AllByRecursion (λ k. IsSome (get m k)) es → map (λ e. e.0) (given es) ≡ es
    listed_keys [] h = refl
    listed_keys (k ∷ es) h = one (get m k) h.0 (listed_keys es h.1)
      where
        one : (o : Option X) → IsSome o → map (λ e. e.0) (given es) ≡ es → map (λ e. e.0) (entry_of k o ++ given es) ≡ k ∷ es
        one None some rest = absurd (true≢false (sym some))
        one (Some v) some rest = ap (λ (l : List (List ℕ)). k ∷ l) rest

    pub are_keys : keys m ≡ ks
    are_keys = ap (map (λ e. e.0)) are_entries ∙ listed_keys ks (each (λ k. IsSome (get m k)) ks (λ k h. (are.exactly k).0 h))

    lines_given : (line : List ℕ × X → List ℕ) (es : List (List ℕ)) → flat_map line (given es) ≡ flat_map (λ k. option_map_or (λ v. line (k, v)) (get m k) []) es
    lines_given line [] = refl
    lines_given line (k ∷ es) = one (get m k) (lines_given line es)
      where
        one : (o : Option X) → flat_map line (given es) ≡ flat_map (λ k. option_map_or (λ v. line (k, v)) (get m k) []) es
            → flat_map line (entry_of k o ++ given es) ≡ option_map_or (λ v. line (k, v)) o [] ++ flat_map (λ k. option_map_or (λ v. line (k, v)) (get m k) []) es
        one None same = same
        one (Some v) same = ap (λ (l : List ℕ). line (k, v) ++ l) same

    -- a line for each key is a line for each entry
    pub lines_are : (line : List ℕ × X → List ℕ) → flat_map (λ k. option_map_or (λ v. line (k, v)) (get m k) []) ks ≡ flat_map line (entries m)
    lines_are line = sym (lines_given line ks) ∙ ap (flat_map line) (sym are_entries)

-- two parts are appended to nothing, a line for each key
pub two_parts : (o0 o1 o2 : List ℕ) (f g : List ℕ → List ℕ) (xs listed ys others : List (List ℕ)) (a b : List ℕ) → o0 ≡ [] → o1 ≡ o0 ++ flat_map f xs → xs ≡ listed → flat_map f listed ≡ a
    → o2 ≡ o1 ++ flat_map g ys → ys ≡ others → flat_map g others ≡ b → o2 ≡ a ++ b
two_parts o0 o1 o2 f g xs listed ys others a b none first xs_are are_a second ys_are are_b =
    let front : o1 ≡ a = first ∙ ap (λ (l : List ℕ). l ++ flat_map f xs) none ∙ ap (flat_map f) xs_are ∙ are_a in
    let back : flat_map g ys ≡ b = ap (flat_map g) ys_are ∙ are_b in
    second ∙ (λ i. front i ++ back i)
