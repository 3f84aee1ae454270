-- The alternatives that are kept by their flags.
use Rattle.std.proofs.Common.{◌≡◌, ◌↔◌, ℕ, zero, suc, ◌≤◌, refl, sym, ap, ◌∙◌, subst, List, [], ◌∷◌, ◌++◌, take, length, Bool, true, false, true≢false, Contains, Some, slice_get, arith}
use Rattle.std.specs.List.{AllZip}
use Rattle.std.proofs.lemmas.Option.{slice_get_within, get_or_from_slice_get}
use Rattle.std.proofs.lemmas.List.{take_all}
use Rattle.std.proofs.Math.Seq.{take-suc}
use Rattle.lg_region.specs.Fronts.{AreOnce, Numbering}
use Rattle.lg_region.specs.Keys.{IsAltOf, kept}
use Rattle.lg_region.specs.declared.key.Key.{Key}
use Rattle.lg_region.specs.declared.alternative.Alt.{Alt}
use Rattle.lg_forest.specs.Forests.{IsLive, AreLive}
use Rattle.lg_forest.proofs.Once.{contains_here, contains_later, contains_none, once_none, once_tail, once_head, once_cons}

module _ {X : Type 0} (P : X → Type 0) where
  -- each flag tells whether its element has P
  abbrev pub Flags : List X → List Bool → Type 0
  Flags xs fs = AllZip (λ x f. (f ≡ true) ↔ P x) xs fs

  push : (xs : List X) (fs : List Bool) (x : X) (f : Bool) → Flags xs fs → ((f ≡ true) ↔ P x) → Flags (xs ++ x ∷ []) (fs ++ f ∷ [])
  push [] [] x f all one = (one, tt)
  push [] (g ∷ fs) x f all one = absurd all
  push (y ∷ xs) [] x f all one = absurd all
  push (y ∷ xs) (g ∷ fs) x f all one = (all.0, push xs fs x f all.1 one)

  -- one more
  pub flags_more : (xs : List X) (i j : ℕ) (x : X) (fs : List Bool) (f : Bool) → slice_get xs i ≡ Some x → j ≡ suc i → Flags (take i xs) fs → ((f ≡ true) ↔ P x) → Flags (take j xs) (fs ++ f ∷ [])
  flags_more xs i j x fs f at next all one =
      let lt = slice_get_within xs i x at in
      let e = ap (λ z. take z xs) next ∙ take-suc xs i x lt ∙ ap (λ z. take i xs ++ z ∷ []) (get_or_from_slice_get xs i x x at) in
      subst (λ z. Flags z (fs ++ f ∷ [])) (sym e) (push (take i xs) fs x f all one)

  kept_in : (xs : List X) (fs : List Bool) (x : X) → Flags xs fs → Contains xs x → P x → Contains (kept xs fs) x
  kept_in [] fs x all has p = absurd (contains_none x has)
  kept_in (y ∷ xs) [] x all has p = absurd all
  kept_in (y ∷ xs) (true ∷ fs) x all (zero, l, e) p = subst (λ z. Contains (y ∷ kept xs fs) z) e (contains_here y (kept xs fs))
  kept_in (y ∷ xs) (true ∷ fs) x all (suc k, l, e) p = contains_later y (kept xs fs) x (kept_in xs fs x all.1 (k, omega arith, e) p)
  kept_in (y ∷ xs) (false ∷ fs) x all (zero, l, e) p = absurd (true≢false (sym (all.0.1 (subst P (sym e) p))))
  kept_in (y ∷ xs) (false ∷ fs) x all (suc k, l, e) p = kept_in xs fs x all.1 (k, omega arith, e) p

  kept_out : (xs : List X) (fs : List Bool) (x : X) → Flags xs fs → Contains (kept xs fs) x → Contains xs x × P x
  kept_out [] fs x all has = absurd (contains_none x has)
  kept_out (y ∷ xs) [] x all has = absurd all
  kept_out (y ∷ xs) (true ∷ fs) x all (zero, l, e) = (subst (λ z. Contains (y ∷ xs) z) e (contains_here y xs), subst P e (all.0.0 refl))
  kept_out (y ∷ xs) (true ∷ fs) x all (suc k, l, e) = let r = kept_out xs fs x all.1 (k, omega arith, e) in (contains_later y xs x r.0, r.1)
  kept_out (y ∷ xs) (false ∷ fs) x all has = let r = kept_out xs fs x all.1 has in (contains_later y xs x r.0, r.1)

  kept_once : (xs : List X) (fs : List Bool) → Flags xs fs → AreOnce xs → AreOnce (kept xs fs)
  kept_once [] fs all once = once_none
  kept_once (y ∷ xs) [] all once = absurd all
  kept_once (y ∷ xs) (true ∷ fs) all once = once_cons y (kept xs fs) (λ h. once_head y xs once (kept_out xs fs y all.1 h).0) (kept_once xs fs all.1 (once_tail y xs once))
  kept_once (y ∷ xs) (false ∷ fs) all once = kept_once xs fs all.1 (once_tail y xs once)

pub flags_long : (n : Numbering) (alts : List Alt) (flags : List Bool) → Flags (IsLive n.positions n.lists) alts flags → length flags ≡ length alts
flags_long n [] [] all = refl
flags_long n [] (f ∷ flags) all = absurd all
flags_long n (a ∷ alts) [] all = absurd all
flags_long n (a ∷ alts) (f ∷ flags) all = ap suc (flags_long n alts flags all.1)

-- the live alternatives of a key are kept
pub kept_live : (n : Numbering) (k : Key) (alts : List Alt) (flags : List Bool) → ((a : Alt) → Contains alts a ↔ IsAltOf n.positions n.lists k a) → AreOnce alts → Flags (IsLive n.positions n.lists) alts flags → AreLive n.positions n.lists k (kept alts flags)
kept_live n k alts flags exactly once all = record {
  exactly = λ a. (
    (λ h. let r = kept_out (IsLive n.positions n.lists) alts flags a all h in ((exactly a).0 r.0, r.1)),
    (λ h. kept_in (IsLive n.positions n.lists) alts flags a all ((exactly a).1 h.0) h.1),
  );
  once = kept_once (IsLive n.positions n.lists) alts flags all once;
}

-- the flags of all, once the loop has ended
pub all_flags : (n : Numbering) (alts items : List Alt) (i : ℕ) (flags : List Bool) → items ≡ alts → length alts ≤ i → Flags (IsLive n.positions n.lists) (take i items) flags → Flags (IsLive n.positions n.lists) alts flags
all_flags n alts items i flags e end all =
    subst (λ z. Flags (IsLive n.positions n.lists) z flags) (ap (take i) e ∙ take_all i alts end) all
