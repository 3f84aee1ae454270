-- All views, where one of them changes.
use Rattle.std.proofs.Common.{◌≡◌, ◌≢◌, ℕ, zero, suc, ◌<◌, ◌≤◌, true, false, cond, ◌⊎◌, inl, inr, ⊎_elim, List, [], ◌∷◌, ◌++◌, length, set, refl, ap, sym, ◌∙◌, subst, true≢false, arith}
use Rattle.std.specs.Prelude.{Option, None, Some, IfNone, is_none}
use Rattle.std.proofs.lemmas.Bool.{cases_Bool, cond-true, cond-false}
use Rattle.std.proofs.lemmas.Option.{IfSome_then}
use native.Mathlib.Decide.{ℕ_discrete}
use mathlib.Core.Logic.{dite}
use mathlib.Core.Option.{some, some-injective, some-ne-none}
use lib.ListN.{get_elem?}
use Rattle.atomic_table.proofs.Lists.{at_set, set_here, set_else, at_longer}
use Rattle.lg_memo.specs.declared.view.About.{About}
use Rattle.lg_memo.specs.declared.view.Count.{Count}
use Rattle.lg_memo.specs.declared.view.View.{View}
use Rattle.lg_memo.specs.Views.{counted, has_number}
use Rattle.lg_memo.specs.Rule.{Place, count_of, Holds, Stands, Fits}
use Rattle.lg_memo.specs.Rule.Place.{out}
use Rattle.lg_memo.proofs.Places.{placed, placed_else, known_more}

module _ {A : Type 0} where
  -- a fact of all views, where one is set
  pub views_set : (P : ℕ → A → Type 0) (views : List A) (seat : ℕ) (w : A) → P seat w
      → ((other : ℕ) (v : A) → other ≢ seat → get_elem? views other ≡ some v → P other v)
      → (other : ℕ) (v : A) → get_elem? (set views seat w) other ≡ some v → P other v
  views_set P views seat w mine others other v at = ⊎_elim
      (λ (t : (other ≡ seat) × (w ≡ v)). subst (λ (z : ℕ × A). P z.0 z.1) (λ i. (sym t.0 i, t.1 i)) mine)
      (λ (t : (other ≢ seat) × (get_elem? views other ≡ some v)). others other v t.0 t.1)
      (at_set views seat other w v at)

  last_or_before : (views : List A) (w v : A) (seat : ℕ) → get_elem? (views ++ w ∷ []) seat ≡ some v → (get_elem? views seat ≡ some v) ⊎ ((seat ≡ length views) × (w ≡ v))
  last_or_before [] w v zero e = inr (refl, some-injective w v e)
  last_or_before [] w v (suc seat) e = absurd (some-ne-none v (sym e))
  last_or_before (x ∷ xs) w v zero e = inl e
  last_or_before (x ∷ xs) w v (suc seat) e = ⊎_elim (λ t. inl t) (λ t. inr (ap suc t.0, t.1)) (last_or_before xs w v seat e)

  -- a fact of all views, where one more comes
  pub views_push : (P : ℕ → A → Type 0) (views : List A) (w : A) → P (length views) w
      → ((seat : ℕ) (v : A) → get_elem? views seat ≡ some v → P seat v)
      → (seat : ℕ) (v : A) → get_elem? (views ++ w ∷ []) seat ≡ some v → P seat v
  views_push P views w new old seat v at = ⊎_elim
      (λ (t : get_elem? views seat ≡ some v). old seat v t)
      (λ (t : (seat ≡ length views) × (w ≡ v)). subst (λ (z : ℕ × A). P z.0 z.1) (λ i. (sym t.0 i, t.1 i)) new)
      (last_or_before views w v seat at)

  last_there : (views : List A) (w : A) → get_elem? (views ++ w ∷ []) (length views) ≡ some w
  last_there [] w = refl
  last_there (x ∷ xs) w = last_there xs w

  pub is_there : (views : List A) (seat : ℕ) (v : A) → get_elem? views seat ≡ some v → seat < length views
  is_there [] seat v e = absurd (some-ne-none v (sym e))
  is_there (x ∷ xs) zero v e = omega arith
  is_there (x ∷ xs) (suc seat) v e = let less = is_there xs seat v e in omega arith

module _ {N : Type 0} where
  -- one seat has one view
  pub same_view : (views : List (View N)) (seat other : ℕ) (v w : View N) → get_elem? views seat ≡ some v → get_elem? views other ≡ some w → other ≡ seat → v ≡ w
  same_view views seat other v w at there same = some-injective v w (sym at ∙ ap (λ (k : ℕ). get_elem? views k) (sym same) ∙ there)

  -- a seat that has a shard is none that has no shard
  pub has_none_apart : (views : List (View N)) (seat : ℕ) (v : View N) → get_elem? views seat ≡ some v → v.has ≡ None
      → (other shard entries : ℕ) → Holds views other shard entries → other ≢ seat
  has_none_apart views seat v at none_had other shard entries h same =
      let alike : v ≡ h.view = same_view views seat other v h.view at h.there same in
      true≢false (ap is_none (sym none_had ∙ ap (λ (z : View N). z.has) alike ∙ h.has))

  -- it still has it, when the view of another is set, or one more comes
  pub holds_set : (views : List (View N)) (seat : ℕ) (w : View N) (other shard entries : ℕ) → other ≢ seat → Holds views other shard entries → Holds (set views seat w) other shard entries
  holds_set views seat w other shard entries apart h = record { view = h.view; there = set_else views seat other w apart ∙ h.there; has = h.has }

  pub holds_push : (views : List (View N)) (w : View N) (other shard entries : ℕ) → Holds views other shard entries → Holds (views ++ w ∷ []) other shard entries
  holds_push views w other shard entries h = record { view = h.view; there = at_longer views (w ∷ []) other h.view h.there; has = h.has }

  pub holds_here : (views : List (View N)) (seat : ℕ) (w : View N) (shard entries : ℕ) → seat < length views → w.has ≡ Some (counted shard entries) → Holds (set views seat w) seat shard entries
  holds_here views seat w shard entries within has = record { view = w; there = set_here views seat w within; has = has }

  -- a seat still stands for a number, when a view is set to one that stands for it too, or one more comes, which may stand for others
  pub stands_apart : (views : List (View N)) (seat : ℕ) (w : View N) (other n : ℕ) → other ≢ seat → Stands views other n → Stands (set views seat w) other n
  stands_apart views seat w other n apart h = record { view = h.view; there = set_else views seat other w apart ∙ h.there; has = h.has }

  pub stands_set : (views : List (View N)) (seat : ℕ) (v w : View N) (n : ℕ) → get_elem? views seat ≡ some v → (has_number v.numbers n ≡ true → has_number w.numbers n ≡ true)
      → (other : ℕ) → Stands views other n → Stands (set views seat w) other n
  stands_set views seat v w n at keep other h = dite (ℕ_discrete other seat)
      (λ (same : other ≡ seat). record {
        view = w;
        there = ap (λ (k : ℕ). get_elem? (set views seat w) k) same ∙ set_here views seat w (is_there views seat v at);
        has = keep (ap (λ (z : View N). has_number z.numbers n) (same_view views seat other v h.view at h.there same) ∙ h.has);
      })
      (λ (apart : other ≢ seat). stands_apart views seat w other n apart h)

  pub stands_push : (views : List (View N)) (w : View N) (other n : ℕ) → Stands views other n → Stands (views ++ w ∷ []) other n
  stands_push views w other n h = record { view = h.view; there = at_longer views (w ∷ []) other h.view h.there; has = h.has }

  pub stands_last : (views : List (View N)) (w : View N) (n : ℕ) → has_number w.numbers n ≡ true → Stands (views ++ w ∷ []) (length views) n
  stands_last views w n has = record { view = w; there = last_there views w; has = has }

  -- the view of a seat that has not the shard fits, when the place of that shard changes, and it has no fewer entries
  pub fits_else : (about : About N) (place : ℕ → Place) (owner : ℕ → ℕ) (shard : ℕ) (p : Place) → count_of (place shard) ≤ count_of p
      → (seat : ℕ) (v : View N) → ((n : ℕ) → place shard ≡ out seat n → ⊥) → Fits about place owner seat v → Fits about (placed place shard p) owner seat v
  fits_else about place owner shard p more seat v not_its f = record {
    same = f.same;
    owned = f.owned;
    stands = f.stands;
    known = known_more place shard p more v.known f.known;
    has = IfSome_then v.has f.has (λ (t : Count) h. (h.0, placed_else place shard p t.shard (λ its. not_its t.entries (ap place (sym its) ∙ h.1)) ∙ h.1));
    spent = f.spent;
  }

  -- a view that has a memo is not spent
  pub not_spent : (v : View N) (about : About N) (X : Type 0) → v.about ≡ Some about → IfNone v.about X
  not_spent v about X is = subst (λ o. IfNone o X) (sym is) tt

-- std's `Option`, beside the one that the table's lists are read by
abbrev pub Maybe : Type 0 → Type 0
Maybe A = Option A

-- the shard that a seat has, if it has one
abbrev pub shard_in : Option Count → ℕ
shard_in None = 0
shard_in (Some t) = t.shard

-- the owners after one number was handed to a seat
abbrev pub handed : (ℕ → ℕ) → List ℕ → ℕ → ℕ → ℕ
handed owner numbers seat n = cond (has_number numbers n) seat (owner n)

pub handed_here : (owner : ℕ → ℕ) (numbers : List ℕ) (seat n : ℕ) → has_number numbers n ≡ true → handed owner numbers seat n ≡ seat
handed_here owner numbers seat n e = cond-true (has_number numbers n) seat (owner n) e

-- who owned a number owns it still, where it is not handed on to someone else
pub handed_else : (owner : ℕ → ℕ) (numbers : List ℕ) (seat n old : ℕ) → (has_number numbers n ≡ true → seat ≡ old) → owner n ≡ old → handed owner numbers seat n ≡ old
handed_else owner numbers seat n old here was = ⊎_elim
    (λ (e : has_number numbers n ≡ true). cond-true (has_number numbers n) seat (owner n) e ∙ here e)
    (λ (e : has_number numbers n ≡ false). cond-false (has_number numbers n) seat (owner n) e ∙ was)
    (cases_Bool (has_number numbers n))

-- it is handed on, or its owner stays
pub handed_cases : (P : ℕ → Type 0) (owner : ℕ → ℕ) (numbers : List ℕ) (seat n : ℕ) → (has_number numbers n ≡ true → P seat) → (has_number numbers n ≡ false → P (owner n)) → P (handed owner numbers seat n)
handed_cases P owner numbers seat n here else = ⊎_elim
    (λ (e : has_number numbers n ≡ true). subst P (sym (cond-true (has_number numbers n) seat (owner n) e)) (here e))
    (λ (e : has_number numbers n ≡ false). subst P (sym (cond-false (has_number numbers n) seat (owner n) e)) (else e))
    (cases_Bool (has_number numbers n))
