-- The rule, where one view changes.
use Rattle.std.proofs.Common.{◌≡◌, ◌≢◌, ℕ, zero, suc, true, false, cond, ◌⊎◌, inl, inr, ⊎_elim, List, [], ◌∷◌, ◌++◌, length, get_or, set, refl, ap, sym, ◌∙◌, subst}
use Rattle.std.proofs.lemmas.Bool.{cases_Bool, cond-true, cond-false}
use Rattle.std.proofs.lemmas.List.{set-get_or}
use mathlib.Core.Option.{some, some-injective, some-ne-none}
use lib.ListN.{get_elem?}
use Rattle.atomic_table.specs.Table.{State, keeps, stepped}
use Rattle.atomic_table.proofs.Lists.{at_set}
use Rattle.lg_log.specs.declared.view.View.{View}
use Rattle.lg_log.specs.Codes.{has_session}
use Rattle.lg_log.specs.Rule.{IsHistory, Fits, IsKept}

abbrev pub Words : Type 0
Words = State (Unit {0}) View

-- a fact of all views, where one is set
pub views_set : (P : ℕ → View → Type 0) (views : List View) (pass : ℕ) (w : View) → P pass w
    → ((other : ℕ) (v : View) → other ≢ pass → get_elem? views other ≡ some v → P other v)
    → (other : ℕ) (v : View) → get_elem? (set views pass w) other ≡ some v → P other v
views_set P views pass w mine others other v at = ⊎_elim
    (λ (t : (other ≡ pass) × (w ≡ v)). subst (λ (z : ℕ × View). P z.0 z.1) (λ i. (sym t.0 i, t.1 i)) mine)
    (λ (t : (other ≢ pass) × (get_elem? views other ≡ some v)). others other v t.0 t.1)
    (at_set views pass other w v at)

last_or_before : (views : List View) (w v : View) (pass : ℕ) → get_elem? (views ++ w ∷ []) pass ≡ some v → (get_elem? views pass ≡ some v) ⊎ ((pass ≡ length views) × (w ≡ v))
last_or_before [] w v zero e = inr (refl, some-injective w v e)
last_or_before [] w v (suc pass) e = absurd (some-ne-none v (sym e))
last_or_before (x ∷ xs) w v zero e = inl e
last_or_before (x ∷ xs) w v (suc pass) e = ⊎_elim (λ t. inl t) (λ t. inr (ap suc t.0, t.1)) (last_or_before xs w v pass e)

-- a fact of all views, where one more comes
pub views_push : (P : ℕ → View → Type 0) (views : List View) (w : View) → P (length views) w
    → ((pass : ℕ) (v : View) → get_elem? views pass ≡ some v → P pass v)
    → (pass : ℕ) (v : View) → get_elem? (views ++ w ∷ []) pass ≡ some v → P pass v
views_push P views w new old pass v at = ⊎_elim
    (λ (t : get_elem? views pass ≡ some v). old pass v t)
    (λ (t : (pass ≡ length views) × (w ≡ v)). subst (λ (z : ℕ × View). P z.0 z.1) (λ i. (sym t.0 i, t.1 i)) new)
    (last_or_before views w v pass at)

-- a step that leaves the word as it was
pub same_word : (counts : List ℕ) (s : Words) (slots : List (ℕ × Unit {0})) (i pass : ℕ) (w : View) (k : IsKept counts s) → Fits counts k.history k.owner pass w
    → IsKept counts (stepped s i (get_or s.words i 0) pass slots w keeps)
same_word counts s slots i pass w k fits = record {
  history = k.history;
  owner = k.owner;
  is_history = subst (λ (l : List ℕ). IsHistory counts l k.history) (sym (set-get_or s.words i 0)) k.is_history;
  fit = views_set (Fits counts k.history k.owner) s.views pass w fits (λ other v _ at. k.fit other v at);
}

-- the owners after some sessions were handed to a pass
abbrev pub handed : (ℕ → ℕ) → List ℕ → ℕ → ℕ → ℕ
handed owner sessions pass session = cond (has_session sessions session) pass (owner session)

pub handed_here : (owner : ℕ → ℕ) (sessions : List ℕ) (pass session : ℕ) → has_session sessions session ≡ true → handed owner sessions pass session ≡ pass
handed_here owner sessions pass session e = cond-true (has_session sessions session) pass (owner session) e

-- who owned a session owns it still, where it is not handed on to someone else
pub handed_else : (owner : ℕ → ℕ) (sessions : List ℕ) (pass session old : ℕ) → (has_session sessions session ≡ true → pass ≡ old) → owner session ≡ old → handed owner sessions pass session ≡ old
handed_else owner sessions pass session old here was = ⊎_elim
    (λ (e : has_session sessions session ≡ true). cond-true (has_session sessions session) pass (owner session) e ∙ here e)
    (λ (e : has_session sessions session ≡ false). cond-false (has_session sessions session) pass (owner session) e ∙ was)
    (cases_Bool (has_session sessions session))

-- a view fits other owners where it owns what it owned
pub still_fits : (counts history : List ℕ) (owner owner' : ℕ → ℕ) (pass : ℕ) (v : View) → ((session : ℕ) → has_session v.sessions session ≡ true → owner session ≡ pass → owner' session ≡ pass)
    → Fits counts history owner pass v → Fits counts history owner' pass v
still_fits counts history owner owner' pass v keep f = record { same = f.same; all = f.all; owned = λ session has. keep session has (f.owned session has); noted = f.noted; accounts = f.accounts; spent = f.spent }
