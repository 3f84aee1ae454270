-- What tokens that follow stand for.
use Rattle.std.proofs.Common.{◌≡◌, ℕ, zero, suc, ◌+◌, ◌<◌, List, [], ◌∷◌, Bool, true, false, not, ◌&&◌, take, drop, slice_get, Some, refl, sym, ap, subst, ◌∙◌, arith, true≢false}
use borrow.Author.Tests.{eqb-true}
use Rattle.std.specs.Cmp.Lexicographic.{bytes_decides}
use Rattle.std.specs.List.{list_all}
use Rattle.std.proofs.lemmas.Bool.{and_parts}
use Rattle.std.proofs.lemmas.Option.{same_Some, none-some}
use Rattle.std.proofs.lemmas.Bool.Decides.{nat_tests}
use Rattle.lg_gram.specs.declared.listing.Token.{Token}
use Rattle.lg_idiom.specs.Idioms.{IsWall}
use Rattle.lg_idiom.specs.Steps.{is_wall, is_later, do_follow}

pub is_wall-yes : (t : Token) → is_wall t ≡ true → IsWall t
is_wall-yes t h = eqb-true t.from t.to h

pub wall-is : (t : Token) → IsWall t → is_wall t ≡ true
wall-is t h = grind (arith, nat_tests)

pub wall-not : (t : Token) → is_wall t ≡ false → IsWall t → ⊥
wall-not t not_wall h = true≢false (sym (wall-is t h) ∙ not_wall)

no_wall : (t : Token) (b : Bool) → is_wall t ≡ b → (IsWall t → ⊥) → is_wall t ≡ false
no_wall t true e never = absurd (never (is_wall-yes t e))
no_wall t false e never = e

both : (a b : Bool) → a ≡ true → b ≡ true → a && b ≡ true
both a b p q = ap (λ x. x && b) p ∙ q

not_true : (b : Bool) → not b ≡ true → b ≡ false
not_true true h = absurd (true≢false (sym h))
not_true false h = refl

pub later-means : (part : List ℕ) (t : Token) → is_later part t ≡ true → (IsWall t → ⊥) × (t.text ≡ part)
later-means part t h =
    let parts = and_parts _ _ h in
    (wall-not t (not_true (is_wall t) parts.0), (bytes_decides t.text part).0 parts.1)

pub later-is : (part : List ℕ) (t : Token) → (IsWall t → ⊥) → t.text ≡ part → is_later part t ≡ true
later-is part t never is = both _ _ (ap not (no_wall t (is_wall t) refl never)) ((bytes_decides t.text part).1 is)

abbrev pub Follow : List (List ℕ) → List Token → Type 0
Follow parts tokens = (k : ℕ) (part : List ℕ) → slice_get parts k ≡ Some part → (t : Token) × (slice_get tokens k ≡ Some t) × (is_later part t ≡ true)

pub follow_gives : (parts : List (List ℕ)) (tokens : List Token) → do_follow parts tokens ≡ true → Follow parts tokens
follow_gives [] tokens h k part at = absurd (none-some part at)
follow_gives (p ∷ parts) [] h k part at = absurd (true≢false (sym h))
follow_gives (p ∷ parts) (t ∷ tokens) h zero part at = (t, refl, subst (λ x. is_later x t ≡ true) (same_Some p part at) (and_parts _ _ h).0)
follow_gives (p ∷ parts) (t ∷ tokens) h (suc k) part at = follow_gives parts tokens (and_parts _ _ h).1 k part at

pub follow_by : (parts : List (List ℕ)) (tokens : List Token) → Follow parts tokens → do_follow parts tokens ≡ true
follow_by [] tokens f = refl
follow_by (p ∷ parts) [] f = let first = f zero p refl in absurd (none-some first.0 first.1)
follow_by (p ∷ parts) (t ∷ tokens) f =
    let first = f zero p refl in
    both _ _ (subst (λ x. is_later p x ≡ true) (sym (same_Some t first.0 first.1)) first.2) (follow_by parts tokens (λ k part at. f (suc k) part at))

-- only walls stand before

pub initial_gives : (tokens : List Token) (s : ℕ) → list_all is_wall (take s tokens) ≡ true → (i : ℕ) (t : Token) → i < s → slice_get tokens i ≡ Some t → IsWall t
initial_gives tokens zero h i t less at = absurd (omega arith)
initial_gives [] (suc s) h i t less at = absurd (none-some t at)
initial_gives (u ∷ tokens) (suc s) h zero t less at = subst IsWall (same_Some u t at) (is_wall-yes u (and_parts _ _ h).0)
initial_gives (u ∷ tokens) (suc s) h (suc i) t less at = initial_gives tokens s (and_parts _ _ h).1 i t (omega arith) at

pub initial_by : (tokens : List Token) (s : ℕ) → ((i : ℕ) (t : Token) → i < s → slice_get tokens i ≡ Some t → IsWall t) → list_all is_wall (take s tokens) ≡ true
initial_by tokens zero f = refl
initial_by [] (suc s) f = refl
initial_by (u ∷ tokens) (suc s) f = both _ _ (wall-is u (f zero u (omega arith) refl)) (initial_by tokens s (λ i t less at. f (suc i) t (omega arith) at))

pub slice_get-drop : {X : Type 0} (xs : List X) (n k : ℕ) → slice_get (drop n xs) k ≡ slice_get xs (n + k)
slice_get-drop xs zero k = ap (slice_get xs) (let e : k ≡ 0 + k = omega arith in e)
slice_get-drop [] (suc n) k = refl
slice_get-drop (x ∷ xs) (suc n) k = slice_get-drop xs n k ∙ ap (slice_get (x ∷ xs)) (let e : suc (n + k) ≡ suc n + k = omega arith in e)
