-- Seats that come back from their workers.
use Rattle.std.proofs.Common.{◌≡◌, ℕ, List, [], ◌∷◌, ◌++◌, take, drop, Option, Some, sym, ap, ◌∙◌, subst, take-append-drop, ◌<◌, length, arith}
use Rattle.std.specs.Prelude.{option_to_list, IfSome}
use Rattle.std.proofs.lemmas.List.{length-append}
use Rattle.std.specs.List.{All, flat_map}
use Rattle.std.proofs.lemmas.List.Elements.{All-pop, All-same, All-append}
use Rattle.std.proofs.lemmas.Grind.{flat_map-append}

-- all are free, and stand for the same numbers
abbrev pub AreBack : {A B : Type 0} → (A → Type 0) → (A → List B) → List A → List A → Type 0
AreBack Free numbers old new = All Free new × (flat_map numbers new ≡ flat_map numbers old)

module _ {A B : Type 0} where
  -- two halves came back
  pub both_back : (old low high first second new : List A) (n : ℕ) → low ≡ take n old → high ≡ drop n old → new ≡ first ++ second
      → (Free : A → Type 0) (numbers : A → List B) → AreBack Free numbers low first → AreBack Free numbers high second → AreBack Free numbers old new
  both_back old low high first second new n front back are Free numbers a b =
      let split : old ≡ low ++ high = sym (take-append-drop n old) ∙ (λ i. sym front i ++ sym back i) in (
        All-same Free new (first ++ second) are (All-append Free first second a.0 b.0),
        ap (λ l. flat_map numbers l) are ∙ flat_map-append numbers first second ∙ (λ i. a.1 i ++ b.1 i) ∙ sym (flat_map-append numbers low high) ∙ ap (λ l. flat_map numbers l) (sym split),
      )

-- what holds of all holds of the last and of what is left
pub all_but_last : {A : Type 0} (old rest : List A) (r : Option A) (x : A) → old ≡ rest ++ option_to_list r → r ≡ Some x → (P : A → Type 0) → All P old → P x × All P rest
all_but_last old rest r x e is P all = let parts = All-pop P old rest r e all in (subst (λ o. IfSome o P) is parts.1, parts.0)

-- one less is left
pub pop_shorter : {A : Type 0} (old rest : List A) (r : Option A) (x : A) → old ≡ rest ++ option_to_list r → r ≡ Some x → length rest < length old
pop_shorter {A} old rest r x e is = let sizes = ap length (e ∙ ap (λ (o : Option A). rest ++ option_to_list o) is) ∙ length-append rest (x ∷ []) in omega arith
