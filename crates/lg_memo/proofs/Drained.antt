-- The slots of a closed memo, taken out one by one.
use Rattle.std.proofs.Common.{◌≡◌, ◌≢◌, ℕ, zero, suc, ◌+◌, ◌<◌, ◌≤◌, Bool, true, false, List, [], ◌∷◌, ◌++◌, length, map, take, set, get_or, refl, ap, sym, ◌∙◌, subst, arith, true≢false}
use Rattle.std.specs.Prelude.{None, Some, is_some, IsTrue}
use Rattle.std.specs.List.{All}
use Rattle.std.proofs.lemmas.List.{map-append, take_more, get_or-set_other}
use native.Mathlib.Decide.{ℕ_discrete}
use mathlib.Core.Logic.{dite}
use mathlib.Core.Option.{some}
use lib.ListN.{get_elem?}
use Rattle.lg_memo.proofs.Keeping.{Maybe}
use Rattle.lg_memo.proofs.AtHome.{element_is}

pub never_none : {X : Type 0} (items : List (Maybe X)) (k : ℕ) (content : Maybe X) → All (λ (c : Maybe X). is_some c ≡ true) items → k < length items → get_elem? items k ≡ some content → content ≡ None → ⊥
never_none items k content all less at is_none = true≢false (sym (all k content less) ∙ ap is_some (element_is items k content content at ∙ is_none))

pub one_drained : {X : Type 0} (items : List (Maybe X)) (k : ℕ) (before after : List X) (x : X) → k < length items → get_elem? items k ≡ some (Some x) → map (λ (s : X). Some s) before ≡ take k items → after ≡ before ++ x ∷ []
    → map (λ (s : X). Some s) after ≡ take (k + 1) items
one_drained {X} items k before after x less at were are =
    ap (λ (l : List X). map (λ (s : X). Some s) l) are ∙ map-append (λ (s : X). Some s) before (x ∷ []) ∙ (λ i. were i ++ sym (element_is items k (Some x) (Some x) at) i ∷ []) ∙ sym (take_more items k (Some x) less)

set_false : (l : List Bool) (k : ℕ) → get_or (set l k false) k false ≡ false
set_false [] k = refl
set_false (x ∷ xs) zero = refl
set_false (x ∷ xs) (suc k) = set_false xs k

pub empty_below : (l l' : List Bool) (k : ℕ) → l' ≡ set l k false → ((j : ℕ) → j < k → get_or l j false ≡ false) → (j : ℕ) → j < k + 1 → get_or l' j false ≡ false
empty_below l l' k is old j less = ap (λ (m : List Bool). get_or m j false) is ∙ dite (ℕ_discrete j k)
    (λ (same : j ≡ k). ap (λ (m : ℕ). get_or (set l k false) m false) same ∙ set_false l k)
    (λ (apart : j ≢ k). get_or-set_other l k j false false apart ∙ old j (omega arith))

pub full_above : (l l' : List Bool) (k count : ℕ) → l' ≡ set l k false → ((j : ℕ) → k ≤ j → j < count → IsTrue (get_or l j false)) → (j : ℕ) → k + 1 ≤ j → j < count → IsTrue (get_or l' j false)
full_above l l' k count is old j above less =
    let apart : j ≢ k = λ same. absurd (omega arith) in
    subst (λ (b : Bool). IsTrue b) (sym (ap (λ (m : List Bool). get_or m j false) is ∙ get_or-set_other l k j false false apart)) (old j (omega arith) less)
