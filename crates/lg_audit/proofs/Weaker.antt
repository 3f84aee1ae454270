-- What a call answers, said in other words.
use Rattle.std.proofs.Common.{Option, Some, None, IsSome, MatchOption, Result, Ok, Err, refl}
use Rattle.std.specs.Result.{IfOk}

module _ {A E N N' : Type 0} {S S' : A → Type 0} (none : N → N') (some : (x : A) → S x → S' x) where
  pub other_words : (r : Result (Option A) E) → IfOk r (λ o. MatchOption o N S) → IfOk r (λ o. MatchOption o N' S')
  other_words (Ok None) h = none h
  other_words (Ok (Some x)) h = some x h
  other_words (Err e) h = tt

-- what there is where it is not so that there is none
pub is_there : {X : Type 0} (r : Option X) (P : Type 0) (Q : X → Type 0) → MatchOption r (P → ⊥) Q → P → IsSome r
is_there None P Q m p = absurd (m p)
is_there (Some x) P Q m p = refl
