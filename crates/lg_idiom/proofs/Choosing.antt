-- One chain after others is taken or left out.
use Rattle.std.proofs.Common.{◌≡◌, ℕ, ◌+◌, ◌<◌, ◌≤◌, List, [], ◌∷◌, ◌++◌, sym, ap, subst, ◌∙◌, arith}
use Rattle.lg_token.specs.Bounds.{LISTED_CHOICES}
use Rattle.lg_idiom.specs.Idioms.{Chain, IsUsable, chain_choices, AreTaken, no_chain, taken, left_out}
use Rattle.lg_idiom.specs.Takings.{choices_of_all, HasTaken}
use Rattle.lg_idiom.specs.declared.taken.Taken.{Taken}

pub none_taken : AreTaken 0 [] []
none_taken = no_chain 0

more_of : (n a b l : ℕ) → n + (a + b) + l ≡ n + a + b + l
more_of n a b l = omega arith

pub one_taken : (cs : List Chain) (n : ℕ) (ts : List Chain) (d : Chain) → AreTaken n cs ts → IsUsable d → n + choices_of_all ts + chain_choices d ≤ LISTED_CHOICES → AreTaken n (cs ++ d ∷ []) (ts ++ d ∷ [])
one_taken [] n [] d (no_chain _) use_it few = taken n d [] [] use_it (subst (λ m. m + chain_choices d ≤ LISTED_CHOICES) (let e : n + 0 ≡ n = omega arith in e) few) (no_chain _)
one_taken [] n (t ∷ ts) d h use_it few = elim h [ ]
one_taken (c ∷ cs) n (c' ∷ ts) d (taken _ _ _ _ u f rest) use_it few =
    taken n _ (cs ++ d ∷ []) (ts ++ d ∷ []) u f (one_taken cs _ ts d rest use_it (subst (λ m. m ≤ LISTED_CHOICES) (more_of n _ _ _) few))
one_taken (c ∷ cs) n ts d (left_out _ _ _ _ never rest) use_it few = left_out n c (cs ++ d ∷ []) (ts ++ d ∷ []) never (one_taken cs n ts d rest use_it few)

pub one_left : (cs : List Chain) (n : ℕ) (ts : List Chain) (d : Chain) → AreTaken n cs ts → (IsUsable d → n + choices_of_all ts + chain_choices d ≤ LISTED_CHOICES → ⊥) → AreTaken n (cs ++ d ∷ []) ts
one_left [] n [] d (no_chain _) many = left_out n d [] [] (λ u few. many u (subst (λ m. m + chain_choices d ≤ LISTED_CHOICES) (let e : n ≡ n + 0 = omega arith in e) few)) (no_chain n)
one_left [] n (t ∷ ts) d h many = elim h [ ]
one_left (c ∷ cs) n (c' ∷ ts) d (taken _ _ _ _ u f rest) many =
    taken n _ (cs ++ d ∷ []) ts u f (one_left cs _ ts d rest (λ u' few. many u' (subst (λ m. m ≤ LISTED_CHOICES) (sym (more_of n _ _ _)) few)))
one_left (c ∷ cs) n ts d (left_out _ _ _ _ never rest) many = left_out n c (cs ++ d ∷ []) ts never (one_left cs n ts d rest many)

pub choices-push : (ts : List Chain) (d : Chain) → choices_of_all (ts ++ d ∷ []) ≡ choices_of_all ts + chain_choices d
choices-push [] d = omega arith
choices-push (c ∷ ts) d = let e = choices-push ts d in omega (arith, e)

module _ (t : Taken) (chains : List Chain) (c : Chain) (has : HasTaken chains t) where
  pub takes_none : (IsUsable c → ⊥) → HasTaken (chains ++ c ∷ []) t
  takes_none never = record { taken = one_left chains 0 t.chains.items c has.taken (λ u few. never u); left = has.left }

  pub takes_many : t.left < chain_choices c → HasTaken (chains ++ c ∷ []) t
  takes_many many =
      let sum = has.left in
      record { taken = one_left chains 0 t.chains.items c has.taken (λ u few. omega (arith, many, sum, few)); left = has.left }

  pub takes_one : (u : Taken) → IsUsable c → u.chains.items ≡ t.chains.items ++ c ∷ [] → u.left + chain_choices c ≡ t.left → HasTaken (chains ++ c ∷ []) u
  takes_one u use_it items left =
      let sum = has.left in
      let few : 0 + choices_of_all t.chains.items + chain_choices c ≤ LISTED_CHOICES = omega (arith, sum, left) in
      let all : choices_of_all u.chains.items ≡ choices_of_all t.chains.items + chain_choices c = ap choices_of_all items ∙ choices-push t.chains.items c in
      record {
        taken = subst (λ ts. AreTaken 0 (chains ++ c ∷ []) ts) (sym items) (one_taken chains 0 t.chains.items c has.taken use_it few);
        left = omega (arith, sum, left, all);
      }

pub none_so_far : (t : Taken) → t.chains.items ≡ [] → t.left ≡ LISTED_CHOICES → HasTaken [] t
none_so_far t empty whole =
    let none : choices_of_all t.chains.items ≡ 0 = ap choices_of_all empty in
    record { taken = subst (AreTaken 0 []) (sym empty) none_taken; left = omega (arith, none, whole) }
