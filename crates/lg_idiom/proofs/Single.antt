-- A sentence has one list of chains that are taken.
use Rattle.std.proofs.Common.{◌≡◌, ℕ, List, [], ◌∷◌, refl, ap, subst}
use Rattle.std.specs.Cmp.{IsTotalOrder}
use Rattle.std.specs.Cmp.Rules.{comparing}
use Rattle.std.proofs.Common.{rules}
use Rattle.lg_idiom.specs.Idioms.{Chain, AreTaken, taken, left_out, chain_cmp}
use Rattle.lg_idiom.specs.Overlays.{TakenAreOne}
use Rattle.lg_idiom.proofs.Rising.{same_rising}

order_total : IsTotalOrder chain_cmp
order_total = Prim.search (comparing, rules) depth 16

one_taking : (cs : List Chain) (n : ℕ) (ts us : List Chain) → AreTaken n cs ts → AreTaken n cs us → ts ≡ us
one_taking [] n [] [] h k = refl
one_taking [] n (t ∷ ts) us h k = elim h [ ]
one_taking [] n [] (u ∷ us) h k = elim k [ ]
one_taking (c ∷ cs) n (t ∷ ts) (u ∷ us) (taken _ _ _ _ usable few rest) (taken _ _ _ _ also low other) = ap (λ l. c ∷ l) (one_taking cs _ ts us rest other)
one_taking (c ∷ cs) n (t ∷ ts) us (taken _ _ _ _ usable few rest) (left_out _ _ _ _ never other) = absurd (never usable few)
one_taking (c ∷ cs) n ts (u ∷ us) (left_out _ _ _ _ never rest) (taken _ _ _ _ usable few other) = absurd (never usable few)
one_taking (c ∷ cs) n ts us (left_out _ _ _ _ never rest) (left_out _ _ _ _ neither other) = one_taking cs n ts us rest other

pub taken_are_one : TakenAreOne
taken_are_one dict tokens t u one other =
    let same = same_rising chain_cmp order_total one.chains other.chains one.all.rise other.all.rise
    (λ c. (λ m. (other.all.exactly c).1 ((one.all.exactly c).0 m), λ m. (one.all.exactly c).1 ((other.all.exactly c).0 m))) in
    one_taking other.chains 0 t u (subst (λ cs. AreTaken 0 cs t) same one.are_taken) other.are_taken
