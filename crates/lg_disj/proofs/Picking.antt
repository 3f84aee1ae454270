-- Picks of members, those of the last not yet joined with the others.
use Rattle.std.proofs.Common.{◌≡◌, ◌+◌, ℕ, List, [], ◌∷◌, ◌++◌, take, sym, ap, ap₂, subst, arith, refl}
use Rattle.std.specs.List.{All}
use Rattle.lg_gram.specs.Connectors.{Connector}
use Rattle.lg_gram.specs.Measures.{no_connectors, choices_of, picks_of}
use Rattle.lg_gram.specs.Trees.{no_trees, tree_of, trees_in}
use Rattle.lg_gram.specs.declared.expr.Expr.{Expr}
use Rattle.lg_disj.specs.Choices.{HasSmallCost}
use Rattle.lg_disj.specs.Grown.{StandFor, Grows}
use Rattle.lg_disj.specs.Places.{Places, no_places, all_both, IsCheap}
use Rattle.lg_disj.proofs.Bounded.{small_picks}
use Rattle.lg_disj.proofs.Growing.{stand_none, cheap_listed, picks_more}

pub none_picked : (leaves : List Connector) (ps qs : List Places) → ps ≡ no_places ∷ [] → qs ≡ no_places ∷ [] → StandFor leaves (all_both ps qs) (no_connectors ∷ [])
none_picked leaves ps qs first last = subst (λ all. StandFor leaves all (no_connectors ∷ [])) (sym (ap₂ all_both first last)) (stand_none leaves)

pub none_cheap : (ps : List Places) → ps ≡ no_places ∷ [] → All IsCheap ps
none_cheap ps is = subst (All IsCheap) (sym is) (cheap_listed [] (no_places ∷ []) (no_connectors ∷ []) refl (small_picks no_trees (omega arith) refl))

-- one more member
pub one_more_picked : (a b : List Connector) (firsts last joined next : List Places) (es : List Expr) (i : ℕ) (e : Expr) → Grows a b →
    StandFor a (all_both firsts last) (picks_of (trees_in (take i es))) → StandFor b next (choices_of (tree_of e)) → joined ≡ all_both firsts last →
    take i es ++ e ∷ [] ≡ take (i + 1) es → StandFor b (all_both joined next) (picks_of (trees_in (take (i + 1) es)))
one_more_picked a b firsts last joined next es i e grows p q is more =
    picks_more a b (all_both firsts last) next (all_both joined next) es i e grows p q (ap (λ ps. all_both ps next) is) more

pub joined_cheap : (leaves : List Connector) (firsts last joined : List Places) (es : List Expr) → joined ≡ all_both firsts last →
    StandFor leaves (all_both firsts last) (picks_of (trees_in es)) → All HasSmallCost (picks_of (trees_in es)) → All IsCheap joined
joined_cheap leaves firsts last joined es is h small = subst (All IsCheap) (sym is) (cheap_listed leaves (all_both firsts last) (picks_of (trees_in es)) h.told small)
