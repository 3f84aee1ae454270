-- Good linkages compare pair by pair.
use Rattle.std.proofs.Common.{◌≡◌, ℕ, zero, suc, ◌≤◌, inl, inr, refl, List, [], ◌∷◌, length, get_or, slice_get, Option, Some, None, arith}
use Rattle.std.specs.List.{All}
use Rattle.std.proofs.lemmas.Bool.{cases_lt}
use Rattle.std.proofs.lemmas.List.Elements.{Contains-get_or}
use Rattle.lg_gram.specs.Connectors.{Connector}
use Rattle.lg_gram.specs.Linkages.{Linkage}
use Rattle.lg_gram.specs.Rules.{Good, chosen_at, left_list, HasLink}
use Rattle.lg_gram.specs.Pairs.{LiesAmong, GoodByPairs}
use Rattle.lg_gram.specs.declared.disjunct.Disjunct.{Disjunct}
use Rattle.lg_gram.specs.declared.linkage.Link.{Link}
use Rattle.lg_gram.proofs.Pairs.{pairs_decide}

past : (os : List (Option Disjunct)) (i : ℕ) → length os ≤ i → get_or os i None ≡ None
past [] i h = refl
past (o ∷ os) zero h = absurd (omega arith)
past (o ∷ os) (suc i) h = past os i (omega arith)

none_at : (q : ℕ) (c : Connector) (o : Option Disjunct) → o ≡ None → slice_get (left_list o) q ≡ Some c → ⊥
none_at q c None e h = cc
none_at q c (Some d) e h = absurd cc

-- the right end of a link is a position, since it has a connector there
ends_within : (positions : List (List Disjunct)) (g : Linkage) → Good positions g → (l : Link) → HasLink g l → LiesAmong (length positions) l
ends_within positions g good l h =
    let m = good.rules.matched.joins l h in
    let f = good.rules.matched.forward l h in
    elim (cases_lt l.right (length positions)) [
      | inl x ↦ (omega arith, x)
      | inr x ↦ absurd (none_at l.rplace m.1 (chosen_at g l.right) (past g.chosen l.right (let e = good.belongs.same_length in omega arith)) m.3)
    ]

lie_among : (positions : List (List Disjunct)) (g : Linkage) → Good positions g → All (LiesAmong (length positions)) g.links
lie_among positions g good k d l = ends_within positions g good (get_or g.links k d) (Contains-get_or g.links k d l)

pub good_by_pairs : GoodByPairs
good_by_pairs positions a b ga gb =
    rw (pairs_decide (length positions) a.links b.links ga.belongs.set gb.belongs.set (lie_among positions a ga) (lie_among positions b gb)) refl
