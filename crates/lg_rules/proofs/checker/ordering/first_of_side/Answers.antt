use Rattle.std.proofs.Common.{◌≡◌, ◌<◌, length, ap, arith, below_more}
use Rattle.std.proofs.lemmas.Bool.{false≢true}
use Rattle.lg_rules.specs.Places.{linkage_of, side_of}
use Rattle.lg_rules.proofs.Ordered.{place_within}
use Rattle.lg_rules.proofs.checker.ordering.first_of_side.Goals as goal

-- this place is in order, as those before it
pub loop-place-preserved : goal.loop-place-preserved
loop-place-preserved c = below_more _ _ c.loop-place.invariant (λ p. false≢true (c.if-is_disordered.ensures.1 p))

-- there is no place past the end of the side
pub returns-clause-none : goal.returns-clause-none
returns-clause-none c = λ place p.
    let g = linkage_of c.args.chosen.now c.args.links.now in
    let within : place < length (side_of g c.args.right c.args.position) =
    place_within g c.requires.placed c.args.position c.args.right place p.0 p.2 p.4 in
    let read : length c.side.result.now ≡ length (side_of g c.args.right c.args.position) = ap length c.side.ensures in
    c.loop-place.invariant place (omega arith) p
