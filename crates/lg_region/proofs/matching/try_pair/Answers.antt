use Rattle.std.proofs.Common.{length, refl}
use Rattle.std.proofs.lemmas.Option.{slice_get_read}
use Rattle.lg_region.proofs.Tabled.{match_at, tried_not, tried_set}
use Rattle.lg_region.proofs.matching.try_pair.Goals as goal

pub returns-then-matches : goal.returns-then-matches
returns-then-matches c =
    let kinds = c.args.kinds.now in
    let a = c.index-kinds-near.result in
    let b = c.index-kinds-far.result in
    let near = slice_get_read kinds (length kinds) c.args.near a refl c.requires.near c.index-kinds-near.is in
    let far = slice_get_read kinds (length kinds) c.args.far b refl c.requires.far c.index-kinds-far.is in
    tried_set kinds c.args.near c.args.far c.args.bits.now.items c.set_bit.new.bits.items c.requires.few c.requires.near c.requires.far c.requires.words
    ((match_at kinds c.args.near c.args.far a b near far).0 (c.matches.ensures.0 c.if-matches.true)) c.set_bit.ensures

pub returns-else-matches : goal.returns-else-matches
returns-else-matches c =
    let kinds = c.args.kinds.now in
    let a = c.index-kinds-near.result in
    let b = c.index-kinds-far.result in
    let near = slice_get_read kinds (length kinds) c.args.near a refl c.requires.near c.index-kinds-near.is in
    let far = slice_get_read kinds (length kinds) c.args.far b refl c.requires.far c.index-kinds-far.is in
    tried_not kinds c.args.near c.args.far c.args.bits.now.items c.args.bits.now.items
    (λ m. let t = c.matches.ensures.1 ((match_at kinds c.args.near c.args.far a b near far).1 m) in let f = c.if-matches.false in absurd cc) refl
