use Rattle.std.proofs.Common.{◌≡◌, List, Some, slice_get, sym, ap, ◌∙◌}
use Rattle.lg_rank.specs.Tables.{parts}
use Rattle.lg_rank.specs.Sources.{value_in}
use Rattle.lg_rank.specs.Values.{value_of}
use Rattle.lg_rank.specs.declared.node.Node.{Node}
use Rattle.lg_rank.proofs.Listing.{made_packs, good_fits}
use Rattle.lg_rank.proofs.ranked.linkage_at.Goals as goal

pub linkage_of-requires : goal.linkage_of-requires
linkage_of-requires c =
    let z = value_of c.args.nothing.now in
    let is = c.requires.listing in
    let at : slice_get (parts z c.args.table.now.nodes.items c.args.root) c.args.i ≡ Some (value_in c.part_of-part.result) = ap (λ (n : List Node). slice_get (parts z n c.args.root) c.args.i) (sym c.as_slice.ensures.value) ∙ c.part_of-part.ensures in
    let p = (made_packs (record { stand = c.values_are_linkages.ensures; sentences = c.sentences_are_cut_once.ensures }) c.args.problem.now z c.args.table.now.nodes.items is.0 c.args.root c.args.i (value_in c.part_of-part.result) is.1 at).0 in
    (p.0, p.2, good_fits c.args.problem.now p.0 is.1.forest.problem p.1.good, p.1.good.belongs.same_length)
