use Rattle.std.proofs.Common.{Some, sym, ap, ◌∙◌, refl}
use Rattle.std.specs.BinaryHeap.{heap_items}
use Rattle.std.proofs.lemmas.Option.{slice_get-get_or}
use Rattle.lg_rank.proofs.queue.first_place.Goals as goal

pub returns-in-Some : goal.returns-in-Some
returns-in-Some c =
    let first = c.in-Some.first.now in
    record { first = first; here = slice_get-get_or (heap_items c.args.queue.now) 0 first c.in-Some.ensures.item.3.0 ∙ ap Some (sym c.in-Some.ensures.lookup); place = refl }
