use Rattle.std.proofs.Common.{◌<◌, length, get_or, subst, sym, ap, arith}
use Rattle.std.specs.List.{All}
use Rattle.lg_gram.specs.Linkages.{link_length}
use Rattle.lg_text.specs.Painted.{no_link}
use Rattle.lg_text.proofs.Columns.{all_forward, all_placed, all_short, drawn_more}
use Rattle.lg_text.proofs.drawing.lines.drawn_links.Goals as goal

pub heights-requires-clause-short : goal.heights-requires-clause-short
heights-requires-clause-short c =
    subst (λ links. All (λ l. link_length l < length c.args.starts.now) links) (sym c.links-links.ensures.value)
    (subst (λ n. All (λ l. link_length l < n) c.args.g.now.links) (sym c.requires.placed) (all_short c.args.g.now c.requires.matched))

pub bounds-starts-links : goal.bounds-starts-links
bounds-starts-links c =
    let is = c.links-links.ensures.value in
    let long = ap length is in
    let placed = all_placed c.args.g.now c.requires.matched c.loop-i.i no_link (omega arith) in
    let forward = all_forward c.args.g.now c.requires.matched c.loop-i.i no_link (omega arith) in
    let same = ap (λ links. (get_or links c.loop-i.i no_link).left) is in
    let positions = c.requires.placed in
    omega arith

pub bounds-starts-links-in-loop-i : goal.bounds-starts-links-in-loop-i
bounds-starts-links-in-loop-i c =
    let is = c.links-links.ensures.value in
    let long = ap length is in
    let placed = all_placed c.args.g.now c.requires.matched c.loop-i.i no_link (omega arith) in
    let same = ap (λ links. (get_or links c.loop-i.i no_link).right) is in
    let positions = c.requires.placed in
    omega arith

-- one more link is drawn
pub loop-i-preserved : goal.loop-i-preserved
loop-i-preserved c =
    drawn_more c.args.g.now c.args.starts.now c.links-links.result.now c.in_ok-heights.heights.items c.loop-i.i c.label.result c.index.result.now _ _ c.loop-i-test.true c.links-links.ensures.value
    c.in_ok-heights.ensures c.label.ensures c.index.ensures c.loop-i.invariant c.in_ok-push.ensures.items
