use Rattle.std.proofs.Common.{◌≡◌, true, get_or, sym, ◌∙◌, arith}
use Rattle.lg_gram.specs.Linkages.{link_length}
use Rattle.lg_text.specs.Diagrams.{height, is_inside}
use Rattle.lg_text.specs.Painted.{no_link}
use Rattle.lg_text.proofs.Greatest.{ord_max_is, greatest_yes, greatest_no}
use Rattle.lg_text.proofs.Heights.{inside_is_shorter, height_within}
use Rattle.lg_text.proofs.drawing.heights.highest_inside.Goals as goal
use Rattle.lg_text.proofs.drawing.heights.highest_inside.Goals.{then-is_inside, else-is_inside}

-- a link inside counts with its height
pub loop-i-preserved : goal.loop-i-preserved
loop-i-preserved c =
    let links = c.args.links.now in
    let link = c.args.link.now in
    let i = c.loop-i.i in
    let within = c.loop-i-test.true in
    let so_far = c.loop-i.invariant in
    elim c.if-is_inside.branch [
      | then-is_inside w ↦
          let inside : is_inside link (get_or links i no_link) ≡ true = sym c.is_inside.ensures ∙ w.if-is_inside.true in
          let shorter = inside_is_shorter link (get_or links i no_link) inside in
          let known = c.requires.known.at i within shorter in
          let new = w.highest-is ∙ w.max-highest.ensures in
          let most = ord_max_is c.loop-i.highest (get_or c.args.heights.now i 0) in
          let own = height_within links (link_length (get_or links i no_link)) (get_or links i no_link) in
          let low = so_far.low in
          record {
            value = new ∙ greatest_yes (height links) (is_inside link) 0 links i no_link within _ _ inside so_far.value known;
            low = omega arith;
          }
      | else-is_inside w ↦ record {
        value = w.highest-is ∙ greatest_no (height links) (is_inside link) 0 links i no_link within _ (sym c.is_inside.ensures ∙ w.if-is_inside.false) so_far.value;
        low = let low = so_far.low in let same = w.highest-is in omega arith;
      }
    ]
