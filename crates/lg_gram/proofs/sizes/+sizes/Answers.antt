use Rattle.std.proofs.Common.{◌≡◌, ◌+◌, ◌*◌, min, drop, ap, sym, ◌∙◌, arith}
use Rattle.std.proofs.lemmas.Grind.{common_steps}
use Rattle.lg_gram.specs.Limits.{COUNTED}
use Rattle.lg_gram.specs.Trees.{tree_of, trees_in}
use Rattle.lg_gram.specs.Measures.{choice_count, product_in}
use Rattle.lg_gram.proofs.Caps.{product_step, product_drop}
use Rattle.lg_gram.proofs.sizes.+sizes.Goals as goal

-- one more member; the cap on the way changes no product
pub sizes_of_all-loop-member-preserved : goal.sizes_of_all-loop-member-preserved
sizes_of_all-loop-member-preserved t c =
    let es = c.items-member-items.result.now in
    let i = c.loop-member.member-index in
    let so_far = c.loop-member.sizes.choices in
    let n = choice_count (tree_of c.member-item.result) in
    let rest = product_in (trees_in (drop (i + 1) es)) in
    let step = product_drop es i c.member-item.result (omega arith) in
    let item = ap (λ e. choice_count (tree_of e) * rest) c.member-item.is in
    let whole : product_in (trees_in (drop i es)) ≡ n * rest = omega (arith, step, item) in
    let capped = product_step COUNTED COUNTED so_far c.sizes_of.result.choices n c.and-sizes.result.choices c.and-sizes.result.choices rest (omega arith) c.sizes_of.ensures.choices c.and-sizes.ensures.choices (omega arith) in
    record {
      few_nodes = grind (arith, common_steps);
      few_choices = grind (arith, common_steps);
      short_left = grind (arith, common_steps);
      short_right = grind (arith, common_steps);
      nodes = grind (arith, common_steps);
      choices = capped ∙ sym (ap (λ x. min (so_far * x) COUNTED) whole) ∙ c.loop-member.invariant.choices;
      left = grind (arith, common_steps);
      right = grind (arith, common_steps);
    }
