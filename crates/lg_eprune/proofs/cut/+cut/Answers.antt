use Rattle.std.proofs.Common.{Some, ◌+◌, map, drop, ap, sym, ◌∙◌}
use Rattle.std.specs.Option.{option_map}
use Rattle.lg_gram.specs.Trees.{tree_of, trees_in}
use Rattle.lg_eprune.specs.Cuts.{is_met, cut_all, cut_any}
use Rattle.lg_eprune.proofs.Joined.{before}
use Rattle.lg_eprune.proofs.Members.{all_more, all_done, any_more, any_done}
use Rattle.lg_eprune.proofs.cut.+cut.Goals as goal

pub cut_all-loop-member-preserved : goal.cut_all-loop-member-preserved
cut_all-loop-member-preserved t c =
    let test = is_met c.args.right c.args.seen.now in
    let at = c.loop-member in
    let es = c.items-member-items.result.now in
    ap (λ ks. option_map (before (map tree_of ks)) (cut_all test (trees_in (drop (at.member-index + 1) es)))) c.in_ok-push-in-Some.ensures.items
    ∙ all_more test es at.member-index c.member-item.result c.loop-member-test.true c.member-item.is at.kept.items c.in-Some.left (sym (ap (option_map tree_of) c.in-Some.is) ∙ c.in_ok-left.ensures) ∙ at.invariant

pub cut_all-returns : goal.cut_all-returns
cut_all-returns t c =
    let test = is_met c.args.right c.args.seen.now in
    ap (λ es. Some (trees_in es)) c.of.ensures
    ∙ all_done test c.items-member-items.result.now c.loop-member.kept.items c.loop-member.member-index c.loop-member-test.false ∙ c.loop-member.invariant

pub cut_any-loop-member-preserved : goal.cut_any-loop-member-preserved
cut_any-loop-member-preserved t c =
    let test = is_met c.args.right c.args.seen.now in
    let at = c.loop-member in
    let es = c.items-member-items.result.now in
    ap (λ ks. before (map tree_of ks) (cut_any test (trees_in (drop (at.member-index + 1) es)))) c.in_ok-push.ensures.items
    ∙ any_more test es at.member-index c.member-item.result c.loop-member-test.true c.member-item.is at.kept.items c.in-Some.left (sym (ap (option_map tree_of) c.in-Some.is) ∙ c.in_ok-left.ensures) ∙ at.invariant

pub cut_any-returns : goal.cut_any-returns
cut_any-returns t c =
    let test = is_met c.args.right c.args.seen.now in
    ap trees_in c.of.ensures
    ∙ any_done test c.items-member-items.result.now c.loop-member.kept.items c.loop-member.member-index c.loop-member-test.false ∙ c.loop-member.invariant
