use Rattle.std.proofs.Common.{◌≡◌, ◌++◌, ◌∷◌, ◌||◌, true, length, ap, sym, ◌∙◌, arith}
use Rattle.std.specs.Vec.Iter.{into_iter_items}
use Rattle.lg_eprune.specs.Live.{WordTree}
use Rattle.lg_eprune.specs.Cuts.{is_met, is_whole, cut_words, do_lose}
use Rattle.lg_eprune.proofs.Places.{word_kept, lost_kept}
use Rattle.lg_eprune.proofs.cut.cut_words.Goals as goal

pub loop-word-preserved-then-is_whole : goal.loop-word-preserved-then-is_whole
loop-word-preserved-then-is_whole c =
    let at = c.loop-word in
    let test = is_met c.args.right c.args.seen.now in
    let word = c.in-Some.word in
    let rest = into_iter_items c.next.new.self in
    let steps : into_iter_items at.word-iterator ≡ word ∷ rest = c.in-Some.ensures.steps.0 in
    let short = ap length steps in
    let gone = c.in-Some.ensures.steps.1 in
    let whole : is_whole test word.tree ≡ true =
    (let seen = ap (λ (w : WordTree). w.tree) c.word.view_is in let value = c.expr.ensures.value in let is = c.is_whole.ensures in let yes = c.if-is_whole.true in cc) in
    record {
      counted = omega (arith, at.invariant.counted);
      told = ap (λ xs. xs ++ cut_words test rest) c.in_ok-push.ensures.items
          ∙ word_kept test at.kept.items rest (cut_words test c.args.words) word whole (ap (λ xs. at.kept.items ++ cut_words test xs) (sym steps) ∙ at.invariant.told);
      lost = lost_kept test at.is_less (do_lose test c.args.words) word rest whole (ap (λ xs. at.is_less || do_lose test xs) (sym steps) ∙ at.invariant.lost);
    }
