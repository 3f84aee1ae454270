use Rattle.std.proofs.Common.{rules, ◌≡◌, ◌++◌, ◌∷◌, ◌||◌, [], length, ap, sym, ◌∙◌, subst, arith}
use Rattle.std.specs.Vec.Iter.{into_iter_items}
use Rattle.lg_eprune.specs.Cuts.{is_met, cut_words, do_lose, swept, sweep_loses, word_leaves, Lists}
use Rattle.lg_eprune.proofs.Places.{told_more, Told}
use Rattle.lg_eprune.proofs.prune.sweep.Goals as goal
use Rattle.lg_eprune.proofs.prune.sweep.Goals.{then-is_less, else-is_less}

pub loop-words-init : goal.loop-words-init
loop-words-init c =
    let right = c.args.right in
    let start = c.into_iter-words-iterator.ensures.into_iter_gives.0 in
    record {
      counted = search rules;
      told = ([], c.in_ok-seen.ensures, (λ i. c.in_ok-kept.ensures.items i ++ swept right [] (start i)), ap (sweep_loses right []) start);
    }

pub loop-words-preserved : goal.loop-words-preserved
loop-words-preserved c =
    let at = c.loop-words in
    let right = c.args.right in
    let steps : into_iter_items at.words-iterator ≡ c.in-Some.words ∷ into_iter_items c.next.new.self = c.in-Some.ensures.steps.0 in
    let short = ap length steps in
    let gone = c.in-Some.ensures.steps.1 in
    let kept = c.in_ok-left.left in
    let loses = c.in_ok-left.loses in
    let is : kept ≡ cut_words (is_met right at.seen) c.in-Some.words = (let same = c.in_ok-left.left-is in let words = c.in_ok-left.ensures.words in cc) in
    let lost : loses ≡ do_lose (is_met right at.seen) c.in-Some.words = (let same = c.in_ok-left.loses-is in let less = c.in_ok-left.ensures.less in cc) in
    let from : c.in_ok-left.field-0.words ≡ kept = (let same = c.in_ok-left.left-is in cc) in
    let lists : Lists at.seen (word_leaves right kept) c.see_words.new.seen = subst (λ ws. Lists at.seen (word_leaves right ws) c.see_words.new.seen) (c.items.ensures ∙ from) c.in_ok-see_words.ensures in
    let same_flag : c.in_ok-left.field-0.is_less ≡ loses = (let same = c.in_ok-left.loses-is in cc) in
    let flag : c.if-is_less.is_less ≡ (at.is_less || loses) =
    elim c.if-is_less.branch [
      | then-is_less w ↦ w.is_less-is ∙ w.if-is_less.true ∙ ap (λ b. b || loses) (sym w.if-is_less.true)
      | else-is_less w ↦ w.is_less-is ∙ same_flag ∙ ap (λ b. b || loses) (sym w.if-is_less.false)
    ] in
    let before = subst (λ xs. Told right at.seen at.kept.items at.is_less xs c.args.positions.items) steps at.invariant.told in
    let after = told_more right at.seen c.see_words.new.seen at.kept.items (into_iter_items c.next.new.self) c.args.positions.items c.in-Some.words kept at.is_less loses is lost lists before in
    record {
      counted = omega (arith, at.invariant.counted);
      told = subst (λ b. Told right c.see_words.new.seen c.push.new.self.items b (into_iter_items c.next.new.self) c.args.positions.items) (sym flag)
          (subst (λ xs. Told right c.see_words.new.seen xs (at.is_less || loses) (into_iter_items c.next.new.self) c.args.positions.items) (sym (c.in_ok-push.ensures.items ∙ ap (λ k. at.kept.items ++ k ∷ []) from)) after);
    }
