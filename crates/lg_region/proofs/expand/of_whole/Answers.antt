use Rattle.std.proofs.Common.{◌+◌, ◌∙◌, [], sym}
use Rattle.lg_region.specs.Keys.{IsAltOfWhole}
use Rattle.lg_region.proofs.Expanding.{OfWord, whole_names, words_all, words_apart}
use Rattle.lg_region.proofs.Once.{adds_next}
use Rattle.lg_region.proofs.expand.of_whole.Goals as goal

pub loop-word-preserved : goal.loop-word-preserved
loop-word-preserved c =
    let positions = c.args.lists.now.positions in let I = IsAltOfWhole positions c.args.lists.now.lists c.args.nulls in
    adds_next (OfWord positions I) c.loop-word.word [] c.loop-word.out.items c.push_firsts.new.out.items (words_apart positions I) c.loop-word.invariant c.in_ok-push_firsts.ensures

pub returns : goal.returns
returns c =
    let positions = c.args.lists.now.positions in let lists = c.args.lists.now.lists in
    words_all positions (c.args.nulls + 1) (IsAltOfWhole positions lists c.args.nulls) (whole_names positions lists c.args.nulls)
    (λ i. c.if-nulls-words.false (i ∙ sym c.words.ensures)) c.loop-word.word c.loop-word-test.false c.loop-word.out.items c.loop-word.invariant
