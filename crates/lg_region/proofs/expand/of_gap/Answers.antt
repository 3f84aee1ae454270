use Rattle.std.proofs.Common.{[]}
use Rattle.lg_region.specs.Groups.{region_of_gap}
use Rattle.lg_region.specs.Keys.{IsAltOfRegion}
use Rattle.lg_region.proofs.Expanding.{OfWord, gap_links, region_names, words_all, words_apart}
use Rattle.lg_region.proofs.Once.{adds_next}
use Rattle.lg_region.proofs.expand.of_gap.Goals as goal

pub loop-word-preserved : goal.loop-word-preserved
loop-word-preserved c =
    let positions = c.args.lists.now.positions in let lists = c.args.lists.now.lists in let I = IsAltOfRegion positions lists (region_of_gap lists c.args.gap.now) in
    adds_next (OfWord positions I) c.loop-word.word [] c.loop-word.out.items c.push_word.new.out.items (words_apart positions I) c.loop-word.invariant c.in_ok-push_word.ensures

pub returns : goal.returns
returns c =
    let positions = c.args.lists.now.positions in let lists = c.args.lists.now.lists in let k = region_of_gap lists c.args.gap.now in
    words_all positions k.right (IsAltOfRegion positions lists k) (region_names positions lists k)
    (gap_links c.args.lists.now c.requires.0 c.args.gap.now c.are_numbered.ensures c.requires.1) c.loop-word.word c.loop-word-test.false c.loop-word.out.items c.loop-word.invariant
