use Rattle.std.proofs.Common.{◌+◌, refl, Some, arith}
use Rattle.lg_fewest.proofs.Cutting.{contains_at}
use Rattle.lg_fewest.proofs.Whole.{fewest_is, no_more, sums_more, sums_start}
use Rattle.lg_fewest.proofs.sentence.over_firsts.Goals as goal

pub loop-index-init : goal.loop-index-init
loop-index-init c = record { lowers = sums_start c.args.lists.now c.args.firsts.now (Some c.args.words); table = c.requires.table }

pub begin_at-requires-clause-first : goal.begin_at-requires-clause-first
begin_at-requires-clause-first c = (c.requires.firsts c.get.result).0 (contains_at c.args.firsts.now c.loop-index.index c.get.result c.get.ensures)

pub begin_at-requires-clause-few : goal.begin_at-requires-clause-few
begin_at-requires-clause-few c = let less = no_more _ c.args.words c.loop-index.least c.loop-index.invariant.lowers in let all = c.requires.words in omega arith

pub loop-index-preserved : goal.loop-index-preserved
loop-index-preserved c = record {
  lowers = sums_more c.args.lists.now c.args.firsts.now c.loop-index.index (c.loop-index.index + 1) c.get.result _ _ _ refl c.get.ensures c.loop-index.invariant.lowers c.in_ok-least.ensures.lowers;
  table = c.in_ok-least.ensures.table;
}

pub returns : goal.returns
returns c =
    let test = c.loop-index-test.false in
    fewest_is c.args.lists.now c.args.firsts.now c.loop-index.index c.args.words c.loop-index.least c.requires.law c.requires.firsts (omega arith) c.requires.words c.loop-index.invariant.lowers
