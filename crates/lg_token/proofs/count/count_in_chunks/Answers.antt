use Rattle.std.proofs.Common.{ap, arith, rules}
use Rattle.lg_token.proofs.Counting.{run_length, chunks_counted, chunks_ended}
use Rattle.lg_token.proofs.count.count_in_chunks.Goals as goal

pub loop-run-preserved : goal.loop-run-preserved
loop-run-preserved c =
    let run = c.in-Some.run' in
    let range = c.in-Some.ensures.in_range in
    let few = c.loop-run.invariant.few in
    let here = c.in_ok-count.ensures.few in
    let long = run_length c.args.text.now run.bytes.now run.start run.end range.2 c.in-Some.ensures.bytes in
    record {
      in_range = range.2;
      few = omega (arith, range.0, range.1, few, here, long);
      counted = chunks_counted c.args.view.now c.args.text.now c.loop-run.initial' c.loop-run.from run.end c.loop-run.count c.in_ok-count.field-0 (run.bytes.now, run.start) c.in-Some.ensures.next
          c.loop-run.invariant.counted c.in_ok-count.ensures.pieces;
    }

pub returns-clause-chunks : goal.returns-clause-chunks
returns-clause-chunks c = chunks_ended c.args.view.now c.args.text.now c.loop-run.initial' c.loop-run.from c.loop-run.count c.in_default.ensures.next c.loop-run.invariant.counted
