use Rattle.lg_token.proofs.Chunks.{chunks_more, chunks_all}
use Rattle.lg_token.proofs.tokenizing.add_chunks.Goals as goal

pub loop-run-preserved : goal.loop-run-preserved
loop-run-preserved c =
    let run = c.in-Some.run' in
    record {
      in_range = c.in-Some.ensures.in_range.2;
      added = chunks_more c.args.view.now c.args.text.now c.args.places.now.items c.loop-run.initial' c.loop-run.from run.end (run.bytes.now, run.start) c.loop-run.places.items c.add_chunk.new.places.items
          c.in-Some.ensures.next c.loop-run.invariant.added c.in_ok-add_chunk.ensures;
    }

pub returns : goal.returns
returns c = chunks_all c.args.view.now c.args.text.now c.args.places.now.items c.loop-run.initial' c.loop-run.from c.loop-run.places.items c.in_default.ensures.next c.loop-run.invariant.added
