use Rattle.lg_lex.specs.declared.run.Separators.TheVariants.{Blanks}
use Rattle.lg_token.proofs.Chunks.{sentence_tokens}
use Rattle.lg_token.proofs.tokenizing.places_in.Goals as goal

pub returns : goal.returns
returns c =
    sentence_tokens c.args.view.now c.args.text.now c.as_bytes-text.result.now c.new-places.result.items c.add_wall.new.places.items c.add_chunks.new.places.items c.add_wall-2.new.places.items
    c.as_bytes-text.ensures.value c.new-places.ensures.items (c.runs_are_one_list.ensures.cut Blanks 0 c.as_bytes-text.result.now) c.in_ok-add_wall.ensures c.in_ok-add_chunks.ensures c.in_ok-add_wall-2.ensures
