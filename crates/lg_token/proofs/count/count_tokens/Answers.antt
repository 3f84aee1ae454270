use Rattle.std.proofs.Common.{◌+◌, length, subst}
use Rattle.lg_lex.specs.declared.run.Separators.TheVariants.{Blanks}
use Rattle.lg_token.specs.Tokens.{HasTokens}
use Rattle.lg_token.proofs.Counting.{sentence_counted}
use Rattle.lg_token.proofs.count.count_tokens.Goals as goal

pub returns : goal.returns
returns c =
    let bytes = c.as_bytes.result.now in
    subst (λ t. HasTokens c.args.view.now t (c.count_wall.result + c.in_ok-chunks.chunks + c.count_wall-2.result)) c.as_bytes.ensures.value
    (sentence_counted c.args.view.now bytes c.count_wall.result c.in_ok-chunks.chunks c.count_wall-2.result (c.runs_are_one_list.ensures.cut Blanks 0 bytes) (c.count_wall.ensures.wall 0) c.in_ok-chunks.ensures.chunks
    (c.count_wall-2.ensures.wall (length bytes)))
