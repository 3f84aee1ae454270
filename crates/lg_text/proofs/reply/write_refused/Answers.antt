use Rattle.std.proofs.Common.{◌∙◌, [], ◌∷◌, ◌++◌, ap, codes, decimal}
use Rattle.std.proofs.lemmas.List.{append_assoc}
use Rattle.lg_text.specs.Pieces.{spaced, line_end}
use Rattle.lg_text.specs.Replies.{cause_pieces}
use Rattle.lg_text.proofs.Joined.{line_end-append}
use Rattle.lg_text.proofs.reply.write_refused.Goals as goal

-- the cause stands behind the other pieces
pub returns : goal.returns
returns c =
    let start = codes "refused" ∷ codes "at" ∷ (decimal c.args.version ++ codes ":") ∷ [] in
    let cause = cause_pieces c.args.cause c.args.name.now in
    c.in_ok-write_cause.ensures
    ∙ ap (λ text. text ++ line_end cause) c.in_ok-write_pieces.ensures
    ∙ append_assoc c.args.out.now.items (spaced start) (line_end cause)
    ∙ ap (λ text. c.args.out.now.items ++ text) (line_end-append start cause)
