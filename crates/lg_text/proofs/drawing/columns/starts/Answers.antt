use Rattle.std.proofs.Common.{◌∷◌, [], ◌++◌, length, sym, ap, ◌∙◌}
use Rattle.lg_text.specs.Diagrams.{cells, next_start}
use Rattle.lg_text.proofs.Columns.{length-starts_of, starts_more}
use Rattle.lg_text.proofs.drawing.columns.starts.Goals as goal

pub next_start-requires-clause-before : goal.next_start-requires-clause-before
next_start-requires-clause-before c =
    ap length (c.deref.ensures.value ∙ c.loop-position.invariant) ∙ length-starts_of (cells c.args.tokens.now c.args.g.now) c.args.g.now c.loop-position.position

-- one more start
pub loop-position-preserved : goal.loop-position-preserved
loop-position-preserved c =
    let g = c.args.g.now in
    let texts = cells c.args.tokens.now g in
    let i = c.loop-position.position in
    let so_far = c.loop-position.invariant in
    c.in_ok-push.ensures.items
    ∙ (λ t. so_far t ++ (c.in_ok-start.ensures ∙ ap (λ starts. next_start texts g starts i) (c.deref.ensures.value ∙ so_far)) t ∷ [])
    ∙ sym (starts_more texts g i)
