use Rattle.std.proofs.Common.{◌≡◌, ◌⊎◌, length, inl, inr, sym, ◌∙◌}
use Rattle.std.specs.Iterator.Adapters.{zip_first, zip_second}
use Rattle.std.specs.Vec.Iter.{into_iter_items}
use Rattle.lg_answer.proofs.InUse.{behind_end}
use Rattle.lg_answer.proofs.exprs.both.Goals as goal

-- no position is left
pub returns : goal.returns
returns c =
    let it = c.loop-own.own-iterator in
    let at = c.loop-own.invariant in
    let ended : (length (into_iter_items (zip_first it)) ≡ 0) ⊎ (length (into_iter_items (zip_second it)) ≡ 0) =
    elim c.in-None.ensures.steps [ inl h ↦ inl (sym at.counted ∙ h.1.0) | inr h ↦ inr (sym at.counted_too ∙ h.1.0) ] in
    c.of.ensures ∙ behind_end (into_iter_items (zip_first it)) (into_iter_items (zip_second it)) c.loop-own.all.items _ ended at.rest
