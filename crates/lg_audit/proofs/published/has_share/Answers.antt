use Rattle.std.proofs.Common.{◌∙◌}
use Rattle.std.proofs.lemmas.Slice.Eq.{slice_eq-Decides}
use Rattle.lg_audit.proofs.Sharing.{place_Decides, same_share}
use Rattle.lg_audit.proofs.published.has_share.Goals as goal

pub returns : goal.returns
returns c =
    same_share c.as_slice.result.now c.as_slice-2.result.now _ _ c.eq.result (slice_eq-Decides place_Decides _ _ _ c.eq.ensures)
    (c.as_slice.ensures.value ∙ c.in_ok-kept.ensures) (c.as_slice-2.ensures.value ∙ c.in_ok-told.ensures)
