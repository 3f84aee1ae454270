use Rattle.std.proofs.Common.{◌∙◌}
use Rattle.lg_core.proofs.Looks.{listed_kind, beyond_kind}
use Rattle.lg_core.proofs.look.listing_kind.Goals as goal
use Rattle.lg_core.proofs.look.listing_kind.Goals.{in-Ok-2, in-Err}

-- by what was found of the text
pub returns : goal.returns
returns c =
    let dict = c.args.view.now in
    let sentence = c.in-Ok.sentence.now in
    let same = c.in-Ok.ensures.cases.0 ∙ c.bytes.ensures in
    elim c.match-branch-2.branch [
      | in-Ok-2 w ↦ rw w.result-is (listed_kind dict sentence c.args.text.now same _ (rw w.in-Ok-2.is at c.in_ok-listed_tokens.ensures.listed))
      | in-Err w ↦ rw w.result-is (beyond_kind dict sentence c.args.text.now same _ (rw w.in-Err.is at c.in_ok-listed_tokens.ensures.beyond))
    ]
