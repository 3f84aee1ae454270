use Rattle.std.proofs.Common.{◌≡◌, ap, ◌∙◌}
use Rattle.std.proofs.lemmas.List.{take_all}
use Rattle.lg_lex.specs.declared.location.Location.{Location}
use Rattle.lg_lex.specs.Locations.{location_of, location_after}
use Rattle.lg_lex.proofs.Columns.{location_after-slice_range}
use Rattle.lg_lex.proofs.location.Location.past.Goals as goal

-- the bytes lead from the location of i to that of j
pub returns-clause-along : goal.returns-clause-along
returns-clause-along c = λ text i j is le bytes_are.
    let all_read : c.loop-b.location ≡ location_after c.args.self c.args.bytes.now = c.loop-b.invariant ∙ ap (location_after c.args.self) (take_all _ _ c.loop-b-test.false) in
    all_read
    ∙ ap (λ (p : Location). location_after p c.args.bytes.now) is
    ∙ ap (location_after (location_of text i)) bytes_are
    ∙ location_after-slice_range text i j le
