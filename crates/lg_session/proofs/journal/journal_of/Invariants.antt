use Rattle.std.proofs.Common.{◌≡◌, true, ◌++◌, drop}
use Rattle.std.specs.List.{list_all}
use Rattle.lg_log.specs.Codes.{is_code}
use Rattle.lg_script.specs.EditNumbers.{edit_counts}
use Rattle.lg_script.specs.Codes.{places_of}
use Rattle.lg_script.specs.Commands.{script_views}
use Rattle.lg_session.proofs.journal.journal_of.Given as goal

abbrev pub invariant-loop-code : goal.invariant-loop-code
invariant-loop-code l = (l.places.items ++ places_of (script_views l.scripts) (drop l.code-index l.codes) ≡ places_of (script_views l.scripts) l.codes)
    × (list_all (is_code (edit_counts (script_views l.scripts))) (drop l.code-index l.codes) ≡ true)
