use Rattle.std.proofs.Common.{◌≡◌}
use Rattle.lg_script.specs.Histories.{version_of}
use Rattle.lg_script.specs.Commands.{script_views}
use Rattle.lg_core.specs.Core.{journal_of}
use Rattle.lg_core.proofs.edits.newest.Given as goal

abbrev pub invariant-loop-code : goal.invariant-loop-code
invariant-loop-code l = l.view ≡ version_of (script_views l.scripts) l.base (journal_of (script_views l.scripts) l.core) l.code-index
