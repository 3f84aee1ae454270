use Rattle.std.proofs.Common.{◌≡◌, take}
use Rattle.lg_script.specs.Commands.{script_views}
use Rattle.lg_script.specs.Histories.{dictionary_after}
use Rattle.lg_audit.proofs.dated.learn_all.Given as goal

-- the edits so far
abbrev pub invariant-loop-place : goal.invariant-loop-place
invariant-loop-place l = l.view ≡ dictionary_after (script_views l.scripts) l.initial.view (take l.place-index l.places)
