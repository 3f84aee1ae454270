use Rattle.std.proofs.Common.{get_or}
use Rattle.lg_edit.specs.Edits.{edit_view}
use Rattle.lg_script.specs.Commands.{script_views}
use Rattle.lg_core.proofs.Named.{code_at, next_accepts, next_version}
use Rattle.lg_core.proofs.edits.newest.Goals as goal

pub edit_of-requires-clause-code : goal.edit_of-requires-clause-code
edit_of-requires-clause-code c =
    let items = c.items-code-items.result.now in
    (c.requires.core.codes c.loop-code.code-index (get_or items c.loop-code.code-index 0) (code_at c.args.core.now.history items c.loop-code.code-index c.items-code-items.ensures c.loop-code-test.true)).is_one

pub apply-requires-clause-accepted : goal.apply-requires-clause-accepted
apply-requires-clause-accepted c =
    let items = c.items-code-items.result.now in
    let n = c.loop-code.code-index in
    let at = code_at c.args.core.now.history items n c.items-code-items.ensures c.loop-code-test.true in
    next_accepts (script_views c.args.scripts.now) c.args.base.now c.args.core.now n (get_or items n 0) at (edit_view c.edit_of.result.1.now) c.edit_of.ensures.edit
    c.loop-code.view c.loop-code.invariant (c.requires.core.codes n (get_or items n 0) at)

pub loop-code-preserved : goal.loop-code-preserved
loop-code-preserved c =
    let items = c.items-code-items.result.now in
    let n = c.loop-code.code-index in
    let at = code_at c.args.core.now.history items n c.items-code-items.ensures c.loop-code-test.true in
    next_version (script_views c.args.scripts.now) c.args.base.now c.args.core.now n (get_or items n 0) at (edit_view c.edit_of.result.1.now) c.edit_of.ensures.edit
    c.loop-code.view c.apply.new.view c.loop-code.invariant c.in_ok-apply.ensures.made
