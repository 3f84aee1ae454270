use Rattle.std.proofs.Common.{Global, ◌+◌, map, List, Ok, sym, subst, ◌∙◌}
use Rattle.std.proofs.lemmas.Result.{err_from_is_err_and}
use Rattle.lg_script.specs.Commands.{CommandView, command_view}
use Rattle.lg_script.specs.Telling.{GivesText}
use Rattle.lg_script.proofs.Texts.{Leads, adds, leads_on, leads_end, leads_fault, counted_more}
use Rattle.lg_script.proofs.read.read_text.Goals as goal

pub returns-in_err-add_line : goal.returns-in_err-add_line
returns-in_err-add_line c =
    let at = c.loop-commands.invariant in
    let error = err_from_is_err_and c.from_residual.result c.from_residual.ensures.1 in
    rw error.1 (leads_fault Global at.0 c.loop-commands.number c.loop-commands.left.now c.args.text.now c.first_line.result.0.now c.first_line.result.1 (map command_view c.loop-commands.commands.items) error.0
    c.first_line.ensures.whole c.first_line.ensures.split at.1 at.2 (rw error.2 c.in_err-add_line.ensures))

-- the last line
pub returns-in-None : goal.returns-in-None
returns-in-None c =
    let at = c.loop-commands.invariant in
    let line = c.first_line.result.0.now in
    let added = adds c.loop-commands.number line c.loop-commands.commands.items c.add_line.new.commands.items c.in_ok-add_line.field-0 at.0 c.in_ok-add_line.ensures in
    subst (λ (cs : List CommandView). GivesText 1 c.args.text.now (Ok cs)) (sym added.1)
    (leads_end at.0 c.loop-commands.left.now c.args.text.now line (map command_view c.loop-commands.commands.items) added.0 c.first_line.ensures.whole (rw c.in-None.is at c.first_line.ensures.split) added.2 at.2)

-- one line more
pub loop-commands-preserved : goal.loop-commands-preserved
loop-commands-preserved c =
    let at = c.loop-commands.invariant in
    let line = c.first_line.result.0.now in
    let rest = c.in-Some.rest.now in
    let added = adds c.loop-commands.number line c.loop-commands.commands.items c.add_line.new.commands.items c.in_ok-add_line.field-0 at.0 c.in_ok-add_line.ensures in (
      at.0 + 1,
      c.saturating_add-number.ensures ∙ counted_more at.0 c.loop-commands.number at.1,
      subst (λ (cs : List CommandView). Leads (at.0 + 1) rest c.args.text.now cs) (sym added.1)
          (leads_on at.0 c.loop-commands.left.now c.args.text.now line rest (map command_view c.loop-commands.commands.items) added.0 c.first_line.ensures.whole (rw c.in-Some.is at c.first_line.ensures.split) added.2 at.2),
    )
