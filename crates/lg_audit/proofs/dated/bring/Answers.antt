use Rattle.std.proofs.Common.{drop, take, ◌∙◌, sym, ap}
use Rattle.lg_script.specs.Commands.{script_views}
use Rattle.lg_audit.proofs.Brought.{version_later}
use Rattle.lg_audit.proofs.dated.bring.Goals as goal

pub returns-clause-dated : goal.returns-clause-dated
returns-clause-dated c =
    let g = c.args.basis.now in
    record {
      there = c.requires.there;
      is = c.in_ok-learn_all.ensures ∙ version_later (script_views g.scripts.now) g.base.now c.args.dated.now.view g.journal.now c.args.dated.now.version c.args.version c.requires.later c.requires.dated.is;
    }
