use Rattle.std.proofs.Common.{rules, codes, pos}
use Rattle.lg_check_texts.proofs.Forks.{fork_is_printable}
use Rattle.lg_check_texts.proofs.text.fork.Goals as goal

-- the parts are those of a fork
pub returns : goal.returns
returns g c =
    fork_is_printable (codes "x") (codes "y") (codes "z") c.args.cost (pos 0) (pos 0) c.args.near.0 c.args.far.0 c.args.near.1 c.args.far.1
    _ _ _ _ _ _ c.in_ok-first.ensures c.in_ok-second.ensures c.in_ok-third.ensures c.in_ok-chosen.ensures c.in_ok-links.ensures
    c.in_ok-linkage.ensures.value c.in_ok-linkage.ensures.limits (search rules) (search rules)
