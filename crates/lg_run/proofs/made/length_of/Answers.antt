use Rattle.std.proofs.Common.{◌≤◌, ◌^◌, sym, subst}
use Rattle.lg_run.proofs.MadeText.{short_linkage}
use Rattle.lg_run.proofs.made.length_of.Goals as goal

-- the links are fewer than 2^32, and none is longer than the positions are
pub returns-clause-small : goal.returns-clause-small
returns-clause-small c = subst (λ n. n ≤ 2 ^ 40) (sym c.length.ensures) (short_linkage c.args.linkage.now c.requires c.links.ensures.limits)
