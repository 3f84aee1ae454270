use Rattle.std.proofs.Common.{◌≡◌, ◌≢◌, true, arith}
use Rattle.lg_gram.specs.Limits.{LINKAGE_POSITIONS}
use Rattle.lg_gram.specs.declared.linkage.Link.{Link}
use Rattle.lg_pp.proofs.Bridging.{others_all, others_within}
use Rattle.lg_pp.proofs.Good.{no_link}
use Rattle.lg_pp.proofs.Kept.{kept_taken, kept_passed}
use Rattle.lg_pp.proofs.rules.cycle.others.Goals as goal
use Rattle.lg_pp.proofs.rules.cycle.others.Goals.{then-differ+in_ok-push, else-differ}

-- one more link, kept where it is another
pub loop-other-preserved : goal.loop-other-preserved
loop-other-preserved c =
    let Q : Link → Type 0 = λ m. m ≢ c.args.link.now in
    let links = c.links-other-items.result.now in
    let i = c.loop-other.other-index in
    elim c.if-differ.branch [
      | then-differ+in_ok-push w ↦ rw (w.links-is, w.in_ok-push.ensures.items) (kept_taken Q links c.loop-other.links.items i no_link c.loop-other-test.true c.loop-other.invariant (c.differ.ensures.0 w.if-differ.true))
      | else-differ w ↦ rw w.links-is (kept_passed Q links c.loop-other.links.items i no_link c.loop-other-test.true c.loop-other.invariant (λ apart. let t : c.differ.result ≡ true = c.differ.ensures.1 apart in let f = w.if-differ.false in cc))
    ]

pub returns-clause-exactly : goal.returns-clause-exactly
returns-clause-exactly c = others_all c.args.g.now c.args.link.now c.loop-other.other-index c.links-other-items.result.now c.loop-other.links.items c.links-other-items.ensures.value (omega arith) c.loop-other.invariant

pub returns-clause-within : goal.returns-clause-within
returns-clause-within c =
    others_within c.args.g.now c.args.link.now LINKAGE_POSITIONS c.loop-other.links.items c.requires c.links-other-items.ensures.limits.few
    (others_all c.args.g.now c.args.link.now c.loop-other.other-index c.links-other-items.result.now c.loop-other.links.items c.links-other-items.ensures.value (omega arith) c.loop-other.invariant)
